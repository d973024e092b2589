use Rattle.std.proofs.Common.{◌≡◌, ℕ, List, [], ◌∷◌, take, refl, ap, ◌∙◌}
use Rattle.smp_split.specs.declared.kind.Kind.TheVariants.{Lone}
use Rattle.smp_values.specs.Steps.{kind_on}
use Rattle.smp_stratcube.specs.{Values.{fractional_units}, Kept.Pairs.{units_by}}
use Rattle.smp_stratcube.proofs.pairs.kind.Goals as goal

lone : (order : List ℕ) → Lone ≡ kind_on (take 1 order)
lone [] = refl
lone (i ∷ order) = refl

pub returns-in-None : goal.returns-in-None
returns-in-None c = lone (fractional_units c.args.values.now) ∙ ap (λ p. kind_on (units_by p (fractional_units c.args.values.now))) c.in-None.ensures
