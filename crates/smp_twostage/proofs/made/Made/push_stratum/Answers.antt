use Rattle.std.proofs.Common.{◌≡◌, ℕ, zero, suc, List, [], ◌∷◌, ◌++◌, Option, Some, None, length, refl, ap, sym, ◌∙◌}
use Rattle.std.specs.List.{slice_get}
use Rattle.smp_split.specs.declared.places.Stage.{Stage}
use Rattle.smp_strata.specs.declared.strata.FirstUnit.{FirstUnit}
use Rattle.smp_twostage.specs.Selections.{Selecting, first_stage, stage_within, stages_within}
use Rattle.smp_twostage.proofs.made.Made.push_stratum.Goals as goal

none_here : (at n : ℕ) (u : Option FirstUnit) → stage_within None at n u ≡ []
none_here at n (Some u) = refl
none_here at n None = refl

none_within : (at : ℕ) (units : List FirstUnit) (n : ℕ) → stages_within None at units n ≡ []
none_within at units zero = refl
none_within at units (suc n) = rw (none_within at units n) (none_here at n (slice_get units n))

pub returns-in-None-clause-stages : goal.returns-in-None-clause-stages
returns-in-None-clause-stages c =
    let units = c.args.stratum.now.units in
    let at = length c.args.self.now.stages.items in
    let first = first_stage c.args.plan.now c.args.stratum.now in
    let none = sym c.second.ensures ∙ c.in-None.is in
    c.in_ok-push_first.ensures.stages
    ∙ ap (λ (xs : List (Stage Selecting)). c.args.self.now.stages.items ++ first ∷ xs) (sym (ap (λ m. stages_within m at units (length units)) none ∙ none_within at units (length units)))
