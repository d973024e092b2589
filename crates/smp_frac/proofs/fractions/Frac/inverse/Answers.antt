use Rattle.std.proofs.{Common.{arith, refl}, lemmas.Nat.Gcd.{IsGcd-swap}}
use Rattle.smp_frac.proofs.Over.{over_from_cross}
use Rattle.smp_frac.specs.Laws.Lowest.{lowest_from_coprime, coprime_from_lowest}
use Rattle.smp_frac.proofs.fractions.Frac.inverse.Goals as goal

pub invariant_of-result : goal.invariant_of-result
invariant_of-result c =
    let f = c.args.self in
    record { positive = omega arith; lowest = lowest_from_coprime _ _ (IsGcd-swap _ _ _ (coprime_from_lowest f.num f.den f.lowest)) }

pub returns-clause-value : goal.returns-clause-value
returns-clause-value c = over_from_cross _ _ _ _ _ (omega arith) refl
