use Rattle.std.proofs.{Common.{ℕ, subst}, lemmas.Nat.Gcd.{IsGcd-from_zero, IsGcd-from_mod}}
use Rattle.std.specs.Int.{IsGcd}
use Rattle.smp_frac.specs.Laws.Gcds.{greatest_from_IsGcd}
use Rattle.smp_frac.proofs.divisors.gcd.Goals as goal

pub loop-y-preserved : goal.loop-y-preserved
loop-y-preserved c g h = c.loop-y.invariant g (IsGcd-from_mod _ _ g h)

pub returns-then-y-eq0 : goal.returns-then-y-eq0
returns-then-y-eq0 c =
    let found = c.loop-y.invariant _ (IsGcd-from_zero _ _ c.if-y-eq0.true) in
    record { divides = found; greatest = greatest_from_IsGcd _ _ _ found }

pub returns : goal.returns
returns c =
    let found = c.loop-y.invariant _ (IsGcd-from_mod _ _ _ (subst (λ (rest : ℕ). IsGcd c.loop-y.y rest c.small_gcd.result) c.remainder.ensures c.small_gcd.ensures)) in
    record { divides = found; greatest = greatest_from_IsGcd _ _ _ found }
