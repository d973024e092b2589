use Rattle.std.proofs.Common.{◌≡◌, ◌≤◌, ℕ, ◌*◌, ◌/◌, arith, sym, subst, ap, ◌∙◌}
use Rattle.smp_frac.specs.{Divisors.{IsLeastMultiple}, Laws.Coprime.{divisor_positive, IsLeastMultiple-from_gcd, least_at_most}}
use Rattle.smp_frac.proofs.divisors.lcm_within.Goals as goal

pub quotient-requires : goal.quotient-requires
quotient-requires c = divisor_positive _ _ _ c.requires.second c.gcd.ensures.divides

pub returns-in_err-multiple-clause-passes : goal.returns-in_err-multiple-clause-passes
returns-in_err-multiple-clause-passes c =
    rw c.from_residual.ensures (λ m common.
    let is = IsLeastMultiple-from_gcd c.args.a c.args.b c.gcd.result c.requires.first c.requires.second c.gcd.ensures.divides in
    let le : c.args.a / c.gcd.result * c.args.b ≤ m = least_at_most _ _ _ m is common in
    omega (arith, c.in_err-multiple.ensures, ap (λ q. q * c.args.b) c.quotient.ensures, c.ranges.cap.fits))

pub returns-then-multiple-cap-clause-least : goal.returns-then-multiple-cap-clause-least
returns-then-multiple-cap-clause-least c =
    let is = IsLeastMultiple-from_gcd c.args.a c.args.b c.gcd.result c.requires.first c.requires.second c.gcd.ensures.divides in
    subst (λ (m : ℕ). IsLeastMultiple c.args.a c.args.b m) (sym (c.in_ok-multiple.ensures.1 ∙ ap (λ q. q * c.args.b) c.quotient.ensures)) is

pub returns-else-multiple-cap-clause-passes : goal.returns-else-multiple-cap-clause-passes
returns-else-multiple-cap-clause-passes c m common =
    let is = IsLeastMultiple-from_gcd c.args.a c.args.b c.gcd.result c.requires.first c.requires.second c.gcd.ensures.divides in
    let le : c.args.a / c.gcd.result * c.args.b ≤ m = least_at_most _ _ _ m is common in
    let e : c.in_ok-multiple.multiple ≡ c.args.a / c.gcd.result * c.args.b = c.in_ok-multiple.ensures.1 ∙ ap (λ q. q * c.args.b) c.quotient.ensures in
    omega (arith, c.if-multiple-cap.false)
