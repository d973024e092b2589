use Rattle.std.proofs.{Common.{arith, rules, ◌≡◌, ℕ, length, subst, ap, ◌∙◌, get_or, pos, SFits, to_z-of_z}, Math.Nat.{one-dvd}}
use mir.Syntax.{w128}
use lib.IntN.{nat_abs}
use Rattle.smp_frac.specs.Divisors.{IsContentOfFirst}
use Rattle.smp_frac.proofs.Contents.{content_more}
use Rattle.smp_frac.proofs.divisors.content.Goals as goal

pub loop-entry-preserved : goal.loop-entry-preserved
loop-entry-preserved c =
    let f : SFits w128 (get_or c.args.row.now c.loop-entry.entry-index (pos 0)) = search rules in
    content_more c.args.row.now c.loop-entry.entry-index c.loop-entry.divisor c.unsigned_abs.result c.gcd-divisor.result
    (c.unsigned_abs.ensures.value ∙ ap nat_abs (to_z-of_z f)) c.loop-entry.invariant c.gcd-divisor.ensures.divides

pub returns-then-divisor-eq1 : goal.returns-then-divisor-eq1
returns-then-divisor-eq1 c =
    let first : IsContentOfFirst c.loop-entry.entry-index c.args.row.now 1 = subst (λ (d : ℕ). IsContentOfFirst c.loop-entry.entry-index c.args.row.now d) c.if-divisor-eq1.true c.loop-entry.invariant in
    ((λ i l. one-dvd _), (λ d h. first.1 d (λ i l. h i (omega arith))))

pub returns : goal.returns
returns c =
    let e : c.loop-entry.entry-index ≡ length c.args.row.now = omega arith in
    subst (λ (n : ℕ). IsContentOfFirst n c.args.row.now c.loop-entry.divisor) e c.loop-entry.invariant
