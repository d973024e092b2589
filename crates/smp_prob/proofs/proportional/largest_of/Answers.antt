use Rattle.std.proofs.{Common.{arith, inl, inr}, lemmas.Bool.{cases_eq}}
use Rattle.smp_prob.proofs.proportional.largest_of.Goals as goal

pub loop-size-preserved : goal.loop-size-preserved
loop-size-preserved c =
    let k = c.loop-size.size-index in
    record {
      most = λ i l. elim (cases_eq i k) [
        | inl e ↦ rw e (omega (arith, c.max-largest.ensures))
        | inr d ↦ (let before = c.loop-size.invariant.most i (omega (arith, l, d)) in omega (arith, before, c.max-largest.ensures))
      ];
      small = omega (arith, c.max-largest.ensures, c.loop-size.invariant.small, c.requires k c.loop-size-test.true);
    }

pub returns-clause-most : goal.returns-clause-most
returns-clause-most c = λ i l. c.loop-size.invariant.most i (omega (arith, l, c.loop-size-test.false))
