use Rattle.std.proofs.{Common.{◌≡◌, ℕ, arith, inl, inr}, lemmas.Bool.{cases_lt}, lemmas.List.Sums.{sum_by-drop_more}}
use Rattle.smp_prob.proofs.proportional.least_cut.Goals as goal

pub loop-cut-preserved : goal.loop-cut-preserved
loop-cut-preserved c =
    let next = sum_by-drop_more (λ (x : ℕ). x) c.args.falling.now c.loop-cut.cut 0 (omega arith) in
    record {
      left = omega (arith, c.loop-cut.invariant.left, next);
      full = λ d below. elim (cases_lt d c.loop-cut.cut) [
        | inl before ↦ c.loop-cut.invariant.full d before
        | inr from ↦
            (let here : d ≡ c.loop-cut.cut = omega (arith, below, from) in
            rw (here, ← c.loop-cut.invariant.left) c.if-n-cut.false)
      ];
    }
