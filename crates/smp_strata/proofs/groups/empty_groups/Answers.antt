use Rattle.std.proofs.{Common.{ℕ, List, [], arith, sym}, lemmas.List.FromFn.{map-range_with_len_more}}
use Rattle.smp_strata.proofs.groups.empty_groups.Goals as goal

pub loop-number-preserved : goal.loop-number-preserved
loop-number-preserved c =
    let none : ℕ → List ℕ = λ (number : ℕ). [] in
    rw (c.in_ok-push.ensures.items, c.loop-number.invariant, c.new.ensures) (sym (map-range_with_len_more none 0 c.loop-number.number c.loop-number.number (omega arith)))
