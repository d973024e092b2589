use Rattle.std.proofs.Common.{◌<◌, arith, sym, ap, ◌∙◌}
use Rattle.smp_elim.specs.{Elimination.{Remaining, left_count, factor}, Kept.States.{remaining}}
use Rattle.smp_elim.proofs.Finding.{is_weighed}
use Rattle.smp_elim.proofs.state.EliminationState.bound.Goals as goal

pub overflow_mul-result : goal.overflow_mul-result
overflow_mul-result c =
    let s : Remaining = remaining c.self.inside.sizes.items c.self.inside.wanted c.self.inside.left.items in
    let going : s.wanted < left_count s = rw (← c.self.view_is) at c.requires in
    let w = is_weighed c.self.invariant going c.factor.result (c.factor.ensures ∙ ap factor (sym c.self.view_is)) in
    omega (arith, w.bound, w.narrow)

pub returns : goal.returns
returns c =
    let s : Remaining = remaining c.self.inside.sizes.items c.self.inside.wanted c.self.inside.left.items in
    let going : s.wanted < left_count s = rw (← c.self.view_is) at c.requires in
    let w = is_weighed c.self.invariant going c.factor.result (c.factor.ensures ∙ ap factor (sym c.self.view_is)) in
    rw (← c.self.view_is) w.bound
