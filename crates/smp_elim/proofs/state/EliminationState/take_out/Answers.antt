use Rattle.std.proofs.Common.{◌≡◌, ◌<◌, true, length, arith, ap, ◌∙◌}
use Rattle.smp_elim.specs.{Elimination.{left_count, may_go}, Kept.States.{remaining}}
use Rattle.smp_elim.proofs.Taking.{IsSettled, after_narrow, cut_within, is_ready, kept_after, none_fresh, units_within}
use Rattle.smp_elim.proofs.state.EliminationState.take_out.Goals as goal
use Rattle.smp_elim.proofs.state.EliminationState.take_out.Goals.{After-as_slice, After-settle}

going : (c : After-as_slice) → c.self.inside.wanted < left_count (remaining c.self.inside.sizes.items c.self.inside.wanted c.self.inside.left.items)
going c = rw (← c.self.view_is) at c.requires.going

settled : (c : After-settle) → IsSettled c.self.inside.order.items c.self.inside.next.count c.self.inside.cut.count c.self.inside.common c.self.inside.fresh c.settle.new.common c.settle.new.fresh
settled c =
    let settle = c.settle.ensures in
    let there : IsSettled c.as_slice.result.now c.self.inside.next.count c.self.inside.cut.count c.self.inside.common c.self.inside.fresh c.settle.new.common c.settle.new.fresh =
    record { common_length = settle.common_length; fresh_length = settle.fresh_length; counted = settle.counted; taken = settle.taken; others = settle.others } in
    rw c.as_slice.ensures.value at there

pub settle-requires-clause-ordered : goal.settle-requires-clause-ordered
settle-requires-clause-ordered c =
    let more = going (goal.at.settle-requires-clause-ordered c).After-as_slice in
    (is_ready c.self.invariant more).fewer

pub settle-requires-clause-end : goal.settle-requires-clause-end
settle-requires-clause-end c =
    let more = going (goal.at.settle-requires-clause-end c).After-as_slice in
    omega (arith, cut_within c.self.invariant more, ap length c.as_slice.ensures.value)

pub settle-requires-clause-within : goal.settle-requires-clause-within
settle-requires-clause-within c =
    let more = going (goal.at.settle-requires-clause-within c).After-as_slice in
    rw c.as_slice.ensures.value (units_within c.self.invariant more)

pub prepare-self-inside-requires-clause-none : goal.prepare-self-inside-requires-clause-none
prepare-self-inside-requires-clause-none c =
    let more = going (goal.at.prepare-self-inside-requires-clause-none c).After-as_slice in
    none_fresh c.self.invariant more (settled (goal.at.prepare-self-inside-requires-clause-none c).After-settle)

pub prepare-self-inside-requires-clause-now : goal.prepare-self-inside-requires-clause-now
prepare-self-inside-requires-clause-now c =
    let more = going (goal.at.prepare-self-inside-requires-clause-now c).After-as_slice in
    rw (c.as_slice-2.ensures.value) (is_ready c.self.invariant more).next_cut

pub prepare-self-inside-requires-clause-narrow : goal.prepare-self-inside-requires-clause-narrow
prepare-self-inside-requires-clause-narrow c =
    let more = going (goal.at.prepare-self-inside-requires-clause-narrow c).After-as_slice in
    let may : may_go (remaining c.self.inside.sizes.items c.self.inside.wanted c.self.inside.left.items) c.args.unit ≡ true = rw (← c.self.view_is) at c.requires.may in
    let unit : c.args.unit < length c.self.inside.sizes.items = rw (← c.self.view_is) at c.requires.unit in
    rw (c.as_slice-2.ensures.value, c.self.invariant.count_is) (λ left. after_narrow (remaining c.self.inside.sizes.items c.self.inside.wanted c.self.inside.left.items) c.self.invariant.state more c.args.unit unit may left)

pub invariant_of-self : goal.invariant_of-self
invariant_of-self c =
    let more = going (goal.at.invariant_of-self c).After-as_slice in
    let may : may_go (remaining c.self.inside.sizes.items c.self.inside.wanted c.self.inside.left.items) c.args.unit ≡ true = rw (← c.self.view_is) at c.requires.may in
    let unit : c.args.unit < length c.self.inside.sizes.items = rw (← c.self.view_is) at c.requires.unit in
    let sizes_are = c.as_slice-2.ensures.value in
    let ready = rw sizes_are at c.prepare-self-inside.ensures.ready in
    rw (c.take_out.ensures) (kept_after c.self.invariant more (settled (goal.at.invariant_of-self c).After-settle) c.args.unit unit may (c.prepare-self-inside.ensures.length ∙ ap length sizes_are) ready)
