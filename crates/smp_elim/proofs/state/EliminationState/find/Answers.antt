use Rattle.std.proofs.Common.{◌≡◌, ℕ, ◌<◌, Bool, true, List, length, arith, sym, ap, subst, ◌∙◌}
use Rattle.smp_split.specs.Trees.{picked}
use Rattle.smp_elim.specs.{Elimination.{Remaining, eliminate_parts, factor, left_count, may_go, without}, declared.cuts.Cut.{Cut}}
use Rattle.smp_elim.specs.{Kept.States.{IsKept, remaining}, Laws.Weights.{bound_is}}
use Rattle.smp_elim.proofs.{Finding.{IsWeighed, is_weighed, found_may, found_is}, state.EliminationState.find.Goals.{After-find_in_both}}
use Rattle.smp_elim.proofs.state.EliminationState.find.Goals as goal

-- the weights of the step of a state, by what is kept of it
weighed : {sizes order : List ℕ} {wanted : ℕ} {left : List Bool} {count : ℕ} {now next : Cut} {common fresh : List ℕ} (state : Remaining) (f : ℕ) → IsKept sizes order wanted left count now next common fresh → remaining sizes wanted left ≡ state →
    state.wanted < left_count state → f ≡ factor state → IsWeighed (remaining sizes wanted left) count now next common fresh f
weighed state f kept same going is = is_weighed kept (subst (λ (s : Remaining). s.wanted < left_count s) (sym same) going) f (is ∙ ap factor (sym same))

pub overflow_sub-draws : goal.overflow_sub-draws
overflow_sub-draws c = (weighed c.args.self.now c.factor-factor.result c.self.invariant c.self.view_is c.requires.going c.factor-factor.ensures).some

pub overflow_sub-draws-2 : goal.overflow_sub-draws-2
overflow_sub-draws-2 c = (weighed c.args.self.now c.factor-factor.result c.self.invariant c.self.view_is c.requires.going c.factor-factor.ensures).draws

pub overflow_mul-weight : goal.overflow_mul-weight
overflow_mul-weight c =
    let w = weighed c.args.self.now c.factor-factor.result c.self.invariant c.self.view_is c.requires.going c.factor-factor.ensures in
    omega (arith, w.bound, w.narrow)

pub overflow_mul-weight-2 : goal.overflow_mul-weight-2
overflow_mul-weight-2 c =
    let w = weighed c.args.self.now c.factor-factor.result c.self.invariant c.self.view_is c.requires.going c.factor-factor.ensures in
    omega (arith, w.within, w.bound, w.narrow)

pub overflow_sub-weight : goal.overflow_sub-weight
overflow_sub-weight c = (weighed c.args.self.now c.factor-factor.result c.self.invariant c.self.view_is c.requires.going c.factor-factor.ensures).within

pub find_in_both-requires-clause-paired : goal.find_in_both-requires-clause-paired
find_in_both-requires-clause-paired c = c.self.invariant.fresh_length ∙ sym c.self.invariant.common_length

pub find_in_both-requires-clause-narrow : goal.find_in_both-requires-clause-narrow
find_in_both-requires-clause-narrow c =
    let w = weighed c.args.self.now c.factor-factor.result c.self.invariant c.self.view_is c.requires.going c.factor-factor.ensures in
    rw (w.weight_is, w.factor_is) (omega (arith, w.all, w.narrow))

pub find_in_both-requires-clause-within : goal.find_in_both-requires-clause-within
find_in_both-requires-clause-within c =
    let w = weighed c.args.self.now c.factor-factor.result c.self.invariant c.self.view_is c.requires.going c.factor-factor.ensures in
    let going : c.self.inside.wanted < left_count (remaining c.self.inside.sizes.items c.self.inside.wanted c.self.inside.left.items) = rw (← c.self.view_is) at c.requires.going in
    let less = rw (← c.self.view_is) at c.requires.within in
    rw (w.weight_is, w.factor_is)
    (omega (arith, w.all, less, bound_is (length c.self.inside.sizes.items) (remaining c.self.inside.sizes.items c.self.inside.wanted c.self.inside.left.items) c.self.invariant.state going))

pub returns-clause-unit : goal.returns-clause-unit
returns-clause-unit c =
    let unit : c.find_in_both.result < length c.self.inside.sizes.items = omega (arith, c.find_in_both.ensures.place, c.self.invariant.common_length) in
    rw (← c.self.view_is) unit

-- the unit where the search ends
found : (c : After-find_in_both) →
    (may_go (remaining c.self.inside.sizes.items c.self.inside.wanted c.self.inside.left.items) c.find_in_both.result ≡ true)
    × (without (remaining c.self.inside.sizes.items c.self.inside.wanted c.self.inside.left.items) c.find_in_both.result ≡ picked (remaining c.self.inside.sizes.items c.self.inside.wanted c.self.inside.left.items) (eliminate_parts (remaining c.self.inside.sizes.items c.self.inside.wanted c.self.inside.left.items)) c.args.draw)
found c =
    let k = c.self.invariant in
    let s : Remaining = remaining c.self.inside.sizes.items c.self.inside.wanted c.self.inside.left.items in
    let more : s.wanted < left_count s = rw (← c.self.view_is) at c.requires.going in
    let w = weighed c.args.self.now c.factor-factor.result c.self.invariant c.self.view_is c.requires.going c.factor-factor.ensures in
    let unit : c.find_in_both.result < length s.sizes = omega (arith, c.find_in_both.ensures.place, k.common_length) in
    let from = rw (w.weight_is, w.factor_is) at c.find_in_both.ensures.from in
    let passes = rw (w.weight_is, w.factor_is) at c.find_in_both.ensures.passes in (
      found_may s k.state more c.self.inside.common c.self.inside.fresh w.common_is w.fresh_is c.find_in_both.result c.args.draw unit from passes,
      found_is s k.state more c.self.inside.common c.self.inside.fresh w.common_is w.fresh_is c.find_in_both.result c.args.draw unit from passes,
    )

pub returns-clause-may : goal.returns-clause-may
returns-clause-may c = rw (← c.self.view_is) (found (goal.at.returns-clause-may c).After-find_in_both).0

pub returns-clause-is : goal.returns-clause-is
returns-clause-is c = rw (← c.self.view_is) (found (goal.at.returns-clause-is c).After-find_in_both).1
