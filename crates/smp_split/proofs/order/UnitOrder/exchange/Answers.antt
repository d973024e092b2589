use Rattle.std.proofs.Common.{◌≡◌, ◌+◌, ◌-◌, ◌<◌, ◌≤◌, Bool, true, false, List, ℕ, length, map, get_or, arith, sym, ap, ◌∙◌, inl, inr, rules}
use Rattle.std.proofs.{lemmas.Bool.{cases_Bool}, lemmas.Grind.{get_or_default_zero}}
use Rattle.smp_split.specs.Orders.{IsMirrored, Placing, exchange}
use Rattle.smp_split.proofs.Mirrors.{exchanged_places, mirrored_after}
use Rattle.smp_split.proofs.order.UnitOrder.exchange.Goals as goal

-- steps are left, so the unit at each place is kept
kept : (c : goal.After-self-3-1) → IsMirrored c.self.inside.places.items c.self.inside.units.items c.self.inside.left
kept c = (c.self.invariant).1 (rw (← c.self.view_is) at c.requires.going)

-- and the order is no frame's
listed : (c : goal.After-self-3-1) → c.self.inside.in_frame ≡ false
listed c =
    let going : 1 ≤ c.self.inside.left = rw (← c.self.view_is) at c.requires.going in
    elim (cases_Bool c.self.inside.in_frame) [
      | inl e ↦ absurd (omega (arith, going, (c.self.invariant).0 e))
      | inr e ↦ e
    ]

place_in : (c : goal.After-self-3-1) → c.len.result - 1 - c.self.inside.left < length c.self.inside.places.items
place_in c = let going : 1 ≤ c.self.inside.left = rw (← c.self.view_is) at c.requires.going in omega (arith, (kept c).fewer)

other_in : (c : goal.After-self-3-1) → c.len.result - 1 - c.self.inside.left + c.args.draw < length c.self.inside.places.items
other_in c =
    let going : 1 ≤ c.self.inside.left = rw (← c.self.view_is) at c.requires.going in
    let within : c.args.draw < c.self.inside.left + 1 = rw (← c.self.view_is) at c.requires.within in
    omega (arith, (kept c).fewer)

read_at : (xs : List ℕ) (at n x : ℕ) → length xs ≡ n → at < n → x ≡ get_or xs at x → x ≡ get_or xs at 0
read_at xs at n x same h read = read ∙ get_or_default_zero xs at x (omega arith)

unit_is : (c : goal.After-self-3-1) → c.index-unit.result.now ≡ get_or c.self.inside.units.items (c.len.result - 1 - c.self.inside.left) 0
unit_is c = read_at c.self.inside.units.items (c.len.result - 1 - c.self.inside.left) (length c.self.inside.places.items) c.index-unit.result.now (kept c).same (place_in c) (search rules)

other_is : (c : goal.After-self-3-1) → c.index-other_unit.result.now ≡ get_or c.self.inside.units.items (c.len.result - 1 - c.self.inside.left + c.args.draw) 0
other_is c = read_at c.self.inside.units.items (c.len.result - 1 - c.self.inside.left + c.args.draw) (length c.self.inside.places.items) c.index-other_unit.result.now (kept c).same (other_in c) (search rules)

pub invariant_of-self : goal.invariant_of-self
invariant_of-self c = (
  λ in_frame. absurd (let both : ◌≡◌ {A = Bool} false true = sym (listed c) ∙ in_frame in cc),
  λ _. rw c.swap.ensures.items (mirrored_after c.self.inside.places.items c.self.inside.units.items c.self.inside.left _ _ _ _ (kept c) (place_in c) (other_in c) (unit_is c) (other_is c)),
)

pub returns-clause-order : goal.returns-clause-order
returns-clause-order c =
    let count : c.len.result ≡ length c.self.inside.places.items = search rules in
    let moved = exchanged_places c.self.inside.places.items c.self.inside.units.items c.self.inside.left _ _ _ _ (kept c) (place_in c) (other_in c) (unit_is c) (other_is c) in
    let order : List ℕ → Placing = λ places. record { places = places; left = c.self.inside.left - 1 } in
    rw (← c.self.view_is, listed c) (ap order (moved ∙ ap (λ n. map (exchange (n - 1 - c.self.inside.left) (n - 1 - c.self.inside.left + c.args.draw)) c.self.inside.places.items) count))
