-- What the numbers at the end of a line have in common: the units that aren't touched have no part in it, since their numerators there are multiples of
-- the common denominator over the requested one.
use Rattle.std.proofs.Common.{◌≡◌, ℕ, ◌+◌, ◌<◌, ◌≤◌, true, false, List, pos, length, get_or, arith, sym, ap, ◌∙◌, inl, inr, ◌*◌, ◌/◌, ap₂, map, subst}
use Rattle.std.proofs.{lemmas.Bool.{cases_Bool, both_ways, false_from_ne_true}, Math.Nat.{mul-div_cancel_left, dvd-mul_left}}
use Rattle.smp_moves.specs.{Moves.{Line, entry_of}, declared.reaches.Reach.{Reach}, Ends.{advanced, advanced_numbers, common_factor}}
use Rattle.smp_flight.specs.{Kept.Windows.{AreTouched, is_in, Windowed, shares_in}, declared.ends.End.{End}, Kept.Ends.{IsEndOf}}
use Rattle.smp_flight.specs.Laws.Windowed.{in_at, get_or-numerators_over, in_or, length-numerators_over, over_out}
use Prim.Native.Nat.{◌∣◌}
use Rattle.std.proofs.{lemmas.Nat.Gcd.{dvd_trans, dvd_antisymm}, lemmas.List.{get_or-map, length-map}}
use Rattle.smp_moves.proofs.{LineEnds.{divides_first, divides_each, divides_common}, Places.{length_advanced, advanced_at}}

pub advanced_none : (a : ℕ) (r : Reach) → advanced a r (pos 0) ≡ a * r.size
advanced_none a r = (let e : a * r.size + r.left * 0 ≡ a * r.size = omega arith in e)

-- the first number divides those of the units that are neither in the window nor changed by the line
untouched : (v : Windowed) (line : Line) (r : Reach) (k : ℕ) → k < length v.numer → is_in v.window k ≡ false → entry_of line k ≡ pos 0 →
    v.times * r.size ∣ get_or (advanced_numbers (shares_in v).numer line r) k 0
untouched v line r k l out none =
    let here : get_or (advanced_numbers (shares_in v).numer line r) k 0 ≡ get_or v.numer k 0 * (v.times * r.size) =
    advanced_at (shares_in v).numer line r k (omega (arith, l, length-numerators_over v.numer v.times v.window))
    ∙ ap₂ (λ a e. advanced a r e) (get_or-numerators_over v.numer v.times v.window k ∙ over_out v.numer v.times v.window k out) none
    ∙ advanced_none (get_or v.numer k 0 * v.times) r ∙ (let e : get_or v.numer k 0 * v.times * r.size ≡ get_or v.numer k 0 * (v.times * r.size) = omega arith in e) in
    let P : ℕ → Type 0 = λ x. v.times * r.size ∣ x in
    subst P (sym here) (dvd-mul_left (v.times * r.size) (get_or v.numer k 0))

-- the numbers there of some units
abbrev pub numbers_of : Windowed → Line → Reach → List ℕ → List ℕ
numbers_of v line r us = map (λ k. get_or (advanced_numbers (shares_in v).numer line r) k 0) us

-- what those of the touched units have in common, all of them have
pub common_touched : (v : Windowed) (line : Line) (r : Reach) (us : List ℕ) → AreTouched v.window line us → ((k : ℕ) → is_in us k ≡ true → k < length v.numer) → (times : ℕ) → times ≡ v.times * r.size →
    common_factor times (numbers_of v line r us) ≡ common_factor times (advanced_numbers (shares_in v).numer line r)
common_touched v line r us a within times e =
    let numbers = advanced_numbers (shares_in v).numer line r in
    let count : length (advanced_numbers (shares_in v).numer line r) ≡ length v.numer = length_advanced (shares_in v).numer line r ∙ length-numerators_over v.numer v.times v.window in
    let at : (i : ℕ) → i < length us → get_or (numbers_of v line r us) i 0 ≡ get_or (advanced_numbers (shares_in v).numer line r) (get_or us i 0) 0 = λ i l. get_or-map (λ k. get_or numbers k 0) us i 0 0 l in
    let common : ℕ = common_factor times (numbers_of v line r us) in
    let all : ℕ = common_factor times (advanced_numbers (shares_in v).numer line r) in
    dvd_antisymm
    (divides_common common times numbers (divides_first times (numbers_of v line r us))
    (λ k l. elim (cases_Bool (is_in us k)) [
      | inl t ↦
          (let here = in_or us k t in
          subst (λ (x : ℕ). common_factor times (numbers_of v line r us) ∣ get_or numbers x 0) here.is
          (subst (λ (x : ℕ). common_factor times (numbers_of v line r us) ∣ x) (at here.place here.here)
          (divides_each times (numbers_of v line r us) here.place (omega (arith, here.here, length-map us (λ k. get_or numbers k 0))))))
      | inr f ↦
          (let out : is_in v.window k ≡ false = false_from_ne_true (is_in v.window k) (λ t. both_ways (is_in us k) f (a.has_window k t)) in
          dvd_trans _ (divides_first times (numbers_of v line r us))
          (subst (λ (x : ℕ). x ∣ get_or numbers k 0) (sym e) (untouched v line r k (omega (arith, l, count)) out (a.has_line k f))))
    ]))
    (divides_common all times (numbers_of v line r us) (divides_first times numbers)
    (λ i l.
    (let b : i < length us = omega (arith, l, length-map us (λ k. get_or numbers k 0)) in
    subst (λ (x : ℕ). common_factor times (advanced_numbers (shares_in v).numer line r) ∣ x) (sym (at i b)) (divides_each times numbers (get_or us i 0) (omega (arith, count, within (get_or us i 0) (in_at us i b)))))))

-- what the numbers at the end of a line have in common
pub divides_times : (v : Windowed) (line : Line) (end : End) → 1 ≤ v.requested_den → IsEndOf v.requested_den (shares_in v) line end → end.common ∣ v.times * end.reach.size
divides_times v line end some e =
    let whole : v.requested_den * v.times * end.reach.size ≡ v.requested_den * (v.times * end.reach.size) = omega arith in
    let times : end.full / v.requested_den ≡ v.times * end.reach.size = ap (λ x. x / v.requested_den) (e.is.full_is ∙ whole) ∙ mul-div_cancel_left (v.times * end.reach.size) some in
    rw e.is.common_is (subst (λ (x : ℕ). common_factor (end.full / v.requested_den) (advanced_numbers (shares_in v).numer line end.reach) ∣ x) times
    (divides_first (end.full / v.requested_den) (advanced_numbers (shares_in v).numer line end.reach)))
