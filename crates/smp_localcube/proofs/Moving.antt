-- What the code may rest on before a move.
use Rattle.std.proofs.Common.{◌≡◌, ℕ, Bool, true, false, not, nat_eq, ◌&&◌, ◌||◌, ℤ, pos, neg_ℤ, List, [], length, arith, refl, sym, ap, ◌∙◌, subst, inl, inr}
use Rattle.std.specs.{Int.RustNames.{unsigned_abs}, List.{filter}}
use Rattle.std.proofs.{Math.Bool.{and-false, and-true}, lemmas.List.{ext_get_or}, lemmas.List.FromFn.{length-map-range_with_len}}
use Rattle.std.proofs.lemmas.Bool.{both_ways, cases_Bool, eqb-true, ne_eqb, not-false, or_left, or_right}
use Rattle.smp_near.specs.Nearest.{LivingPoints, is_living}
use Rattle.smp_kernel.proofs.Ring.{abs_zero}
use Rattle.smp_prob.specs.Shares.{Shares}
use Rattle.smp_values.specs.Values.{fractional_units, is_fractional}
use Rattle.smp_flight.specs.{States.{Flight, IsFlight, Tracked, Units}, Steps.{chosen, end_at_is, next_on}, Answers.{IsNextWindow}}
use Rattle.smp_moves.specs.Moves.{chosen_line, move, IsOrder, Line, Move, entry_of}
use Rattle.smp_flight.specs.{Laws.Firsts.{contains_in, fractional_in, in_contains}, Laws.WholeOrders.{in_order_going}}
use Rattle.smp_moves.proofs.{Entries.{frame_order}, Evens.{entry_of_turned}, Moved.{same_still, same_tests}}
use Rattle.smp_flight.specs.{Laws.ByOrder.{ends_at}, Laws.Nexts.{flight_over}}
use Rattle.smp_localcube.proofs.Around.{same_points}
use Rattle.smp_localcube.specs.{Kept.States.{AreTouched, IsReady, is_changed, touched_in, weights_of}, Kept.Orders.{is_untouched}}
use Rattle.smp_localcube.specs.{Local.{is_one_of, untouched}, Laws.Orders.{filter_same, untouched_at}}
use Rattle.smp_flight.specs.Landings.{HasRoom}
use Rattle.smp_flight.proofs.Free.{filter_in, in_filter, out_filter}

module _ (f : Tracked) (room : Shares) (points : LivingPoints) (weights : List ℕ) (ready : IsReady f room points weights) where
  living_is : (k : ℕ) → is_living points k ≡ is_untouched f.flight.values (touched_in f) k
  living_is k =
      ap (λ p. is_living p k) (same_points points f.flight.values (touched_in f) ready.living)
      ∙ untouched_at points.coords f.flight.values (touched_in f) k

-- ---- a move

out_of_both : (was is touched changed : Bool) → (changed ≡ false → was ≡ is) → ((was && not touched) && not changed) ≡ (is && not (touched || changed))
out_of_both was is true changed same = rw (and-false was) (sym (and-false is))
out_of_both was is false true same = and-false (was && true) ∙ sym (and-false is)
out_of_both was is false false same = and-true (was && true) ∙ ap (λ (b : Bool). b && true) (same refl)

module _ (units : Units) (before after : Tracked) (left : ℕ) (order : List ℕ) (ok : IsFlight units before.flight) (ordered : IsOrder before.flight.values order) (m : Move) (is : next_on units order before.flight ≡ move m) (plus : Bool)
    (there : after.flight ≡ chosen units before.flight m plus) (next : IsNextWindow before m.direction after) where
  abbrev line : Line
  line = m.direction

  fewer : (k : ℕ) → is_fractional after.flight.values k ≡ true → is_fractional before.flight.values k ≡ true
  fewer k h = (ends_at units before.flight left order ok ordered m is plus).fewer k (subst (λ (t : Flight). is_fractional t.values k ≡ true) there h)

  line_still : (plus : Bool) (k : ℕ) → entry_of line k ≡ pos 0 → entry_of (chosen_line m plus) k ≡ pos 0
  line_still true k zero = zero
  line_still false k zero = entry_of_turned m.direction k ∙ ap neg_ℤ zero

  still : (k : ℕ) → entry_of line k ≡ pos 0 → is_fractional after.flight.values k ≡ is_fractional before.flight.values k
  still k zero =
      ap (λ (t : Flight). is_fractional t.values k) there
      ∙ subst (λ (t : Shares). is_fractional t k ≡ is_fractional before.flight.values k) (sym (end_at_is units before.flight.values (chosen_line m plus)))
      (same_still units.requested.den before.flight.values (flight_over units before.flight ok) (chosen_line m plus) (ends_at units before.flight left order ok ordered m is plus).line_ok k (line_still plus k zero))

  -- ---- the touched units after it

  -- a fractional unit is in the new window where it was touched or is changed
  touched_from : (k : ℕ) → is_fractional after.flight.values k ≡ true → is_one_of after.window k ≡ true → (is_one_of (touched_in before) k || is_changed line k) ≡ true
  touched_from k e h =
      elim ((next.is k).0 (in_contains after.window k h)).1 [
        | inl was ↦ or_left (is_one_of (touched_in before) k) (is_changed line k)
            (in_filter (is_one_of before.window) (fractional_units before.flight.values) k (fractional_in before.flight.values k (fewer k e)) (contains_in before.window k was))
        | inr some ↦ or_right (is_one_of (touched_in before) k) (is_changed line k)
            (rw (ne_eqb (unsigned_abs (entry_of line k)) 0 (λ h. some (abs_zero (entry_of line k) h))) refl)
      ]

  touched_to : (k : ℕ) → is_fractional after.flight.values k ≡ true → (is_one_of (touched_in before) k || is_changed line k) ≡ true → is_one_of after.window k ≡ true
  touched_to k e h =
      contains_in after.window k ((next.is k).1 (
        e,
        elim (cases_Bool (is_one_of (touched_in before) k)) [
          | inl was ↦ inl (in_contains before.window k (out_filter (is_one_of before.window) (fractional_units before.flight.values) k was).1)
          | inr out ↦ inr (λ zero. both_ways (is_changed line k) (ap (λ (x : ℤ). not (nat_eq (unsigned_abs x) 0)) zero) (rw out at h))
        ],
      ))

  pub flown_touched : touched_in after ≡ filter (λ k. is_one_of (touched_in before) k || is_changed line k) (fractional_units after.flight.values)
  flown_touched =
      filter_same (is_one_of after.window) (λ k. is_one_of (touched_in before) k || is_changed line k) (fractional_units after.flight.values)
      (λ k h.
      let e = in_order_going after.flight.values (fractional_units after.flight.values) (frame_order after.flight.values) k h in
      same_tests (is_one_of after.window k) (is_one_of (touched_in before) k || is_changed line k) (touched_from k e) (touched_to k e))

  -- ---- the living points after it

  module _ (room : Shares) (points now : LivingPoints) (weights : List ℕ) (ready : IsReady before room points weights) (t : AreTouched points line (record { units = []; entries = [] }) now) where
    untouched_after : (k : ℕ) → is_untouched after.flight.values (touched_in after) k ≡ (is_fractional after.flight.values k && not (is_one_of (touched_in before) k || is_changed line k))
    untouched_after k =
        elim (cases_Bool (is_fractional after.flight.values k)) [
          | inr e ↦ rw e refl
          | inl e ↦ ap (λ (b : Bool). is_fractional after.flight.values k && not b) (ap (λ (us : List ℕ). is_one_of us k) flown_touched
              ∙ filter_in (λ j. is_one_of (touched_in before) j || is_changed line j) (fractional_units after.flight.values) k
              ∙ ap (λ (b : Bool). b && (is_one_of (touched_in before) k || is_changed line k)) (fractional_in after.flight.values k e))
        ]

    living_after : (k : ℕ) → is_living now k ≡ is_untouched after.flight.values (touched_in after) k
    living_after k =
        sym (and-true (is_living now k)) ∙ t.living k ∙ ap (λ (b : Bool). b && not (is_changed line k)) (living_is before room points weights ready k)
        ∙ out_of_both (is_fractional before.flight.values k) (is_fractional after.flight.values k) (is_one_of (touched_in before) k) (is_changed line k)
        (λ unchanged. sym (still k (abs_zero (entry_of line k) (eqb-true (unsigned_abs (entry_of line k)) 0 (not-false (nat_eq (unsigned_abs (entry_of line k)) 0) unchanged)))))
        ∙ sym (untouched_after k)

    pub flown_ready : length after.flight.values.numer ≡ length before.flight.values.numer → (new : List ℕ) → new ≡ weights_of now.living → IsReady after room now new
    flown_ready same new weighed = record {
      room = subst (λ n. HasRoom n room) (sym same) ready.room;
      placed = ap length t.coords ∙ ready.placed ∙ sym same;
      living =
          ext_get_or false now.living (untouched now.coords after.flight.values (touched_in after)).living
          (omega (arith, t.count, ap length ready.living, length-map-range_with_len (is_untouched before.flight.values (touched_in before)) 0 (length before.flight.values.numer), length-map-range_with_len (is_untouched after.flight.values (touched_in after)) 0 (length after.flight.values.numer), same))
          (λ k _. living_after k ∙ sym (untouched_at now.coords after.flight.values (touched_in after) k));
      weighed = weighed;
    }
