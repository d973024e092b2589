-- A unit whose value is 0 or 1 keeps it, whichever order the search goes in.
use Rattle.std.proofs.Common.{◌≡◌, ◌≢◌, ℕ, ◌<◌, Bool, true, false, List, [], ◌∷◌, set, length, get_or, arith, refl, sym, ap, ◌∙◌, subst, inl, inr}
use Rattle.std.proofs.{lemmas.Bool.{false_from_ne_true, true≢false}, lemmas.List.{get_or-set_other}}
use Rattle.smp_frac.specs.Fractions.{Fraction, Same, over}
use Rattle.smp_frac.proofs.Arithmetic.{same_refl, same_trans, plus_same, plus-zero, times-zero}
use Rattle.smp_prob.specs.Shares.{Shares}
use Rattle.smp_split.specs.{Trees.{EachPart}, Laws.Parts.{each_moved}}
use Rattle.smp_values.specs.{Steps.{parts_on, pivotal_parts}, Values.{fractional, fractional_units, is_fractional, value_at}}
use Rattle.smp_moves.specs.Cubes.{flying, pairing, values_in, flight_parts}
use Rattle.smp_flight.specs.{States.{Units, Flight, IsFlight}, Steps.{next_on, chosen}, Laws.ByOrder.{ends_at}}
use Rattle.smp_moves.specs.Moves.{Move, fraction_of, independent, IsOrder, Next, move, wide, chosen_line, chosen_extent}
use Rattle.smp_moves.proofs.Entries.{frame_order, off_line, order_going, place_or}
use Rattle.smp_flight.specs.Selections.{Balancing, IsBalancing, IsWholeOrder, parts_by, shares_cube}

-- the unit k has the value v for good
pub record IsSettledAt (k : ℕ) (v : Fraction) (s : Shares) : Type 0 where
  pub still : is_fractional s k ≡ false
  pub same : Same (value_at s k) v

-- ---- a pivotal step

module _ (s : Shares) (k : ℕ) (v : Fraction) (settled : IsSettledAt k v s) where
  other_place : (i : ℕ) → is_fractional s i ≡ true → k ≢ i
  other_place i h e = true≢false (sym h ∙ subst (λ (x : ℕ). is_fractional s x ≡ false) e settled.still)

  same_settled : (numer : List ℕ) → get_or numer k 0 ≡ get_or s.numer k 0 → IsSettledAt k v (record { numer = numer; den = s.den })
  same_settled numer e = record {
    still = ap (fractional s.den) e ∙ settled.still;
    same = subst (λ (n : ℕ). Same (over n s.den) v) (sym e) settled.same;
  }

  one_settled : (i x : ℕ) → is_fractional s i ≡ true → IsSettledAt k v (record { numer = set s.numer i x; den = s.den })
  one_settled i x h = same_settled (set s.numer i x) (get_or-set_other s.numer i k x 0 (other_place i h))

  two_settled : (i j x y : ℕ) → is_fractional s i ≡ true → is_fractional s j ≡ true → IsSettledAt k v (record { numer = set (set s.numer i x) j y; den = s.den })
  two_settled i j x y h m = same_settled (set (set s.numer i x) j y) (get_or-set_other (set s.numer i x) j k y 0 (other_place j m) ∙ get_or-set_other s.numer i k x 0 (other_place i h))

  parts_settled : (order : List ℕ) → ((j : ℕ) → j < length order → is_fractional s (get_or order j 0) ≡ true) → EachPart (λ p. IsSettledAt k v p.state) (parts_on s order)
  parts_settled [] going = tt
  parts_settled (i ∷ []) going = (one_settled i _ (going 0 (omega arith)), (one_settled i _ (going 0 (omega arith)), tt))
  parts_settled (i ∷ j ∷ order) going =
      let a : is_fractional s i ≡ true = going 0 (omega arith) in
      let b : is_fractional s j ≡ true = going 1 (omega arith) in
      (two_settled i j _ _ a b, (two_settled i j _ _ a b, tt))

-- ---- each step

module _ (units : Units) (order : List ℕ) (k : ℕ) (v : Fraction) where
  module _ (f : Flight) (left : ℕ) (ok : IsFlight units f) (ordered : IsOrder f.values order) (settled : IsSettledAt k v f.values) where
    module _ (m : Move) (is : next_on units order f ≡ move m) (plus_way : Bool) where
      end_same : Same (value_at (chosen units f m plus_way).values k) (value_at f.values k)
      end_same =
          let end = ends_at units f left order ok ordered m is plus_way in
          let t = fraction_of (chosen_extent m plus_way) in
          same_trans (end.moved.values k)
          (elim (place_or (chosen_line m plus_way).units k) [
            | inl h ↦ absurd (true≢false (sym (subst (λ (x : ℕ). is_fractional f.values x ≡ true) h.2 (order_going f.values (chosen_line m plus_way).units end.line_ok.order h.0 h.1)) ∙ settled.still))
            | inr out ↦ rw (off_line f.values (chosen_line m plus_way) end.line_ok k out) (same_trans (plus_same (same_refl (value_at f.values k)) (times-zero t)) (plus-zero (value_at f.values k)))
          ])

      end_settled : IsSettledAt k v (chosen units f m plus_way).values
      end_settled = record {
        still = false_from_ne_true (is_fractional (chosen units f m plus_way).values k) (λ e. true≢false (sym ((ends_at units f left order ok ordered m is plus_way).fewer k e) ∙ settled.still));
        same = same_trans end_same settled.same;
      }

    flight_settled : (a : Next) → next_on units order f ≡ a → EachPart (λ p. IsSettledAt k v (values_in p.state)) (flight_parts (shares_cube units) f left a)
    flight_settled (move m) is = (end_settled m is true, (end_settled m is false, tt))
    flight_settled independent is = (settled, tt)
    flight_settled wide is = (settled, tt)

  pub step_settled : (s : Balancing) → IsBalancing units s → IsWholeOrder (values_in s) order → IsSettledAt k v (values_in s) →
      EachPart (λ p. IsSettledAt k v (values_in p.state)) (parts_by units order s)
  step_settled (flying f left) ok w settled = flight_settled f left ok w.is_order settled (next_on units order f) refl
  step_settled (pairing s left) ok w settled =
      each_moved (λ t. pairing t left) (λ p. IsSettledAt k v p.state) (λ p. IsSettledAt k v (values_in p.state)) (λ p h. h) (pivotal_parts s)
      (parts_settled s k v settled (fractional_units s) (order_going s (fractional_units s) (frame_order s)))
