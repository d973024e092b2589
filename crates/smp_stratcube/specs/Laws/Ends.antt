-- The end of a line: each value is so far along it, lies from 0 to 1, and fewer of them are fractional.
use Rattle.std.proofs.Common.{◌≡◌, ◌≢◌, ℕ, ◌+◌, ◌*◌, ◌/◌, ◌<◌, ◌≤◌, ◌^◌, true, false, pos, List}
use Rattle.std.proofs.Common.{length, get_or, arith, refl, sym, ap, ◌∙◌, subst, inl, inr}
use Rattle.std.specs.List.{range_with_len}
use Rattle.std.specs.Int.RustNames.{unsigned_abs}
use Rattle.std.proofs.lemmas.Bool.{cases_lt, ne_eqb}
use Rattle.std.proofs.lemmas.List.{get_or_past}
use Rattle.std.proofs.lemmas.List.FromFn.{get_or-map-range_with_len, length-map-range_with_len, length-range_with_len}
use Rattle.std.proofs.lemmas.List.FromFn.{get_or-range_with_len}
use Prim.Native.Nat.{◌∣◌}
use Rattle.smp_frac.specs.Fractions.{Fraction, Same, integer, over, plus, times}
use Rattle.smp_frac.proofs.Arithmetic.{same_refl, same_sym, same_trans, plus_same, plus-zero, times-zero}
use Rattle.smp_kernel.specs.Vectors.{entry}
use Rattle.smp_kernel.proofs.Ring.{abs_zero, zero_or}
use Rattle.smp_prob.specs.Shares.{Shares}
use Rattle.smp_values.specs.Values.{fractional}
use Rattle.smp_moves.specs.declared.reaches.Reach.{Reach}
use Rattle.smp_moves.specs.Moves.{Line, IsLine, along, entry_of, fraction_of}
use Rattle.smp_moves.specs.Ends.{advanced, extent, lowest, reach}
use Rattle.smp_moves.specs.Kept.Ends.{IsOver}
use Rattle.smp_moves.proofs.Entries.{order_going, on_line, off_line, place_or}
use Rattle.smp_moves.proofs.LineEnds.{advanced_along, advanced_settled, advanced_within, first_unit, full_positive, reached}
use Rattle.smp_moves.proofs.Moved.{count_falls}
use Rattle.smp_stratcube.specs.declared.values.Value.{Value}
use Rattle.smp_stratcube.specs.Values.{AreValues, IsValue, fractional_count, is_fractional, nothing, over_common, value, value_at}
use Rattle.smp_stratcube.specs.Kept.Computed.{moved_value, values_along}
use Rattle.smp_stratcube.specs.Moves.{IsMovedTo}
use Rattle.smp_stratcube.specs.Laws.Taken.{lowest_fractional, lowest_same, lowest_value, numer_over, is_over, over_value, over_fractional}
use Rattle.smp_stratcube.specs.Laws.Units.{fractional_in}

-- ---- unit by unit

module _ (values : List Value) (line : Line) (den : ℕ) (r : Reach) where
  pub length_along : length (values_along values line den r) ≡ length values
  length_along = length-map-range_with_len (λ k. moved_value (value values k) den r (entry_of line k)) 0 (length values)

  pub along_at : (k : ℕ) → k < length values
      → value (values_along values line den r) k ≡ moved_value (value values k) den r (entry_of line k)
  along_at k l =
      get_or-map-range_with_len (λ i. moved_value (value values i) den r (entry_of line i)) 0 (length values) k k nothing l
      (omega arith)

  -- a unit that the line doesn't move
  pub along_still : (k : ℕ) → entry_of line k ≡ pos 0 → value (values_along values line den r) k ≡ value values k
  along_still k none =
      elim (cases_lt k (length values)) [
        | inl l ↦ along_at k l ∙ (rw none refl)
        | inr past ↦
            get_or_past (values_along values line den r) k nothing (omega (arith, past, length_along))
            ∙ sym (get_or_past values k nothing past)
      ]

-- fewer units are fractional where one was and isn't, and each that is was so
pub fewer_open : (old new : List Value) → length new ≡ length old → (u : ℕ) → is_fractional old u ≡ true
    → is_fractional new u ≡ false
    → ((k : ℕ) → is_fractional new k ≡ true → is_fractional old k ≡ true)
    → fractional_count new < fractional_count old
fewer_open old new same u was is fewer =
    let xs : List ℕ = range_with_len 0 (length old) in
    let l : u < length old = fractional_in old u was in
    let at : get_or xs u 0 ≡ u = get_or-range_with_len 0 (length old) u 0 l ∙ (let z : 0 + u ≡ u = omega arith in z) in
    rw same
    (count_falls (is_fractional old) (is_fractional new) xs xs u refl (λ k m. fewer (get_or xs k 0))
    (omega (arith, l, length-range_with_len 0 (length old))) (rw at was) (rw at is))

-- ---- over a common denominator

module _ (n : ℕ) (values : List Value) (are : AreValues n values) (den : ℕ) (some : 1 ≤ den) (narrow : den ≤ 2 ^ 80)
    (line : Line) (ok : IsLine (over_common den values) line)
    (divides : (j : ℕ) → j < length line.units → (value values (get_or line.units j 0)).at.den ∣ den) where
  abbrev s : Shares
  s = over_common den values

  abbrev full : ℕ
  full = den * (reach (over_common den values) line).size

  abbrev after : List Value
  after = values_along values line den (reach (over_common den values) line)

  line_over : IsOver 1 s
  line_over = is_over n values are den some narrow

  -- a unit at which the line isn't 0
  on_unit : (k : ℕ) → entry_of line k ≢ pos 0 → ((value values k).at.den ∣ den) × (is_fractional values k ≡ true)
  on_unit k ne =
      elim (place_or line.units k) [
        | inr out ↦ absurd (ne (off_line s line ok k out))
        | inl h ↦ subst (λ (x : ℕ). ((value values x).at.den ∣ den) × (is_fractional values x ≡ true)) h.2 (
          divides h.0 h.1,
          sym (over_fractional n values are den some (get_or line.units h.0 0) (divides h.0 h.1))
              ∙ order_going s line.units ok.order h.0 h.1,
        )
      ]

  -- its numerator there
  abbrev number : ℕ → ℕ
  number k =
      advanced ((value values k).at.num * (den / (value values k).at.den)) (reach (over_common den values) line) (entry_of line k)

  abbrev along_values : ℕ → Fraction
  along_values k = plus (value_at values k) (times (fraction_of (extent s line)) (integer (entry_of line k)))

  moved_is : (k : ℕ) → entry_of line k ≢ pos 0 → value after k ≡ record { at = lowest (number k) full; touched = true }
  moved_is k ne =
      along_at values line den (reach s line) k (fractional_in values k (on_unit k ne).1)
      ∙ (rw (ne_eqb (unsigned_abs (entry_of line k)) 0 (λ z. ne (abs_zero (entry_of line k) z))) refl)

  number_is : (k : ℕ) (P : ℕ → Type 0) → P (advanced (get_or s.numer k 0) (reach s line) (entry_of line k)) → P (number k)
  number_is k P = subst (λ (a : ℕ). P (advanced a (reach s line) (entry_of line k))) (numer_over n values are den some k)

  full_some : 1 ≤ full
  full_some = full_positive 1 s line_over line ok

  -- each value is from 0 to 1, and so far along the line; and what is fractional was so before
  at_end : (k : ℕ) → IsValue (value after k) × Same (value_at after k) (along_values k)
      × (is_fractional after k ≡ true → is_fractional values k ≡ true)
  at_end k =
      let t : Fraction = fraction_of (extent s line) in
      let IsThere : Value → Type 0 = λ v.
      IsValue v × Same (fraction_of v.at) (along_values k)
      × (fractional v.at.den v.at.num ≡ true → is_fractional values k ≡ true) in
      elim (zero_or (entry_of line k)) [
        | inl none ↦ subst IsThere (sym (along_still values line den (reach s line) k none)) (
          are.each k,
          rw none (same_sym (same_trans (plus_same (same_refl (value_at values k)) (times-zero t)) (plus-zero (value_at values k)))),
          λ h. h,
        )
        | inr ne ↦ subst IsThere (sym (moved_is k ne)) (
          lowest_value (number k) full true full_some (number_is k (λ x. x ≤ full) (advanced_within 1 s line_over line ok k)),
          same_trans (lowest_same (number k) full full_some)
              (same_trans (number_is k (λ x. Same (over x full) (along s line t k)) (advanced_along 1 s line_over line ok k))
              (plus_same (over_value n values are den some k (on_unit k ne).0) (same_refl (times t (integer (entry_of line k)))))),
          λ h. (on_unit k ne).1,
        )
      ]

  pub after_moved : IsMovedTo values line (extent s line) after
  after_moved = record {
    are = record { count = length_along values line den (reach s line); each = λ k. (at_end k).0 };
    at = λ k. (at_end k).1;
    moved = λ k inside ne. ap (λ (v : Value). v.touched) (moved_is k ne);
    kept = along_still values line den (reach s line);
  }

  pub after_fractional : (k : ℕ) → is_fractional after k ≡ true → is_fractional values k ≡ true
  after_fractional k = (at_end k).2

  -- a unit that is settled there
  abbrev unit : ℕ
  unit = first_unit 1 s line_over line ok

  unit_moves : entry_of line unit ≢ pos 0
  unit_moves z =
      let r = reached 1 s line_over line ok in
      let none : entry line.entries r.place ≡ pos 0 = sym (on_line s line ok r.place r.within) ∙ z in
      let zero_size : (reach s line).size ≡ 0 = ap (λ (x : Reach). x.size) r.is ∙ (rw none refl) in
      omega (arith, zero_size, r.some_size)

  pub after_falls : fractional_count after < fractional_count values
  after_falls =
      fewer_open values after (length_along values line den (reach s line)) unit (on_unit unit unit_moves).1
      (ap (λ (v : Value). fractional v.at.den v.at.num) (moved_is unit unit_moves) ∙ lowest_fractional (number unit) full full_some
      ∙ number_is unit (λ x. fractional full x ≡ false) (advanced_settled 1 s line_over line ok)) after_fractional
