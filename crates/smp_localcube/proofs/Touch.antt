-- The units that a line changes are taken out of the living points.
use Rattle.std.proofs.Common.{◌≡◌, ◌≢◌, ℕ, ◌+◌, ◌<◌, ◌≤◌, Bool, true, false, not, nat_eq, ◌&&◌, ◌⊎◌, cond, if◌then◌else◌, ℤ, pos, List, [], length, map, drop, get_or, arith, refl, sym, ap, ◌∙◌, subst, inl, inr, length-take, length-set, get_or-take}
use Rattle.std.specs.{List.{AllPairs, range_with_len, sum}, Int.RustNames.{unsigned_abs}}
use Rattle.std.proofs.{lemmas.List.Sums.{sum-map}, Math.Bool.{and-false, and-true}, Math.ListN.{get_or-map}}
use Rattle.std.proofs.lemmas.Bool.{cases_Bool, cases_eq, eq-eqb, ne_eqb}
use Rattle.std.proofs.lemmas.List.{drop_more, get_or-drop, get_or-set_other, get_or-set_same, get_or_default, length-drop}
use Rattle.smp_kernel.{specs.Vectors.{entry}, proofs.Ring.{abs_zero}}
use Rattle.smp_near.specs.Nearest.{LivingPoints, is_living, removed}
use Rattle.smp_prob.{specs.Shares.{Shares}, proofs.Sizes.{sum_by-same}}
use Rattle.smp_split.proofs.Counts.{count_by-indices, sum_by-map}
use Rattle.smp_values.specs.Values.{fractional, fractional_count, is_fractional}
use Rattle.smp_moves.specs.{Moves.{IsLine, entry_of}, Answers.{IsPadded, line_of}}
use Rattle.smp_moves.proofs.Entries.{entry_at_none, order_going}
use Rattle.smp_moves.specs.declared.lines.Line.{Line as LineOfPlaces}
use Rattle.smp_values.proofs.Units.{fractional_within}
use Rattle.smp_localcube.specs.Kept.States.{AreTouched, is_changed, line_from, weights_of}
use Rattle.smp_localcube.specs.{Kept.Orders.{is_untouched}, Local.{untouched}}

-- a unit is living exactly where its weight isn't 0
pub weight_is : (living : List Bool) (unit : ℕ) → get_or (weights_of living) unit 0 ≡ (if get_or living unit false then 1 else 0)
weight_is living unit = get_or-map (λ alive. if alive then 1 else 0) living unit false

pub weight_in : (living : List Bool) (unit : ℕ) → get_or (weights_of living) unit 0 ≢ 0 → get_or living unit false ≡ true
weight_in living unit some =
    elim (cases_Bool (get_or living unit false)) [ inl e ↦ e | inr e ↦ absurd (some (weight_is living unit ∙ ap (λ alive. if alive then 1 else 0) e)) ]

pub weight_out : (living : List Bool) (unit : ℕ) → get_or (weights_of living) unit 0 ≡ 0 → get_or living unit false ≡ false
weight_out living unit none =
    elim (cases_Bool (get_or living unit false)) [
      | inr e ↦ e
      | inl e ↦ absurd (let one : get_or (weights_of living) unit 0 ≡ 1 = weight_is living unit ∙ ap (λ alive. if alive then 1 else 0) e in omega (arith, one, none))
    ]

-- ---- a choice

abbrev weight_of : Bool → ℕ
weight_of alive = if alive then 1 else 0

-- where no unit is touched, the weights add up to the number of the fractional units
pub untouched_total : (coords : List (List ℤ)) (s : Shares) → sum (weights_of (untouched coords s []).living) ≡ fractional_count s
untouched_total coords s =
    sum-map weight_of (map (is_untouched s []) (range_with_len 0 (length s.numer)))
    ∙ sum_by-map weight_of (is_untouched s []) (range_with_len 0 (length s.numer))
    ∙ sum_by-same (λ k. weight_of (is_untouched s [] k)) (λ k. cond (is_fractional s k) 1 0) (range_with_len 0 (length s.numer)) (λ j. elim (cases_Bool (is_fractional s (get_or (range_with_len 0 (length s.numer)) j 0))) [ inl e ↦ rw e refl | inr e ↦ rw e refl ])
    ∙ count_by-indices (fractional s.den) s.numer 0 (length s.numer) refl

-- ---- one place of a line

-- the units of a line are fractional ones
pub line_within : (s : Shares) (line : LineOfPlaces) → IsLine s (line_of line) → IsPadded line → (place : ℕ) → place < line.number → get_or line.units place 0 < length s.numer
line_within s line ok padded place here =
    fractional_within s (get_or line.units place 0)
    (subst (λ (k : ℕ). is_fractional s k ≡ true) (get_or-take line.number line.units place 0 here)
    (order_going s (line_of line).units ok.order place (omega (arith, length-take line.number line.units, padded.places, here))))

module _ (line : LineOfPlaces) (padded : IsPadded line) (long : line.number ≤ length line.entries) (distinct : AllPairs (λ k l. k ≢ l) (line_of line).units) (place : ℕ) (here : place < line.number) where
  abbrev unit : ℕ
  unit = get_or line.units place 0

  unit_is : get_or (line_of line).units place 0 ≡ unit
  unit_is = get_or-take line.number line.units place 0 here

  rest_at : (k : ℕ) → entry_of (line_from (line_of line) place) k ≡ cond (nat_eq unit k) (entry line.entries place) (entry_of (line_from (line_of line) (place + 1)) k)
  rest_at k =
      rw (
        drop_more (line_of line).units place 0 (omega (arith, length-take line.number line.units, padded.places, here)),
        drop_more (line_of line).entries place (pos 0) (omega (arith, length-take line.number line.entries, long, here)),
        unit_is,
        get_or-take line.number line.entries place (pos 0) here,
      ) refl

  here_is : entry_of (line_from (line_of line) place) unit ≡ entry line.entries place
  here_is = rest_at unit ∙ rw (eq-eqb unit unit refl) refl

  -- the unit comes once
  past : entry_of (line_from (line_of line) (place + 1)) unit ≡ pos 0
  past =
      entry_at_none (drop (place + 1) (line_of line).units) (drop (place + 1) (line_of line).entries) unit
      (λ c.
      let later : place + 1 + c.0 < length (line_of line).units = omega (arith, c.1, length-drop (place + 1) (line_of line).units) in
      distinct place (place + 1 + c.0) 0 (omega arith) later
      (unit_is ∙ sym c.2 ∙ get_or-drop (place + 1) (line_of line).units c.0 unit ∙ get_or_default (line_of line).units (place + 1 + c.0) unit 0 later))

  module _ {before now : LivingPoints} (t : AreTouched before (line_of line) (line_from (line_of line) place) now) where
    -- what holds at the unit is all that is new
    one_more : (next : LivingPoints) → next.coords ≡ now.coords → length next.living ≡ length now.living → ((k : ℕ) → unit ≢ k → is_living next k ≡ is_living now k) →
        (is_living next unit ≡ (is_living now unit && not (not (nat_eq (unsigned_abs (entry line.entries place)) 0)))) → AreTouched before (line_of line) (line_from (line_of line) (place + 1)) next
    one_more next coords count others at = record {
      coords = coords ∙ t.coords;
      count = count ∙ t.count;
      living = λ k. elim (cases_eq unit k) [
        | inl e ↦ subst (λ (x : ℕ). (is_living next x && not (is_changed (line_from (line_of line) (place + 1)) x)) ≡ (is_living before x && not (is_changed (line_of line) x))) e
            (ap (λ (z : ℤ). is_living next unit && not (not (nat_eq (unsigned_abs z) 0))) past ∙ and-true (is_living next unit) ∙ at
            ∙ ap (λ (z : ℤ). is_living now unit && not (not (nat_eq (unsigned_abs z) 0))) (sym here_is) ∙ t.living unit)
        | inr ne ↦
            (let later : entry_of (line_from (line_of line) place) k ≡ entry_of (line_from (line_of line) (place + 1)) k = rest_at k ∙ rw (ne_eqb unit k ne) refl in
            ap (λ (b : Bool). b && not (is_changed (line_from (line_of line) (place + 1)) k)) (others k ne)
            ∙ ap (λ (z : ℤ). is_living now k && not (not (nat_eq (unsigned_abs z) 0))) (sym later) ∙ t.living k)
      ];
    }

    -- a unit that isn't changed, or that is out
    pub still : (entry line.entries place ≡ pos 0) ⊎ (is_living now unit ≡ false) → AreTouched before (line_of line) (line_from (line_of line) (place + 1)) now
    still (inl zero) = one_more now refl refl (λ k ne. refl) (rw zero (sym (and-true (is_living now unit))))
    still (inr out) = one_more now refl refl (λ k ne. refl) (rw out refl)

    pub taken_out : entry line.entries place ≢ pos 0 → unit < length now.living → AreTouched before (line_of line) (line_from (line_of line) (place + 1)) (removed now unit)
    taken_out some inside =
        one_more (removed now unit) refl (length-set now.living unit false) (λ k ne. get_or-set_other now.living unit k false false (λ e. ne (sym e)))
        (get_or-set_same now.living unit false false inside
        ∙ sym (ap (λ (c : Bool). is_living now unit && not (not c)) (ne_eqb (unsigned_abs (entry line.entries place)) 0 (λ h. some (abs_zero (entry line.entries place) h)))
        ∙ and-false (is_living now unit)))
