-- The search for the first two fractional units: what it finds, the step on them, and what a step leaves of it.
use Rattle.std.proofs.Common.{◌≡◌, ℕ, ◌+◌, ◌-◌, ◌^◌, ◌<◌, ◌≤◌, ◌≢◌, Bool, true, false, nat_eq, nat_lt, [], ◌∷◌, length, get_or, set, drop, arith, refl, sym, ap, ◌∙◌, subst, inl, inr, get_or-drop, length-drop}
use Rattle.std.specs.List.{position_or_len}
use Rattle.std.proofs.lemmas.Bool.{cases_Bool, cases_eq, cases_lt, eq-eqb, ne_eqb, eqb-false, lt-ltb, le-ltb}
use Rattle.std.proofs.{lemmas.List.{get_or-set_other}, lemmas.List.Sums.{position_or_len_is, fails_before_first, passes_at_first}}
use Rattle.smp_prob.specs.Shares.{Shares}
use Rattle.smp_split.specs.Trees.{Part, picked}
use Rattle.smp_values.specs.Values.{IsValues, exchanged_values, fractional, is_fractional, fractional_count, fractional_units, is_settled, with_one, with_pair}
use Rattle.smp_values.specs.Steps.{pivotal_parts, pivotal_kind}
use Rattle.smp_values.specs.Kept.Places.{IsPlaced, IsGoing, OnlyBefore, fractional_from, first_of, second_of, parts_at, kind_at}
use Rattle.smp_values.proofs.{Fractional.{fractional_is}, Designs.{exchanged_within}}
use Rattle.smp_values.proofs.Units.{units_from, units_from-here, units_from-skip, units_from-end, units_from-start, fractional_units_length, some_fractional}

-- no unit before the one that is found is fractional, and that one is
pub before_from : (s : Shares) (place k : ℕ) → place ≤ k → k < fractional_from s place → fractional s.den (get_or s.numer k 0) ≡ false
before_from s place k l h =
    let sum : place + (k - place) ≡ k = omega arith in
    let found : fractional s.den (get_or (drop place s.numer) (k - place) 0) ≡ false = fails_before_first (fractional s.den) (drop place s.numer) (k - place) 0 (omega arith) in
    rw (get_or-drop place s.numer (k - place) 0, sum) at found

pub at_from : (s : Shares) (place : ℕ) → fractional_from s place < length s.numer → fractional s.den (get_or s.numer (fractional_from s place) 0) ≡ true
at_from s place h =
    let p : ℕ → Bool = fractional s.den in
    let at : ℕ = place + position_or_len p (drop place s.numer) in
    let is : fractional_from s place ≡ place + position_or_len p (drop place s.numer) = omega arith in
    let found : p (get_or (drop place s.numer) (position_or_len p (drop place s.numer)) 0) ≡ true = passes_at_first p (drop place s.numer) 0 (simp length-drop (omega arith)) in
    rw is (rw (get_or-drop place s.numer (position_or_len p (drop place s.numer)) 0) at found)

-- the first fractional unit from a place on, by what makes it the first
pub from_is : (s : Shares) (place at : ℕ) → place ≤ at → at ≤ length s.numer → ((k : ℕ) → place ≤ k → k < at → fractional s.den (get_or s.numer k 0) ≡ false) → (at < length s.numer → fractional s.den (get_or s.numer at 0) ≡ true) → fractional_from s place ≡ at
from_is s place at l m before here =
    let p : ℕ → Bool = fractional s.den in
    let sum : place + (at - place) ≡ at = omega arith in
    let found : position_or_len p (drop place s.numer) ≡ at - place =
    position_or_len_is p (drop place s.numer) (at - place) 0 (simp length-drop (omega arith))
    (λ k h. rw (get_or-drop place s.numer k 0) (before (place + k) (omega arith) (omega arith)))
    (λ h. rw (get_or-drop place s.numer (at - place) 0, sum) (here (let h' : at - place < length s.numer - place = rw (length-drop place s.numer) at h in omega arith))) in
    omega arith

-- where no unit from a place up to another is fractional, the first fractional unit from the one on is that from the other on
pub from_skip : (s : Shares) (place next : ℕ) → place ≤ next → next ≤ length s.numer → ((k : ℕ) → place ≤ k → k < next → fractional s.den (get_or s.numer k 0) ≡ false) → fractional_from s place ≡ fractional_from s next
from_skip s place next l m none =
    from_is s place (fractional_from s next) (omega arith) (omega arith)
    (λ k p h. elim (cases_lt k next) [ inl before ↦ none k p before | inr after ↦ before_from s next k after h ])
    (λ h. at_from s next h)

-- ---- the first two of the fractional units

-- those from a place on begin with the one that is found there
found_from : (s : Shares) (place at : ℕ) → place ≤ length s.numer → fractional_from s place ≡ at → at < length s.numer → units_from s place ≡ at ∷ units_from s (at + 1)
found_from s place at within is here =
    let passes : is_fractional s at ≡ true = subst (λ (k : ℕ). is_fractional s k ≡ true) is (at_from s place (omega (arith, is))) in
    let sum : place + (at - place) ≡ at = omega (arith, is) in
    units_from-skip s (at - place) place (omega arith) (λ k after before. before_from s place k after (omega (arith, is)))
    ∙ ap (units_from s) sum ∙ units_from-here s at here passes

none_from : (s : Shares) (place : ℕ) → place ≤ length s.numer → fractional_from s place ≡ length s.numer → units_from s place ≡ []
none_from s place within is =
    let sum : place + (length s.numer - place) ≡ length s.numer = omega arith in
    units_from-skip s (length s.numer - place) place (omega arith) (λ k after before. before_from s place k after (omega (arith, is)))
    ∙ ap (units_from s) sum ∙ units_from-end s

module _ (s : Shares) (first second : ℕ) (first_is : first ≡ first_of s) (second_is : second ≡ second_of s) where
  no_units : first ≡ length s.numer → fractional_units s ≡ []
  no_units end = sym (units_from-start s) ∙ none_from s 0 (omega arith) (sym first_is ∙ end)

  one_unit : first < length s.numer → second ≡ length s.numer → fractional_units s ≡ first ∷ []
  one_unit here end =
      sym (units_from-start s) ∙ found_from s 0 first (omega arith) (sym first_is) here
      ∙ ap (λ others. first ∷ others) (none_from s (first + 1) (omega arith) (ap (λ at. fractional_from s (at + 1)) first_is ∙ sym second_is ∙ end))

  two_units : first < length s.numer → second < length s.numer → fractional_units s ≡ first ∷ second ∷ units_from s (second + 1)
  two_units here there =
      sym (units_from-start s) ∙ found_from s 0 first (omega arith) (sym first_is) here
      ∙ ap (λ others. first ∷ others) (found_from s (first + 1) second (omega arith) (ap (λ at. fractional_from s (at + 1)) first_is ∙ sym second_is) there)

  -- where there is no second one, there is one at most
  pub lone_count : first < length s.numer → second ≡ length s.numer → fractional_count s ≤ 1
  lone_count here end = omega (arith, fractional_units_length s, ap length (one_unit here end))

  -- no unit is fractional exactly where the first one isn't a unit
  pub settled_is : is_settled s ≡ nat_eq first (length s.numer)
  settled_is =
      elim (cases_eq first (length s.numer)) [
        | inl end ↦ (let none : fractional_count s ≡ 0 = sym (fractional_units_length s) ∙ ap length (no_units end) in eq-eqb (fractional_count s) 0 none ∙ sym (eq-eqb first (length s.numer) end))
        | inr ne ↦
            (let here : first < length s.numer = omega (arith, first_is) in
            let some : 1 ≤ fractional_count s = some_fractional s first (subst (λ (k : ℕ). is_fractional s k ≡ true) (sym first_is) (at_from s 0 (omega (arith, first_is)))) in
            let not_none : fractional_count s ≢ 0 = omega arith in
            ne_eqb (fractional_count s) 0 not_none ∙ sym (ne_eqb first (length s.numer) ne))
      ]

  pub kind_is : pivotal_kind s ≡ kind_at s second
  kind_is =
      elim (cases_lt second (length s.numer)) [
        | inl there ↦ rw (two_units (omega (arith, first_is, second_is)) there, lt-ltb second (length s.numer) there) refl
        | inr past ↦ elim (cases_lt first (length s.numer)) [
          | inl here ↦ rw (one_unit here (omega (arith, second_is)), le-ltb second (length s.numer) past) refl
          | inr none ↦ rw (no_units (omega (arith, first_is)), le-ltb second (length s.numer) past) refl
        ]
      ]

  pub parts_are : first < length s.numer → pivotal_parts s ≡ parts_at s first second
  parts_are here =
      elim (cases_lt second (length s.numer)) [
        | inl there ↦ rw (two_units here there, lt-ltb second (length s.numer) there) refl
        | inr past ↦ rw (one_unit here (omega (arith, second_is)), le-ltb second (length s.numer) past) refl
      ]

-- ---- the two places of a state

pub going : (s : Shares) (first second : ℕ) → IsPlaced s first second → first < length s.numer → IsGoing s first second
going s first second placed first_in =
    let is : first ≡ first_of s = placed.first_is in
    let second_is : second ≡ second_of s = placed.second_is in
    record {
      first_is = is;
      second_is = second_is;
      narrow = placed.values.narrow;
      ordered = omega arith;
      second_in = omega arith;
      first_passes = rw is (fractional_is s.den _ (at_from s 0 (rw is at first_in)));
      second_passes = λ l. rw second_is (fractional_is s.den _ (at_from s (first_of s + 1) (rw second_is at l)));
    }

pub going_on : (s : Shares) (first second : ℕ) → IsPlaced s first second → is_settled s ≡ false → IsGoing s first second
going_on s first second placed goes_on =
    let open_at : nat_eq first (length s.numer) ≡ false = sym (settled_is s first second placed.first_is placed.second_is) ∙ goes_on in
    let some : first ≢ length s.numer = eqb-false first (length s.numer) open_at in
    going s first second placed (omega (arith, placed.first_is))

-- the next step is on these two, or on the first alone
pub parts_found : (s : Shares) (first second : ℕ) → IsGoing s first second → pivotal_parts s ≡ parts_at s first second
parts_found s first second at = parts_are s first second at.first_is at.second_is (omega (arith, at.ordered, at.second_in))

-- values after an exchange are in range
pub exchanged_in_range : (s t : Shares) (i j : ℕ) → t ≡ exchanged_values i j s → IsValues (length s.numer) (2 ^ 80) s → i < length s.numer → j < length s.numer → IsValues (length t.numer) (2 ^ 80) t
exchanged_in_range s t i j is ok hi hj =
    let moved : IsValues (length s.numer) (2 ^ 80) (exchanged_values i j s) = exchanged_within (length s.numer) (2 ^ 80) s ok i j hi hj in
    rw is (record { count = refl; positive = moved.positive; narrow = moved.narrow; each = moved.each })

-- ---- the search after a step, which goes on at the second place

module _ (s : Shares) (first second : ℕ) (ordered : first < second) (second_in : second ≤ length s.numer) (only : OnlyBefore s first second) where
  pub first_stays : fractional s.den (get_or s.numer first 0) ≡ true → first_of s ≡ first
  first_stays here = from_is s 0 first (omega arith) (omega arith) (λ k _ h. only k (omega arith) (omega arith)) (λ _. here)

  pub second_follows : fractional s.den (get_or s.numer first 0) ≡ true → second_of s ≡ fractional_from s second
  second_follows here =
      ap (λ at. fractional_from s (at + 1)) (first_stays here) ∙ from_skip s (first + 1) second (omega arith) second_in (λ k after h. only k h (omega arith))

  pub first_follows : fractional s.den (get_or s.numer first 0) ≡ false → first_of s ≡ fractional_from s second
  first_follows gone =
      from_skip s 0 second (omega arith) second_in
      (λ k _ h. elim (cases_eq k first) [ inl e ↦ rw e gone | inr other ↦ only k h other ])

-- ---- a step changes two units at most

-- t is s but for these two units
record DiffersAt (s : Shares) (first second : ℕ) (t : Shares) : Type 0 where
  pub den_is : t.den ≡ s.den
  pub others : (unit : ℕ) → unit ≢ first → unit ≢ second → get_or t.numer unit 0 ≡ get_or s.numer unit 0

picked_of_two : (Q : Shares → Type 0) (s : Shares) (p q : Part Shares) (draw : ℕ) → Q p.state → Q q.state → Q s → Q (picked s (p ∷ q ∷ []) draw)
picked_of_two Q s p q draw of_p of_q of_s =
    elim (cases_Bool (nat_lt draw p.weight)) [
      | inl e ↦ rw e of_p
      | inr e ↦ elim (cases_Bool (nat_lt (draw - p.weight) q.weight)) [ inl f ↦ rw (e, f) of_q | inr f ↦ rw (e, f) of_s ]
    ]

pair_differs : (s : Shares) (i j : ℕ) (new : ℕ × ℕ) → DiffersAt s i j (with_pair s i j new)
pair_differs s i j new = record {
  den_is = refl;
  others = λ k ni nj. get_or-set_other (set s.numer i new.0) j k new.1 0 nj ∙ get_or-set_other s.numer i k new.0 0 ni;
}

lone_differs : (s : Shares) (i j new : ℕ) → DiffersAt s i j (with_one s i new)
lone_differs s i j new = record { den_is = refl; others = λ k ni nj. get_or-set_other s.numer i k new 0 ni }

-- the step on the first two, or on the first alone, changes these alone
picked_differs : (s : Shares) (first second draw : ℕ) → DiffersAt s first second (picked s (parts_at s first second) draw)
picked_differs s first second draw =
    let Q : Shares → Type 0 = DiffersAt s first second in
    let unchanged : Q s = record { den_is = refl; others = λ _ _ _. refl } in
    elim (cases_Bool (nat_lt second (length s.numer))) [
      | inl e ↦ rw e (picked_of_two Q s _ _ draw (pair_differs s first second _) (pair_differs s first second _) unchanged)
      | inr e ↦ rw e (picked_of_two Q s _ _ draw (lone_differs s first second _) (lone_differs s first second _) unchanged)
    ]

-- after a step at most the first of the units before the second place is still fractional
pub only_after : (s : Shares) (first second draw : ℕ) → IsGoing s first second → (t : Shares) → t ≡ picked s (parts_at s first second) draw → OnlyBefore t first second
only_after s first second draw at t is unit before other =
    let i : first ≡ first_of s = at.first_is in
    let j : second ≡ second_of s = at.second_is in
    let after : DiffersAt s first second t = subst (DiffersAt s first second) (sym is) (picked_differs s first second draw) in
    let was : fractional s.den (get_or s.numer unit 0) ≡ false =
    elim (cases_lt unit first) [ inl l ↦ before_from s 0 unit (omega arith) (omega (arith, i)) | inr l ↦ before_from s (first_of s + 1) unit (omega (arith, i)) (omega (arith, j)) ] in
    rw (after.den_is, after.others unit other (omega arith)) was
