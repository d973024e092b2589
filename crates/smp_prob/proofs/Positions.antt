-- Where the units of a request stand, and how many of them a draw selects.
use Rattle.std.proofs.Common.{◌≡◌, ◌≢◌, ℕ, zero, suc, ◌+◌, ◌-◌, ◌*◌, ◌<◌, ◌≤◌, Bool, true, false, cond, not, nat_lt, nat_eq, List, [], ◌∷◌, length, get_or, take, Some, None, arith, refl, sym, ap, ◌∙◌, inl, inr, add-one, true≢false}
use Rattle.std.specs.{Prelude.{count_by, filter, position}, List.{position_or_len, range_with_len}}
use Rattle.std.proofs.{Math.Seq.{take-length}, lemmas.List.{get_or_past}, lemmas.List.Elements.{All-get_or, filter_passes}}
use Rattle.std.proofs.lemmas.Bool.{cases_Bool, cases_lt, and_parts, and_right, and_cases, lt-ltb, le-ltb, eq-eqb, ne_eqb}
use Rattle.std.proofs.lemmas.List.Sums.{length-filter, sum_by-cons, position_or_len_is, count_by_more_yes, count_by_more_no}
use Rattle.smp_frac.specs.Fractions.{Same, whole}
use Rattle.smp_frac.proofs.{Arithmetic.{same_refl}, Over.{over_same}}
use Rattle.smp_prob.specs.{declared.requests.Request.{Request}, declared.inclusions.Inclusion.TheVariants.{Certain, Free, Never}}
use Rattle.smp_prob.specs.{Requested.{is_certain, is_free, certain_units, places, requested_of, requested_fraction}, Kept.Cuts.{IsFeasible}}
use Rattle.smp_prob.specs.{Inclusions.{Rises, AreApart, IsRising, inclusion, is_taken, count_taken, asked_fraction}, Requests.{IsRequest}}
use Rattle.smp_prob.proofs.{RequestedUnits.{in_proportion}, Picks.{length-places, size_at_place}}

-- ---- positions in a list that rises

pub position-found : (xs : List ℕ) (i x : ℕ) → Rises xs → i < length xs → get_or xs i 0 ≡ x → position (nat_eq x) xs ≡ Some i
position-found xs i x up within here =
    let at : position_or_len (nat_eq x) xs ≡ i =
    position_or_len_is (nat_eq x) xs i 0 (omega arith)
    (λ k before. ne_eqb x (get_or xs k 0) (λ e. omega (arith, up k i before within, e)))
    (λ l. eq-eqb x (get_or xs i 0) (sym here)) in
    let found : nat_lt i (length xs) ≡ true = lt-ltb i (length xs) within in
    rw (at, found) refl

pub position-none : (xs : List ℕ) (x : ℕ) → ((k : ℕ) → k < length xs → get_or xs k 0 ≢ x) → position (nat_eq x) xs ≡ None
position-none xs x none =
    let at : position_or_len (nat_eq x) xs ≡ length xs =
    position_or_len_is (nat_eq x) xs (length xs) 0 (omega arith) (λ k before. ne_eqb x (get_or xs k 0) (λ e. none k before (sym e))) (λ l. absurd (omega (arith, l))) in
    let past : nat_lt (length xs) (length xs) ≡ false = le-ltb (length xs) (length xs) (omega arith) in
    rw (at, past) refl

-- each place further on has a number that is greater by one or more
pub rises_by : (xs : List ℕ) → Rises xs → (i k : ℕ) → i + k < length xs → get_or xs i 0 + k ≤ get_or xs (i + k) 0
rises_by xs up i zero within = (let same : i + 0 ≡ i = omega arith in rw same (omega arith))
rises_by xs up i (suc k) within =
    let before = rises_by xs up i k (omega (arith, within)) in
    let step = up (i + k) (i + suc k) (omega arith) within in
    omega (arith, before, step)

-- where a unit stands in a list that rises to its last one
pub near_place : (xs : List ℕ) → Rises xs → (last : ℕ) → length xs ≡ suc last → (place : ℕ) → place < length xs → (get_or xs place 0 - (get_or xs last 0 - last) ≤ place) × (place ≤ get_or xs place 0)
near_place xs up last is place within =
    let from = rises_by xs up 0 place (omega (arith, within)) in
    let to = rises_by xs up place (last - place) (omega (arith, is, within)) in
    let end : place + (last - place) ≡ last = omega (arith, is, within) in
    let start : 0 + place ≡ place = omega arith in
    (omega (arith, rw end at to), omega (arith, rw start at from))

-- ---- the places that a test picks

all_after : (test : ℕ → Bool) (place : ℕ) (zs : List ℕ) (i : ℕ) → i < length (places test place zs) → place ≤ get_or (places test place zs) i 0
all_after test place [] i l = absurd (omega (arith, l))
all_after test place (z ∷ zs) zero l =
    elim (cases_Bool (test z)) [
      | inl e ↦ rw e (omega arith)
      | inr e ↦ rw e (let rest = all_after test (place + 1) zs zero (rw e at l) in omega (arith, rest))
    ]
all_after test place (z ∷ zs) (suc i) l =
    elim (cases_Bool (test z)) [
      | inl e ↦ rw e (let rest = all_after test (place + 1) zs i (let m = rw e at l in omega (arith, m)) in omega (arith, rest))
      | inr e ↦ rw e (let rest = all_after test (place + 1) zs (suc i) (rw e at l) in omega (arith, rest))
    ]

pub places_rise : (test : ℕ → Bool) (place : ℕ) (zs : List ℕ) → Rises (places test place zs)
places_rise test place [] i j before l = absurd (omega (arith, l))
places_rise test place (z ∷ zs) i zero before l = absurd (omega arith)
places_rise test place (z ∷ zs) zero (suc j) before l =
    elim (cases_Bool (test z)) [
      | inl e ↦ rw e (let rest = all_after test (place + 1) zs j (let m = rw e at l in omega (arith, m)) in omega (arith, rest))
      | inr e ↦ rw e (places_rise test (place + 1) zs zero (suc j) before (rw e at l))
    ]
places_rise test place (z ∷ zs) (suc i) (suc j) before l =
    elim (cases_Bool (test z)) [
      | inl e ↦ rw e (places_rise test (place + 1) zs i j (omega arith) (let m = rw e at l in omega (arith, m)))
      | inr e ↦ rw e (places_rise test (place + 1) zs (suc i) (suc j) before (rw e at l))
    ]

-- a size that passes is the next one picked after those that pass before it
pub record IsPicked (test : ℕ → Bool) (place : ℕ) (zs : List ℕ) (k : ℕ) : Type 0 where
  pub within : count_by test (take k zs) < length (places test place zs)
  pub at : get_or (places test place zs) (count_by test (take k zs)) 0 ≡ place + k

pub picked : (test : ℕ → Bool) (place : ℕ) (zs : List ℕ) (k : ℕ) → k < length zs → test (get_or zs k 0) ≡ true → IsPicked test place zs k
picked test place [] k l h = absurd (omega (arith, l))
picked test place (z ∷ zs) zero l h = record { within = rw h (omega arith); at = rw h (omega arith) }
picked test place (z ∷ zs) (suc k) l h =
    let rest : IsPicked test (place + 1) zs k = picked test (place + 1) zs k (omega (arith, l)) h in
    let within : count_by test (take k zs) < length (places test (place + 1) zs) = rest.within in
    let at : get_or (places test (place + 1) zs) (count_by test (take k zs)) 0 ≡ place + 1 + k = rest.at in
    elim (cases_Bool (test z)) [
      | inl e ↦
          (let more : count_by test (z ∷ take k zs) ≡ suc (count_by test (take k zs)) = rw (sum_by-cons (λ (x : ℕ). cond (test x) 1 0) z (take k zs), e) (omega arith) in
          record { within = rw (more, e) (omega arith); at = rw (more, e) (omega arith) })
      | inr e ↦
          (let same : count_by test (z ∷ take k zs) ≡ count_by test (take k zs) = rw (sum_by-cons (λ (x : ℕ). cond (test x) 1 0) z (take k zs), e) (omega arith) in
          record { within = rw (same, e) within; at = rw (same, e) (omega arith) })
    ]

module _ (test : ℕ → Bool) (zs : List ℕ) (k : ℕ) (here : k < length zs) where
  pub position-picked : test (get_or zs k 0) ≡ true → position (nat_eq k) (places test 0 zs) ≡ Some (count_by test (take k zs))
  position-picked passes =
      let is = picked test 0 zs k here passes in
      position-found (places test 0 zs) (count_by test (take k zs)) k (places_rise test 0 zs) is.within (is.at ∙ omega arith)

  pub position-left : test (get_or zs k 0) ≡ false → position (nat_eq k) (places test 0 zs) ≡ None
  position-left fails =
      position-none (places test 0 zs) k
      (λ i l e. (let size : get_or (filter test zs) i 0 ≡ get_or zs (get_or (places test 0 zs) i 0) 0 = size_at_place test (λ j. get_or zs j 0) 0 zs (λ j. ap (λ (m : ℕ). get_or zs m 0) (omega arith)) i l in
      let within : i < length (filter test zs) = omega (arith, l, length-places test 0 zs, length-filter test zs) in
      let holds : test (get_or (filter test zs) i 0) ≡ true = All-get_or (λ z. test z ≡ true) (filter test zs) i 0 within (filter_passes test zs) in
      let same : get_or (filter test zs) i 0 ≡ get_or zs k 0 = size ∙ ap (λ (m : ℕ). get_or zs m 0) e in
      let now : test (get_or zs k 0) ≡ true = ap test (sym same) ∙ holds in
      true≢false (sym now ∙ fails)))

-- ---- the units of a request that tests pick

-- how many of the numbers below n pass a test
abbrev count_below : ℕ → (ℕ → Bool) → ℕ
count_below zero test = 0
count_below (suc n) test = count_below n test + cond (test n) 1 0

count_by-range : (test : ℕ → Bool) (from n : ℕ) → count_below from test + count_by test (range_with_len from n) ≡ count_below (from + n) test
count_by-range test from zero = (let none : from ≡ from + 0 = omega arith in omega (arith, ap (λ m. count_below m test) none))
count_by-range test from (suc n) =
    let rest = count_by-range test (from + 1) n in
    let one : count_below (from + 1) test ≡ count_below from test + cond (test from) 1 0 = (let next : from + 1 ≡ suc from = omega arith in ap (λ m. count_below m test) next) in
    let all : count_below (from + 1 + n) test ≡ count_below (from + suc n) test = (let same : from + 1 + n ≡ from + suc n = omega arith in ap (λ m. count_below m test) same) in
    omega (arith, rest, one, all, sum_by-cons (λ (x : ℕ). cond (test x) 1 0) from (range_with_len (from + 1) n))

count_range : (test : ℕ → Bool) (n : ℕ) → count_by test (range_with_len 0 n) ≡ count_below n test
count_range test n = let all = count_by-range test 0 n in let none : 0 + n ≡ n = omega arith in omega (arith, all, ap (λ m. count_below m test) none)

-- the certain units and the free ones are those that two tests pick
pub record IsPickedBy (p q : ℕ → Bool) (zs : List ℕ) (request : Request) : Type 0 where
  pub certain : request.certain ≡ places p 0 zs
  pub free : request.free ≡ places q 0 zs
  pub apart : (z : ℕ) → p z ≡ true → q z ≡ false

module _ (p q : ℕ → Bool) (zs : List ℕ) (request : Request) (is : IsPickedBy p q zs request) where
  module _ (k : ℕ) (here : k < length zs) where
    pub stands_certain : p (get_or zs k 0) ≡ true → inclusion request k ≡ Certain
    stands_certain certain = rw (is.certain, position-picked p zs k here certain) refl

    pub stands_free : p (get_or zs k 0) ≡ false → q (get_or zs k 0) ≡ true → inclusion request k ≡ Free (count_by q (take k zs))
    stands_free open_ free = rw (is.certain, is.free, position-left p zs k here open_, position-picked q zs k here free) refl

    pub stands_never : p (get_or zs k 0) ≡ false → q (get_or zs k 0) ≡ false → inclusion request k ≡ Never
    stands_never open_ none = rw (is.certain, is.free, position-left p zs k here open_, position-left q zs k here none) refl

  -- a free unit stands as such
  pub are_apart : q 0 ≡ false → AreApart request
  are_apart none u l =
      let there : u < length (places q 0 zs) = rw is.free at l in
      let k : ℕ = get_or (places q 0 zs) u 0 in
      let size : get_or (filter q zs) u 0 ≡ get_or zs k 0 = size_at_place q (λ j. get_or zs j 0) 0 zs (λ j. ap (λ (m : ℕ). get_or zs m 0) (omega arith)) u there in
      let within : u < length (filter q zs) = omega (arith, there, length-places q 0 zs, length-filter q zs) in
      let passes : q (get_or zs k 0) ≡ true = ap q (sym size) ∙ All-get_or (λ z. q z ≡ true) (filter q zs) u 0 within (filter_passes q zs) in
      let here : k < length zs = elim (cases_lt k (length zs)) [
        | inl before ↦ before
        | inr past ↦ absurd (true≢false (sym passes ∙ ap q (get_or_past zs k 0 past) ∙ none))
      ] in
      let open_ : p (get_or zs k 0) ≡ false = elim (cases_Bool (p (get_or zs k 0))) [
        | inl certain ↦ absurd (true≢false (sym passes ∙ is.apart (get_or zs k 0) certain))
        | inr not_certain ↦ not_certain
      ] in
      rw (is.certain, is.free, position-left p zs k here open_, position-found (places q 0 zs) u k (places_rise q 0 zs) there refl) refl

  -- the units that are selected are the certain ones, and those of the free ones that are drawn
  count-taken : (drawn : ℕ → Bool) (k : ℕ) → k ≤ length zs → count_below k (λ unit. is_taken drawn (inclusion request unit)) ≡ count_by p (take k zs) + count_below (count_by q (take k zs)) drawn
  count-taken drawn zero le = refl
  count-taken drawn (suc k) le =
      let here : k < length zs = omega (arith, le) in
      let before = count-taken drawn k (omega arith) in
      elim (cases_Bool (p (get_or zs k 0))) [
        | inl certain ↦
            (let more = rw add-one at (count_by_more_yes p zs k 0 here certain) in
            let same = rw add-one at (count_by_more_no q zs k 0 here (is.apart (get_or zs k 0) certain)) in
            rw (stands_certain k here certain, more, same) (omega (arith, before)))
        | inr open_ ↦
            (let same = rw add-one at (count_by_more_no p zs k 0 here open_) in
            elim (cases_Bool (q (get_or zs k 0))) [
              | inl free ↦
                  (let more : count_by q (take (suc k) zs) ≡ suc (count_by q (take k zs)) = (rw add-one at (count_by_more_yes q zs k 0 here free)) ∙ omega arith in
                  rw (stands_free k here open_ free, same, more) (omega (arith, before)))
              | inr none ↦
                  (let same' = rw add-one at (count_by_more_no q zs k 0 here none) in
                  rw (stands_never k here open_ none, same, same') (omega (arith, before)))
            ])
      ]

  pub count-selected : (drawn : ℕ → Bool) → count_taken request drawn (length zs) ≡ count_by p zs + count_by drawn (range_with_len 0 (length request.free))
  count-selected drawn =
      let all = count-taken drawn (length zs) (omega arith) in
      let each : take (length zs) zs ≡ zs = take-length zs in
      let total : count_below (length zs) (λ unit. is_taken drawn (inclusion request unit)) ≡ count_by p zs + count_below (count_by q zs) drawn =
      all ∙ ap (λ (ys : List ℕ). count_by p ys + count_below (count_by q ys) drawn) each in
      let free : count_by q zs ≡ length request.free = rw is.free (sym (length-places q 0 zs)) in
      count_range (λ unit. is_taken drawn (inclusion request unit)) (length zs) ∙ total
      ∙ ap (λ (m : ℕ). count_by p zs + count_below m drawn) free
      ∙ ap (λ (m : ℕ). count_by p zs + m) (sym (count_range drawn (length request.free)))

-- ---- the units of a request in proportion to size

pub is_ordered : (n : ℕ) (sizes : List ℕ) → IsRising (requested_of sizes n)
is_ordered n sizes = record { certain = places_rise (is_certain n sizes) 0 sizes; free = places_rise (is_free n sizes) 0 sizes }

module _ (n : ℕ) (sizes : List ℕ) where
  -- a unit that is certain isn't free
  picked_by : IsPickedBy (is_certain n sizes) (is_free n sizes) sizes (requested_of sizes n)
  picked_by = record { certain = refl; free = refl; apart = λ z certain. rw certain (and_right (nat_lt 0 z) false refl) }

  pub apart_requested : AreApart (requested_of sizes n)
  apart_requested = are_apart (is_certain n sizes) (is_free n sizes) sizes (requested_of sizes n) picked_by refl

  module _ (k : ℕ) (here : k < length sizes) where
    -- and one that is neither has no size
    no_size : is_certain n sizes (get_or sizes k 0) ≡ false → is_free n sizes (get_or sizes k 0) ≡ false → nat_lt 0 (get_or sizes k 0) ≡ false
    no_size open_ none = elim (and_cases (nat_lt 0 (get_or sizes k 0)) (not (is_certain n sizes (get_or sizes k 0))) none) [
      | inl e ↦ e
      | inr e ↦ absurd (true≢false (ap not (sym open_) ∙ e))
    ]

    -- the probability is the one that is requested of the size
    pub asked_is : IsRequest (requested_of sizes n) → IsFeasible n sizes → Same (asked_fraction (requested_of sizes n) k) (requested_fraction n sizes (get_or sizes k 0))
    asked_is is feasible =
        elim (cases_Bool (is_certain n sizes (get_or sizes k 0))) [
          | inl certain ↦ rw (stands_certain (is_certain n sizes) (is_free n sizes) sizes (requested_of sizes n) picked_by k here certain, certain) (same_refl (whole 1))
          | inr open_ ↦ elim (cases_Bool (is_free n sizes (get_or sizes k 0))) [
            | inl free ↦
                (let some : nat_lt 0 (get_or sizes k 0) ≡ true = (and_parts _ _ free).0 in
                let is_picked = picked (is_free n sizes) 0 sizes k here free in
                let place : ℕ = count_by (is_free n sizes) (take k sizes) in
                let below = is.below_one (count_by (is_free n sizes) (take k sizes)) (omega (arith, is_picked.within, is.paired)) in
                let share = feasible.below_one k free in
                let cross = in_proportion n sizes (count_by (is_free n sizes) (take k sizes)) is_picked.within in
                rw (stands_free (is_certain n sizes) (is_free n sizes) sizes (requested_of sizes n) picked_by k here open_ free, open_, some)
                (over_same _ _ _ _ (omega (arith, below)) (omega (arith, share))
                (cross ∙ ap (λ (u : ℕ). (n - certain_units n sizes) * get_or sizes u 0 * (requested_of sizes n).total) (is_picked.at ∙ omega arith))))
            | inr none ↦ rw (stands_never (is_certain n sizes) (is_free n sizes) sizes (requested_of sizes n) picked_by k here open_ none, open_, no_size open_ none) (same_refl (whole 0))
          ]
        ]

  pub count-drawn : IsFeasible n sizes → (drawn : ℕ → Bool) → count_by drawn (range_with_len 0 (length (requested_of sizes n).free)) ≡ (requested_of sizes n).r → count_taken (requested_of sizes n) drawn (length sizes) ≡ n
  count-drawn feasible drawn drawn_is =
      count-selected (is_certain n sizes) (is_free n sizes) sizes (requested_of sizes n) picked_by drawn
      ∙ omega (arith, drawn_is, feasible.within)
