-- The request for units with given probabilities.
use Rattle.std.proofs.Common.{◌≡◌, ◌↔◌, ℕ, suc, ◌+◌, ◌*◌, ◌<◌, ◌≤◌, Bool, true, false, cond, not, nat_lt, List, [], ◌∷◌, length, get_or, map, take, arith, refl, sym, ap, ◌∙◌, inl, inr, true≢false, subst}
use Rattle.std.specs.{Prelude.{slice_index, sum, count_by, filter, EachIndex, All}, List.{range_with_len}}
use Rattle.std.proofs.lemmas.Bool.{cases_Bool, cases_eq, cases_lt, and_parts, and_right, ltb-true, ltb-false, lt-ltb, le-ltb}
use Rattle.std.proofs.{lemmas.List.{length-map}, lemmas.List.Elements.{All-get_or, All-map, filter_passes}, Math.Nat.{dvd-mul_left}}
use Rattle.std.proofs.lemmas.List.Sums.{length-filter, count_by-le-length, sum_by-cons}
use Prim.Native.Nat.{◌∣◌}
use Rattle.smp_frac.specs.{Fractions.{Same, whole, over}, Limits.{most_rows}, declared.fractions.Frac.{Frac}, Laws.Coprime.{dvd_second}}
use Rattle.smp_frac.proofs.{Arithmetic.{cancel, same_sym, same_trans}, Over.{over_one, over_zero, over_same}}
use Rattle.smp_prob.specs.{declared.requests.Request.{Request}, Kept.Numerators.{full, between, over_of}, Requested.{places}}
use Rattle.smp_prob.specs.Given.{AreGiven, IsWholeNumber, common_multiple, draws, expected_size, free_numerators, given_fraction, given_of, has_whole_sum, is_certain, is_free, largest_multiple, numerator_over}
use Rattle.smp_prob.specs.{Requests.{IsRequest}, Shapes.{shape_of}, Inclusions.{AreApart, AreBelow, IsRising, asked_fraction, count_taken}}
use Rattle.smp_prob.proofs.Draws.{divides-whole, whole-draws, whole-shapes, share-cross, draws_positive, share_below, narrow, out_narrow, no_draws}
use Rattle.smp_prob.proofs.{Expected.{given_is_over, expected_whole}, Multiples.{common_multiple_positive, denominators_divide}}
use Rattle.smp_prob.proofs.Numerators.{certain_over, free_over, filter-map, numerator_within, places-map}
use Rattle.smp_prob.proofs.{Picks.{length-places, places_below, size_at_place}, ShapeLemmas.{length-shape_of, shape_positive, shape_small}}
use Rattle.smp_prob.proofs.Positions.{IsPickedBy, are_apart, count-selected, picked, places_rise, stands_certain, stands_free, stands_never}

-- all numerators are those of the certain units and those of the free ones
sum-split : (den : ℕ) (zs : List ℕ) → EachIndex zs (λ i. slice_index zs i ≤ den) → sum zs ≡ count_by (full den) zs * den + sum (filter (between den) zs)
sum-split den [] within = omega arith
sum-split den (z ∷ zs) within =
    let rest = sum-split den zs (λ i here. within (suc i) (omega (arith, here))) in
    let here : z ≤ den = within 0 (omega arith) in
    elim (cases_lt z den) [
      | inl below ↦ elim (cases_eq z 0) [
        | inl none ↦
            (let nothing : nat_lt 0 z ≡ false = le-ltb 0 z (omega (arith, none)) in
            rw (sum_by-cons (λ (x : ℕ). x) z zs, sum_by-cons (λ (x : ℕ). cond (full den x) 1 0) z zs, lt-ltb z den below, nothing) (omega (arith, rest, none)))
        | inr some ↦
            (let more : nat_lt 0 z ≡ true = lt-ltb 0 z (omega (arith, some)) in
            rw (sum_by-cons (λ (x : ℕ). x) z zs, sum_by-cons (λ (x : ℕ). cond (full den x) 1 0) z zs, lt-ltb z den below, more, sum_by-cons (λ (x : ℕ). x) z (filter (between den) zs)) (omega (arith, rest)))
      ]
      | inr from ↦
          (let none : between den z ≡ false = rw (le-ltb z den from) (and_right (nat_lt 0 z) false refl) in
          rw (sum_by-cons (λ (x : ℕ). x) z zs, sum_by-cons (λ (x : ℕ). cond (full den x) 1 0) z zs, none, le-ltb z den from) (omega (arith, rest, here, from)))
    ]

module _ (den : ℕ) (zs : List ℕ) (some : 1 ≤ den) where
  numerators : List ℕ
  numerators = filter (between den) zs

  is_picked : IsPickedBy (full den) (between den) zs (over_of den zs)
  is_picked = record {
    certain = refl;
    free = refl;
    apart = λ z certain. elim (cases_Bool (nat_lt z den)) [
      | inl e ↦ absurd (true≢false (sym certain ∙ ap not e))
      | inr e ↦ rw e (and_right (nat_lt 0 z) false refl)
    ];
  }

  length-numerators : length (places (between den) 0 zs) ≡ length (filter (between den) zs)
  length-numerators = length-places (between den) 0 zs ∙ sym (length-filter (between den) zs)

  passes : EachIndex (filter (between den) zs) (λ i. between den (slice_index (filter (between den) zs) i) ≡ true)
  passes i here = All-get_or (λ z. between den z ≡ true) (filter (between den) zs) i 0 here (filter_passes (between den) zs)

  pub positive : EachIndex (filter (between den) zs) (λ i. 1 ≤ slice_index (filter (between den) zs) i)
  positive i here = omega (arith, ltb-true 0 (slice_index (filter (between den) zs) i) (and_parts _ _ (passes i here)).0)

  pub below : EachIndex (filter (between den) zs) (λ i. slice_index (filter (between den) zs) i < den)
  below i here = ltb-true (slice_index (filter (between den) zs) i) den (and_parts _ _ (passes i here)).1

  pub within : EachIndex (filter (between den) zs) (λ i. slice_index (filter (between den) zs) i ≤ den)
  within i here = omega (arith, below i here)

  pub few_numerators : length zs ≤ most_rows → length (filter (between den) zs) ≤ most_rows
  few_numerators few = omega (arith, few, length-filter (between den) zs, count_by-le-length (between den) zs)

  IsRequest-over : length zs ≤ most_rows → den ≤ largest_multiple → IsRequest (over_of den zs)
  IsRequest-over few small = record {
    few = omega (arith, few_numerators few, length-numerators);
    paired = length-shape_of (filter (between den) zs) ∙ sym length-numerators;
    positive = λ i here. shape_positive (filter (between den) zs) i (inside i here) (positive i (inside i here));
    small = shape_small (filter (between den) zs) (narrow den (filter (between den) zs) positive within (few_numerators few) small);
    narrow = out_narrow den (filter (between den) zs) positive within (few_numerators few) small;
    drawn = λ more. draws_positive den (filter (between den) zs) positive (omega (arith, more, length-numerators));
    below_one = λ i here. share_below den (filter (between den) zs) positive below i (inside i here);
  }
    where
      inside : (i : ℕ) → i < length (shape_of (filter (between den) zs)) → i < length (filter (between den) zs)
      inside i here = omega (arith, here, length-shape_of (filter (between den) zs))

  IsRising-over : IsRising (over_of den zs)
  IsRising-over = record { certain = places_rise (full den) 0 zs; free = places_rise (between den) 0 zs }

  AreApart-over : AreApart (over_of den zs)
  AreApart-over = are_apart (full den) (between den) zs (over_of den zs) is_picked refl

  AreBelow-over : AreBelow (length zs) (over_of den zs)
  AreBelow-over = record { certain = places_below (full den) zs; free = places_below (between den) zs }

  -- each unit has the probability numerator / denominator
  module _ (fits : EachIndex zs (λ i. slice_index zs i ≤ den)) (sound : IsRequest (over_of den zs)) (k : ℕ) (here : k < length zs) where
    asked_over : Same (asked_fraction (over_of den zs) k) (over (slice_index zs k) den)
    asked_over =
        elim (cases_Bool (full den (slice_index zs k))) [
          | inl certain ↦
              (let from : nat_lt (slice_index zs k) den ≡ false = flipped (nat_lt (slice_index zs k) den) certain in
              let all : slice_index zs k ≡ den = omega (arith, fits k here, ltb-false (slice_index zs k) den from) in
              rw (stands_certain (full den) (between den) zs (over_of den zs) is_picked k here certain, all) (same_sym (over_one den some)))
          | inr open_ ↦ elim (cases_Bool (between den (slice_index zs k))) [
            | inl free ↦
                (let is = picked (between den) 0 zs k here free in
                let place : ℕ = count_by (between den) (take k zs) in
                let inside : count_by (between den) (take k zs) < length (filter (between den) zs) = omega (arith, is.within, length-numerators) in
                let size : slice_index (filter (between den) zs) (count_by (between den) (take k zs)) ≡ slice_index zs k =
                size_at_place (between den) (slice_index zs) 0 zs (λ j. ap (slice_index zs) (omega arith)) (count_by (between den) (take k zs)) is.within ∙ ap (slice_index zs) (is.at ∙ omega arith) in
                let cross = rw size at (share-cross den (filter (between den) zs) (count_by (between den) (take k zs)) inside) in
                let less = sound.below_one (count_by (between den) (take k zs)) (omega (arith, is.within, sound.paired)) in
                rw (stands_free (full den) (between den) zs (over_of den zs) is_picked k here open_ free)
                (over_same _ _ _ _ (omega (arith, less)) some cross))
            | inr none ↦
                (let nothing : slice_index zs k ≡ 0 = no_size open_ none in
                rw (stands_never (full den) (between den) zs (over_of den zs) is_picked k here open_ none, nothing) (same_sym (over_zero den)))
          ]
        ]
      where
        flipped : (b : Bool) → not b ≡ true → b ≡ false
        flipped true e = sym e
        flipped false e = refl

        no_size : full den (slice_index zs k) ≡ false → between den (slice_index zs k) ≡ false → slice_index zs k ≡ 0
        no_size open_ none = elim (cases_lt (slice_index zs k) den) [
          | inl less ↦ elim (cases_eq (slice_index zs k) 0) [
            | inl e ↦ e
            | inr more ↦ absurd (true≢false (sym (rw (lt-ltb 0 (slice_index zs k) (omega (arith, more)), lt-ltb (slice_index zs k) den less) refl) ∙ none))
          ]
          | inr from ↦ absurd (true≢false (sym (rw (le-ltb (slice_index zs k) den from) refl) ∙ open_))
        ]

-- ---- the fractions as numerators over their least common multiple

module _ (probs : List Frac) (given : AreGiven probs) where
  abbrev all_numerators : List ℕ
  all_numerators = map (numerator_over (common_multiple probs)) probs

  certain_tests : All (λ p. full (common_multiple probs) (numerator_over (common_multiple probs) p) ≡ is_certain p) probs
  certain_tests i d here = certain_over (common_multiple probs) (get_or probs i d) (denominators_divide probs i d here) (common_multiple_positive probs) (given.at_most_one i d here)

  free_tests : All (λ p. between (common_multiple probs) (numerator_over (common_multiple probs) p) ≡ is_free p) probs
  free_tests i d here = free_over (common_multiple probs) (get_or probs i d) (denominators_divide probs i d here) (common_multiple_positive probs) (given.at_most_one i d here)

  pub certain_places : places (full (common_multiple probs)) 0 all_numerators ≡ places is_certain 0 probs
  certain_places = places-map (numerator_over (common_multiple probs)) (full (common_multiple probs)) is_certain 0 probs certain_tests

  pub free_places : places (between (common_multiple probs)) 0 all_numerators ≡ places is_free 0 probs
  free_places = places-map (numerator_over (common_multiple probs)) (between (common_multiple probs)) is_free 0 probs free_tests

  pub free_parts : filter (between (common_multiple probs)) all_numerators ≡ free_numerators probs
  free_parts = filter-map (numerator_over (common_multiple probs)) (between (common_multiple probs)) is_free probs free_tests

  pub given_is : over_of (common_multiple probs) all_numerators ≡ given_of probs
  given_is = rw (certain_places, free_places, free_parts) refl

  pub length-all : length all_numerators ≡ length probs
  length-all = length-map probs (numerator_over (common_multiple probs))

  pub fits : EachIndex all_numerators (λ i. slice_index all_numerators i ≤ common_multiple probs)
  fits i here =
      All-get_or (λ z. z ≤ common_multiple probs) all_numerators i 0 here
      (All-map (λ z. z ≤ common_multiple probs) (numerator_over (common_multiple probs)) probs
      (λ j d inside. numerator_within (common_multiple probs) (get_or probs j d) (given.at_most_one j d inside)))

  module _ (small : common_multiple probs ≤ largest_multiple) where
    sound_over : IsRequest (over_of (common_multiple probs) all_numerators)
    sound_over = IsRequest-over (common_multiple probs) all_numerators (common_multiple_positive probs) (omega (arith, given.few, length-all)) small

    pub IsRequest-given_of : IsRequest (given_of probs)
    IsRequest-given_of = rw given_is at sound_over

    pub asked_given : EachIndex probs (λ unit. Same (asked_fraction (given_of probs) unit) (given_fraction probs unit))
    asked_given unit here =
        let same = asked_over (common_multiple probs) all_numerators (common_multiple_positive probs) fits sound_over unit (omega (arith, here, length-all)) in
        same_trans (subst (λ (request : Request). Same (asked_fraction request unit) (over (slice_index all_numerators unit) (common_multiple probs))) given_is same) (same_sym (given_is_over probs unit here))

  pub IsRising-given_of : IsRising (given_of probs)
  IsRising-given_of = rw given_is at (IsRising-over (common_multiple probs) all_numerators (common_multiple_positive probs))

  pub AreApart-given_of : AreApart (given_of probs)
  AreApart-given_of = subst AreApart given_is (AreApart-over (common_multiple probs) all_numerators (common_multiple_positive probs))

  pub AreBelow-given_of : AreBelow (length probs) (given_of probs)
  AreBelow-given_of = rw (given_is, length-all) at (AreBelow-over (common_multiple probs) all_numerators (common_multiple_positive probs))

  -- ---- whole sums

  split : sum all_numerators ≡ count_by (full (common_multiple probs)) all_numerators * common_multiple probs + sum (free_numerators probs)
  split = rw free_parts at (sum-split (common_multiple probs) all_numerators fits)

  -- the draws and the certain units are the sum
  whole_is : (n : ℕ) → n * common_multiple probs ≡ sum all_numerators → (has_whole_sum (common_multiple probs) (free_numerators probs) ≡ true) × (n ≡ count_by (full (common_multiple probs)) all_numerators + draws (common_multiple probs) (free_numerators probs))
  whole_is n e =
      let certain : ℕ = count_by (full (common_multiple probs)) all_numerators in
      let all : n * common_multiple probs ≡ certain * common_multiple probs + sum (free_numerators probs) = e ∙ split in
      let divides : common_multiple probs ∣ certain * common_multiple probs + sum (free_numerators probs) = rw (← all) (dvd-mul_left (common_multiple probs) n) in
      let holds = divides-whole (common_multiple probs) (free_numerators probs) (dvd_second (certain * common_multiple probs) (sum (free_numerators probs)) (common_multiple probs) divides (dvd-mul_left (common_multiple probs) certain)) in
      let drawn = whole-draws (common_multiple probs) (free_numerators probs) holds in
      (holds, cancel n (certain + draws (common_multiple probs) (free_numerators probs)) (common_multiple probs) (common_multiple_positive probs) (omega (arith, e, split, drawn)))

  pub size_given : (n : ℕ) → Same (expected_size probs) (whole n) → length (given_of probs).certain + (given_of probs).r ≡ n
  size_given n same =
      let is = whole_is n ((expected_whole probs n).0 same) in
      let certain : length (places is_certain 0 probs) ≡ count_by (full (common_multiple probs)) all_numerators = ap length (sym certain_places) ∙ length-places (full (common_multiple probs)) 0 all_numerators in
      omega (arith, certain, is.1)

  pub drawn_given : (n : ℕ) → Same (expected_size probs) (whole n) → (drawn : ℕ → Bool) → count_by drawn (range_with_len 0 (length (given_of probs).free)) ≡ (given_of probs).r → count_taken (given_of probs) drawn (length probs) ≡ n
  drawn_given n same drawn drawn_is =
      let is = whole_is n ((expected_whole probs n).0 same) in
      let all = count-selected (full (common_multiple probs)) (between (common_multiple probs)) all_numerators (given_of probs) (record { certain = sym certain_places; free = sym free_places; apart = (is_picked (common_multiple probs) all_numerators (common_multiple_positive probs)).apart }) drawn in
      (rw length-all at all) ∙ omega (arith, drawn_is, is.1)

  pub whole_given : IsWholeNumber (expected_size probs) ↔ (sum (given_of probs).shape ≡ (given_of probs).total)
  whole_given = (
    (λ (n, same). (whole-shapes (common_multiple probs) (free_numerators probs)).1 (whole_is n ((expected_whole probs n).0 same)).0),
    (λ same.
        (let holds = (whole-shapes (common_multiple probs) (free_numerators probs)).0 same in
        let drawn = whole-draws (common_multiple probs) (free_numerators probs) holds in
        let certain : ℕ = count_by (full (common_multiple probs)) all_numerators in
        let n : ℕ = certain + draws (common_multiple probs) (free_numerators probs) in
        (n, (expected_whole probs n).1 (omega (arith, split, drawn))))),
  )

  pub nothing_free : length (given_of probs).free ≡ 0 → ((given_of probs).r ≡ 0) × ((given_of probs).total ≡ 0)
  nothing_free none =
      no_draws (common_multiple probs) (free_numerators probs)
      (ap length (sym free_parts) ∙ sym (length-numerators (common_multiple probs) all_numerators (common_multiple_positive probs)) ∙ ap length free_places ∙ none)
