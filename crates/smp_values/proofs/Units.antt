-- The fractional units of values: which they are, and how many.
use Rattle.std.proofs.Common.{◌≡◌, ◌≢◌, ℕ, zero, suc, ◌+◌, ◌-◌, ◌<◌, ◌≤◌, Bool, true, false, cond, List, [], ◌∷◌, length, get_or, set, take, take_all, refl, sym, ap, ◌∙◌, inl, inr, arith, length-set}
use Rattle.std.specs.List.{count_by, filter, range_with_len}
use Rattle.std.proofs.{lemmas.Bool.{cases_Bool, cases_eq, cases_lt, both_ways}, lemmas.List.Filters.{length-filter_more}}
use Rattle.std.proofs.lemmas.List.{get_or_past, get_or-set_same, get_or-set_other}
use Rattle.std.proofs.lemmas.List.FromFn.{length-range_with_len, get_or-range_with_len}
use Rattle.std.proofs.lemmas.List.Sums.{length-filter, sum_by-cons, sum_by-set, get_or-le-sum_by}
use Rattle.smp_prob.specs.Shares.{Shares}
use Rattle.smp_split.proofs.Counts.{count_by-indices}
use Rattle.smp_values.specs.Values.{fractional, is_fractional, fractional_at, fractional_count, fractional_units}

-- ---- lists

-- a place at which an element passes
pub record Passes {X : Type 0} (p : X → Bool) (xs : List X) (d : X) : Type 0 where
  pub place : ℕ
  pub here : place < length xs
  pub passes : p (get_or xs place d) ≡ true

module _ {X : Type 0} (p : X → Bool) (d : X) where
  pub some_passes : (xs : List X) → 1 ≤ count_by p xs → Passes p xs d
  some_passes [] some = absurd (omega arith)
  some_passes (x ∷ xs) some =
      let f : X → ℕ = λ y. cond (p y) 1 0 in
      let more : count_by p (x ∷ xs) ≡ f x + count_by p xs = sum_by-cons f x xs in
      elim (cases_Bool (p x)) [
        | inl e ↦ record { place = 0; here = omega arith; passes = e }
        | inr e ↦
            (let none : f x ≡ 0 = rw e refl in
            let rest : Passes p xs d = some_passes xs (omega arith) in
            record { place = suc rest.place; here = omega (arith, rest.here); passes = rest.passes })
      ]

  passes_in_filter : (xs : List X) (place : ℕ) → place < length (filter p xs) → p (get_or (filter p xs) place d) ≡ true
  passes_in_filter [] place h = absurd (omega arith)
  passes_in_filter (x ∷ xs) zero h =
      elim (cases_Bool (p x)) [
        | inl e ↦ rw e e
        | inr e ↦ rw e (passes_in_filter xs zero (rw e at h))
      ]
  passes_in_filter (x ∷ xs) (suc place) h =
      elim (cases_Bool (p x)) [
        | inl e ↦ rw e (passes_in_filter xs place (let l : suc place < length (x ∷ filter p xs) = rw e at h in omega arith))
        | inr e ↦ rw e (passes_in_filter xs (suc place) (rw e at h))
      ]

  -- an element that passes stands in the filtered list behind those before it that pass
  pub get_or-filter : (xs : List X) (place : ℕ) → place < length xs → p (get_or xs place d) ≡ true → get_or (filter p xs) (length (filter p (take place xs))) d ≡ get_or xs place d
  get_or-filter [] place h pass = absurd (omega arith)
  get_or-filter (x ∷ xs) zero h pass = rw pass refl
  get_or-filter (x ∷ xs) (suc place) h pass =
      elim (cases_Bool (p x)) [
        | inl e ↦ rw e (get_or-filter xs place (omega arith) pass)
        | inr e ↦ rw e (get_or-filter xs place (omega arith) pass)
      ]

-- ---- how many units are fractional

-- numerators that are all fractional are as many as there are
pub all_counted : (den : ℕ) (xs : List ℕ) → ((k : ℕ) → k < length xs → fractional den (get_or xs k 0) ≡ true) → count_by (fractional den) xs ≡ length xs
all_counted den [] all = refl
all_counted den (x ∷ xs) all =
    let f : ℕ → ℕ = λ a. cond (fractional den a) 1 0 in
    let one : f x ≡ 1 = rw (all 0 (omega arith)) refl in
    let more : count_by (fractional den) (x ∷ xs) ≡ f x + count_by (fractional den) xs = sum_by-cons f x xs in
    let rest : count_by (fractional den) xs ≡ length xs = all_counted den xs (λ k h. all (suc k) (omega arith)) in
    omega arith

module _ (s : Shares) where
  pub fractional_within : (unit : ℕ) → fractional s.den (get_or s.numer unit 0) ≡ true → unit < length s.numer
  fractional_within unit h =
      elim (cases_lt unit (length s.numer)) [
        | inl here ↦ here
        | inr past ↦ absurd (both_ways (fractional s.den (get_or s.numer unit 0)) (rw (get_or_past s.numer unit 0 past) refl) h)
      ]

  pub some_fractional : (unit : ℕ) → fractional s.den (get_or s.numer unit 0) ≡ true → 1 ≤ fractional_count s
  some_fractional unit h =
      let f : ℕ → ℕ = λ a. cond (fractional s.den a) 1 0 in
      let one : f (get_or s.numer unit 0) ≡ 1 = rw h refl in
      let part : f (get_or s.numer unit 0) ≤ fractional_count s = get_or-le-sum_by f s.numer unit 0 (fractional_within unit h) in
      omega arith

  pub none_fractional : fractional_count s ≡ 0 → (unit : ℕ) → fractional s.den (get_or s.numer unit 0) ≡ false
  none_fractional none unit =
      elim (cases_Bool (fractional s.den (get_or s.numer unit 0))) [
        | inr e ↦ e
        | inl e ↦ absurd (let some : 1 ≤ fractional_count s = some_fractional unit e in omega arith)
      ]

  -- the others are one fewer
  pub others_count : (unit : ℕ) → fractional s.den (get_or s.numer unit 0) ≡ true → count_by (fractional s.den) (set s.numer unit 0) + 1 ≡ fractional_count s
  others_count unit h =
      let f : ℕ → ℕ = λ a. cond (fractional s.den a) 1 0 in
      let one : f (get_or s.numer unit 0) ≡ 1 = rw h refl in
      let none : f 0 ≡ 0 = refl in
      let changed : count_by (fractional s.den) (set s.numer unit 0) + f (get_or s.numer unit 0) ≡ fractional_count s + f 0 = sum_by-set f s.numer unit 0 0 (fractional_within unit h) in
      omega arith

  -- two fractional units are two
  two_at_least : (unit other : ℕ) → fractional s.den (get_or s.numer unit 0) ≡ true → other ≢ unit → fractional s.den (get_or s.numer other 0) ≡ true → fractional_count s ≤ 1 → ⊥
  two_at_least unit other h ne e few =
      let f : ℕ → ℕ = λ a. cond (fractional s.den a) 1 0 in
      let in_set : f (get_or (set s.numer unit 0) other 0) ≡ 1 = rw (get_or-set_other s.numer unit other 0 0 ne, e) refl in
      let here : other < length (set s.numer unit 0) = simp length-set (fractional_within other e) in
      let part : f (get_or (set s.numer unit 0) other 0) ≤ count_by (fractional s.den) (set s.numer unit 0) = get_or-le-sum_by f (set s.numer unit 0) other 0 here in
      omega (arith, others_count unit h)

  -- where only one unit is fractional, no other is
  pub only_one : (unit other : ℕ) → fractional_count s ≤ 1 → fractional s.den (get_or s.numer unit 0) ≡ true → other ≢ unit → fractional s.den (get_or s.numer other 0) ≡ false
  only_one unit other few h ne =
      elim (cases_Bool (fractional s.den (get_or s.numer other 0))) [
        | inr e ↦ e
        | inl e ↦ absurd (two_at_least unit other h ne e few)
      ]

  -- one of the others is another unit
  pub other_of : (unit : ℕ) → fractional s.den (get_or s.numer unit 0) ≡ true → (k : ℕ) → fractional s.den (get_or (set s.numer unit 0) k 0) ≡ true → (k ≢ unit) × (fractional s.den (get_or s.numer k 0) ≡ true)
  other_of unit h k e =
      elim (cases_eq k unit) [
        | inl same ↦ absurd (both_ways (fractional s.den (get_or (set s.numer unit 0) k 0)) (rw (same, get_or-set_same s.numer unit 0 0 (fractional_within unit h)) refl) e)
        | inr ne ↦ (ne, rw (get_or-set_other s.numer unit k 0 0 ne) at e)
      ]

  -- ---- the list of the fractional units

  pub fractional_units_length : length (fractional_units s) ≡ fractional_count s
  fractional_units_length =
      length-filter (λ unit. fractional s.den (get_or s.numer unit 0)) (range_with_len 0 (length s.numer))
      ∙ count_by-indices (fractional s.den) s.numer 0 (length s.numer) refl

  pub fractional_at_is : (place : ℕ) → place < fractional_count s → fractional s.den (get_or s.numer (fractional_at s place) 0) ≡ true
  fractional_at_is place h = passes_in_filter (λ unit. fractional s.den (get_or s.numer unit 0)) 0 (range_with_len 0 (length s.numer)) place (omega (arith, fractional_units_length))

  -- ---- how many fractional units stand before a unit

  abbrev pub count_before : ℕ → ℕ
  count_before unit = length (filter (λ k. fractional s.den (get_or s.numer k 0)) (take unit (range_with_len 0 (length s.numer))))

  place_is : (unit : ℕ) → unit < length s.numer → get_or (range_with_len 0 (length s.numer)) unit 0 ≡ unit
  place_is unit here = let same : 0 + unit ≡ unit = omega arith in get_or-range_with_len 0 (length s.numer) unit 0 here ∙ same

  pub count_before_more : (unit : ℕ) → unit < length s.numer → count_before (unit + 1) ≡ count_before unit + cond (fractional s.den (get_or s.numer unit 0)) 1 0
  count_before_more unit here =
      length-filter_more (λ k. fractional s.den (get_or s.numer k 0)) (range_with_len 0 (length s.numer)) unit 0 (omega (arith, length-range_with_len 0 (length s.numer)))
      ∙ ap (λ k. count_before unit + cond (fractional s.den (get_or s.numer k 0)) 1 0) (place_is unit here)

  pub count_before_all : count_before (length s.numer) ≡ fractional_count s
  count_before_all =
      ap (λ units. length (filter (λ k. fractional s.den (get_or s.numer k 0)) units)) (take_all (length s.numer) (range_with_len 0 (length s.numer)) (omega (arith, length-range_with_len 0 (length s.numer))))
      ∙ fractional_units_length

  -- a fractional unit stands among them behind those before it
  pub fractional_at-before : (unit : ℕ) → fractional s.den (get_or s.numer unit 0) ≡ true → fractional_at s (count_before unit) ≡ unit
  fractional_at-before unit h =
      let here : unit < length s.numer = fractional_within unit h in
      let place : get_or (range_with_len 0 (length s.numer)) unit 0 ≡ unit = place_is unit here in
      get_or-filter (λ k. fractional s.den (get_or s.numer k 0)) 0 (range_with_len 0 (length s.numer)) unit (omega (arith, length-range_with_len 0 (length s.numer))) (rw place h) ∙ place

-- ---- the fractional units from a unit on

module _ (s : Shares) where
  abbrev pub units_from : ℕ → List ℕ
  units_from unit = filter (is_fractional s) (range_with_len unit (length s.numer - unit))

  -- one that is fractional is the first of them
  pub units_from-here : (unit : ℕ) → unit < length s.numer → is_fractional s unit ≡ true → units_from unit ≡ unit ∷ units_from (unit + 1)
  units_from-here unit here h =
      let left : length s.numer - unit ≡ suc (length s.numer - (unit + 1)) = omega arith in
      rw (left, h) refl

  pub units_from-next : (unit : ℕ) → unit < length s.numer → is_fractional s unit ≡ false → units_from unit ≡ units_from (unit + 1)
  units_from-next unit here h =
      let left : length s.numer - unit ≡ suc (length s.numer - (unit + 1)) = omega arith in
      rw (left, h) refl

  -- those in between that aren't fractional are passed over
  pub units_from-skip : (more unit : ℕ) → unit + more ≤ length s.numer → ((k : ℕ) → unit ≤ k → k < unit + more → is_fractional s k ≡ false) → units_from unit ≡ units_from (unit + more)
  units_from-skip zero unit h none = let same : unit + 0 ≡ unit = omega arith in ap units_from (sym same)
  units_from-skip (suc more) unit h none =
      let next : unit + 1 + more ≡ unit + suc more = omega arith in
      units_from-next unit (omega arith) (none unit (omega arith) (omega arith))
      ∙ units_from-skip more (unit + 1) (omega arith) (λ k after before. none k (omega arith) (omega arith))
      ∙ ap units_from next

  pub units_from-end : units_from (length s.numer) ≡ []
  units_from-end = let left : length s.numer - length s.numer ≡ 0 = omega arith in rw left refl

  pub units_from-start : units_from 0 ≡ fractional_units s
  units_from-start = let left : length s.numer - 0 ≡ length s.numer = omega arith in rw left refl
