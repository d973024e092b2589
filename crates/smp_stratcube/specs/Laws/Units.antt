-- The fractional units of a state, and the common denominators of their values.
use Rattle.std.proofs.Common.{◌≡◌, ◌≢◌, ℕ, zero, suc, ◌+◌, ◌<◌, ◌≤◌, nat_eq, Bool, true, false, List, []}
use Rattle.std.proofs.Common.{◌∷◌, ◌++◌, map, take, filter, length, get_or, arith, refl, sym, ◌∙◌, subst, inl, inr}
use Rattle.std.proofs.Common.{le_of_suc-le-suc, suc-le-suc, length-take, get_or-take}
use Rattle.std.specs.List.{AllPairs, Contains, flat_map, range_with_len}
use Rattle.std.proofs.lemmas.Bool.{both_ways, cases_Bool, cases_lt, eq-eqb, eqb-true}
use Rattle.std.proofs.lemmas.List.{get_or_default, get_or_past}
use Rattle.std.proofs.lemmas.List.Elements.{All-contains_itself, All-filter, All-get_or, filter_passes}
use Rattle.std.proofs.lemmas.List.FromFn.{length-range_with_len, get_or-range_with_len}
use Rattle.std.proofs.lemmas.List.Kept.{AllPairs-filter}
use Rattle.std.proofs.lemmas.List.Sums.{length-filter}
use Rattle.std.proofs.lemmas.Nat.Gcd.{dvd_trans}
use Prim.Native.Nat.{◌∣◌}
use Rattle.smp_moves.specs.declared.lines.Ratio.{Ratio}
use Rattle.smp_moves.proofs.Entries.{numbers_apart}
use Rattle.smp_stratcube.specs.declared.values.Value.{Value}
use Rattle.smp_stratcube.specs.Units.{Units, IsUnits, first, stratum}
use Rattle.smp_stratcube.specs.Values.{AreValues, common_of, fractional_count, fractional_units, is_fractional, nothing, stratum_common}
use Rattle.smp_stratcube.specs.Values.{value}
use Rattle.smp_stratcube.specs.States.{Flight, IsFlying}
use Rattle.smp_moves.proofs.Multiples.{AllSome, AllDivide, multiple_some, multiple_each, some_append, divide_append, some_map, divide_map}
use Rattle.smp_moves.proofs.Multiples.{map_divide, multiple_most}

-- ---- elements that pass a test

pub filter_place : (P : ℕ → Bool) (xs : List ℕ) (j : ℕ) → j < length xs → P (get_or xs j 0) ≡ true → (i : ℕ)
    × (i < length (filter P xs)) × (get_or (filter P xs) i 0 ≡ get_or xs j 0)
filter_place P [] j l h = absurd (omega (arith, l))
filter_place P (x ∷ xs) zero l h = rw h (0, omega arith, refl)
filter_place P (x ∷ xs) (suc j) l h =
    let r = filter_place P xs j (le_of_suc-le-suc l) h in
    elim (cases_Bool (P x)) [
      | inl t ↦ rw t (suc r.0, suc-le-suc r.1, r.2)
      | inr f ↦ rw f r
    ]

pub filter_is : (P : ℕ → Bool) (xs : List ℕ) (j : ℕ) → j < length (filter P xs) → P (get_or (filter P xs) j 0) ≡ true
filter_is P xs j l = All-get_or (λ k. P k ≡ true) (filter P xs) j 0 l (filter_passes P xs)

-- an element that passed stands in the list
pub filter_from : (P : ℕ → Bool) (xs : List ℕ) (j : ℕ) → j < length (filter P xs) → (i : ℕ) × (i < length xs)
    × (get_or xs i 0 ≡ get_or (filter P xs) j 0)
filter_from P xs j l =
    let at = All-get_or (Contains xs) (filter P xs) j 0 l (All-filter P (Contains xs) xs (All-contains_itself xs)) in
    (at.0, at.1, get_or_default xs at.0 0 (get_or (filter P xs) j 0) at.1 ∙ at.2)

-- ---- the fractional units

module _ (values : List Value) where
  pub order_count : length (fractional_units values) ≡ fractional_count values
  order_count = length-filter (is_fractional values) (range_with_len 0 (length values))

  pub fractional_in : (k : ℕ) → is_fractional values k ≡ true → k < length values
  fractional_in k h =
      elim (cases_lt k (length values)) [
        | inl l ↦ l
        | inr past ↦ absurd (both_ways (is_fractional values k) (rw (get_or_past values k nothing past) refl) h)
      ]

  pub order_going : (j : ℕ) → j < length (fractional_units values)
      → is_fractional values (get_or (fractional_units values) j 0) ≡ true
  order_going j l = filter_is (is_fractional values) (range_with_len 0 (length values)) j l

  pub order_apart : AllPairs (λ k l. k ≢ l) (fractional_units values)
  order_apart = AllPairs-filter (λ k l. k ≢ l) (is_fractional values) (range_with_len 0 (length values)) (numbers_apart (length values))

  -- each fractional unit stands there
  pub order_place : (k : ℕ) → is_fractional values k ≡ true → (j : ℕ) × (j < length (fractional_units values))
      × (get_or (fractional_units values) j 0 ≡ k)
  order_place k h =
      let l = fractional_in k h in
      let zero_plus : 0 + k ≡ k = omega arith in
      let at : get_or (range_with_len 0 (length values)) k 0 ≡ k = get_or-range_with_len 0 (length values) k 0 l ∙ zero_plus in
      let r = filter_place (is_fractional values) (range_with_len 0 (length values)) k
      (omega (arith, l, length-range_with_len 0 (length values))) (rw at h) in
      (r.0, r.1, r.2 ∙ at)

  -- its first units
  pub front_going : (n j : ℕ) → j < length (take n (fractional_units values))
      → is_fractional values (get_or (take n (fractional_units values)) j 0) ≡ true
  front_going n j l =
      let m = length-take n (fractional_units values) in
      rw (get_or-take n (fractional_units values) j 0 (omega (arith, l, m))) (order_going j (omega (arith, l, m)))

-- ---- common denominators

-- the fractional units that moves have changed
abbrev pub touched_units : List Value → List ℕ
touched_units values = filter (λ k. (value values k).touched) (fractional_units values)

-- of each of these units the common denominator of its stratum, and the denominator of its value
abbrev pub denominators : Units → List Value → List ℕ → List ℕ
denominators units values = flat_map (λ k. first units k ∷ (value values k).at.den ∷ [])

module _ (units : Units) (are : IsUnits units) (n : ℕ) (values : List Value) (ok : AreValues n values) where
  pub denominators_some : (ks : List ℕ) → AllSome (denominators units values ks)
  denominators_some [] = tt
  denominators_some (k ∷ ks) = ((are.firsts (stratum units k)).0, ((ok.each k).positive, denominators_some ks))

  denominators_at : (ks : List ℕ) (m : ℕ) → AllDivide (denominators units values ks) m → (j : ℕ) → j < length ks
      → (first units (get_or ks j 0) ∣ m) × ((value values (get_or ks j 0)).at.den ∣ m)
  denominators_at [] m all j l = absurd (omega (arith, l))
  denominators_at (k ∷ ks) m all zero l = (all.0, all.1.0)
  denominators_at (k ∷ ks) m all (suc j) l = denominators_at ks m all.1.1 j (le_of_suc-le-suc l)

  -- ---- of the state and a line

  abbrev dens : List ℕ
  dens = denominators units values (touched_units values)

  each_some : (prefix : List ℕ) → AllSome (denominators units values (touched_units values) ++ map (first units) prefix)
  each_some prefix =
      some_append dens (map (first units) prefix) (denominators_some (touched_units values))
      (some_map (first units) prefix (λ k. (are.firsts (stratum units k)).0))

  pub common_some : (prefix : List ℕ) → 1 ≤ common_of units values prefix
  common_some prefix = multiple_some (dens ++ map (first units) prefix) (each_some prefix)

  each_divides : (prefix : List ℕ) → AllDivide (denominators units values (touched_units values)) (common_of units values prefix)
      × AllDivide (map (first units) prefix) (common_of units values prefix)
  each_divides prefix =
      divide_append dens (map (first units) prefix) (common_of units values prefix)
      (multiple_each (dens ++ map (first units) prefix) (each_some prefix))

  -- a touched unit that is fractional
  pub common_divides : (prefix : List ℕ) (k : ℕ) → is_fractional values k ≡ true → (value values k).touched ≡ true
      → (first units k ∣ common_of units values prefix) × ((value values k).at.den ∣ common_of units values prefix)
  common_divides prefix k opened touched =
      let m : ℕ = common_of units values prefix in
      let at = order_place values k opened in
      let r = filter_place (λ k. (value values k).touched) (fractional_units values) at.0 at.1 (rw at.2 touched) in
      subst (λ (x : ℕ). (first units x ∣ m) × ((value values x).at.den ∣ m)) (r.2 ∙ at.2)
      (denominators_at (touched_units values) m (each_divides prefix).0 r.0 r.1)

  pub line_divides : (prefix : List ℕ) (j : ℕ) → j < length prefix → is_fractional values (get_or prefix j 0) ≡ true
      → ((value values (get_or prefix j 0)).touched ≡ false
      → (value values (get_or prefix j 0)).at.den ∣ first units (get_or prefix j 0)) →
      (value values (get_or prefix j 0)).at.den ∣ common_of units values prefix
  line_divides prefix j l opened fresh =
      elim (cases_Bool (value values (get_or prefix j 0)).touched) [
        | inl t ↦ (common_divides prefix (get_or prefix j 0) opened t).1
        | inr f ↦ dvd_trans (value values (get_or prefix j 0)).at.den (fresh f)
            (divide_map (first units) prefix (common_of units values prefix) (each_divides prefix).1 j l)
      ]

  -- ---- of a stratum

  abbrev open_in : ℕ → List ℕ
  open_in h = filter (λ k. nat_eq (stratum units k) h) (fractional_units values)

  stratum_each : (h : ℕ) → AllSome (map (λ k. (value values k).at.den)
      (filter (λ k. nat_eq (stratum units k) h) (fractional_units values)))
  stratum_each h = some_map (λ k. (value values k).at.den) (open_in h) (λ k. (ok.each k).positive)

  pub stratum_some : (h : ℕ) → 1 ≤ stratum_common units values h
  stratum_some h = multiple_some (map (λ k. (value values k).at.den) (open_in h)) (stratum_each h)

  pub stratum_divides : (k : ℕ) → is_fractional values k ≡ true
      → (value values k).at.den ∣ stratum_common units values (stratum units k)
  stratum_divides k opened =
      let h : ℕ = stratum units k in
      let at = order_place values k opened in
      let r = filter_place (λ i. nat_eq (stratum units i) h) (fractional_units values) at.0 at.1 (rw at.2 (eq-eqb h h refl)) in
      let all = multiple_each (map (λ k. (value values k).at.den) (open_in h)) (stratum_each h) in
      subst (λ (x : ℕ). (value values x).at.den ∣ stratum_common units values h) (r.2 ∙ at.2)
      (divide_map (λ k. (value values k).at.den) (open_in h) (stratum_common units values h) all r.0 r.1)

  -- it is at most what they all divide
  pub stratum_most : (h m : ℕ) → 1 ≤ m
      → ((k : ℕ) → is_fractional values k ≡ true → stratum units k ≡ h → (value values k).at.den ∣ m)
      → stratum_common units values h ≤ m
  stratum_most h m some each =
      multiple_most (map (λ k. (value values k).at.den) (open_in h)) m (stratum_each h) some
      (map_divide (λ k. (value values k).at.den) (open_in h) m (λ j l.
      (let at = filter_from (λ i. nat_eq (stratum units i) h) (fractional_units values) j l in
      each (get_or (open_in h) j 0) (subst (λ (x : ℕ). is_fractional values x ≡ true) at.2 (order_going values at.0 at.1))
      (eqb-true (stratum units (get_or (open_in h) j 0)) h
      (filter_is (λ i. nat_eq (stratum units i) h) (fractional_units values) j l)))))

-- ---- a state of the flight

-- the denominator of a unit that no move has changed divides that of its stratum
pub fresh_divides : (units : Units) (f : Flight) (ok : IsFlying units f) (k : ℕ) → k < length f.values
    → (value f.values k).touched ≡ false → (value f.values k).at.den ∣ first units k
fresh_divides units f ok k l fresh =
    let inside : k < length units.members = omega (arith, l, ok.values.count) in
    subst (λ (r : Ratio). r.den ∣ first units k) (sym (ok.fresh k inside fresh)) (ok.are.divides k inside)
