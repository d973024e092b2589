-- The first stage units of a frame and their strata, by the numbers that the code keeps.
use Rattle.std.proofs.Common.{◌≡◌, ℕ, zero, suc, ◌+◌, ◌<◌, ◌≤◌, Bool, true, nat_eq, List, [], ◌∷◌, length, map, filter, get_or, Option, Some, None, inl, inr, arith, refl, sym, ap, ◌∙◌}
use Rattle.std.specs.{Prelude.{All, slice_get}, List.{list_any, range_with_len}, Str.{bytes_eq}}
use Rattle.std.proofs.{lemmas.Bool.{cases_Bool, true≢false}, lemmas.List.{get_or-map, length-map}, lemmas.List.Folds.{list_any_at}}
use Rattle.std.proofs.{lemmas.List.Elements.{All-map, All-filter, All-from_get_or}, lemmas.List.Sums.{length-filter, count_by-le-length}}
use Rattle.std.proofs.lemmas.List.FromFn.{fill_by_all, length-range_with_len, get_or-range_with_len, get_or-map-range_with_len, length-map-range_with_len}
use Rattle.smp_frac.specs.Limits.{most_rows}
use Rattle.smp_design.specs.declared.design.Second as second
use Rattle.smp_frame.specs.declared.frame.Unit as unit
use Rattle.smp_strata.specs.{Clusters.{clusters, in_psu, psu_names, stratum_names, stratum_number, first_row}, Rows.{rows_of, psu_at}}
use Rattle.smp_strata.specs.{Kept.Groups.{places_of}, Kept.Layouts.{AreGroups, AreRows, psu_number, strata_homes}}
use Rattle.smp_strata.proofs.{Totals.{map_twice}, Ranges.{map_range_ext, filter_range_ext, map_by_places, one_place}}
use Rattle.smp_strata.proofs.TextPlaces.{itself, once, there, any_distinct, places_by_name}

pub map_ext : {A B : Type 0} (f g : A → B) (xs : List A) → All (λ x. f x ≡ g x) xs → map f xs ≡ map g xs
map_ext f g [] h = refl
map_ext f g (x ∷ xs) h = rw (h 0 x (omega arith)) (ap (λ ys. g x ∷ ys) (map_ext f g xs (λ k d l. h (suc k) d (omega (arith, l)))))

pub below : (n : ℕ) → All (λ row. row < n) (range_with_len 0 n)
below n k d l = (let here : k < n = omega (arith, l, length-range_with_len 0 n) in rw (get_or-range_with_len 0 n k d here) (omega (arith, here)))

pub not_empty : (p : ℕ → Bool) (xs : List ℕ) → list_any p xs ≡ true → 1 ≤ length (filter p xs)
not_empty p [] e = absurd (true≢false (sym e))
not_empty p (x ∷ xs) e =
    elim (cases_Bool (p x)) [
      | inl t ↦ rw t (omega arith)
      | inr f ↦ rw f (not_empty p xs (rw f at e))
    ]

-- rows that pass a test
passing : (n : ℕ) (p : ℕ → Bool) → n ≤ most_rows → list_any p (range_with_len 0 n) ≡ true → AreRows n (filter p (range_with_len 0 n))
passing n p few some = record {
  some = not_empty p (range_with_len 0 n) some;
  few = omega (arith, few, length-filter p (range_with_len 0 n), count_by-le-length p (range_with_len 0 n), length-range_with_len 0 n);
  within = All-filter p (λ row. row < n) (range_with_len 0 n) (below n);
}

any_from : (p : List ℕ → Bool) (all : List (List ℕ)) (xs : List (List ℕ)) (a : ℕ) → ((k : ℕ) → k < length xs → get_or all (a + k) [] ≡ get_or xs k [])
    → list_any p xs ≡ list_any (λ k. p (get_or all k [])) (range_with_len a (length xs))
any_from p all [] a h = refl
any_from p all (x ∷ xs) a h =
    let here : get_or all a [] ≡ x = ap (λ k. get_or all k []) (omega arith) ∙ h 0 (omega arith) in
    rw (here, any_from p all xs (a + 1) (λ k l. ap (λ j. get_or all j []) (omega arith) ∙ h (suc k) (omega (arith, l)))) refl

pub any_by_places : (p : List ℕ → Bool) (xs : List (List ℕ)) → list_any p xs ≡ list_any (λ k. p (get_or xs k [])) (range_with_len 0 (length xs))
any_by_places p xs = any_from p xs xs 0 (λ k l. ap (λ j. get_or xs j []) (omega arith))

module _ (units : List unit.Unit) where
  abbrev pub psus : List (List ℕ)
  psus = map (λ (u : unit.Unit). u.psu) units

  abbrev pub strata : List (List ℕ)
  strata = map (λ (u : unit.Unit). u.stratum) units

  long_psus : length psus ≡ length units
  long_psus = length-map units (λ (u : unit.Unit). u.psu)

  long_strata : length strata ≡ length units
  long_strata = length-map units (λ (u : unit.Unit). u.stratum)

  pub psu_within : (row : ℕ) → row < length units → psu_number units row < length (psu_names units)
  psu_within row l = there psus row (omega (arith, l, long_psus))

  pub stratum_within : (row : ℕ) → row < length units → stratum_number units row < length (stratum_names units)
  stratum_within row l = there strata row (omega (arith, l, long_strata))

  pub number_at : (f : ℕ → ℕ) (row : ℕ) → row < length units → get_or (map f (rows_of units)) row 0 ≡ f row
  number_at f row l = get_or-map-range_with_len f 0 (length units) row row 0 l (omega arith)

  numbers_within : (f : ℕ → ℕ) (n : ℕ) → ((row : ℕ) → row < length units → f row < n) → All (λ h. h < n) (map f (rows_of units))
  numbers_within f n h = All-map (λ x. x < n) f (rows_of units) (All-from_get_or (λ row. f row < n) (rows_of units) 0
      (λ k l. (let here : k < length units = omega (arith, l, length-range_with_len 0 (length units)) in
      rw (get_or-range_with_len 0 (length units) k 0 here) (rw (add_zero k) (h k here)))))
    where
      add_zero : (k : ℕ) → 0 + k ≡ k
      add_zero k = omega arith

  pub homes_within : All (λ h. h < length (psu_names units)) (map (psu_number units) (rows_of units))
  homes_within = numbers_within (psu_number units) (length (psu_names units)) psu_within

  alone : (k : ℕ) → k < length units → places_of (rows_of units) k ≡ k ∷ []
  alone k l =
      rw (length-range_with_len 0 (length units))
      (filter_range_ext (λ p. nat_eq (get_or (rows_of units) p 0) k) (λ p. nat_eq p k) 0 (length units)
      (λ p m u. ap (λ x. nat_eq x k) (get_or-range_with_len 0 (length units) p 0 (omega (arith, u)) ∙ omega arith)) ∙ one_place k (length units) l)

  -- where each row is by itself, it is the one place of its group
  pub alone_groups : AreGroups (rows_of units) (length (clusters None units)) (clusters None units) (map (λ row. 0) (rows_of units))
  alone_groups = rw (length-map (rows_of units) (λ row. row ∷ []), length-range_with_len 0 (length units)) record {
    each = sym (map_range_ext (places_of (rows_of units)) (λ row. row ∷ []) 0 (length units) (λ k m u. alone k (omega (arith, u))));
    within = below (length units);
    seated = λ place l. (let here : place < length units = omega (arith, l, length-range_with_len 0 (length units)) in
        rw (get_or-range_with_len 0 (length units) place 0 here, zero_plus place, get_or-map {Y = ℕ} (λ (row : ℕ). 0) (rows_of units) place 0 0 l)
        (ap (λ ps. slice_get ps 0) (alone place here)));
    paired = length-map (rows_of units) (λ (row : ℕ). 0);
  }
    where
      zero_plus : (k : ℕ) → 0 + k ≡ k
      zero_plus k = omega arith

  pub psus_are : map (places_of (map (psu_number units) (rows_of units))) (range_with_len 0 (length (psu_names units))) ≡ map (in_psu units) (psu_names units)
  psus_are =
      map_range_ext (places_of (map (psu_number units) (rows_of units))) (λ k. in_psu units (get_or (psu_names units) k [])) 0 (length (psu_names units))
      (λ k m u. rw long_psus at (places_by_name (psu_names units) (once psus) psus (map (psu_number units) (rows_of units))
      (length-map-range_with_len (psu_number units) 0 (length units) ∙ sym long_psus)
      (λ i here. number_at (psu_number units) i (omega (arith, here, long_psus)))
      (there psus) k (omega (arith, u))))
      ∙ sym (map_by_places (in_psu units) (psu_names units) [] (length (psu_names units)) refl)

  pub are_rows : (second : Option second.Second) → length units ≤ most_rows → All (AreRows (length units)) (clusters second units)
  are_rows None few = All-map (AreRows (length units)) (λ row. row ∷ []) (rows_of units) (λ k d l. record {
    some = omega arith;
    few = omega (arith, few, l, length-range_with_len 0 (length units));
    within = one (below (length units) k d l);
  })
    where
      one : {x : ℕ} → x < length units → All (λ row. row < length units) (x ∷ [])
      one {x} h zero d l = h
      one {x} h (suc k) d l = absurd (omega (arith, l))
  are_rows (Some second) few = All-map (AreRows (length units)) (in_psu units) (psu_names units) (All-from_get_or (λ name. AreRows (length units) (in_psu units name)) (psu_names units) []
      (λ k l. passing (length units) (λ row. bytes_eq (psu_at units row) (get_or (psu_names units) k [])) few
      (rw long_psus at (sym (any_by_places (λ t. bytes_eq t (get_or (psu_names units) k [])) psus)
      ∙ any_distinct (λ t. bytes_eq t (get_or (psu_names units) k [])) psus (list_any_at (λ t. bytes_eq t (get_or (psu_names units) k [])) (psu_names units) k [] l (itself (get_or (psu_names units) k [])))))))

  -- the strata of clusters of rows
  module _ (groups : List (List ℕ)) (rows : All (AreRows (length units)) groups) where
    first_within : All (λ g. first_row g < length units) groups
    first_within k d l = (rows k d l).within 0 0 (omega (arith, (rows k d l).some))

    pub strata_homes_are : map (λ g. get_or (map (stratum_number units) (rows_of units)) (first_row g) 0) groups ≡ strata_homes units groups
    strata_homes_are = map_ext _ (λ g. stratum_number units (first_row g)) groups (λ k d l. number_at (stratum_number units) (first_row (get_or groups k d)) (first_within k d l))

    pub strata_homes_within : All (λ h. h < length (stratum_names units)) (strata_homes units groups)
    strata_homes_within = All-map (λ h. h < length (stratum_names units)) (λ g. stratum_number units (first_row g)) groups
        (λ k d l. stratum_within (first_row (get_or groups k d)) (first_within k d l))

-- numbers by the rows that are by themselves
pub by_themselves : (numbers : List ℕ) (n : ℕ) → n ≡ length numbers → map (λ rows. get_or numbers (first_row rows) 0) (map (λ row. row ∷ []) (range_with_len 0 n)) ≡ numbers
by_themselves numbers n is =
    map_twice (λ rows. get_or numbers (first_row rows) 0) (λ row. row ∷ []) (range_with_len 0 n)
    ∙ sym (fill_by_all (λ k. get_or numbers k 0) numbers n 0 (sym is) (λ k l. refl))
