-- The first stage units of a stratum, by their numbers.
use Rattle.std.proofs.Common.{◌≡◌, ℕ, ◌<◌, ◌≤◌, ◌^◌, false, Option, Some, None, List, [], ◌∷◌, length, map, filter, get_or, arith, sym, ap, ◌∙◌}
use Rattle.std.specs.{Prelude.{All, sum}, List.{range_with_len, position_or_len}, Str.{bytes_eq}}
use Rattle.std.proofs.{lemmas.List.{get_or-map, length-map}, lemmas.List.Elements.{All-filter}}
use Rattle.std.proofs.lemmas.List.Sums.{get_or-le-sum_by, sum-map}
use Rattle.std.proofs.lemmas.List.FromFn.{get_or-map-range_with_len, length-map-range_with_len}
use Rattle.smp_frac.specs.{declared.fractions.Frac.{Frac}, Limits.{most_rows}}
use Rattle.smp_design.specs.declared.design.Second as second
use Rattle.smp_design.specs.declared.design.Design.{Design}
use Rattle.smp_frame.specs.declared.frame.Unit as unit
use Rattle.smp_strata.specs.Clusters.{clusters, clusters_in, in_psu, psu_names, stratum_names, stratum_name, stratum_number, first_row}
use Rattle.smp_strata.specs.{Plans.{cluster_counts, first_probs, first_sizes, quota_of, sample_sizes, sizes_by}, Kept.Groups.{places_of}}
use Rattle.smp_strata.specs.{Rows.{prob_at, stratum_at, psu_at, size_of, is_large}, declared.misfit.Misfit.TheVariants.{PsuTooLarge}}
use Rattle.smp_strata.specs.Kept.Layouts.{AreRows, AreGroups, prob_of, strata_homes}
use Rattle.smp_strata.specs.Misfits.{first_found, large, psu_too_large, sum_of, unwhole}
use Rattle.smp_strata.proofs.{Columns.{small_size}, Founds.{found_ext, none_each, when_false}, Rule.{paired}}
use Rattle.smp_strata.proofs.{Ranges.{map_range_ext, filter_range_ext, filter_by_places}, TextPlaces.{once, places_by_name}}
use Rattle.smp_strata.proofs.{ClusterRows.{map_ext, below, stratum_within, psu_within, strata, psus}, Totals.{map_twice, total, fewer}}

-- how many first stage units there are
pub count_all : (second : Option second.Second) (units : List unit.Unit) → length (clusters second units) ≤ length units
count_all None units = omega (arith, length-map-range_with_len (λ row. row ∷ []) 0 (length units))
count_all (Some second) units = omega (arith, length-map (psu_names units) (in_psu units), fewer (psus units), length-map units (λ (u : unit.Unit). u.psu))

module _ (design : Design) (units : List unit.Unit) (rows : All (AreRows (length units)) (clusters design.second units)) where
  abbrev pub all : List (List ℕ)
  all = clusters design.second units

  abbrev pub homes : List ℕ
  homes = strata_homes units all

  abbrev name_of : List ℕ → List ℕ
  name_of g = stratum_at units (first_row g)

  abbrev names : List (List ℕ)
  names = map name_of all

  long : length names ≡ length all
  long = length-map all name_of

  pub first_within : (i : ℕ) → i < length all → first_row (get_or all i []) < length units
  first_within i l = (rows i [] l).within 0 0 (omega (arith, (rows i [] l).some))

  name_at : (i : ℕ) → i < length all → get_or names i [] ≡ name_of (get_or all i [])
  name_at i l = get_or-map name_of all i [] [] l

  pub home_at : (i : ℕ) → i < length all → get_or homes i 0 ≡ stratum_number units (first_row (get_or all i []))
  home_at i l = get_or-map (λ g. stratum_number units (first_row g)) all i [] 0 l

  pub members_are : (k : ℕ) → k < length (stratum_names units) → map (λ i. get_or all i []) (places_of homes k) ≡ clusters_in design units k
  members_are k l =
      let by_name = places_by_name (stratum_names units) (once (strata units)) names homes (length-map all (λ g. stratum_number units (first_row g)) ∙ sym long)
      (λ i m. home_at i (omega (arith, m, long)) ∙ ap (λ x. position_or_len (bytes_eq x) (stratum_names units)) (sym (name_at i (omega (arith, m, long)))))
      (λ i m. rw (name_at i (omega (arith, m, long))) (stratum_within units (first_row (get_or all i [])) (first_within i (omega (arith, m, long))))) k l in
      ap (map (λ i. get_or all i [])) (by_name
      ∙ ap (λ n. filter (λ i. bytes_eq (get_or names i []) (stratum_name units k)) (range_with_len 0 n)) long
      ∙ filter_range_ext (λ i. bytes_eq (get_or names i []) (stratum_name units k)) (λ i. bytes_eq (name_of (get_or all i [])) (stratum_name units k)) 0 (length all)
      (λ i m u. ap (λ x. bytes_eq x (stratum_name units k)) (name_at i (omega (arith, u)))))
      ∙ sym (filter_by_places (λ g. bytes_eq (name_of g) (stratum_name units k)) all [])

  pub places_within : (k : ℕ) → All (λ i. i < length all) (places_of homes k)
  places_within k = All-filter _ (λ i. i < length all) (range_with_len 0 (length homes)) (rw (length-map all (λ g. stratum_number units (first_row g))) (below (length all)))

  pub sizes_are : (k : ℕ) → k < length (stratum_names units) → map (λ i. get_or (map (size_of units) all) i 0) (places_of homes k) ≡ first_sizes design units k
  sizes_are k l =
      map_ext (λ i. get_or (map (size_of units) all) i 0) (λ i. size_of units (get_or all i [])) (places_of homes k)
      (λ j d m. get_or-map (size_of units) all (get_or (places_of homes k) j d) [] 0 (places_within k j d m))
      ∙ sym (map_again (size_of units) (λ i. get_or all i []) (places_of homes k)) ∙ ap (map (size_of units)) (members_are k l)
    where
      map_again : (f : List ℕ → ℕ) (g : ℕ → List ℕ) (xs : List ℕ) → map f (map g xs) ≡ map (λ x. f (g x)) xs
      map_again f g xs = map_twice f g xs

  pub probs_are : (k : ℕ) → k < length (stratum_names units) → map (prob_of units all) (places_of homes k) ≡ first_probs design units k
  probs_are k l =
      sym (map_twice (λ g. prob_at units (first_row g)) (λ i. get_or all i []) (places_of homes k))
      ∙ ap (map (λ g. prob_at units (first_row g))) (members_are k l)

  pub counts_are : map (λ k. length (places_of homes k)) (range_with_len 0 (length (stratum_names units))) ≡ cluster_counts design units
  counts_are = map_range_ext _ _ 0 (length (stratum_names units))
      (λ k m u. sym (length-map (places_of homes k) (λ i. get_or all i [])) ∙ ap length (members_are k (omega (arith, u))))

  pub lengths_are : (groups : List (List ℕ)) (among : List ℕ) → AreGroups homes (length (stratum_names units)) groups among → map length groups ≡ cluster_counts design units
  lengths_are groups among are =
      ap (map length) are.each ∙ map_twice length (places_of homes) (range_with_len 0 (length (stratum_names units))) ∙ counts_are

  pub group_of : (k : ℕ) → k < length (stratum_names units) → (groups : List (List ℕ)) (among : List ℕ) → AreGroups homes (length (stratum_names units)) groups among → get_or groups k [] ≡ places_of homes k
  group_of k l groups among are = ap (λ gs. get_or gs k []) are.each ∙ get_or-map-range_with_len (places_of homes) 0 (length (stratum_names units)) k k [] l (omega arith)

  -- the sums that aren't whole, as they are kept
  pub wholes_are : (names : List (List ℕ)) (sums : List Frac) → names ≡ stratum_names units → sums ≡ map (λ k. sum_of (first_probs design units k)) (range_with_len 0 (length names)) → (d : Frac)
      → first_found (λ k. unwhole (get_or names k []) (get_or sums k d)) (range_with_len 0 (length names))
      ≡ first_found (λ k. unwhole (stratum_name units k) (sum_of (first_probs design units k))) (range_with_len 0 (length (stratum_names units)))
  wholes_are names sums same are d =
      found_ext _ _ 0 (length names) (λ k m u. ap (λ ns. unwhole (get_or ns k []) (get_or sums k d)) same
      ∙ ap (unwhole (stratum_name units k)) (ap (λ ss. get_or ss k d) are
      ∙ get_or-map-range_with_len (λ j. sum_of (first_probs design units j)) 0 (length names) k k d (omega (arith, u)) (omega arith)))
      ∙ ap (λ ns. first_found (λ k. unwhole (stratum_name units k) (sum_of (first_probs design units k))) (range_with_len 0 (length ns))) same

  pub total_is : (groups : List (List ℕ)) (among : List ℕ) → AreGroups homes (length (stratum_names units)) groups among → sum (map length groups) ≡ length all
  total_is groups among are = total homes (length (stratum_names units)) groups among are ∙ length-map all (λ g. stratum_number units (first_row g))

  pub few_members : (groups : List (List ℕ)) (among : List ℕ) → AreGroups homes (length (stratum_names units)) groups among → length units ≤ most_rows → All (λ group. length group ≤ most_rows) groups
  few_members groups among are few k d here =
      omega (arith, get_or-le-sum_by length groups k d here, sum-map length groups, total_is groups among are, count_all design.second units, few)

  pub names_few : length (stratum_names units) ≤ length units
  names_few = omega (arith, fewer (strata units), length-map units (λ (u : unit.Unit). u.stratum))

  pub length_counts : length (cluster_counts design units) ≡ length (stratum_names units)
  length_counts = length-map-range_with_len (λ k. length (clusters_in design units k)) 0 (length (stratum_names units))

  pub length_samples : length (sample_sizes design units) ≡ length (stratum_names units)
  length_samples = by_number design.n
    where
      by_number : (n : Option ℕ) → length (sizes_by n design.sizes (stratum_names units) (cluster_counts design units)) ≡ length (stratum_names units)
      by_number None = length-map (stratum_names units) (quota_of design.sizes)
      by_number (Some n) = paired n (cluster_counts design units) ∙ length_counts

pub some_all : (second : Option second.Second) (units : List unit.Unit) → 1 ≤ length units → 1 ≤ length (clusters second units)
some_all None units some = omega (arith, some, length-map-range_with_len (λ row. row ∷ []) 0 (length units))
some_all (Some second) units some = omega (arith, length-map (psu_names units) (in_psu units), psu_within units 0 some)

-- no first stage unit is too large
pub none_large : (design : Design) (units : List unit.Unit) → psu_too_large design units ≡ None → All (λ g. is_large units (length design.columns.balance) g ≡ false) (clusters design.second units)
none_large design units e k d l = when_false _ (PsuTooLarge (psu_at units (first_row (get_or (clusters design.second units) k d)))) (none_each (large design units) (clusters design.second units) e k d l)

pub sizes_small : (design : Design) (units : List unit.Unit) → psu_too_large design units ≡ None → All (λ g. size_of units g < 2 ^ 31) (clusters design.second units)
sizes_small design units e k d l = small_size units (length design.columns.balance) (get_or (clusters design.second units) k d) (none_large design units e k d l)
