-- The request for n units: its probabilities are in proportion to size, and strictly between 0 and 1.
use Rattle.std.proofs.Common.{◌≡◌, ℕ, ◌-◌, ◌*◌, ◌^◌, ◌<◌, ◌≤◌, true, not, nat_lt, ◌&&◌, List, [], ◌∷◌, length, arith, refl, sym, ap, ◌∙◌}
use Rattle.std.specs.Prelude.{slice_index, sum, filter, EachIndex, All}
use Rattle.std.proofs.{lemmas.Bool.{and_parts, ltb-true}, lemmas.List.Elements.{All-get_or, All-from_get_or, All-filter, filter_passes}}
use Rattle.std.proofs.lemmas.List.Sums.{length-filter, count_by-le-length}
use Rattle.smp_prob.specs.{Shapes.{shape_of}, Requests.{IsRequest}, Kept.Cuts.{IsFeasible}}
use Rattle.smp_prob.specs.Requested.{is_certain, is_free, certain_units, open_total, positive_units, places, free_sizes, requested_of}
use Rattle.smp_prob.proofs.Cuts.{IsCut, certain_is, is_free_below}
use Rattle.smp_prob.proofs.ShapeLemmas.{length-shape_of, shape_positive, shape_below, shape_small, sum_narrow, proportional}
use Rattle.smp_prob.proofs.Picks.{places-same, filter-same, length-places, size_at_place, sum-free, positive-split}

-- what a cut picks
module _ (n : ℕ) (sizes : List ℕ) (border low : ℕ) (cut : IsCut n sizes border low) where
  pub certain_places : places (λ z. not (nat_lt z border)) 0 sizes ≡ places (is_certain n sizes) 0 sizes
  certain_places = places-same (λ z. not (nat_lt z border)) (is_certain n sizes) 0 sizes (λ k. sym (certain_is n sizes border low cut k))

  pub free_places : places (λ z. nat_lt 0 z && nat_lt z border) 0 sizes ≡ places (is_free n sizes) 0 sizes
  free_places = places-same (λ z. nat_lt 0 z && nat_lt z border) (is_free n sizes) 0 sizes (λ k. sym (is_free_below n sizes border low cut k))

  pub sizes_below : filter (λ z. nat_lt 0 z && nat_lt z border) sizes ≡ free_sizes n sizes
  sizes_below = filter-same (λ z. nat_lt 0 z && nat_lt z border) (is_free n sizes) sizes (λ k. sym (is_free_below n sizes border low cut k))

module _ (n : ℕ) (sizes : List ℕ) where
  pub length-certain : length (places (is_certain n sizes) 0 sizes) ≡ certain_units n sizes
  length-certain = length-places (is_certain n sizes) 0 sizes

  length-free : length (free_sizes n sizes) ≡ length (places (is_free n sizes) 0 sizes)
  length-free = length-filter (is_free n sizes) sizes ∙ sym (length-places (is_free n sizes) 0 sizes)

  pub few_free : length (free_sizes n sizes) ≤ length sizes
  few_free = omega (arith, length-filter (is_free n sizes) sizes, count_by-le-length (is_free n sizes) sizes)

  sum-open : sum (free_sizes n sizes) ≡ open_total n sizes
  sum-open = sum-free (is_certain n sizes) sizes

  -- what holds of each free size
  each_free : (P : ℕ → Type 0) → ((k : ℕ) → k < length sizes → is_free n sizes (slice_index sizes k) ≡ true → P (slice_index sizes k)) → EachIndex (free_sizes n sizes) (λ i. P (slice_index (free_sizes n sizes) i))
  each_free P h i here =
      let each : All (λ z. is_free n sizes z ≡ true → P z) (free_sizes n sizes) = All-filter (is_free n sizes) (λ z. is_free n sizes z ≡ true → P z) sizes (All-from_get_or (λ z. is_free n sizes z ≡ true → P z) sizes 0 h) in
      All-get_or (λ z. is_free n sizes z ≡ true → P z) (free_sizes n sizes) i 0 here each (All-get_or (λ z. is_free n sizes z ≡ true) (free_sizes n sizes) i 0 here (filter_passes (is_free n sizes) sizes))

  pub free_positive : EachIndex (free_sizes n sizes) (λ i. 1 ≤ slice_index (free_sizes n sizes) i)
  free_positive = each_free (λ z. 1 ≤ z) (λ k here free. ltb-true _ _ (and_parts _ _ free).0)

  pub free_small : EachIndex sizes (λ i. slice_index sizes i < 2 ^ 31) → EachIndex (free_sizes n sizes) (λ i. slice_index (free_sizes n sizes) i < 2 ^ 31)
  free_small small = each_free (λ z. z < 2 ^ 31) (λ k here free. small k here)

  -- shape * r / total is n less the certain units, times the size, over the sum of the sizes that aren't certain
  pub in_proportion : EachIndex (requested_of sizes n).free (λ i. slice_index (requested_of sizes n).shape i * (requested_of sizes n).r * open_total n sizes ≡ (n - certain_units n sizes) * slice_index sizes (slice_index (requested_of sizes n).free i) * (requested_of sizes n).total)
  in_proportion i here =
      let size = size_at_place (is_free n sizes) (slice_index sizes) 0 sizes (λ j. ap (slice_index sizes) (omega arith)) i here in
      rw (← sum-open, ← size) (proportional (free_sizes n sizes) (n - certain_units n sizes) i (omega (arith, here, length-free)))

  pub nothing_left : n ≤ positive_units sizes → length (requested_of sizes n).free ≡ 0 → ((requested_of sizes n).r ≡ 0) × ((requested_of sizes n).total ≡ 0)
  nothing_left enough none = (
    omega (arith, enough, positive-split (is_certain n sizes) sizes refl, length-places (is_free n sizes) 0 sizes, none),
    empty (shape_of (free_sizes n sizes)) (length-shape_of (free_sizes n sizes) ∙ length-free ∙ none),
  )
    where
      empty : (xs : List ℕ) → length xs ≡ 0 → sum xs ≡ 0
      empty [] e = refl
      empty (x ∷ xs) e = absurd (omega (arith, e))

  pub IsRequest-requested_of : length sizes ≤ 200000 → EachIndex sizes (λ i. slice_index sizes i < 2 ^ 31) → IsFeasible n sizes → IsRequest (requested_of sizes n)
  IsRequest-requested_of few small feasible = record {
    few = omega (arith, few, few_free, length-free);
    paired = length-shape_of (free_sizes n sizes) ∙ length-free;
    positive = λ i within. shape_positive (free_sizes n sizes) i (here i within) (free_positive i (here i within));
    small = shape_small (free_sizes n sizes) (free_small small);
    narrow = sum_narrow (shape_of (free_sizes n sizes)) (omega (arith, few, few_free, length-shape_of (free_sizes n sizes))) (shape_small (free_sizes n sizes) (free_small small));
    drawn = λ some. each_free (λ z. 1 ≤ n - certain_units n sizes) (λ k l free. feasible.drawn k free) 0 (omega (arith, some, length-free));
    below_one = λ i within. shape_below (free_sizes n sizes) i (here i within) (n - certain_units n sizes) (rw sum-open (each_free (λ z. (n - certain_units n sizes) * z < open_total n sizes) (λ k l free. feasible.below_one k free) i (here i within)));
  }
    where
      here : (i : ℕ) → i < length (shape_of (free_sizes n sizes)) → i < length (free_sizes n sizes)
      here i within = omega (arith, within, length-shape_of (free_sizes n sizes))
