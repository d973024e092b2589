-- The sum of the values, where they are numerators over one denominator.
use Rattle.std.proofs.Common.{◌≡◌, ℕ, zero, suc, ◌+◌, ◌*◌, ◌<◌, ◌≤◌, List, length, get_or, arith, refl, sym, ap, ◌∙◌}
use Rattle.std.specs.List.{sum, sum_by, range_with_len}
use Rattle.std.proofs.{lemmas.List.Sorted.{sum_by-IsPermutation}, lemmas.List.Sums.{sum_by-cons}}
use Rattle.smp_frac.specs.Fractions.{Same, positive_one, whole, plus, times, over, sum_below}
use Rattle.smp_frac.proofs.Arithmetic.{same_refl, same_sym, same_trans, plus_same, one-times, sum_same}
use Rattle.smp_frac.proofs.Over.{zero-over, over_plus, over_from_cross, cross_from_over}
use Rattle.smp_split.specs.{Counts.{AddsUp}, Means.{value_sum}, Orders.{Placing, Ordered, IsPlacing, ordered_tree}, Trees.{Tree}}
use Rattle.smp_split.proofs.{Counts.{sum_by-indices}, Orders.{length_places}}

-- ---- sums of numbers

-- a sum over the places of all units is one over the places
sum_by-places : (f : ℕ → ℕ) (units : ℕ) (order : Placing) → IsPlacing units order → sum_by (λ unit. f (get_or order.places unit 0)) (range_with_len 0 units) ≡ sum_by f (range_with_len 0 units)
sum_by-places f units order is =
    sum_by-indices f order.places 0 units (length_places units order is) ∙ sum_by-IsPermutation f (range_with_len 0 units) order.places is.permuted

-- the last of the numbers from i on
pub sum_by-last : (n i : ℕ) (f : ℕ → ℕ) → sum_by f (range_with_len i (suc n)) ≡ sum_by f (range_with_len i n) + f (i + n)
sum_by-last zero i f = let none : i + 0 ≡ i = omega arith in omega (arith, sum_by-cons f i (range_with_len (i + 1) 0), ap f none)
sum_by-last (suc n) i f =
    let next : i + 1 + n ≡ i + suc n = omega arith in
    omega (arith, sum_by-cons f i (range_with_len (i + 1) (suc n)), sum_by-cons f i (range_with_len (i + 1) n), sum_by-last n (i + 1) f, ap f next)

-- ---- sums of fractions over one denominator

plus-over : (a b d : ℕ) → Same (plus (over a d) (over b d)) (over (a + b) d)
plus-over a b d =
    let one : 1 * a + b ≡ a + b = omega arith in
    same_trans (plus_same (same_sym (one-times (over a d))) (same_refl (over b d))) (rw (← one) (over_plus 1 a b d))

-- the sum over the numbers below n of a numerator over d is the sum of the numerators over d
pub sum-over : (f : ℕ → ℕ) (d n : ℕ) → Same (sum_below n (λ k. over (f k) d)) (over (sum_by f (range_with_len 0 n)) d)
sum-over f d zero = zero-over d
sum-over f d (suc n) =
    let none : 0 + n ≡ n = omega arith in
    let last : sum_by f (range_with_len 0 (suc n)) ≡ sum_by f (range_with_len 0 n) + f n = sum_by-last n 0 f ∙ ap (λ k. sum_by f (range_with_len 0 n) + f k) none in
    rw last (same_trans (plus_same (sum-over f d n) (same_refl (over (f n) d))) (plus-over (sum_by f (range_with_len 0 n)) (f n) d))

-- in particular, over the elements of a list
pub sum-over_list : (xs : List ℕ) (d : ℕ) → Same (sum_below (length xs) (λ k. over (get_or xs k 0) d)) (over (sum xs) d)
sum-over_list xs d = rw (← sum_by-indices (λ x. x) xs 0 (length xs) refl) (sum-over (λ k. get_or xs k 0) d (length xs))

-- a numerator over d is whole where it is a multiple of d
over_whole : (m n d : ℕ) → 1 ≤ d → m ≡ n * d → Same (over m d) (whole n)
over_whole m n d one is = let once : m * 1 ≡ m = omega arith in same_sym (over_from_cross n m d 1 positive_one one (sym (once ∙ is)))

whole_over : (m n d : ℕ) → 1 ≤ d → Same (over m d) (whole n) → m ≡ n * d
whole_over m n d one same = omega (arith, cross_from_over n m d 1 positive_one one (same_sym same))

-- ---- the values of a state

-- where the value of each unit k is f k over d, the values add up to n exactly where the numerators add up to n * d
module _ {State : Type 0} (tree : Tree State) (state : State) (f : ℕ → ℕ) (d : ℕ) (one : 1 ≤ d) (values : (k : ℕ) → k < tree.units → Same (tree.value state k) (over (f k) d)) where
  pub value_sum-over : Same (value_sum tree (λ _. whole 1) state) (over (sum_by f (range_with_len 0 tree.units)) d)
  value_sum-over =
      same_trans (sum_same tree.units (λ k. times (whole 1) (tree.value state k)) (λ k. over (f k) d) (λ k h. same_trans (one-times (tree.value state k)) (values k h)))
      (sum-over f d tree.units)

  pub adds_up : (n : ℕ) → sum_by f (range_with_len 0 tree.units) ≡ n * d → AddsUp tree n state
  adds_up n is = same_trans value_sum-over (over_whole _ n d one is)

  pub numerators_add : (n : ℕ) → AddsUp tree n state → sum_by f (range_with_len 0 tree.units) ≡ n * d
  numerators_add n adds = whole_over _ n d one (same_trans (same_sym value_sum-over) adds)

-- the same, where the numerators are a list
module _ {State : Type 0} (tree : Tree State) (state : State) (xs : List ℕ) (d : ℕ) (one : 1 ≤ d) (count : length xs ≡ tree.units) (values : (k : ℕ) → k < tree.units → Same (tree.value state k) (over (get_or xs k 0) d)) where
  pub list_sum : Same (value_sum tree (λ _. whole 1) state) (over (sum xs) d)
  list_sum = rw (← sum_by-indices (λ x. x) xs 0 tree.units count) (value_sum-over tree state (λ k. get_or xs k 0) d one values)

  pub list_adds_up : (n : ℕ) → sum xs ≡ n * d → AddsUp tree n state
  list_adds_up n is = adds_up tree state (λ k. get_or xs k 0) d one values n (sum_by-indices (λ x. x) xs 0 tree.units count ∙ is)

  pub list_adds : (n : ℕ) → AddsUp tree n state → sum xs ≡ n * d
  list_adds n adds = sym (sum_by-indices (λ x. x) xs 0 tree.units count) ∙ numerators_add tree state (λ k. get_or xs k 0) d one values n adds

-- in any order of the places the values add up to what those of the places do
module _ {State : Type 0} (tree : Tree State) (exchanged : ℕ → ℕ → State → State) (s : Ordered State) (placing : IsPlacing tree.units s.order) (xs : List ℕ) (d : ℕ) (one : 1 ≤ d) (count : length xs ≡ tree.units) (values : (k : ℕ) → Same (tree.value s.state k) (over (get_or xs k 0) d)) where
  placed_sum : sum_by (λ unit. get_or xs (get_or s.order.places unit 0) 0) (range_with_len 0 tree.units) ≡ sum xs
  placed_sum = sum_by-places (λ place. get_or xs place 0) tree.units s.order placing ∙ sum_by-indices (λ x. x) xs 0 tree.units count

  pub ordered_sum : Same (value_sum (ordered_tree tree exchanged) (λ _. whole 1) s) (over (sum xs) d)
  ordered_sum = rw (← placed_sum) (value_sum-over (ordered_tree tree exchanged) s (λ unit. get_or xs (get_or s.order.places unit 0) 0) d one (λ unit h. values (get_or s.order.places unit 0)))

  pub ordered_adds_up : (n : ℕ) → sum xs ≡ n * d → AddsUp (ordered_tree tree exchanged) n s
  ordered_adds_up n is =
      adds_up (ordered_tree tree exchanged) s (λ unit. get_or xs (get_or s.order.places unit 0) 0) d one (λ unit h. values (get_or s.order.places unit 0)) n (placed_sum ∙ is)

-- where there are no units, the values add up to 0
pub none_adds_up : {State : Type 0} (tree : Tree State) (state : State) → tree.units ≡ 0 → AddsUp tree 0 state
none_adds_up tree state none = rw none (same_refl (whole 0))
