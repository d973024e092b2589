-- The order of the sizes doesn't matter.
use Rattle.std.proofs.Common.{◌≡◌, ℕ, ◌<◌, ◌≤◌, cond, nat_lt, List, length, get_or, arith, refl, sym, ◌∙◌}
use Rattle.std.specs.List.Sorted.{IsPermutation}
use Rattle.std.proofs.{lemmas.List.Sorted.{sum_by-IsPermutation, length_permutation}, lemmas.List.Sums.{count_by-le-length}}
use Rattle.smp_prob.specs.Requested.{is_certain, certain_units, positive_units, IsFalling, IsLeastCut, FirstAreCertain}
use Rattle.smp_prob.specs.Kept.Cuts.{border}
use Rattle.smp_prob.proofs.{Sizes.{each_order}, Cuts.{at_least, below, IsCut, certain_count, open_sum}}
use Rattle.smp_prob.proofs.Least.{least_cut, least_is, first_certain, is_cut, sums}

certain_order : (n : ℕ) (xs ys : List ℕ) → IsPermutation xs ys → (z : ℕ) → is_certain n ys z ≡ is_certain n xs z
certain_order n xs ys h z = rw (sum_by-IsPermutation (λ x. cond (nat_lt z x) 1 0) xs ys h, sum_by-IsPermutation (λ x. cond (nat_lt z x) 0 x) xs ys h) refl

positive_order : (xs ys : List ℕ) → IsPermutation xs ys → positive_units ys ≡ positive_units xs
positive_order xs ys h = sum_by-IsPermutation (λ x. cond (nat_lt 0 x) 1 0) xs ys h

pub long_order : (n : ℕ) (xs ys : List ℕ) → n ≤ positive_units xs → IsPermutation xs ys → n ≤ length ys
long_order n xs ys enough same = omega (arith, enough, count_by-le-length (nat_lt 0) xs, length_permutation xs ys same)

-- a least cut of the sizes in falling order is a cut of the sizes
module _ (n c : ℕ) (xs ys : List ℕ) (same : IsPermutation xs ys) (falling : IsFalling ys) (enough : n ≤ positive_units xs) (least : IsLeastCut n ys c) where
  cut : IsCut n ys (border c ys) (get_or ys c 0)
  cut = is_cut n c ys falling (rw (positive_order xs ys same) enough) least

  many : at_least ys (border c ys) ≡ at_least xs (border c ys)
  many = sum_by-IsPermutation (λ x. cond (nat_lt x (border c ys)) 0 1) xs ys same

  sum_below : below ys (border c ys) ≡ below xs (border c ys)
  sum_below = sum_by-IsPermutation (λ x. cond (nat_lt x (border c ys)) x 0) xs ys same

  pub cut_order : (b : ℕ) → b ≡ border c ys → IsCut n xs b (get_or ys c 0)
  cut_order b b_is = rw b_is record {
    within = rw (← many) cut.within;
    full = rw (← many, ← sum_below) cut.full;
    under = each_order (λ z. z < border c ys → z ≤ get_or ys c 0) xs ys same (λ h. omega arith) cut.under;
    light = rw (← many, ← sum_below) cut.light;
    positive = cut.positive;
  }

-- in any falling order of the sizes the units before the least cut are certain, and no others
pub first_are_certain : (n : ℕ) (sizes zs : List ℕ) → n ≤ positive_units sizes → IsPermutation sizes zs → IsFalling zs → FirstAreCertain n sizes zs
first_are_certain n sizes zs enough same falling =
    let many_enough : n ≤ positive_units zs = rw (positive_order sizes zs same) enough in
    let least = least_is n zs (long_order n sizes zs enough same) in
    let counts = sums n (least_cut n zs) zs falling many_enough least in
    let cut = cut_order n (least_cut n zs) sizes zs same falling enough least _ refl in
    let certain_is : certain_units n sizes ≡ least_cut n zs = certain_count n sizes _ _ cut ∙ sym (many n (least_cut n zs) sizes zs same falling enough least) ∙ counts.0 in
    record {
      least = rw certain_is least;
      certain = λ k. rw certain_is (sym (certain_order n sizes zs same (get_or zs k 0)) ∙ first_certain n (least_cut n zs) zs falling many_enough least k);
      left = rw certain_is (open_sum n sizes _ _ cut ∙ sym (sum_below n (least_cut n zs) sizes zs same falling enough least) ∙ counts.1);
    }
