-- A mask, unit by unit.
use Rattle.std.proofs.{Common.{◌≡◌, ℕ, suc, ◌+◌, ◌-◌, ◌^◌, ◌<◌, Bool, true, false, arith, sym, ap, ◌∙◌}, Math.Nat.{pow-suc}}
use Rattle.std.specs.List.{filter, range_with_len}
use Rattle.std.proofs.lemmas.List.Sums.{sum_by-cons}
use Rattle.smp_split.proofs.Filters.{filter_here, filter_next}
use Rattle.smp_cases.specs.Cases.{mask}

module _ (test : ℕ → Bool) (n k m whole : ℕ) (here : k < n) (so_far : m + mask (filter test (range_with_len k (n - k))) ≡ whole) where
  abbrev rest : ℕ
  rest = mask (filter test (range_with_len (k + 1) (n - (k + 1))))

  -- a unit that is selected adds its bit
  pub mask_with : (selected : Bool) → selected ≡ test k → selected ≡ true → m + 2 ^ k + rest ≡ whole
  mask_with selected is with_it =
      let passes : test k ≡ true = sym is ∙ with_it in
      let first : mask (filter test (range_with_len k (n - k))) ≡ 2 ^ k + rest = ap mask (filter_here test n k here passes) ∙ sum_by-cons (λ unit. 2 ^ unit) k (filter test (range_with_len (k + 1) (n - (k + 1)))) in
      omega (arith, first, so_far)

  pub mask_without : (selected : Bool) → selected ≡ test k → selected ≡ false → m + rest ≡ whole
  mask_without selected is without =
      let fails : test k ≡ false = sym is ∙ without in
      let same : mask (filter test (range_with_len k (n - k))) ≡ rest = ap mask (filter_next test n k here fails) in
      omega (arith, same, so_far)

-- ---- the bits below a place

double : (k : ℕ) → 2 ^ (k + 1) ≡ 2 ^ k + 2 ^ k
double k = let next : k + 1 ≡ suc k = omega arith in let twice = pow-suc 2 k in ap (λ n. 2 ^ n) next ∙ omega (arith, twice)

pub bits_with : (k m : ℕ) → m < 2 ^ k → m + 2 ^ k < 2 ^ (k + 1)
bits_with k m small = omega (arith, double k, small)

pub bits_without : (k m : ℕ) → m < 2 ^ k → m < 2 ^ (k + 1)
bits_without k m small = omega (arith, double k, small)
