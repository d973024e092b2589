-- Numbers below a bound that pass a test, and the text of their lines.
use Rattle.std.proofs.Common.{◌≡◌, ℕ, zero, suc, ◌+◌, ◌-◌, ◌<◌, ◌≤◌, Bool, true, false, append_assoc, List, ◌∷◌, ◌++◌, length, get_or, arith, sym, ap, ◌∙◌, inl, inr}
use Rattle.std.specs.List.{filter, flat_map, range_with_len}
use Rattle.std.proofs.{lemmas.Bool.{cases_Bool}, lemmas.List.{append-nil}}
use Rattle.smp_split.proofs.Filters.{filter_here, filter_next}

-- ---- a text of the numbers that pass a test

module _ (line : ℕ → List ℕ) (p : ℕ → Bool) (n : ℕ) where
  -- the text of those from one on
  abbrev pub lines_from : ℕ → List ℕ
  lines_from k = flat_map line (filter p (range_with_len k (n - k)))

  module _ (i : ℕ) (old whole : List ℕ) where
    pub line_more : i < n → p i ≡ true → (new : List ℕ) → new ≡ old ++ line i → old ++ lines_from i ≡ whole → new ++ lines_from (i + 1) ≡ whole
    line_more here passes new adds so_far =
        ap (λ t. t ++ lines_from (i + 1)) adds ∙ append_assoc old (line i) (lines_from (i + 1)) ∙ ap (λ ks. old ++ flat_map line ks) (sym (filter_here p n i here passes)) ∙ so_far

    pub line_passed : i < n → p i ≡ false → old ++ lines_from i ≡ whole → old ++ lines_from (i + 1) ≡ whole
    line_passed here fails so_far = ap (λ ks. old ++ flat_map line ks) (sym (filter_next p n i here fails)) ∙ so_far

    pub lines_all : n ≤ i → old ++ lines_from i ≡ whole → old ≡ whole
    lines_all ended so_far =
        let none : n - i ≡ 0 = omega (arith, ended) in
        sym (append-nil old) ∙ ap (λ m. old ++ flat_map line (filter p (range_with_len i m))) (sym none) ∙ so_far

-- ---- the numbers below a bound that pass a test

module _ (p : ℕ → Bool) (d : ℕ) where
  -- one of them is below the bound, and passes
  abbrev Passes : ℕ → ℕ → Type 0
  Passes bound k = (k < bound) × (p k ≡ true)

  first : (rest : List ℕ) (bound from i : ℕ) → from < bound → p from ≡ true → ((j : ℕ) → j < length rest → Passes bound (get_or rest j d)) → i < length (from ∷ rest) → Passes bound (get_or (from ∷ rest) i d)
  first rest bound from zero here passes others within = (here, passes)
  first rest bound from (suc i) here passes others within = others i (omega (arith, within))

  pub passing : (from len i : ℕ) → i < length (filter p (range_with_len from len)) → Passes (from + len) (get_or (filter p (range_with_len from len)) i d)
  passing from zero i within = absurd (omega (arith, within))
  passing from (suc len) i within =
      let others : (j : ℕ) → j < length (filter p (range_with_len (from + 1) len)) → Passes (from + suc len) (get_or (filter p (range_with_len (from + 1) len)) j d) =
      λ j below. let there = passing (from + 1) len j below in (omega (arith, there.0), there.1) in
      elim (cases_Bool (p from)) [
        | inl e ↦ rw e (first (filter p (range_with_len (from + 1) len)) (from + suc len) from i (omega arith) e others (rw e at within))
        | inr e ↦ rw e (others i (rw e at within))
      ]
