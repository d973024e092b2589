-- The numbers that pass a test, from one on.
use Rattle.std.proofs.Common.{◌≡◌, ℕ, suc, ◌+◌, ◌-◌, ◌<◌, Bool, true, false, List, [], ◌∷◌, ◌++◌, append_assoc, arith, refl, sym, ap, ◌∙◌}
use Rattle.std.specs.List.{filter, range_with_len}

module _ (p : ℕ → Bool) (n k : ℕ) (here : k < n) where
  left : n - k ≡ suc (n - (k + 1))
  left = omega arith

  -- one that passes is the first of them
  pub filter_here : p k ≡ true → filter p (range_with_len k (n - k)) ≡ k ∷ filter p (range_with_len (k + 1) (n - (k + 1)))
  filter_here passes = rw (left, passes) refl

  pub filter_next : p k ≡ false → filter p (range_with_len k (n - k)) ≡ filter p (range_with_len (k + 1) (n - (k + 1)))
  filter_next fails = rw (left, fails) refl

  -- so it may be put behind those before
  pub filter_moved : (front : List ℕ) → p k ≡ true → (front ++ k ∷ []) ++ filter p (range_with_len (k + 1) (n - (k + 1))) ≡ front ++ filter p (range_with_len k (n - k))
  filter_moved front passes =
      append_assoc front (k ∷ []) (filter p (range_with_len (k + 1) (n - (k + 1)))) ∙ ap (λ rest. front ++ rest) (sym (filter_here passes))
