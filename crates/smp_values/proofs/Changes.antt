-- Values with other numerators of one unit or of two units.
use Rattle.std.proofs.Common.{◌≡◌, ◌≢◌, ℕ, ◌+◌, ◌<◌, ◌≤◌, true, false, cond, List, length, get_or, set, refl, ◌∙◌, inl, inr, ◌⊎◌, arith, length-set}
use Rattle.std.specs.List.{count_by, sum, sum_by}
use Rattle.std.proofs.{lemmas.Bool.{cases_Bool, cases_eq}, lemmas.List.{get_or-set_same, get_or-set_other}, lemmas.List.Sums.{sum_by-set}}
use Rattle.smp_values.specs.Values.{fractional}

-- ---- one unit

module _ (xs : List ℕ) (i x : ℕ) (i_in : i < length xs) where
  pub one_within : (den k : ℕ) → x ≤ den → ((n : ℕ) → get_or xs n 0 ≤ den) → get_or (set xs i x) k 0 ≤ den
  one_within den k hx all =
      elim (cases_eq k i) [
        | inl e ↦ rw (e, get_or-set_same xs i x 0 i_in) hx
        | inr ni ↦ rw (get_or-set_other xs i k x 0 ni) (all k)
      ]

  pub one_falls : (den : ℕ) → fractional den (get_or xs i 0) ≡ true → fractional den x ≡ false → count_by (fractional den) (set xs i x) < count_by (fractional den) xs
  one_falls den h n =
      let f : ℕ → ℕ = λ a. cond (fractional den a) 1 0 in
      let was : f (get_or xs i 0) ≡ 1 = rw h refl in
      let now : f x ≡ 0 = rw n refl in
      let e : sum_by f (set xs i x) + f (get_or xs i 0) ≡ sum_by f xs + f x = sum_by-set f xs i x 0 i_in in
      omega arith

-- ---- two units

module _ (xs : List ℕ) (i j x y : ℕ) (ne : i ≢ j) (i_in : i < length xs) (j_in : j < length xs) where
  pub two_at_i : get_or (set (set xs i x) j y) i 0 ≡ x
  two_at_i = rw (get_or-set_other (set xs i x) j i y 0 ne) (get_or-set_same xs i x 0 i_in)

  pub two_at_j : get_or (set (set xs i x) j y) j 0 ≡ y
  two_at_j = get_or-set_same (set xs i x) j y 0 (simp length-set j_in)

  pub two_elsewhere : (k : ℕ) → k ≢ i → k ≢ j → get_or (set (set xs i x) j y) k 0 ≡ get_or xs k 0
  two_elsewhere k not_i not_j = get_or-set_other (set xs i x) j k y 0 not_j ∙ get_or-set_other xs i k x 0 not_i

  pub two_within : (den k : ℕ) → x ≤ den → y ≤ den → ((n : ℕ) → get_or xs n 0 ≤ den) → get_or (set (set xs i x) j y) k 0 ≤ den
  two_within den k hx hy all =
      elim (cases_eq k j) [
        | inl e ↦ rw (e, two_at_j) hy
        | inr not_j ↦ elim (cases_eq k i) [
          | inl e ↦ rw (e, two_at_i) hx
          | inr not_i ↦ rw (two_elsewhere k not_i not_j) (all k)
        ]
      ]

  -- the sum of f over all, after the change of two
  two_summed : (f : ℕ → ℕ) → sum_by f (set (set xs i x) j y) + f (get_or xs i 0) + f (get_or xs j 0) ≡ sum_by f xs + f x + f y
  two_summed f =
      let first : sum_by f (set xs i x) + f (get_or xs i 0) ≡ sum_by f xs + f x = sum_by-set f xs i x 0 i_in in
      let second : sum_by f (set (set xs i x) j y) + f (get_or (set xs i x) j 0) ≡ sum_by f (set xs i x) + f y = sum_by-set f (set xs i x) j y 0 (simp length-set j_in) in
      let kept : f (get_or (set xs i x) j 0) ≡ f (get_or xs j 0) = rw (get_or-set_other xs i j x 0 (λ e. ne (let same : i ≡ j = omega arith in same))) refl in
      omega arith

  pub two_total : x + y ≡ get_or xs i 0 + get_or xs j 0 → sum (set (set xs i x) j y) ≡ sum xs
  two_total same = omega (arith, two_summed (λ a. a))

  pub two_fall : (den : ℕ) → fractional den (get_or xs i 0) ≡ true → fractional den (get_or xs j 0) ≡ true → (fractional den x ≡ false) ⊎ (fractional den y ≡ false) → count_by (fractional den) (set (set xs i x) j y) < count_by (fractional den) xs
  two_fall den hi hj settles =
      let f : ℕ → ℕ = λ a. cond (fractional den a) 1 0 in
      let at_i : f (get_or xs i 0) ≡ 1 = rw hi refl in
      let at_j : f (get_or xs j 0) ≡ 1 = rw hj refl in
      let summed : count_by (fractional den) (set (set xs i x) j y) + f (get_or xs i 0) + f (get_or xs j 0) ≡ count_by (fractional den) xs + f x + f y = two_summed f in
      let most : (a : ℕ) → f a ≤ 1 = λ a. elim (cases_Bool (fractional den a)) [ inl e ↦ rw e (omega arith) | inr e ↦ rw e (omega arith) ] in
      let one : f x + f y ≤ 1 = elim settles [ inl e ↦ (let none : f x ≡ 0 = rw e refl in omega (arith, most y)) | inr e ↦ (let none : f y ≡ 0 = rw e refl in omega (arith, most x)) ] in
      omega arith
