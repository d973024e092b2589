-- Sums and differences of fractions over the least common multiple of their denominators.
use Rattle.std.proofs.{Common.{◌≡◌, ℕ, ◌+◌, ◌*◌, ◌/◌, ◌≤◌, pos, arith, ap, sym, ◌∙◌, subst, inl, inr, mul_comm}, lemmas.Bool.{cases_lt}}
use Rattle.std.specs.Int.{IsGcd, abs_diff}
use Rattle.std.proofs.{lemmas.Nat.Gcd.{IsGcd-swap}, Math.Nat.{mul-div_cancel', dvd-add}}
use Prim.Native.Nat.{◌∣◌}
use Rattle.smp_frac.specs.{Fractions.{Same, positive_product, over, plus}, Exact.{fraction}, Laws.Lowest.{coprime_from_lowest, same_value}}
use Rattle.smp_frac.proofs.Over.{cross_from_over}
use Rattle.smp_frac.specs.{Laws.Coprime.{part_positive, terms_apart, dvd_first, dvd_second}, declared.fractions.Frac.{Frac}}

-- the numerator of a sum has no divisor in common with what the denominators have beside their own
sum_apart : (a b c d g : ℕ) → 1 ≤ d → IsGcd a b 1 → IsGcd b d g → IsGcd (a * (d / g) + c * (b / g)) (b / g) 1
sum_apart a b c d g pd ab bd = terms_apart a b c d g _ pd ab bd (λ k kn ky. dvd_first _ _ k kn ky)

sum_rest_apart : (a b c d g : ℕ) → 1 ≤ b → IsGcd c d 1 → IsGcd b d g → IsGcd (a * (d / g) + c * (b / g)) (d / g) 1
sum_rest_apart a b c d g pb cd bd = terms_apart c d a b g _ pb cd (IsGcd-swap b d g bd) (λ k kn kx. dvd_second _ _ k kn kx)

sum_scaled : (a c x y g n m : ℕ) → n * (x * (g * y)) ≡ (a * y + c * x) * m → n * (g * x * (g * y)) ≡ (a * (g * y) + c * (g * x)) * m
sum_scaled a c x y g n m h = omega (arith, ap (λ z. g * z) h)

-- a sum over the least common multiple, and over the product of the denominators
sum_value : (a b c d g n m : ℕ) → g ∣ b → g ∣ d → n * (b / g * d) ≡ (a * (d / g) + c * (b / g)) * m → n * (b * d) ≡ (a * d + c * b) * m
sum_value a b c d g n m gb gd h =
    let x : ℕ = b / g in
    let y : ℕ = d / g in
    let eb : g * x ≡ b = mul-div_cancel' g gb in
    let ed : g * y ≡ d = mul-div_cancel' g gd in
    let H : ℕ → Type 0 = λ z. n * (x * z) ≡ (a * y + c * x) * m in
    let s = sum_scaled a c x y g n m (subst H (sym ed) h) in
    let B : ℕ → Type 0 = λ z. n * (z * (g * y)) ≡ (a * (g * y) + c * z) * m in
    let D : ℕ → Type 0 = λ z. n * (b * z) ≡ (a * z + c * b) * m in
    subst D ed (subst B eb s)

-- a divisor of a difference and of one of its terms divides the other
dvd_other : (x y k : ℕ) → k ∣ abs_diff x y → k ∣ y → k ∣ x
dvd_other x y k h ky =
    let P : ℕ → Type 0 = λ z. k ∣ z in
    elim (cases_lt x y) [
      | inl l ↦ (let e : y ≡ x + abs_diff x y = omega arith in dvd_first x (abs_diff x y) k (subst P e ky) h)
      | inr m ↦ (let e : abs_diff x y + y ≡ x = omega arith in subst P e (dvd-add k h ky))
    ]

difference_apart : (a b c d g : ℕ) → 1 ≤ d → IsGcd a b 1 → IsGcd b d g → IsGcd (abs_diff (a * (d / g)) (c * (b / g))) (b / g) 1
difference_apart a b c d g pd ab bd = terms_apart a b c d g _ pd ab bd (λ k kn ky. dvd_other (a * (d / g)) (c * (b / g)) k kn ky)

difference_rest_apart : (a b c d g : ℕ) → 1 ≤ b → IsGcd c d 1 → IsGcd b d g → IsGcd (abs_diff (a * (d / g)) (c * (b / g))) (d / g) 1
difference_rest_apart a b c d g pb cd bd =
    let x : ℕ = a * (d / g) in
    let y : ℕ = c * (b / g) in
    let P : ℕ → Type 0 = λ z. IsGcd z (d / g) 1 in
    let e : abs_diff y x ≡ abs_diff x y = omega arith in
    subst P e (difference_apart c d a b g pb cd (IsGcd-swap b d g bd))

difference_scaled : (a c x y g n m s : ℕ) → n * (x * (g * y)) ≡ s * m → s + c * x ≡ a * y → a * (g * y * m) ≡ (c * m + n * (g * y)) * (g * x)
difference_scaled a c x y g n m s h k = omega (arith, ap (λ z. g * z) h, ap (λ z. g * m * z) k)

-- a / b is the sum of c / d and of what a * (d / g) is above c * (b / g)
pub difference_value : (a b c d g n m s : ℕ) → g ∣ b → g ∣ d → n * (b / g * d) ≡ s * m → s + c * (b / g) ≡ a * (d / g) → a * (d * m) ≡ (c * m + n * d) * b
difference_value a b c d g n m s gb gd h k =
    let x : ℕ = b / g in
    let y : ℕ = d / g in
    let eb : g * x ≡ b = mul-div_cancel' g gb in
    let ed : g * y ≡ d = mul-div_cancel' g gd in
    let H : ℕ → Type 0 = λ z. n * (x * z) ≡ s * m in
    let B : ℕ → Type 0 = λ z. a * (g * y * m) ≡ (c * m + n * (g * y)) * z in
    let D : ℕ → Type 0 = λ z. a * (z * m) ≡ (c * m + n * z) * b in
    subst D ed (subst B eb (difference_scaled a c x y g n m s (subst H (sym ed) h) k))

-- the same of c / d, where c * (b / g) is the greater one
pub difference_value_below : (a b c d g n m s : ℕ) → g ∣ b → g ∣ d → n * (b / g * d) ≡ s * m → s + a * (d / g) ≡ c * (b / g) → c * (b * m) ≡ (a * m + n * b) * d
difference_value_below a b c d g n m s gb gd h k =
    let P : ℕ → Type 0 = λ z. n * z ≡ s * m in
    difference_value c d a b g n m s gd gb (subst P (same_value b d g gb gd ∙ mul_comm b (d / g)) h) k

-- of two fractions in lowest terms

module _ (p q : Frac) {common : ℕ} (is : IsGcd p.den q.den common) where
  pub terms_sum_apart : IsGcd (p.num * (q.den / common) + q.num * (p.den / common)) (p.den / common) 1
  terms_sum_apart = sum_apart p.num p.den q.num q.den common q.positive (coprime_from_lowest p.num p.den p.lowest) is

  pub terms_sum_rest_apart : IsGcd (p.num * (q.den / common) + q.num * (p.den / common)) (q.den / common) 1
  terms_sum_rest_apart = sum_rest_apart p.num p.den q.num q.den common p.positive (coprime_from_lowest q.num q.den q.lowest) is

  pub terms_difference_apart : IsGcd (abs_diff (p.num * (q.den / common)) (q.num * (p.den / common))) (p.den / common) 1
  terms_difference_apart = difference_apart p.num p.den q.num q.den common q.positive (coprime_from_lowest p.num p.den p.lowest) is

  pub terms_difference_rest_apart : IsGcd (abs_diff (p.num * (q.den / common)) (q.num * (p.den / common))) (q.den / common) 1
  terms_difference_rest_apart = difference_rest_apart p.num p.den q.num q.den common p.positive (coprime_from_lowest q.num q.den q.lowest) is

  -- what has that value over the least common denominator is the sum
  pub is_sum : (f : Frac) → Same (fraction f) (over (p.num * (q.den / common) + q.num * (p.den / common)) (p.den / common * q.den)) → Same (fraction f) (plus (fraction p) (fraction q))
  is_sum f same =
      let some = positive_product (p.den / common) q.den (part_positive _ _ p.positive is.0) q.positive in
      record { cross = ap pos (sum_value p.num p.den q.num q.den common f.num f.den is.0 is.1 (cross_from_over f.num _ _ f.den f.positive some same)) }
