-- Products of fractions, reduced across before they are multiplied.
use Rattle.std.proofs.{Common.{◌≡◌, ℕ, ◌*◌, ◌/◌, ◌<◌, ◌≤◌, arith, ap₂, sym, ◌∙◌, subst, mul-pos}, lemmas.Nat.Gcd.{IsGcd-swap}}
use Rattle.std.specs.Int.{IsGcd}
use Rattle.std.proofs.Math.Nat.{mul-div_cancel', mul-div_cancel_left}
use Rattle.smp_frac.specs.{declared.fractions.Frac.{Frac}, Divisors.{greatest_common_divisor}, Laws.Gcds.{greatest_from_IsGcd}}
use Rattle.smp_frac.specs.Laws.Coprime.{coprime_divisors, coprime_product, coprime_parts, quotient_divides, part_positive, divisor_positive, IsGcd-times}
use Rattle.smp_frac.specs.Laws.Lowest.{lowest_from_coprime, coprime_from_lowest, same_value}

-- g is what a and d have in common, and h what c and b have
module _ (a b c d g h : ℕ) (pb : 1 ≤ b) (pd : 1 ≤ d) (ab : IsGcd a b 1) (cd : IsGcd c d 1) (ad : IsGcd a d g) (cb : IsGcd c b h) where
  g_positive : 0 < g
  g_positive = divisor_positive a d g pd ad

  h_positive : 0 < h
  h_positive = divisor_positive c b h pb cb

  apart : IsGcd (a / g * (c / h)) (b / h * (d / g)) 1
  apart =
      let x : ℕ = a / g in
      let y : ℕ = c / h in
      let z : ℕ = b / h in
      let w : ℕ = d / g in
      let xz : IsGcd x z 1 = coprime_divisors a b x z (quotient_divides a g ad.0) (quotient_divides b h cb.1) ab in
      let yw : IsGcd y w 1 = coprime_divisors c d y w (quotient_divides c h cb.0) (quotient_divides d g ad.1) cd in
      let xw : IsGcd x w 1 = coprime_parts a d g g_positive ad in
      let yz : IsGcd y z 1 = coprime_parts c b h h_positive cb in
      let all : IsGcd (z * w) (x * y) 1 =
      coprime_product (z * w) x y (IsGcd-swap x (z * w) 1 (coprime_product x z w xz xw)) (IsGcd-swap y (z * w) 1 (coprime_product y z w yz yw)) in
      IsGcd-swap (z * w) (x * y) 1 all

  product-lowest : greatest_common_divisor (a / g * (c / h)) (b / h * (d / g)) ≡ 1
  product-lowest = lowest_from_coprime _ _ apart

  num_is : g * h * (a / g * (c / h)) ≡ a * c
  num_is =
      let x : ℕ = a / g in
      let y : ℕ = c / h in
      let e : g * h * (x * y) ≡ (g * x) * (h * y) = omega arith in e ∙ ap₂ (λ s t. s * t) (mul-div_cancel' g ad.0) (mul-div_cancel' h cb.0)

  den_is : g * h * (b / h * (d / g)) ≡ b * d
  den_is =
      let z : ℕ = b / h in
      let w : ℕ = d / g in
      let e : g * h * (z * w) ≡ (h * z) * (g * w) = omega arith in e ∙ ap₂ (λ s t. s * t) (mul-div_cancel' h cb.1) (mul-div_cancel' g ad.1)

  both_positive : 0 < g * h
  both_positive = mul-pos g_positive h_positive

  divisor_is : greatest_common_divisor (a * c) (b * d) ≡ g * h
  divisor_is =
      let N : ℕ → Type 0 = λ n. IsGcd n (b * d) (g * h) in
      let D : ℕ → Type 0 = λ m. IsGcd (g * h * (a / g * (c / h))) m (g * h) in
      sym (greatest_from_IsGcd (a * c) (b * d) (g * h) (subst N num_is (subst D den_is (IsGcd-times (g * h) _ _ both_positive apart))))

  product-num : a * c / greatest_common_divisor (a * c) (b * d) ≡ a / g * (c / h)
  product-num = ap₂ (λ n k. n / k) (sym num_is) divisor_is ∙ mul-div_cancel_left (a / g * (c / h)) both_positive

  product-den : b * d / greatest_common_divisor (a * c) (b * d) ≡ b / h * (d / g)
  product-den = ap₂ (λ n k. n / k) (sym den_is) divisor_is ∙ mul-div_cancel_left (b / h * (d / g)) both_positive

  product-value : a / g * (c / h) * (b * d) ≡ a * c * (b / h * (d / g))
  product-value =
      let e : a / g * (c / h) * (b * d) ≡ (a / g * d) * (c / h * b) = (let x : ℕ = a / g in let y : ℕ = c / h in let k : x * y * (b * d) ≡ (x * d) * (y * b) = omega arith in k) in
      let f : (a * (d / g)) * (c * (b / h)) ≡ a * c * (b / h * (d / g)) = (let w : ℕ = d / g in let z : ℕ = b / h in let k : (a * w) * (c * z) ≡ a * c * (z * w) = omega arith in k) in
      e ∙ ap₂ (λ s t. s * t) (same_value a d g ad.0 ad.1) (same_value c b h cb.0 cb.1) ∙ f

-- n / m is the product of p and q in lowest terms
pub record IsReducedProduct (p q : Frac) (n m : ℕ) : Type 0 where
  pub positive : 1 ≤ m
  pub lowest : greatest_common_divisor n m ≡ 1
  pub value : n * (p.den * q.den) ≡ p.num * q.num * m
  pub num : p.num * q.num / greatest_common_divisor (p.num * q.num) (p.den * q.den) ≡ n
  pub den : p.den * q.den / greatest_common_divisor (p.num * q.num) (p.den * q.den) ≡ m

pub reduced_product : (p q : Frac) (g h : ℕ) → IsGcd p.num q.den g → IsGcd q.num p.den h → IsReducedProduct p q (p.num / g * (q.num / h)) (p.den / h * (q.den / g))
reduced_product p q g h ad cb =
    let ab : IsGcd p.num p.den 1 = coprime_from_lowest p.num p.den p.lowest in
    let cd : IsGcd q.num q.den 1 = coprime_from_lowest q.num q.den q.lowest in
    record {
      positive = mul-pos (part_positive p.den h p.positive cb.1) (part_positive q.den g q.positive ad.1);
      lowest = product-lowest p.num p.den q.num q.den g h p.positive q.positive ab cd ad cb;
      value = product-value p.num p.den q.num q.den g h p.positive q.positive ab cd ad cb;
      num = product-num p.num p.den q.num q.den g h p.positive q.positive ab cd ad cb;
      den = product-den p.num p.den q.num q.den g h p.positive q.positive ab cd ad cb;
    }
