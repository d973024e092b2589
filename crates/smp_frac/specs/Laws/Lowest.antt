-- Fractions in lowest terms.
use Rattle.std.proofs.Common.{◌≡◌, ℕ, ◌*◌, ◌/◌, ◌<◌, ◌≤◌, arith, sym, ap, ◌∙◌, subst, mul-pos}
use Rattle.std.specs.Int.{IsGcd}
use Rattle.std.proofs.lemmas.Nat.Gcd.{dvd_trans}
use Rattle.std.proofs.Math.Nat.{mul-div_cancel', pos_of_dvd_of_pos}
use Prim.Native.Nat.{◌∣◌}
use Rattle.smp_frac.specs.Divisors.{greatest_common_divisor}
use Rattle.smp_frac.specs.Laws.Gcds.{greatest_from_IsGcd, IsGcd-greatest_common_divisor}
use Rattle.smp_frac.specs.Laws.Coprime.{coprime_parts, coprime_over, divisor_positive, part_positive}

pub lowest_from_coprime : (n d : ℕ) → IsGcd n d 1 → greatest_common_divisor n d ≡ 1
lowest_from_coprime n d r = sym (greatest_from_IsGcd n d 1 r)

pub coprime_from_lowest : (n d : ℕ) → greatest_common_divisor n d ≡ 1 → IsGcd n d 1
coprime_from_lowest n d e = subst (λ (g : ℕ). IsGcd n d g) e (IsGcd-greatest_common_divisor n d)

pub lowest_parts : (n d g : ℕ) → 1 ≤ d → IsGcd n d g → greatest_common_divisor (n / g) (d / g) ≡ 1
lowest_parts n d g p r = lowest_from_coprime (n / g) (d / g) (coprime_parts n d g (divisor_positive n d g p r) r)

-- dividing both numbers by a common divisor leaves the value
pub same_value : (n d g : ℕ) → g ∣ n → g ∣ d → n / g * d ≡ n * (d / g)
same_value n d g gn gd =
    let x : ℕ = n / g in
    let y : ℕ = d / g in
    let en : g * x ≡ n = mul-div_cancel' g gn in
    let ed : g * y ≡ d = mul-div_cancel' g gd in
    let f : x * (g * y) ≡ (g * x) * y = omega arith in
    ap (λ z. x * z) (sym ed) ∙ f ∙ ap (λ z. z * y) en

-- n over part * d, reduced by what n has in common with a divisor of d
module _ (n part d common g : ℕ) (some : 1 ≤ d) (divides : common ∣ d) (r : IsGcd n common g) where
  pub over-divisor : 0 < g
  over-divisor = divisor_positive n common g (pos_of_dvd_of_pos divides some) r

  pub over-positive : 1 ≤ part → 1 ≤ part * (d / g)
  over-positive p = mul-pos p (part_positive d g some (dvd_trans g r.1 divides))

  pub over-lowest : IsGcd n part 1 → IsGcd n (d / common) 1 → greatest_common_divisor (n / g) (part * (d / g)) ≡ 1
  over-lowest apart rest = lowest_from_coprime (n / g) (part * (d / g)) (coprime_over n part d common g some divides apart rest r)

  pub over-value : n / g * (part * d) ≡ n * (part * (d / g))
  over-value =
      let x : ℕ = n / g in
      let y : ℕ = d / g in
      let e : x * (part * d) ≡ part * (x * d) = omega arith in
      let f : part * (n * y) ≡ n * (part * y) = omega arith in
      e ∙ ap (λ z. part * z) (same_value n d g r.0 (dvd_trans g r.1 divides)) ∙ f
