-- Fractions of the same value have the same text.
use Rattle.std.proofs.{Common.{◌≡◌, ℕ, suc, ◌*◌, ◌/◌, ◌≤◌, ◌++◌, ℤ, pos, negsuc, arith, ap, mul-pos}, Math.Nat.{mul-div_cancel'}}
use Rattle.std.specs.{Prelude.{codes}, Fmt.{decimal}, Int.{IsGcd}}
use Rattle.std.proofs.lemmas.Int.{ints}
use Rattle.smp_frac.specs.{Fractions.{Fraction, Same, positive_product}, declared.fractions.Frac.{Frac}, Divisors.{greatest_common_divisor}}
use Rattle.smp_frac.proofs.{Arithmetic.{cancel}, Unique.{same_fraction}}
use Rattle.smp_frac.specs.{Exact.{lowest_text, fraction_text}, Laws.Coprime.{divisor_positive, part_positive}, Laws.Lowest.{lowest_parts}}
use Rattle.smp_frac.specs.Laws.Gcds.{IsGcd-greatest_common_divisor}

-- n over d in lowest terms
lowest : (n d : ℕ) → 1 ≤ d → Frac
lowest n d some =
    let divides = IsGcd-greatest_common_divisor n d in
    record {
      num = n / greatest_common_divisor n d;
      den = d / greatest_common_divisor n d;
      positive = part_positive d (greatest_common_divisor n d) some divides.1;
      lowest = lowest_parts n d (greatest_common_divisor n d) some divides;
    }

parts_cross : (g h x y m e : ℕ) → 1 ≤ g * h → (g * x) * (h * e) ≡ (h * m) * (g * y) → x * e ≡ m * y
parts_cross g h x y m e some cross = cancel (x * e) (m * y) (g * h) some (omega (arith, cross))

lowest_text-same : (n d m e : ℕ) → 1 ≤ d → 1 ≤ e → n * e ≡ m * d → lowest_text n d ≡ lowest_text m e
unfolding lowest
lowest_text-same n d m e some also cross =
    let g : ℕ = greatest_common_divisor n d in
    let h : ℕ = greatest_common_divisor m e in
    let first : IsGcd n d g = IsGcd-greatest_common_divisor n d in
    let second : IsGcd m e h = IsGcd-greatest_common_divisor m e in
    let n_is : g * (n / g) ≡ n = mul-div_cancel' g first.0 in
    let d_is : g * (d / g) ≡ d = mul-div_cancel' g first.1 in
    let m_is : h * (m / h) ≡ m = mul-div_cancel' h second.0 in
    let e_is : h * (e / h) ≡ e = mul-div_cancel' h second.1 in
    let both : (g * (n / g)) * (h * (e / h)) ≡ (h * (m / h)) * (g * (d / g)) = rw (n_is, d_is, m_is, e_is) cross in
    let positive : 1 ≤ g * h = mul-pos (divisor_positive n d g some first) (divisor_positive m e h also second) in
    ap (λ (f : Frac). decimal f.num ++ codes "/" ++ decimal f.den)
    (same_fraction (lowest n d some) (lowest m e also) (parts_cross g h (n / g) (d / g) (m / h) (e / h) positive both))

pub fraction_text-same : (a b : Fraction) → Same a b → fraction_text a ≡ fraction_text b
fraction_text-same a b same = by_signs a.num b.num a.den b.den a.positive b.positive same
  where
    by_signs : (y z : ℤ) (d e : ℕ) (h : 1 ≤ d) (k : 1 ≤ e) → Same (record { num = y; den = d; positive = h }) (record { num = z; den = e; positive = k })
        → fraction_text (record { num = y; den = d; positive = h }) ≡ fraction_text (record { num = z; den = e; positive = k })
    by_signs (pos m) (pos n) d e h k same = lowest_text-same m d n e h k (omega (arith, ints, same.cross))
    by_signs (pos m) (negsuc n) d e h k same = absurd (omega (arith, ints, same.cross, positive_product (suc n) d (omega arith) h))
    by_signs (negsuc m) (pos n) d e h k same = absurd (omega (arith, ints, same.cross, positive_product (suc m) e (omega arith) k))
    by_signs (negsuc m) (negsuc n) d e h k same = ap (λ t. codes "-" ++ t) (lowest_text-same (suc m) d (suc n) e h k (omega (arith, ints, same.cross)))
