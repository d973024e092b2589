-- Each value has one fraction.
use Rattle.std.proofs.{Common.{◌≡◌, ◌↔◌, ℕ, ◌*◌, ◌≤◌, arith, sym, ap, ap₂, ◌∙◌, subst}, Props.{props}, lemmas.Bool.Decides.{nat_tests}}
use Rattle.std.proofs.{lemmas.Int.{ints}, lemmas.Nat.Gcd.{IsGcd-swap, dvd_antisymm}, Math.Nat.{dvd-mul_left, mul-div_cancel}}
use Rattle.std.specs.{Ordering.{nat_cmp}, declared.cmp.Ordering.{Ordering}, declared.cmp.Ordering.TheVariants.{Equal}, Int.{IsGcd}}
use Prim.Native.Nat.{◌∣◌, ◌/◌}
use Rattle.smp_frac.specs.{declared.fractions.Frac.{Frac}, Fractions.{Same}, Divisors.{greatest_common_divisor}, Exact.{fraction}}
use Rattle.smp_frac.specs.{Laws.Coprime.{dvd_of_coprime}, Laws.Lowest.{coprime_from_lowest}}

abbrev lowest : (n d : ℕ) → 1 ≤ d → greatest_common_divisor n d ≡ 1 → Frac
lowest n d p r = record { num = n; den = d; positive = p; lowest = r }

same_numbers : (n d : ℕ) (p q : 1 ≤ d) (r s : greatest_common_divisor n d ≡ 1) → lowest n d p r ≡ lowest n d q s
same_numbers n d p q r s =
    let one : IsProp (1 ≤ d) = hlevel props in
    let two : IsProp (greatest_common_divisor n d ≡ 1) = hlevel props in
    ap₂ (λ a b. lowest n d a b) (one p q) (two r s)

same_den : (n d k : ℕ) → d ≡ k → (p : 1 ≤ d) (q : 1 ≤ k) (r : greatest_common_divisor n d ≡ 1) (s : greatest_common_divisor n k ≡ 1) → lowest n d p r ≡ lowest n k q s
same_den n d k e =
    subst (λ (k : ℕ). (p : 1 ≤ d) (q : 1 ≤ k) (r : greatest_common_divisor n d ≡ 1) (s : greatest_common_divisor n k ≡ 1) → lowest n d p r ≡ lowest n k q s) e (same_numbers n d)

same_fields : (n m d k : ℕ) → n ≡ m → d ≡ k → (p : 1 ≤ d) (q : 1 ≤ k) (r : greatest_common_divisor n d ≡ 1) (s : greatest_common_divisor m k ≡ 1) → lowest n d p r ≡ lowest m k q s
same_fields n m d k e f =
    subst (λ (m : ℕ). (p : 1 ≤ d) (q : 1 ≤ k) (r : greatest_common_divisor n d ≡ 1) (s : greatest_common_divisor m k ≡ 1) → lowest n d p r ≡ lowest m k q s) e (same_den n d k f)

den_divides : (p q : Frac) → p.num * q.den ≡ q.num * p.den → p.den ∣ q.den
den_divides p q h =
    let r : IsGcd p.den p.num 1 = IsGcd-swap p.num p.den 1 (coprime_from_lowest p.num p.den p.lowest) in
    dvd_of_coprime p.den p.num q.den r (let P : ℕ → Type 0 = λ x. p.den ∣ x in subst P (sym h) (dvd-mul_left p.den q.num))

-- two fractions with equal cross products are one
pub same_fraction : (p q : Frac) → p.num * q.den ≡ q.num * p.den → p ≡ q
same_fraction p q h =
    let d : p.den ≡ q.den = dvd_antisymm (den_divides p q h) (den_divides q p (sym h)) in
    let e : p.num * p.den ≡ q.num * p.den = ap (λ x. p.num * x) d ∙ h in
    let n : p.num ≡ q.num = sym (mul-div_cancel p.num p.positive) ∙ ap (λ x. x / p.den) e ∙ mul-div_cancel q.num p.positive in
    same_fields p.num q.num p.den q.den n d p.positive q.positive p.lowest q.lowest

-- and so are two of the same value
pub same_frac : (p q : Frac) → Same (fraction p) (fraction q) → p ≡ q
same_frac p q same = same_fraction p q (omega (arith, ints, same.cross))

equal_numbers : (x y : ℕ) → nat_cmp x y ≡ Equal → x ≡ y
equal_numbers x y h = grind (arith, nat_tests)

same_compares_equal : (x : ℕ) → nat_cmp x x ≡ Equal
same_compares_equal x = grind (arith, nat_tests)

-- so those that compare as equal are one
pub equal_is_same : (p q : Frac) (r : Ordering) → r ≡ nat_cmp (p.num * q.den) (q.num * p.den) → (r ≡ Equal) ↔ (p ≡ q)
equal_is_same p q r e = (
  (λ h. same_fraction p q (equal_numbers (p.num * q.den) (q.num * p.den) (sym e ∙ h))),
  (λ h. e ∙ subst (λ (f : Frac). nat_cmp (p.num * f.den) (f.num * p.den) ≡ Equal) h (same_compares_equal (p.num * p.den))),
)
