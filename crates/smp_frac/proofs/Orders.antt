-- How the cross products of two fractions compare, by their whole parts and remainders.
use Rattle.std.proofs.Common.{◌≡◌, ◌≢◌, ◌↔◌, ℕ, ◌+◌, ◌*◌, ◌/◌, ◌%◌, ◌<◌, ◌≤◌, arith, sym, ap, ◌∙◌, inl, inr, mul-le-mul_right, mul-pos}
use Rattle.std.proofs.{lemmas.Bool.{cases_eq, cases_lt}, lemmas.Int.{ints}, lemmas.Bool.Decides.{nat_tests}}
use Rattle.std.specs.{Ordering.{nat_cmp, ordering_then}, declared.cmp.Ordering.{Ordering}}
use Rattle.std.specs.declared.cmp.Ordering.TheVariants.{Less, Equal, Greater}
use Rattle.smp_frac.specs.{Fractions.{AtMost}, declared.fractions.Frac.{Frac}, Exact.{fraction}}

nat_cmp_less : (x y : ℕ) → x < y → nat_cmp x y ≡ Less
nat_cmp_less x y h = grind (arith, nat_tests)

nat_cmp_equal : (x y : ℕ) → x ≡ y → nat_cmp x y ≡ Equal
nat_cmp_equal x y h = grind (arith, nat_tests)

nat_cmp_greater : (x y : ℕ) → y < x → nat_cmp x y ≡ Greater
nat_cmp_greater x y h = grind (arith, nat_tests)

nat_cmp_plus : (k x y : ℕ) → nat_cmp (k + x) (k + y) ≡ nat_cmp x y
nat_cmp_plus k x y =
    elim (cases_lt x y) [
      | inl l ↦ nat_cmp_less (k + x) (k + y) (omega arith) ∙ sym (nat_cmp_less x y l)
      | inr m ↦
          elim (cases_eq x y) [
            | inl e ↦ nat_cmp_equal (k + x) (k + y) (omega arith) ∙ sym (nat_cmp_equal x y e)
            | inr n ↦ nat_cmp_greater (k + x) (k + y) (omega arith) ∙ sym (nat_cmp_greater x y (omega arith))
          ]
    ]

-- with equal whole parts, what is left compares as the inverses do, the other way round
pub nat_cmp_inverses : (a b c d : ℕ) → 1 ≤ b → 1 ≤ d → a / b ≡ c / d → nat_cmp (d * (a % b)) (b * (c % d)) ≡ nat_cmp (a * d) (c * b)
nat_cmp_inverses a b c d pb pd e =
    let q : ℕ = a / b in
    let r : ℕ = a % b in
    let s : ℕ = c % d in
    let ea : b * q + r ≡ a = omega arith in
    let ec : d * q + s ≡ c = (let k : d * (c / d) + s ≡ c = omega arith in ap (λ x. d * x + s) e ∙ k) in
    let fa : b * q * d + d * r ≡ a * d = (let k : b * q * d + d * r ≡ (b * q + r) * d = omega arith in k ∙ ap (λ x. x * d) ea) in
    let fc : b * q * d + b * s ≡ c * b = (let k : b * q * d + b * s ≡ (d * q + s) * b = omega arith in k ∙ ap (λ x. x * b) ec) in
    sym (nat_cmp_plus (b * q * d) (d * r) (b * s)) ∙ ap (λ x. nat_cmp x (b * q * d + b * s)) fa ∙ ap (λ x. nat_cmp (a * d) x) fc

-- a smaller whole part is a smaller fraction
cross_less : (a b c d : ℕ) → 1 ≤ b → 1 ≤ d → a / b < c / d → a * d < c * b
cross_less a b c d pb pd l =
    let q : ℕ = a / b in
    let r : ℕ = a % b in
    let p : ℕ = c / d in
    let s : ℕ = c % d in
    let ea : b * q + r ≡ a = omega arith in
    let ec : d * p + s ≡ c = omega arith in
    let fa : b * q * d + d * r ≡ a * d = (let k : b * q * d + d * r ≡ (b * q + r) * d = omega arith in k ∙ ap (λ x. x * d) ea) in
    let fc : p * (b * d) + b * s ≡ c * b = (let k : p * (b * d) + b * s ≡ (d * p + s) * b = omega arith in k ∙ ap (λ x. x * b) ec) in
    let below : (r + 1) * d ≤ b * d = mul-le-mul_right d (let k : r + 1 ≤ b = omega arith in k) in
    let above : (q + 1) * (b * d) ≤ p * (b * d) = mul-le-mul_right (b * d) (let k : q + 1 ≤ p = omega arith in k) in
    omega arith

-- where one of two numbers is 0, they compare as their multiples do
nat_cmp_last : (r s b d : ℕ) → 1 ≤ b → 1 ≤ d → (r ≢ 0 → s ≡ 0) → nat_cmp r s ≡ nat_cmp (d * r) (b * s)
nat_cmp_last r s b d pb pd last =
    elim (cases_eq r 0) [
      | inl er ↦
          let zero_left : d * r ≡ d * 0 = ap (λ x. d * x) er in
          elim (cases_eq s 0) [
            | inl es ↦
                let zero_right : b * s ≡ b * 0 = ap (λ x. b * x) es in
                nat_cmp_equal r s (omega arith) ∙ sym (nat_cmp_equal (d * r) (b * s) (omega arith))
            | inr ns ↦
                let some : 0 < b * s = mul-pos pb (let k : 0 < s = omega arith in k) in
                nat_cmp_less r s (omega arith) ∙ sym (nat_cmp_less (d * r) (b * s) (omega arith))
          ]
      | inr nr ↦
          let es : s ≡ 0 = last nr in
          let zero_right : b * s ≡ b * 0 = ap (λ x. b * x) es in
          let some : 0 < d * r = mul-pos pd (let k : 0 < r = omega arith in k) in
          nat_cmp_greater r s (omega arith) ∙ sym (nat_cmp_greater (d * r) (b * s) (omega arith))
    ]

-- where a whole part differs or a remainder is 0, the whole parts and then the remainders decide
pub nat_cmp_parts : (a b c d : ℕ) → 1 ≤ b → 1 ≤ d → (a / b ≡ c / d → a % b ≢ 0 → c % d ≡ 0) →
    ordering_then (nat_cmp (a / b) (c / d)) (nat_cmp (a % b) (c % d)) ≡ nat_cmp (a * d) (c * b)
nat_cmp_parts a b c d pb pd last =
    elim (cases_lt (a / b) (c / d)) [
      | inl l ↦ ap (λ o. ordering_then o (nat_cmp (a % b) (c % d))) (nat_cmp_less (a / b) (c / d) l) ∙ sym (nat_cmp_less (a * d) (c * b) (cross_less a b c d pb pd l))
      | inr m ↦
          elim (cases_eq (a / b) (c / d)) [
            | inl e ↦ ap (λ o. ordering_then o (nat_cmp (a % b) (c % d))) (nat_cmp_equal (a / b) (c / d) e) ∙ nat_cmp_last (a % b) (c % d) b d pb pd (last e) ∙ nat_cmp_inverses a b c d pb pd e
            | inr n ↦
                let l : c / d < a / b = omega arith in
                ap (λ o. ordering_then o (nat_cmp (a % b) (c % d))) (nat_cmp_greater (a / b) (c / d) l) ∙ sym (nat_cmp_greater (a * d) (c * b) (cross_less c d a b pd pb l))
          ]
    ]

-- ---- the order of the values

not_greater : (x y : ℕ) → x ≤ y → nat_cmp x y ≢ Greater
not_greater x y le e = grind (arith, nat_tests)

not_less : (x y : ℕ) → y ≤ x → nat_cmp x y ≢ Less
not_less x y le e = grind (arith, nat_tests)

-- an answer that says that one value is above the other, and only then
unless : (p q : Frac) (r above : Ordering) → (q.num * p.den < p.num * q.den → r ≡ above) → (p.num * q.den ≤ q.num * p.den → r ≢ above) → (r ≢ above) ↔ AtMost (fraction p) (fraction q)
unless p q r above beyond within = (
  (λ other. elim (cases_lt (q.num * p.den) (p.num * q.den)) [
    | inl more ↦ absurd (other (beyond more))
    | inr le ↦ record { cross = omega (arith, ints, le) }
  ]),
  (λ least. within (omega (arith, ints, least.cross))),
)

module _ (p q : Frac) (r : Ordering) (is : r ≡ nat_cmp (p.num * q.den) (q.num * p.den)) where
  pub at_most_is : (r ≢ Greater) ↔ AtMost (fraction p) (fraction q)
  at_most_is =
      unless p q r Greater (λ more. is ∙ nat_cmp_greater (p.num * q.den) (q.num * p.den) more)
      (λ le greater. not_greater (p.num * q.den) (q.num * p.den) le (sym is ∙ greater))

  pub at_least_is : (r ≢ Less) ↔ AtMost (fraction q) (fraction p)
  at_least_is =
      unless q p r Less (λ more. is ∙ nat_cmp_less (p.num * q.den) (q.num * p.den) more)
      (λ le less. not_less (p.num * q.den) (q.num * p.den) le (sym is ∙ less))
