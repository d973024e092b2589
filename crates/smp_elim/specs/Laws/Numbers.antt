-- The numbers of a step: n units are left, of which c are certain and g are not; when one fewer is left, b are certain and d are
-- not. The sums of the sizes of those that aren't certain are r and p.
use Rattle.std.proofs.Common.{◌≡◌, ℕ, zero, suc, ◌+◌, ◌-◌, ◌*◌, ◌≤◌, max, arith, refl, ap}

-- the sum of the weights, where some unit isn't certain
sum_open : (w n c g b d r p : ℕ) → n ≡ c + g → n ≡ b + d + 1
    → w + (p * g * b + (g * d * p + d * r * n)) ≡ p * g * n + (g * d * r + d * r * c) → w ≡ p * g
sum_open w n c g b d r p by_c by_b sum =
    let at_b : p * g * n ≡ p * g * (b + d + 1) = ap (λ x. p * g * x) by_b in
    let at_c : d * r * n ≡ d * r * (c + g) = ap (λ x. d * r * x) by_c in
    omega (arith, sum, at_b, at_c)

-- where all units are certain
sum_certain : (w n b d p : ℕ) → n ≡ b + d + 1
    → w + (p * 1 * b + (1 * d * p + d * 0 * n)) ≡ p * 1 * n + (1 * d * 0 + d * 0 * n) → w ≡ p * 1
sum_certain w n b d p by_b sum =
    let at_b : p * n ≡ p * (b + d + 1) = ap (λ x. p * x) by_b in
    omega (arith, sum, at_b)

pub sum_is : (w n c g b d r p : ℕ) → n ≡ c + g → n ≡ b + d + 1 → (g ≡ 0 → r ≡ 0)
    → w + (p * max 1 g * b + (max 1 g * d * p + d * r * n)) ≡ p * max 1 g * n + (max 1 g * d * r + d * r * c)
    → w ≡ p * max 1 g
sum_is w n c zero b d r p by_c by_b none sum =
    let r_is : r ≡ 0 = none refl in
    let c_is : c ≡ n = omega (arith, by_c) in
    let one : max 1 0 ≡ 1 = omega arith in
    let plain = rw (one, r_is, c_is) at sum in
    rw one (sum_certain w n b d p by_b plain)
sum_is w n c (suc g) b d r p by_c by_b none sum =
    let same : max 1 (suc g) ≡ suc g = omega arith in
    let plain = rw same at sum in
    rw same (sum_open w n c (suc g) b d r p by_c by_b plain)

-- a unit that isn't certain any more loses part of its value only
pub open_above : (n c g b d r p : ℕ) → n ≡ c + g → n ≡ b + d + 1 → g * r + r * c ≤ g * p + r * b → d * r + r ≤ p * g
open_above n c g b d r p by_c by_b most =
    let same : r * (c + g) ≡ r * (b + d + 1) = ap (λ x. r * x) (omega (arith, by_c, by_b)) in
    omega (arith, most, same)

-- the weight of a unit of size z that is certain as long as so many are left, and what is left of the bound
pub fresh_rest : (q d p z : ℕ) → z * d ≤ p → q * (p - z * d) + q * d * z ≡ p * q
fresh_rest q d p z h =
    let parts : q * (p - z * d + z * d) ≡ q * p = ap (λ x. q * x) (omega arith) in
    omega (arith, parts)
