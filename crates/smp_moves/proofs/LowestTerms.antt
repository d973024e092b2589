-- There is one way to write a fraction in lowest terms.
use Rattle.std.proofs.{Common.{◌≡◌, ℕ, ◌*◌, ◌/◌, ◌≤◌, arith, mul-pos, sym, ap, ap₂, ◌∙◌, subst}, Math.Nat.{dvd-mul_left}}
use Rattle.std.specs.Int.{IsGcd}
use Rattle.std.proofs.lemmas.Nat.Gcd.{IsGcd-swap, dvd_antisymm}
use Prim.Native.Nat.{◌∣◌}
use Rattle.smp_frac.proofs.Arithmetic.{cancel}
use Rattle.smp_frac.specs.{Laws.Coprime.{dvd_of_coprime, part_positive}, Laws.Lowest.{same_value}}
use Rattle.smp_moves.specs.Ends.{lowest}
use Rattle.smp_moves.proofs.LineEnds.{lowest_is}

pub same_coprime : (p q m n : ℕ) → IsGcd p q 1 → IsGcd m n 1 → 1 ≤ q → p * n ≡ m * q → (p ≡ m) × (q ≡ n)
same_coprime p q m n r s pq h =
    let P : ℕ → Type 0 = λ x. q ∣ x in
    let Q : ℕ → Type 0 = λ x. n ∣ x in
    let a : q ∣ n = dvd_of_coprime q p n (IsGcd-swap p q 1 r) (subst P (sym h) (dvd-mul_left q m)) in
    let b : n ∣ q = dvd_of_coprime n m q (IsGcd-swap m n 1 s) (subst Q h (dvd-mul_left n p)) in
    let e : q ≡ n = dvd_antisymm a b in
    (cancel p m q pq (ap (λ x. p * x) e ∙ h), e)

-- a fraction whose numbers are divided by what they have in common
pub lowest_scaled : (a b g : ℕ) → 1 ≤ b → g ∣ a → g ∣ b → lowest (a / g) (b / g) ≡ lowest a b
lowest_scaled a b g pb ga gb =
    let pq : 1 ≤ b / g = part_positive b g pb gb in
    let r = lowest_is (a / g) (b / g) pq in
    let s = lowest_is a b pb in
    let p : ℕ = (lowest (a / g) (b / g)).num in
    let q : ℕ = (lowest (a / g) (b / g)).den in
    let m : ℕ = (lowest a b).num in
    let n : ℕ = (lowest a b).den in
    let x : ℕ = a / g in
    let y : ℕ = b / g in
    let both : x * b ≡ a * y = same_value a b g ga gb in
    let rs : x * q ≡ p * y = r.same in
    let ss : a * n ≡ m * b = s.same in
    let cross : p * n ≡ m * q =
    cancel (p * n) (m * q) (y * b) (positive y b pq pb)
    (let h1 : x * q * (n * b) ≡ p * y * (n * b) = ap (λ z. z * (n * b)) rs in
    let h2 : x * b * (q * n) ≡ a * y * (q * n) = ap (λ z. z * (q * n)) both in
    let h3 : a * n * (y * q) ≡ m * b * (y * q) = ap (λ z. z * (y * q)) ss in
    omega (arith, h1, h2, h3)) in
    let same = same_coprime p q m n r.reduced s.reduced r.some cross in
    ap₂ (λ u v. record { num = u; den = v }) same.0 same.1
  where
    positive : (y b : ℕ) → 1 ≤ y → 1 ≤ b → 1 ≤ y * b
    positive y b p q = mul-pos p q
