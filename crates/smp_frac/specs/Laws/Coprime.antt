-- Numbers without a common divisor, and what divides their products.
use Rattle.std.proofs.Common.{◌≡◌, ℕ, ◌+◌, ◌*◌, ◌/◌, ◌<◌, ◌≤◌, arith, sym, ap, ◌∙◌, subst, inl, inr}
use Rattle.std.proofs.Common.{eq-zero-or-pos, mul_comm, mul_assoc, mul-pos}
use Rattle.std.specs.Int.{IsGcd}
use Rattle.std.proofs.lemmas.Nat.Gcd.{dvd_refl, dvd_trans, dvd-zero, le_of_dvd}
use Rattle.std.proofs.Math.Nat.{one-dvd, dvd-mul_right, dvd-mul_left, dvd-mul_left_of_dvd, dvd-add_iff_left, dvd-add_iff_right}
use Rattle.std.proofs.Math.Nat.{mul-dvd-mul_left, dvd_of_mul-dvd-mul_left, mul-div_cancel', mul-div_cancel_left, pos_of_dvd_of_pos}
use Prim.Native.Nat.{◌∣◌}
use Rattle.smp_frac.specs.Divisors.{greatest_common_divisor, IsCommonMultiple, IsLeastMultiple}
use Rattle.smp_frac.specs.Laws.Gcds.{IsGcd-greatest_common_divisor}

-- what divides u times both of two numbers divides u times their greatest common divisor
dvd_gcd_mul : (u a b g d : ℕ) → 0 < u → IsGcd a b g → d ∣ u * a → d ∣ u * b → d ∣ u * g
dvd_gcd_mul u a b g d pu r da db =
    let s : ℕ = greatest_common_divisor (u * a) (u * b) in
    let is = IsGcd-greatest_common_divisor (u * a) (u * b) in
    let us : u ∣ s = is.2 u (dvd-mul_right u a) (dvd-mul_right u b) in
    let h : ℕ = s / u in
    let e : u * h ≡ s = mul-div_cancel' u us in
    let ha : h ∣ a = dvd_of_mul-dvd-mul_left h pu (let P : ℕ → Type 0 = λ x. x ∣ u * a in subst P (sym e) is.0) in
    let hb : h ∣ b = dvd_of_mul-dvd-mul_left h pu (let P : ℕ → Type 0 = λ x. x ∣ u * b in subst P (sym e) is.1) in
    let hg : h ∣ g = r.2 h ha hb in
    dvd_trans d (is.2 d da db) (let P : ℕ → Type 0 = λ x. x ∣ u * g in subst P e (mul-dvd-mul_left h u hg))

-- a divisor of a product that has none in common with one factor divides the other
pub dvd_of_coprime : (b m u : ℕ) → IsGcd b m 1 → b ∣ m * u → b ∣ u
dvd_of_coprime b m u r d =
    elim (eq-zero-or-pos u) [
      | inl z ↦ let P : ℕ → Type 0 = λ x. b ∣ x in subst P (sym z) (dvd-zero b)
      | inr p ↦ let P : ℕ → Type 0 = λ x. b ∣ x in
          subst P (omega arith) (dvd_gcd_mul u b m 1 b p r (dvd-mul_left b u) (subst P (mul_comm m u) d))
    ]

-- no common divisor but 1
coprime : (a b : ℕ) → ((k : ℕ) → k ∣ a → k ∣ b → k ∣ 1) → IsGcd a b 1
coprime a b all = (one-dvd a, one-dvd b, all)

-- so it is for their divisors
pub coprime_divisors : (a b c d : ℕ) → c ∣ a → d ∣ b → IsGcd a b 1 → IsGcd c d 1
coprime_divisors a b c d ha hb r = coprime c d (λ k kc kd. r.2 k (dvd_trans k kc ha) (dvd_trans k kd hb))

pub coprime_divisor : (a b c : ℕ) → c ∣ a → IsGcd a b 1 → IsGcd c b 1
coprime_divisor a b c h r = coprime_divisors a b c b h (dvd_refl b) r

-- and for a product
pub coprime_product : (a b c : ℕ) → IsGcd a b 1 → IsGcd a c 1 → IsGcd a (b * c) 1
coprime_product a b c rb rc =
    coprime a (b * c) (λ k ka kp. rc.2 k ka (dvd_of_coprime k b c (coprime_divisor a b k ka rb) kp))

-- both numbers divided by their greatest common divisor have none in common
pub coprime_parts : (a b g : ℕ) → 0 < g → IsGcd a b g → IsGcd (a / g) (b / g) 1
coprime_parts a b g p r =
    let ea : g * (a / g) ≡ a = mul-div_cancel' g r.0 in
    let eb : g * (b / g) ≡ b = mul-div_cancel' g r.1 in
    coprime (a / g) (b / g) (λ k ka kb.
    let P : ℕ → Type 0 = λ x. g * k ∣ x in
    let both : g * k ∣ g = r.2 (g * k) (subst P ea (mul-dvd-mul_left k g ka)) (subst P eb (mul-dvd-mul_left k g kb)) in
    dvd_of_mul-dvd-mul_left k p (subst P (omega arith) both))

-- a / g times b divides each number that a and b divide
least_multiple : (a b g n : ℕ) → 0 < g → IsGcd a b g → a ∣ n → b ∣ n → a / g * b ∣ n
least_multiple a b g n p r an bn =
    let c : ℕ = a / g in
    let d : ℕ = b / g in
    let ea : g * c ≡ a = mul-div_cancel' g r.0 in
    let eb : g * d ≡ b = mul-div_cancel' g r.1 in
    let t : ℕ = n / b in
    let en : b * t ≡ n = mul-div_cancel' b bn in
    let over : g * c ∣ g * (d * t) =
    (let P : ℕ → Type 0 = λ x. x ∣ g * (d * t) in subst P (sym ea)
    (let Q : ℕ → Type 0 = λ x. a ∣ x in subst Q (sym en ∙ ap (λ x. x * t) (sym eb) ∙ mul_assoc g d t) an)) in
    let ct : c ∣ t = dvd_of_coprime c d t (coprime_parts a b g p r) (dvd_of_mul-dvd-mul_left c p over) in
    let P : ℕ → Type 0 = λ x. x ∣ n in
    subst P (mul_comm b c) (let Q : ℕ → Type 0 = λ x. b * c ∣ x in subst Q en (mul-dvd-mul_left c b ct))

pub divisor_positive : (a b g : ℕ) → 1 ≤ b → IsGcd a b g → 0 < g
divisor_positive a b g p r = pos_of_dvd_of_pos r.1 p

pub quotient_divides : (a g : ℕ) → g ∣ a → a / g ∣ a
quotient_divides a g h = let P : ℕ → Type 0 = λ x. a / g ∣ x in subst P (mul-div_cancel' g h) (dvd-mul_left (a / g) g)

pub part_positive : (a g : ℕ) → 1 ≤ a → g ∣ a → 1 ≤ a / g
part_positive a g p h = pos_of_dvd_of_pos (quotient_divides a g h) p

pub IsLeastMultiple-from_gcd : (a b g : ℕ) → 1 ≤ a → 1 ≤ b → IsGcd a b g → IsLeastMultiple a b (a / g * b)
IsLeastMultiple-from_gcd a b g pa pb r =
    let e : g * (b / g) ≡ b = mul-div_cancel' g r.1 in
    let ea : g * (a / g) ≡ a = mul-div_cancel' g r.0 in
    let c : ℕ = a / g in
    let d : ℕ = b / g in
    let same : a * d ≡ c * b = (let f : (g * c) * d ≡ c * (g * d) = omega arith in
    ap (λ x. x * d) (sym ea) ∙ f ∙ ap (λ x. c * x) e) in
    record {
      common = record {
        positive = mul-pos (part_positive a g pa r.0) pb;
        first = (let P : ℕ → Type 0 = λ x. a ∣ x in subst P same (dvd-mul_right a d));
        second = dvd-mul_left b c;
      };
      least = λ n m. least_multiple a b g n (divisor_positive a b g pb r) r m.first m.second;
    }

pub least_at_most : (a b m n : ℕ) → IsLeastMultiple a b m → IsCommonMultiple a b n → m ≤ n
least_at_most a b m n is common = le_of_dvd common.positive (is.least n common)

-- n / g and part * (d / g) have no common divisor, where g takes from n all that it has in common with a divisor of d
pub coprime_over : (n part d common g : ℕ) → 1 ≤ d → common ∣ d → IsGcd n part 1 → IsGcd n (d / common) 1
    → IsGcd n common g → IsGcd (n / g) (part * (d / g)) 1
coprime_over n part d common g pd h apart rest r =
    let pc : 0 < common = pos_of_dvd_of_pos h pd in
    let pg : 0 < g = divisor_positive n common g pc r in
    let below : n / g ∣ n = quotient_divides n g r.0 in
    let x : ℕ = common / g in
    let y : ℕ = d / common in
    let ex : g * x ≡ common = mul-div_cancel' g r.1 in
    let ey : common * y ≡ d = mul-div_cancel' common h in
    let e : d / g ≡ x * y = ap (λ z. z / g) (sym ey ∙ ap (λ z. z * y) (sym ex) ∙ mul_assoc g x y)
    ∙ mul-div_cancel_left (x * y) pg in
    let parts : IsGcd (n / g) (x * y) 1 =
    coprime_product (n / g) x y (coprime_parts n common g pg r) (coprime_divisor n y (n / g) below rest) in
    coprime_product (n / g) part (d / g) (coprime_divisor n part (n / g) below apart)
    (subst (λ (z : ℕ). IsGcd (n / g) z 1) (sym e) parts)

-- a common divisor of b / g and a * (d / g) is 1, for a / b and c / d in lowest terms
term_apart : (a b d g k : ℕ) → 0 < g → IsGcd a b 1 → IsGcd b d g → k ∣ b / g → k ∣ a * (d / g) → k ∣ 1
term_apart a b d g k pg ab bd kb kt =
    let kd : IsGcd k (d / g) 1 = coprime_divisor (b / g) (d / g) k kb (coprime_parts b d g pg bd) in
    let ka : k ∣ a = dvd_of_coprime k (d / g) a kd (let P : ℕ → Type 0 = λ x. k ∣ x in subst P (mul_comm a (d / g)) kt) in
    ab.2 k ka (let P : ℕ → Type 0 = λ x. k ∣ x in subst P (mul-div_cancel' g bd.0) (dvd-mul_left_of_dvd k kb g))

-- n has no divisor in common with b / g, where each that it has with the other term is one of a * (d / g)
pub terms_apart : (a b c d g n : ℕ) → 1 ≤ d → IsGcd a b 1 → IsGcd b d g
    → ((k : ℕ) → k ∣ n → k ∣ c * (b / g) → k ∣ a * (d / g)) → IsGcd n (b / g) 1
terms_apart a b c d g n pd ab bd other =
    coprime n (b / g) (λ k kn kb. term_apart a b d g k (divisor_positive b d g pd bd) ab bd kb (other k kn (dvd-mul_left_of_dvd k kb c)))

-- a sum and one of its terms
pub dvd_first : (x y k : ℕ) → k ∣ x + y → k ∣ y → k ∣ x
dvd_first x y k h ky = (dvd-add_iff_left k ky).1 h

pub dvd_second : (x y k : ℕ) → k ∣ x + y → k ∣ x → k ∣ y
dvd_second x y k h kx = (dvd-add_iff_right k kx).1 h

-- the greatest common divisor of two products in proportion to numbers without one
pub IsGcd-times : (g x y : ℕ) → 0 < g → IsGcd x y 1 → IsGcd (g * x) (g * y) g
IsGcd-times g x y p r = (
  dvd-mul_right g x,
  dvd-mul_right g y,
  λ k kx ky. let P : ℕ → Type 0 = λ z. k ∣ z in
      subst P (omega arith) (dvd_gcd_mul g x y 1 k p r kx ky),
)
