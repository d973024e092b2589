-- Sums that differ by at most a bound.
use Rattle.std.proofs.{Common.{◌≡◌, ℕ, zero, suc, ◌+◌, ◌*◌, ◌<◌, ◌≤◌, max, ℤ, pos, negsuc, ◌≤ℤ◌, arith, sym, subst}, lemmas.Int.{ints}}
use Rattle.std.proofs.Math.Nat.{mul-le-mul_left, mul-le-mul_right, le_of_mul-le-mul_right}
use Rattle.smp_frac.specs.{Fractions.{Fraction, Same, AtMost, whole, plus, times, over, sum_below}, Bounds.{absolute, DifferByAtMost}}
use Rattle.smp_frac.proofs.{Arithmetic.{same_refl, same_sym, plus_same, plus_swap, plus-zero}, Integers.{diff, pos-diff, diffs}}
use Rattle.smp_frac.proofs.Signs.{by_parts, diff-le, le-diff, neg-diff}

abbrev apart : ℕ → ℕ → (d : ℕ) → 1 ≤ d → Fraction
apart p p' d h = record { num = diff p p'; den = d; positive = h }

-- an order of two fractions over ℕ
abbrev Below : ℕ → ℕ → ℕ → ℕ → ℕ → ℕ → Type 0
Below p p' d q q' e = p * e + q' * d ≤ q * d + p' * e

at_most : (p p' d : ℕ) (h : 1 ≤ d) (q q' e : ℕ) (k : 1 ≤ e) → Below p p' d q q' e → AtMost (apart p p' d h) (apart q q' e k)
at_most p p' d h q q' e k l =
    let m : diff (p * e + p' * 0) (p * 0 + p' * e) ≤ℤ diff (q * d + q' * 0) (q * 0 + q' * d) = diff-le _ _ _ _ (omega (arith, l)) in
    record { cross = simp diffs m }

below : (p p' d : ℕ) (h : 1 ≤ d) (q q' e : ℕ) (k : 1 ≤ e) → AtMost (apart p p' d h) (apart q q' e k) → Below p p' d q q' e
below p p' d h q q' e k l =
    let m : diff (p * e + p' * 0) (p * 0 + p' * e) ≤ℤ diff (q * d + q' * 0) (q * 0 + q' * d) = simp diffs at l.cross in
    let n = le-diff _ _ _ _ m in
    omega (arith, n)

-- sums
plus_most_at : (p p' d q q' e r r' f s s' g : ℕ) → Below p p' d q q' e → Below r r' f s s' g → Below (p * f + r * d) (p' * f + r' * d) (d * f) (q * g + s * e) (q' * g + s' * e) (e * g)
plus_most_at p p' d q q' e r r' f s s' g x y =
    let a : (p * e + q' * d) * (f * g) ≤ (q * d + p' * e) * (f * g) = mul-le-mul_right (f * g) x in
    let b : (r * g + s' * f) * (d * e) ≤ (s * f + r' * g) * (d * e) = mul-le-mul_right (d * e) y in
    omega (arith, a, b)

pub plus_most : (a b c d : Fraction) → AtMost a b → AtMost c d → AtMost (plus a c) (plus b d)
plus_most =
    by_parts (λ a. (b c d : Fraction) → AtMost a b → AtMost c d → AtMost (plus a c) (plus b d))
    (λ p p' i h. by_parts (λ b. (c d : Fraction) → AtMost (apart p p' i h) b → AtMost c d → AtMost (plus (apart p p' i h) c) (plus b d))
    (λ q q' e k. by_parts (λ c. (d : Fraction) → AtMost (apart p p' i h) (apart q q' e k) → AtMost c d → AtMost (plus (apart p p' i h) c) (plus (apart q q' e k) d))
    (λ r r' f l. by_parts (λ d. AtMost (apart p p' i h) (apart q q' e k) → AtMost (apart r r' f l) d → AtMost (plus (apart p p' i h) (apart r r' f l)) (plus (apart q q' e k) d))
    (λ s s' g m x y.
    (let z = plus_most_at p p' i q q' e r r' f s s' g (below p p' i h q q' e k x) (below r r' f l s s' g m y) in
    record { cross = simp diffs (diff-le _ _ _ _ (omega (arith, z))) })))))

through_at : (p p' d q q' e r r' f : ℕ) → 1 ≤ e → Below p p' d q q' e → Below q q' e r r' f → Below p p' d r r' f
through_at p p' d q q' e r r' f pe x y =
    let a : (p * e + q' * d) * f ≤ (q * d + p' * e) * f = mul-le-mul_right f x in
    let b : (q * f + r' * e) * d ≤ (r * e + q' * f) * d = mul-le-mul_right d y in
    le_of_mul-le-mul_right {k = e} (let c : (p * f + r' * d) * e ≤ (r * d + p' * f) * e = omega (arith, a, b) in c) pe

pub most_through : (a b c : Fraction) → AtMost a b → AtMost b c → AtMost a c
most_through =
    by_parts (λ a. (b c : Fraction) → AtMost a b → AtMost b c → AtMost a c)
    (λ p p' i h. by_parts (λ b. (c : Fraction) → AtMost (apart p p' i h) b → AtMost b c → AtMost (apart p p' i h) c)
    (λ q q' e k. by_parts (λ c. AtMost (apart p p' i h) (apart q q' e k) → AtMost (apart q q' e k) c → AtMost (apart p p' i h) c)
    (λ r r' f l x y. at_most p p' i h r r' f l (through_at p p' i q q' e r r' f k (below p p' i h q q' e k x) (below q q' e k r r' f l y)))))

pub most_of_same : (a b : Fraction) → Same a b → AtMost a b
most_of_same a b h = record { cross = omega (arith, ints, h.cross) }

pub same_most : {a b c d : Fraction} → Same a b → Same c d → AtMost b d → AtMost a c
same_most {a} {b} {c} {d} x y h = most_through a b c (most_of_same a b x) (most_through b d c h (most_of_same d c (same_sym y)))

-- ---- a number times two values from 0 to 1

term_at : (p p' s D a e b d : ℕ) → (h : 1 ≤ D) → 1 ≤ e → 1 ≤ d → p * b * e + p' * a * d ≤ p * a * d + p' * b * e + s * d * e →
    AtMost (times (apart p p' D h) (over b d)) (plus (times (apart p p' D h) (over a e)) (record { num = pos s; den = D; positive = h }))
term_at p p' s D a e b d h pe pd k =
    let ee : max 1 e ≡ e = omega arith in
    let ed : max 1 d ≡ d = omega arith in
    let m : (p * b * e + p' * a * d) * (D * D) ≤ (p * a * d + p' * b * e + s * d * e) * (D * D) = mul-le-mul_right (D * D) k in
    record { cross = rw (ee, ed) (simp diffs (diff-le _ _ _ _ (omega (arith, m)))) }

pub term_above : (c : Fraction) (a e b d : ℕ) → a ≤ e → b ≤ d → 1 ≤ e → 1 ≤ d → AtMost (times c (over b d)) (plus (times c (over a e)) (absolute c))
term_above c a e b d ae bd pe pd = go c.num
  where
    go : (z : ℤ) → AtMost (times (record { num = z; den = c.den; positive = c.positive }) (over b d)) (plus (times (record { num = z; den = c.den; positive = c.positive }) (over a e)) (absolute (record { num = z; den = c.den; positive = c.positive })))
    go (pos n) =
        let m : n * b * e ≤ n * d * e = mul-le-mul_right e (mul-le-mul_left n bd) in
        let t = term_at n 0 n c.den a e b d c.positive pe pd (omega (arith, m)) in
        subst (λ (z : ℤ). AtMost (times (record { num = z; den = c.den; positive = c.positive }) (over b d)) (plus (times (record { num = z; den = c.den; positive = c.positive }) (over a e)) (record { num = pos n; den = c.den; positive = c.positive }))) (sym (pos-diff n)) t
    go (negsuc n) =
        let m : suc n * a * d ≤ suc n * e * d = mul-le-mul_right d (mul-le-mul_left (suc n) ae) in
        let t = term_at 0 (suc n) (suc n) c.den a e b d c.positive pe pd (omega (arith, m)) in
        subst (λ (z : ℤ). AtMost (times (record { num = z; den = c.den; positive = c.positive }) (over b d)) (plus (times (record { num = z; den = c.den; positive = c.positive }) (over a e)) (record { num = pos (suc n); den = c.den; positive = c.positive }))) (sym (neg-diff n)) t

-- ---- sums

pub differ_same : (a b : Fraction) → Same a b → DifferByAtMost (whole 0) a b
differ_same a b h = record {
  above = same_most h (plus-zero b) (most_of_same b b (same_refl b));
  below = same_most (same_sym h) (plus-zero a) (most_of_same a a (same_refl a));
}

pub differ_by_same : {e a b c d : Fraction} → Same a b → Same c d → DifferByAtMost e b d → DifferByAtMost e a c
differ_by_same {e} {a} {b} {c} {d} x y h = record {
  above = same_most x (plus_same y (same_refl e)) h.above;
  below = same_most y (plus_same x (same_refl e)) h.below;
}

pub differ_sum : (n : ℕ) (f g e : ℕ → Fraction) → ((k : ℕ) → k < n → DifferByAtMost (e k) (f k) (g k)) → DifferByAtMost (sum_below n e) (sum_below n f) (sum_below n g)
differ_sum zero f g e h = differ_same (whole 0) (whole 0) (same_refl (whole 0))
differ_sum (suc n) f g e h =
    let r = differ_sum n f g e (λ k l. h k (omega arith)) in
    let x = h n (omega arith) in
    record {
      above = same_most (same_refl (plus (sum_below n f) (f n))) (plus_swap (sum_below n g) (g n) (sum_below n e) (e n)) (plus_most (sum_below n f) (plus (sum_below n g) (sum_below n e)) (f n) (plus (g n) (e n)) r.above x.above);
      below = same_most (same_refl (plus (sum_below n g) (g n))) (plus_swap (sum_below n f) (f n) (sum_below n e) (e n)) (plus_most (sum_below n g) (plus (sum_below n f) (sum_below n e)) (g n) (plus (f n) (e n)) r.below x.below);
    }
