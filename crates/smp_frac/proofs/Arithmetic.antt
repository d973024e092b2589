-- The laws of fractions.
use Rattle.std.proofs.Common.{◌≡◌, ◌≢◌, ℕ, zero, suc, ◌+◌, ◌*◌, ◌/◌, ◌<◌, ◌≤◌, max, ℤ, pos, negsuc, arith, refl, sym, ap, ◌∙◌}
use Rattle.std.proofs.{Math.Nat.{mul-div_cancel}, lemmas.Int.{ints}}
use Rattle.smp_frac.specs.Fractions.{Fraction, Same, positive_product, whole, negated, plus, minus, times, divided, over, over_integer, inverse, sum_below}
use Rattle.smp_frac.proofs.Integers.{diff, diff-same, same-diff, by_diff, diffs}

pub cancel : (a b n : ℕ) → 1 ≤ n → a * n ≡ b * n → a ≡ b
cancel a b n p h =
    let q : 0 < n = omega arith in
    sym (mul-div_cancel a q) ∙ ap (λ x. x / n) h ∙ mul-div_cancel b q

-- ---- fractions whose numerator is a difference, of which each law is one over ℕ

abbrev apart : ℕ → ℕ → (d : ℕ) → 1 ≤ d → Fraction
apart p p' d h = record { num = diff p p'; den = d; positive = h }

one_apart : (P : Fraction → Type 0) → ((p p' d : ℕ) → (h : 1 ≤ d) → P (apart p p' d h)) → (a : Fraction) → P a
one_apart P f a = by_diff (λ z. P (record { num = z; den = a.den; positive = a.positive })) (λ p p'. f p p' a.den a.positive) a.num

two_apart : (P : Fraction → Fraction → Type 0) → ((p p' d : ℕ) → (h : 1 ≤ d) → (q q' e : ℕ) → (k : 1 ≤ e) → P (apart p p' d h) (apart q q' e k)) → (a b : Fraction) → P a b
two_apart P f a b = one_apart (λ x. P x b) (λ p p' d h. one_apart (P (apart p p' d h)) (f p p' d h) b) a

three_apart : (P : Fraction → Fraction → Fraction → Type 0) → ((p p' d : ℕ) → (h : 1 ≤ d) → (q q' e : ℕ) → (k : 1 ≤ e) → (r r' f : ℕ) → (l : 1 ≤ f) → P (apart p p' d h) (apart q q' e k) (apart r r' f l)) → (a b c : Fraction) → P a b c
three_apart P f a b c = one_apart (λ x. P x b c) (λ p p' d h. two_apart (P (apart p p' d h)) (f p p' d h) b c) a

four_apart : (P : Fraction → Fraction → Fraction → Fraction → Type 0) → ((p p' d : ℕ) → (h : 1 ≤ d) → (q q' e : ℕ) → (k : 1 ≤ e) → (r r' f : ℕ) → (l : 1 ≤ f) → (s s' g : ℕ) → (m : 1 ≤ g) → P (apart p p' d h) (apart q q' e k) (apart r r' f l) (apart s s' g m)) → (a b c d : Fraction) → P a b c d
four_apart P f a b c d = one_apart (λ x. P x b c d) (λ p p' i h. three_apart (P (apart p p' i h)) (f p p' i h) b c d) a

-- the equation over ℕ, and back
numbers : (p p' d : ℕ) (h : 1 ≤ d) (q q' e : ℕ) (k : 1 ≤ e) → Same (apart p p' d h) (apart q q' e k) → p * e + q' * d ≡ q * d + p' * e
numbers p p' d h q q' e k same =
    let both : diff (p * e + p' * 0) (p * 0 + p' * e) ≡ diff (q * d + q' * 0) (q * 0 + q' * d) = simp diffs at same.cross in
    omega (arith, same-diff _ _ _ _ both)

-- ---- the laws

pub same_refl : (a : Fraction) → Same a a
same_refl a = record { cross = refl }

pub same_sym : {a b : Fraction} → Same a b → Same b a
same_sym h = record { cross = sym h.cross }

trans_apart : (p p' d : ℕ) (h : 1 ≤ d) (q q' e : ℕ) (k : 1 ≤ e) (r r' f : ℕ) (l : 1 ≤ f) → Same (apart p p' d h) (apart q q' e k) → Same (apart q q' e k) (apart r r' f l) → Same (apart p p' d h) (apart r r' f l)
trans_apart p p' d h q q' e k r r' f l first second =
    let one : p * e + q' * d ≡ q * d + p' * e = numbers p p' d h q q' e k first in
    let two : q * f + r' * e ≡ r * e + q' * f = numbers q q' e k r r' f l second in
    let all : p * f + r' * d ≡ r * d + p' * f = cancel (p * f + r' * d) (r * d + p' * f) e k (omega (arith, ap (λ x. x * f) one, ap (λ x. x * d) two)) in
    record { cross = simp diffs (diff-same _ _ _ _ (omega (arith, all))) }

pub same_trans : {a b c : Fraction} → Same a b → Same b c → Same a c
same_trans {a} {b} {c} = three_apart (λ a b c. Same a b → Same b c → Same a c) trans_apart a b c

plus_apart : (p p' d : ℕ) (h : 1 ≤ d) (q q' e : ℕ) (k : 1 ≤ e) (r r' f : ℕ) (l : 1 ≤ f) (s s' g : ℕ) (m : 1 ≤ g) → Same (apart p p' d h) (apart q q' e k) → Same (apart r r' f l) (apart s s' g m) → Same (plus (apart p p' d h) (apart r r' f l)) (plus (apart q q' e k) (apart s s' g m))
plus_apart p p' d h q q' e k r r' f l s s' g m first second =
    let one : p * e + q' * d ≡ q * d + p' * e = numbers p p' d h q q' e k first in
    let two : r * g + s' * f ≡ s * f + r' * g = numbers r r' f l s s' g m second in
    record { cross = simp diffs (diff-same _ _ _ _ (omega (arith, ap (λ x. x * (f * g)) one, ap (λ x. x * (d * e)) two))) }

pub plus_same : {a b c d : Fraction} → Same a b → Same c d → Same (plus a c) (plus b d)
plus_same {a} {b} {c} {d} = four_apart (λ a b c d. Same a b → Same c d → Same (plus a c) (plus b d)) plus_apart a b c d

times_apart : (p p' d : ℕ) (h : 1 ≤ d) (q q' e : ℕ) (k : 1 ≤ e) (r r' f : ℕ) (l : 1 ≤ f) (s s' g : ℕ) (m : 1 ≤ g) → Same (apart p p' d h) (apart q q' e k) → Same (apart r r' f l) (apart s s' g m) → Same (times (apart p p' d h) (apart r r' f l)) (times (apart q q' e k) (apart s s' g m))
times_apart p p' d h q q' e k r r' f l s s' g m first second =
    let one : p * e + q' * d ≡ q * d + p' * e = numbers p p' d h q q' e k first in
    let two : r * g + s' * f ≡ s * f + r' * g = numbers r r' f l s s' g m second in
    record { cross = simp diffs (diff-same _ _ _ _ (omega (arith, ap (λ x. x * (r * g)) one, ap (λ x. x * (r' * g)) one, ap (λ x. x * (q * d)) two, ap (λ x. x * (q' * d)) two))) }

pub times_same : {a b c d : Fraction} → Same a b → Same c d → Same (times a c) (times b d)
times_same {a} {b} {c} {d} = four_apart (λ a b c d. Same a b → Same c d → Same (times a c) (times b d)) times_apart a b c d

-- a times (b + c)
pub times-plus : (a b c : Fraction) → Same (times a (plus b c)) (plus (times a b) (times a c))
times-plus =
    three_apart (λ a b c. Same (times a (plus b c)) (plus (times a b) (times a c)))
    (λ p p' d h q q' e k r r' f l. record { cross = simp diffs (diff-same _ _ _ _ (omega arith)) })

-- (a + b) times c
pub plus-times : (a b c : Fraction) → Same (times (plus a b) c) (plus (times a c) (times b c))
plus-times =
    three_apart (λ a b c. Same (times (plus a b) c) (plus (times a c) (times b c)))
    (λ p p' d h q q' e k r r' f l. record { cross = simp diffs (diff-same _ _ _ _ (omega arith)) })

-- a times (b times c)
pub times_left_comm : (a b c : Fraction) → Same (times a (times b c)) (times b (times a c))
times_left_comm =
    three_apart (λ a b c. Same (times a (times b c)) (times b (times a c)))
    (λ p p' d h q q' e k r r' f l. record { cross = simp diffs (diff-same _ _ _ _ (omega arith)) })

pub plus_swap : (a b c d : Fraction) → Same (plus (plus a b) (plus c d)) (plus (plus a c) (plus b d))
plus_swap =
    four_apart (λ a b c d. Same (plus (plus a b) (plus c d)) (plus (plus a c) (plus b d)))
    (λ p p' d h q q' e k r r' f l s s' g m. record { cross = simp diffs (diff-same _ _ _ _ (omega arith)) })

pub plus_assoc : (a b c : Fraction) → Same (plus (plus a b) c) (plus a (plus b c))
plus_assoc =
    three_apart (λ a b c. Same (plus (plus a b) c) (plus a (plus b c)))
    (λ p p' d h q q' e k r r' f l. record { cross = simp diffs (diff-same _ _ _ _ (omega arith)) })

pub plus_left_comm : (a b c : Fraction) → Same (plus a (plus b c)) (plus b (plus a c))
plus_left_comm =
    three_apart (λ a b c. Same (plus a (plus b c)) (plus b (plus a c)))
    (λ p p' d h q q' e k r r' f l. record { cross = simp diffs (diff-same _ _ _ _ (omega arith)) })

plus_comm : (a b : Fraction) → Same (plus a b) (plus b a)
plus_comm = two_apart (λ a b. Same (plus a b) (plus b a)) (λ p p' d h q q' e k. record { cross = simp diffs (diff-same _ _ _ _ (omega arith)) })

pub plus_negated : (a : Fraction) → Same (plus a (negated a)) (whole 0)
plus_negated = one_apart (λ a. Same (plus a (negated a)) (whole 0)) (λ p p' d h. record { cross = simp diffs (diff-same _ _ _ _ (omega arith)) })

pub times-zero : (a : Fraction) → Same (times a (whole 0)) (whole 0)
times-zero = one_apart (λ a. Same (times a (whole 0)) (whole 0)) (λ p p' d h. record { cross = simp diffs (diff-same _ _ _ _ (omega arith)) })

pub zero-plus-zero : Same (plus (whole 0) (whole 0)) (whole 0)
zero-plus-zero = record { cross = simp diffs (diff-same _ _ _ _ (omega arith)) }

pub plus-zero : (a : Fraction) → Same (plus a (whole 0)) a
plus-zero = one_apart (λ a. Same (plus a (whole 0)) a) (λ p p' d h. record { cross = simp diffs (diff-same _ _ _ _ (omega arith)) })

pub zero-plus : (a : Fraction) → Same (plus (whole 0) a) a
zero-plus = one_apart (λ a. Same (plus (whole 0) a) a) (λ p p' d h. record { cross = simp diffs (diff-same _ _ _ _ (omega arith)) })

pub zero-times : (a : Fraction) → Same (times (whole 0) a) (whole 0)
zero-times = one_apart (λ a. Same (times (whole 0) a) (whole 0)) (λ p p' d h. record { cross = simp diffs (diff-same _ _ _ _ (omega arith)) })

pub one-times : (a : Fraction) → Same (times (whole 1) a) a
one-times = one_apart (λ a. Same (times (whole 1) a) a) (λ p p' d h. record { cross = simp diffs (diff-same _ _ _ _ (omega arith)) })

pub times-one : (a : Fraction) → Same (times a (whole 1)) a
times-one = one_apart (λ a. Same (times a (whole 1)) a) (λ p p' d h. record { cross = simp diffs (diff-same _ _ _ _ (omega arith)) })

-- a sum less its first part
less_first : (a b : Fraction) → Same (plus (negated a) (plus a b)) b
less_first a b =
    same_trans (plus_left_comm (negated a) a b)
    (same_trans (same_sym (plus_assoc a (negated a) b)) (same_trans (plus_same (plus_negated a) (same_refl b)) (zero-plus b)))

pub plus_cancel : (a b c : Fraction) → Same (plus a b) (plus a c) → Same b c
plus_cancel a b c h = same_trans (same_sym (less_first a b)) (same_trans (plus_same (same_refl (negated a)) h) (less_first a c))

-- ---- differences

-- what is left of a sum without its first part
pub minus_from_sum : (a b c : Fraction) → Same a (plus b c) → Same c (minus a b)
minus_from_sum a b c sum =
    same_trans (same_sym (less_first b c)) (same_trans (plus_same (same_refl (negated b)) (same_sym sum)) (plus_comm (negated b) a))

-- a part less the sum
pub part_minus_sum : (a b c : Fraction) → Same b (plus a c) → Same (negated c) (minus a b)
part_minus_sum a b c sum =
    plus_cancel c (negated c) (minus a b)
    (same_trans (plus_negated c)
    (same_trans (same_sym (plus_negated b))
    (same_trans (plus_same (same_trans sum (plus_comm a c)) (same_refl (negated b))) (plus_assoc c a (negated b)))))

pub plus_minus : (a b : Fraction) → Same (plus b (minus a b)) a
plus_minus a b =
    same_trans (plus_left_comm b a (negated b)) (same_trans (plus_same (same_refl a) (plus_negated b)) (plus-zero a))

divided_apart : (n p p' d : ℕ) (h : 1 ≤ d) (q q' e : ℕ) (k : 1 ≤ e) → Same (apart p p' d h) (apart q q' e k) → Same (divided (apart p p' d h) n) (divided (apart q q' e k) n)
divided_apart n p p' d h q q' e k same =
    let one : p * e + q' * d ≡ q * d + p' * e = numbers p p' d h q q' e k same in
    record { cross = simp diffs (diff-same _ _ _ _ (omega (arith, ap (λ x. x * max 1 n) one))) }

pub divided_same : {a b : Fraction} (n : ℕ) → Same a b → Same (divided a n) (divided b n)
divided_same {a} {b} n = two_apart (λ a b. Same a b → Same (divided a n) (divided b n)) (divided_apart n) a b

-- n times a, divided by n
pub divided-times : (n : ℕ) (a : Fraction) → 1 ≤ n → Same (divided (times (whole n) a) n) a
divided-times n a positive =
    let e : max 1 n ≡ n = omega arith in
    one_apart (λ a. Same (divided (times (whole n) a) n) a)
    (λ p p' d h. record { cross = simp diffs (diff-same _ _ _ _ (omega (arith, ap (λ x. x * (p * d)) e, ap (λ x. x * (p' * d)) e))) }) a

pub times_comm : (a b : Fraction) → Same (times a b) (times b a)
times_comm = two_apart (λ a b. Same (times a b) (times b a)) (λ p p' d h q q' e k. record { cross = simp diffs (diff-same _ _ _ _ (omega arith)) })

pub plus-divided : (n : ℕ) (a b : Fraction) → Same (divided (plus a b) n) (plus (divided a n) (divided b n))
plus-divided n = two_apart (λ a b. Same (divided (plus a b) n) (plus (divided a n) (divided b n))) (λ p p' d h q q' e k. record { cross = simp diffs (diff-same _ _ _ _ (omega arith)) })

pub times-divided : (n : ℕ) (a b : Fraction) → Same (divided (times a b) n) (times a (divided b n))
times-divided n = two_apart (λ a b. Same (divided (times a b) n) (times a (divided b n))) (λ p p' d h q q' e k. record { cross = simp diffs (diff-same _ _ _ _ (omega arith)) })

-- a mean, times the sum of its weights
pub times-back : (n : ℕ) (a : Fraction) → 1 ≤ n → Same (times (whole n) (divided a n)) a
times-back n a positive = same_trans (same_sym (times-divided n (whole n) a)) (divided-times n a positive)

-- ---- inverses

negated_same : (a b : Fraction) → Same a b → Same (negated a) (negated b)
negated_same =
    two_apart (λ a b. Same a b → Same (negated a) (negated b))
    (λ p p' d h q q' e k same. record { cross = simp diffs (diff-same _ _ _ _ (omega (arith, numbers p p' d h q q' e k same))) })

-- a fraction equal to one above 0 is above 0
pub numerator_positive : (m e n d : ℕ) → 1 ≤ m → 1 ≤ e → m * e ≡ n * d → 1 ≤ n
numerator_positive m e zero d some h crossed = absurd (omega (arith, positive_product m e some h, crossed))
numerator_positive m e (suc n) d some h crossed = omega arith

turned : (m d n e : ℕ) → 1 ≤ m → 1 ≤ e → m * e ≡ n * d → Same (over d m) (over e n)
turned m d n e some h crossed =
    let first : max 1 m ≡ m = omega (arith, some) in
    let second : max 1 n ≡ n = omega (arith, numerator_positive m e n d some h crossed) in
    let both : d * max 1 n ≡ e * max 1 m = omega (arith, ap (λ x. d * x) second, ap (λ x. e * x) first, crossed) in
    record { cross = ap pos both }

-- two fractions that are equal have inverses that are, where they aren't 0
pub inverse_same : (a b : Fraction) → a.num ≢ pos 0 → Same a b → Same (inverse a) (inverse b)
inverse_same a b some same = by_signs a.num b.num a.den b.den a.positive b.positive some same
  where
    by_signs : (y z : ℤ) (d e : ℕ) (h : 1 ≤ d) (k : 1 ≤ e) → y ≢ pos 0 → Same (record { num = y; den = d; positive = h }) (record { num = z; den = e; positive = k }) → Same (over_integer d y) (over_integer e z)
    by_signs (pos m) (pos n) d e h k some same = turned m d n e (omega (arith, ints, some)) k (omega (arith, ints, same.cross))
    by_signs (pos m) (negsuc n) d e h k some same = absurd (omega (arith, ints, same.cross, positive_product (suc n) d (omega arith) h))
    by_signs (negsuc m) (pos n) d e h k some same = absurd (omega (arith, ints, same.cross, positive_product (suc m) e (omega arith) k))
    by_signs (negsuc m) (negsuc n) d e h k some same =
        negated_same (over d (suc m)) (over e (suc n)) (turned (suc m) d (suc n) e (omega arith) k (omega (arith, ints, same.cross)))

-- ---- sums over the numbers below n

pub sum_same : (n : ℕ) (f g : ℕ → Fraction) → ((k : ℕ) → k < n → Same (f k) (g k)) → Same (sum_below n f) (sum_below n g)
sum_same zero f g h = same_refl (whole 0)
sum_same (suc n) f g h = plus_same (sum_same n f g (λ k p. h k (omega arith))) (h n (omega arith))

pub sum-plus : (n : ℕ) (f g : ℕ → Fraction) → Same (sum_below n (λ k. plus (f k) (g k))) (plus (sum_below n f) (sum_below n g))
sum-plus zero f g = same_sym zero-plus-zero
sum-plus (suc n) f g =
    same_trans (plus_same (sum-plus n f g) (same_refl (plus (f n) (g n)))) (plus_swap (sum_below n f) (sum_below n g) (f n) (g n))

pub sum-times : (n : ℕ) (a : Fraction) (f : ℕ → Fraction) → Same (sum_below n (λ k. times a (f k))) (times a (sum_below n f))
sum-times zero a f = same_sym (times-zero a)
sum-times (suc n) a f =
    same_trans (plus_same (sum-times n a f) (same_refl (times a (f n)))) (same_sym (times-plus a (sum_below n f) (f n)))

pub sum-zero : (n : ℕ) (f : ℕ → Fraction) → ((k : ℕ) → k < n → Same (f k) (whole 0)) → Same (sum_below n f) (whole 0)
sum-zero zero f h = same_refl (whole 0)
sum-zero (suc n) f h = same_trans (plus_same (sum-zero n f (λ k p. h k (omega arith))) (h n (omega arith))) zero-plus-zero
