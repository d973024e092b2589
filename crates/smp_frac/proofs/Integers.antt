-- Integers as formal differences `diff p n`, at which an identity is one over ℕ that `omega` multiplies out.
use Rattle.std.proofs.{Common.{◌≡◌, ℕ, ◌+◌, ◌*◌, ℤ, pos, ◌+ℤ◌, ◌-ℤ◌, ◌*ℤ◌, neg_ℤ, arith, ap, subst}, lemmas.Int.{ints}}
use borrow.Author.Differences.{up, down, same_in}

pub diff : ℕ → ℕ → ℤ
diff a b = pos a -ℤ pos b

pub diff-add : (a b c d : ℕ) → diff a b +ℤ diff c d ≡ diff (a + c) (b + d)
unfolding diff
diff-add a b c d = omega (arith, ints)

pub diff-neg : (a b : ℕ) → neg_ℤ (diff a b) ≡ diff b a
unfolding diff
diff-neg a b = omega (arith, ints)

diff_is : (a b : ℕ) → up (diff a b) + b ≡ down (diff a b) + a
unfolding diff
diff_is a b = omega (arith, ints)

product_lem : (p n u v a b c d : ℕ) → p + b ≡ n + a → u + d ≡ v + c → (p * u + n * v) + (a * d + b * c) ≡ (p * v + n * u) + (a * c + b * d)
product_lem p n u v a b c d e f =
    let e1 : (p + b) * u ≡ (n + a) * u = ap (λ x. x * u) e in
    let e2 : (p + b) * v ≡ (n + a) * v = ap (λ x. x * v) e in
    let f1 : a * (u + d) ≡ a * (v + c) = ap (λ x. a * x) f in
    let f2 : b * (u + d) ≡ b * (v + c) = ap (λ x. b * x) f in
    omega arith

pub diff-mul : (a b c d : ℕ) → diff a b *ℤ diff c d ≡ diff (a * c + b * d) (a * d + b * c)
diff-mul a b c d =
    same_in (diff a b *ℤ diff c d) (diff (a * c + b * d) (a * d + b * c))
    (omega (arith, ints, diff_is (a * c + b * d) (a * d + b * c), product_lem (up (diff a b)) (down (diff a b)) (up (diff c d)) (down (diff c d)) a b c d (diff_is a b) (diff_is c d)))

pub diff-same : (a b c d : ℕ) → a + d ≡ c + b → diff a b ≡ diff c d
unfolding diff
diff-same a b c d e = omega (arith, ints)

pub same-diff : (a b c d : ℕ) → diff a b ≡ diff c d → a + d ≡ c + b
unfolding diff
same-diff a b c d e = omega (arith, ints)

as_diff : (z : ℤ) → diff (up z) (down z) ≡ z
unfolding diff
as_diff z = omega (arith, ints)

-- what holds of each difference holds of each integer
pub by_diff : (P : ℤ → Type 0) → ((p n : ℕ) → P (diff p n)) → (z : ℤ) → P z
by_diff P f z = subst P (as_diff z) (f (up z) (down z))

pub pos-diff : (n : ℕ) → pos n ≡ diff n 0
unfolding diff
pos-diff n = omega (arith, ints)

pub ruleset diffs = (diff-add, diff-mul, diff-neg, pos-diff)
