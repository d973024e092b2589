-- The common divisor of one entry more.
use Rattle.std.proofs.{Common.{ℕ, ◌+◌, ◌≡◌, List, ℤ, pos, get_or, arith, sym, subst, below_more}, lemmas.Nat.Gcd.{dvd_trans}}
use Rattle.std.specs.{Int.RustNames.{unsigned_abs}, Int.{IsGcd}}
use Rattle.smp_frac.specs.Divisors.{IsContentOfFirst}
use Prim.Native.Nat.{◌∣◌}

pub content_more : (row : List ℤ) (n g a h : ℕ) → a ≡ unsigned_abs (get_or row n (pos 0)) → IsContentOfFirst n row g → IsGcd g a h → IsContentOfFirst (n + 1) row h
content_more row n g a h e c r = (
  below_more _ _ (λ i b. dvd_trans h r.0 (c.0 i b)) (let P : ℕ → Type 0 = λ x. h ∣ x in subst P e r.1),
  (λ d all. r.2 d (c.1 d (λ i b. all i (omega arith))) (let P : ℕ → Type 0 = λ x. d ∣ x in subst P (sym e) (all n (omega arith)))),
)
