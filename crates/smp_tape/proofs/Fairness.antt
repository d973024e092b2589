-- Each value of a draw has the same number of blocks.
use Rattle.std.proofs.Common.{◌≡◌, ◌≢◌, ℕ, zero, suc, ◌+◌, ◌-◌, ◌*◌, ◌/◌, ◌%◌, ◌^◌, ◌<◌, ◌≤◌, ◌==◌, Bool, true, false, cond, refl, sym, ap, ◌∙◌, subst, arith, inl, inr}
use Rattle.std.proofs.{Math.Nat.{pow-suc}, lemmas.Bool.{cases_Bool, eqb-true, ne_eqb, eq-eqb}, lemmas.List.Sums.{sum_by-cons}}
use Rattle.std.proofs.lemmas.Nat.{pow-add, pow_pos, shr_below, mod-mul-add, div-add-mod'}
use Rattle.std.specs.List.{count_by, range_with_len}
use Rattle.smp_tape.specs.{Sieves.{halvings, binary_digits, bits_of, words_of}, Fair.{IsFair}}

-- ---- the bits of a bound hold its draws, and its words hold the bits

pub below_halvings : (k n : ℕ) → n < 2 ^ k → n < 2 ^ halvings k n
below_halvings zero n h = h
below_halvings (suc k) n h = elim (cases_Bool (n == 0)) [
  | inl e ↦ (let z : n ≡ 0 = eqb-true n 0 e in rw e (omega (arith, z)))
  | inr e ↦
      (let s = pow-suc 2 k in
      let half : n / 2 < 2 ^ k = omega arith in
      let rest : n / 2 < 2 ^ halvings k (n / 2) = below_halvings k (n / 2) half in
      let t = pow-suc 2 (halvings k (n / 2)) in
      rw e (omega arith))
]

pub halvings_le : (k n : ℕ) → halvings k n ≤ k
halvings_le zero n = omega arith
halvings_le (suc k) n = elim (cases_Bool (n == 0)) [
  | inl e ↦ rw e (omega arith)
  | inr e ↦ rw e (let rest : halvings k (n / 2) ≤ k = halvings_le k (n / 2) in omega arith)
]

pub bound_within : (bound : ℕ) → 1 < bound → bound < 2 ^ 126 → bound ≤ 2 ^ bits_of bound
unfolding binary_digits
bound_within bound some narrow = (let l : bound - 1 < 2 ^ halvings 128 (bound - 1) = below_halvings 128 (bound - 1) (omega arith) in omega arith)

-- ---- counting in periods

-- how many of n numbers from a on pass
hits : (ℕ → Bool) → ℕ → ℕ → ℕ
hits p a zero = 0
hits p a (suc n) = cond (p a) 1 0 + hits p (a + 1) n

count_hits : (p : ℕ → Bool) (a n : ℕ) → count_by p (range_with_len a n) ≡ hits p a n
unfolding hits
count_hits p a zero = refl
count_hits p a (suc n) = sum_by-cons (λ x. cond (p x) 1 0) a (range_with_len (a + 1) n) ∙ ap (λ k. cond (p a) 1 0 + k) (count_hits p (a + 1) n)

hits_append : (p : ℕ → Bool) (a m n : ℕ) → hits p a (m + n) ≡ hits p a m + hits p (a + m) n
unfolding hits
hits_append p a zero n = (let e : 0 + n ≡ n = omega arith in let z : a + 0 ≡ a = omega arith in ap (hits p a) e ∙ (let f : hits p a n ≡ hits p (a + 0) n = ap (λ b. hits p b n) (sym z) in omega (arith, f)))
hits_append p a (suc m) n =
    let e : suc m + n ≡ suc (m + n) = omega arith in
    let z : a + 1 + m ≡ a + suc m = omega arith in
    ap (hits p a) e ∙ ap (λ k. cond (p a) 1 0 + k) (hits_append p (a + 1) m n ∙ ap (λ b. hits p (a + 1) m + hits p b n) z) ∙ omega arith

-- none of n numbers passes, or exactly one, where one alone could
hits_none : (p : ℕ → Bool) (a n : ℕ) → ((i : ℕ) → i < n → p (a + i) ≡ false) → hits p a n ≡ 0
unfolding hits
hits_none p a zero h = refl
hits_none p a (suc n) h =
    let z : a + 0 ≡ a = omega arith in
    let first : p a ≡ false = ap p (sym z) ∙ h 0 (omega arith) in
    let rest : hits p (a + 1) n ≡ 0 = hits_none p (a + 1) n (λ i l. (let s : a + 1 + i ≡ a + suc i = omega arith in ap p s ∙ h (suc i) (omega arith))) in
    rw first (omega (arith, rest))

hits_one : (p : ℕ → Bool) (a n v : ℕ) → v < n → p (a + v) ≡ true → ((i : ℕ) → i < n → i ≢ v → p (a + i) ≡ false) → hits p a n ≡ 1
unfolding hits
hits_one p a zero v l h others = absurd (omega arith)
hits_one p a (suc n) zero l h others =
    let z : a + 0 ≡ a = omega arith in
    let first : p a ≡ true = ap p (sym z) ∙ h in
    let none : hits p (a + 1) n ≡ 0 = hits_none p (a + 1) n (λ i k. (let s : a + 1 + i ≡ a + suc i = omega arith in ap p s ∙ others (suc i) (omega arith) (λ e. omega (arith, e)))) in
    rw first (omega (arith, none))
hits_one p a (suc n) (suc v) l h others =
    let z : a + 0 ≡ a = omega arith in
    let first : p a ≡ false = ap p (sym z) ∙ others 0 (omega arith) (λ e. omega (arith, e)) in
    let s : a + 1 + v ≡ a + suc v = omega arith in
    let one : hits p (a + 1) n ≡ 1 = hits_one p (a + 1) n v (omega arith) (ap p s ∙ h) (λ i k ne. (let t : a + 1 + i ≡ a + suc i = omega arith in ap p t ∙ others (suc i) (omega arith) (λ e. ne (omega arith)))) in
    rw first (omega (arith, one))

module _ (period v : ℕ) (some : 0 < period) (within : v < period) where
  abbrev test : ℕ → Bool
  test x = x % period == v

  one_period : (m : ℕ) → hits test (m * period) period ≡ 1
  one_period m = hits_one test (m * period) period v within
      (eq-eqb ((m * period + v) % period) v (mod-mul-add m period v within))
      (λ i l ne. ne_eqb ((m * period + i) % period) v (λ e. ne (sym (mod-mul-add m period i l) ∙ e)))

  periods : (m : ℕ) → hits test 0 (m * period) ≡ m
  unfolding hits
  periods zero = (let z : 0 * period ≡ 0 = omega arith in ap (hits test 0) z)
  periods (suc m) =
      let more : suc m * period ≡ m * period + period = next m period in
      let z : 0 + m * period ≡ m * period = omega arith in
      ap (hits test 0) more ∙ hits_append test 0 (m * period) period
      ∙ (let a : hits test 0 (m * period) ≡ m = periods m in let b : hits test (0 + m * period) period ≡ 1 = ap (λ s. hits test s period) z ∙ one_period m in omega (arith, a, b))
    where
      next : (n k : ℕ) → suc n * k ≡ n * k + k
      next n k = omega arith

pub fair : (bound : ℕ) → 1 < bound → bound < 2 ^ 126 → IsFair bound
fair bound some narrow =
    let bits : ℕ = bits_of bound in
    let all : ℕ = 32 * words_of bound in
    let room : bits ≤ all = omega arith in
    let high : bound ≤ 2 ^ bits = bound_within bound some narrow in
    let split : all ≡ (all - bits) + bits = omega arith in
    let power : 2 ^ all ≡ 2 ^ (all - bits) * 2 ^ bits = ap (λ n. 2 ^ n) split ∙ pow-add 2 (all - bits) bits in
    record {
      which = λ v block small fits. (
        λ e. (block / 2 ^ bits, shr_below block (all - bits) bits (subst (λ n. block < 2 ^ n) split fits), by_parts block (2 ^ bits) v e),
        λ w. ap (λ n. n % 2 ^ bits) (w.2 ∙ swap v (w.0 * 2 ^ bits)) ∙ mod-mul-add w.0 (2 ^ bits) v (omega arith),
      );
      count = λ v small.
          count_hits (λ block. block % 2 ^ bits == v) 0 (2 ^ all) ∙ ap (hits (λ block. block % 2 ^ bits == v) 0) power ∙ periods (2 ^ bits) v (pow_pos bits) (omega arith) (2 ^ (all - bits));
    }
  where
    by_parts : (block m v : ℕ) → block % m ≡ v → block ≡ v + block / m * m
    by_parts block m v e = (let d = div-add-mod' block m in omega (arith, d, e))

    swap : (a b : ℕ) → a + b ≡ b + a
    swap a b = omega arith
