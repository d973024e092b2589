-- How a draw goes on from candidate to candidate.
use Rattle.std.proofs.Common.{◌≡◌, ℕ, zero, suc, ◌+◌, ◌-◌, ◌*◌, ◌/◌, ◌%◌, ◌^◌, ◌<◌, ◌≤◌, ◌==◌, false, Ok, Err, refl, sym, ap, subst, ◌∙◌, arith, inl, inr}
use Rattle.std.proofs.{Math.Nat.{pow-suc}, lemmas.Bool.{cases_lt, lt-ltb, le-ltb, ne_eqb}}
use Rattle.smp_tape.specs.{declared.draws.DrawFault.TheVariants.{Rejected}, Streams.{Stream, ahead, behind}}
use Rattle.smp_tape.specs.Sieves.{halvings, binary_digits, bits_of, words_of, block, from_place, candidate, first_below, candidate_at, AllThrown, IsFirst, Taken, Thrown}
use Rattle.smp_tape.proofs.Streams.{ahead_behind, behind_more}

-- ---- the number of binary digits

halvings_none : (k : ℕ) → halvings k 0 ≡ 0
halvings_none zero = refl
halvings_none (suc k) = refl

halvings_more : (k n : ℕ) → 1 ≤ n → halvings (suc k) n ≡ suc (halvings k (n / 2))
halvings_more k n h = let e : (n == 0) ≡ false = ne_eqb n 0 (λ z. omega arith) in rw e refl

pub halvings_is : (k j n : ℕ) → 2 ^ j ≤ n → n < 2 ^ suc j → n < 2 ^ k → halvings k n ≡ suc j
halvings_is zero j n low high small =
    let some : 1 ≤ 2 ^ j = one_le j in
    absurd (omega arith)
  where
    one_le : (j : ℕ) → 1 ≤ 2 ^ j
    one_le zero = omega arith
    one_le (suc j) = (let p : 1 ≤ 2 ^ j = one_le j in let s = pow-suc 2 j in omega arith)
halvings_is (suc k) zero n low high small =
    let half : n / 2 ≡ 0 = omega arith in
    halvings_more k n (omega arith) ∙ ap (λ m. suc (halvings k m)) half ∙ ap suc (halvings_none k)
halvings_is (suc k) (suc j) n low high small =
    let s = pow-suc 2 j in
    let t = pow-suc 2 (suc j) in
    let u = pow-suc 2 k in
    let some : 1 ≤ 2 ^ j = one_le j in
    halvings_more k n (omega arith) ∙ ap suc (halvings_is k j (n / 2) (omega arith) (omega arith) (omega arith))
  where
    one_le : (j : ℕ) → 1 ≤ 2 ^ j
    one_le zero = omega arith
    one_le (suc j) = (let p : 1 ≤ 2 ^ j = one_le j in let s = pow-suc 2 j in omega arith)

-- where 2^r is the greatest power that isn't above b - 1
pub bits_are : (bound r : ℕ) → 2 ^ r ≤ bound - 1 → bound - 1 < 2 * 2 ^ r → bound < 2 ^ 126 → bits_of bound ≡ r + 1
unfolding binary_digits
bits_are bound r low high narrow =
    let s = pow-suc 2 r in
    let next : suc r ≡ r + 1 = omega arith in
    halvings_is 128 r (bound - 1) low (omega arith) (omega arith) ∙ next

-- ---- candidates

block_same : (words now : ℕ → ℕ) (k : ℕ) → ((place : ℕ) → words place ≡ now place) → block words k ≡ block now k
block_same words now zero h = refl
block_same words now (suc k) h = ap (λ b. b + words k * 2 ^ (32 * k)) (block_same words now k h) ∙ ap (λ w. block now k + w * 2 ^ (32 * k)) (h k)

pub first-here : (n : ℕ) (words : ℕ → ℕ) (place bound : ℕ) → 1 ≤ n → candidate words place bound < bound → first_below n words place bound ≡ (Ok (candidate words place bound), place + words_of bound)
unfolding first_below
first-here zero words place bound some h = absurd (omega arith)
first-here (suc n) words place bound some h = rw (lt-ltb (candidate words place bound) bound h) refl

pub first-later : (n : ℕ) (words : ℕ → ℕ) (place bound : ℕ) → 1 ≤ n → bound ≤ candidate words place bound → first_below n words place bound ≡ first_below (n - 1) words (place + words_of bound) bound
unfolding first_below
first-later zero words place bound some h = absurd (omega arith)
first-later (suc n) words place bound some h = let less : suc n - 1 ≡ n = omega arith in rw (le-ltb (candidate words place bound) bound h, less) refl

pub first-none : (words : ℕ → ℕ) (place bound : ℕ) → first_below 0 words place bound ≡ (Err (Rejected bound), place)
unfolding first_below
first-none words place bound = refl

-- so many candidates were thrown away, and what is behind their words is left
pub record Tried {Words : Type 0} (stream : Stream Words) (words now : Words) (bound tried : ℕ) : Type 0 where
  pub rest : Taken stream words bound tried now
  pub none : Thrown stream words bound tried
  pub on : first_below 256 (ahead stream words) 0 bound ≡ first_below (256 - tried) (ahead stream words) (tried * words_of bound) bound

pub none_tried : {Words : Type 0} (stream : Stream Words) (words : Words) (bound : ℕ) → Tried stream words words bound 0
none_tried stream words bound =
    let first : 0 ≡ 0 * words_of bound = omega arith in
    record {
      rest = ap (λ n. behind stream n words) first;
      none = λ k h. absurd (omega arith);
      on = ap (λ p. first_below 256 (ahead stream words) p bound) first;
    }

module _ {Words : Type 0} (stream : Stream Words) (words now new : Words) (bound tried value : ℕ) (t : Tried stream words now bound tried) (more : tried < 256) (value_is : value ≡ block (ahead stream now) (words_of bound) % 2 ^ bits_of bound) (rest : new ≡ behind stream (words_of bound) now) where
  candidate_is : candidate_at stream words bound tried ≡ value
  unfolding candidate
  candidate_is =
      ap (λ b. b % 2 ^ bits_of bound)
      (block_same (from_place (ahead stream words) (tried * words_of bound)) (ahead stream now) (words_of bound) (λ place. sym (ap (λ w. ahead stream w place) t.rest ∙ ahead_behind stream (tried * words_of bound) place words)))
      ∙ sym value_is

  next : (tried + 1) * words_of bound ≡ tried * words_of bound + words_of bound
  next = one_more tried (words_of bound)
    where
      one_more : (n k : ℕ) → (n + 1) * k ≡ n * k + k
      one_more n k = omega arith

  taken : Taken stream words bound (tried + 1) new
  taken = rest ∙ ap (behind stream (words_of bound)) t.rest ∙ behind_more stream (tried * words_of bound) (words_of bound) words ∙ ap (λ n. behind stream n words) (sym next)

  none_yet : bound ≤ value → Thrown stream words bound (tried + 1)
  none_yet h k below =
      elim (cases_lt k tried) [
        | inl l ↦ t.none k l
        | inr r ↦
            (let same : tried ≡ k = omega arith in
            let high : bound ≤ candidate_at stream words bound tried = omega (arith, candidate_is, h) in
            subst (λ j. bound ≤ candidate_at stream words bound j) same high)
      ]

  pub thrown_away : bound ≤ value → Tried stream words new bound (tried + 1)
  thrown_away h =
      let less : 256 - tried - 1 ≡ 256 - (tried + 1) = omega arith in
      let high : bound ≤ candidate_at stream words bound tried = omega (arith, candidate_is, h) in
      record {
        rest = taken;
        none = none_yet h;
        on = t.on ∙ first-later (256 - tried) (ahead stream words) (tried * words_of bound) bound (omega arith) high
            ∙ ap (λ n. first_below n (ahead stream words) (tried * words_of bound + words_of bound) bound) less ∙ ap (λ p. first_below (256 - (tried + 1)) (ahead stream words) p bound) (sym next);
      }

  pub found : value < bound → first_below 256 (ahead stream words) 0 bound ≡ (Ok value, (tried + 1) * words_of bound)
  found h =
      let low : candidate_at stream words bound tried < bound = omega (arith, candidate_is, h) in
      t.on ∙ first-here (256 - tried) (ahead stream words) (tried * words_of bound) bound (omega arith) low
      ∙ (λ i. (Ok (candidate_is i), (sym next) i))

  pub found_rest : value < bound → new ≡ behind stream (first_below 256 (ahead stream words) 0 bound).1 words
  found_rest h = taken ∙ ap (λ p. behind stream p.1 words) (sym (found h))

  pub is_first : value < bound → IsFirst stream words bound value new
  is_first h = record { before = tried; few = more; thrown = t.none; value_is = sym candidate_is; below = h; taken = taken }

module _ {Words : Type 0} (stream : Stream Words) (words now : Words) (bound : ℕ) (t : Tried stream words now bound 256) where
  pub none_found : first_below 256 (ahead stream words) 0 bound ≡ (Err (Rejected bound), 256 * words_of bound)
  none_found = t.on ∙ first-none (ahead stream words) (256 * words_of bound) bound

  pub all_rest : now ≡ behind stream (first_below 256 (ahead stream words) 0 bound).1 words
  all_rest = t.rest ∙ ap (λ p. behind stream p.1 words) (sym none_found)

  pub all_thrown : AllThrown stream words bound (Rejected bound) now
  all_thrown = record { thrown = t.none; fault_is = refl; taken = t.rest }
