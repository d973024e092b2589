-- The number that the first words of a stream make.
use Rattle.std.proofs.{Common.{◌≡◌, ℕ, suc, ◌+◌, ◌*◌, ◌^◌, ◌<◌, ◌≤◌, refl, sym, ap, ◌∙◌, arith, inl, inr, ◌⊎◌}, lemmas.Bool.{cases_lt}}
use Rattle.std.proofs.lemmas.Nat.{pow-add, pow_below}
use Rattle.smp_tape.specs.{Streams.{Stream, ahead, behind}, Sieves.{block}}
use Rattle.smp_tape.proofs.Streams.{behind_next}

-- the first k words make this number, and what is behind them is left
pub record IsBlock {Words : Type 0} (stream : Stream Words) (words now : Words) (value k : ℕ) : Type 0 where
  pub is : value ≡ block (ahead stream words) k
  pub small : value < 2 ^ (32 * k)
  pub rest : now ≡ behind stream k words

pub no_block : {Words : Type 0} (stream : Stream Words) (words : Words) → IsBlock stream words words 0 0
no_block stream words = record { is = refl; small = omega arith; rest = refl }

pub power_more : (k : ℕ) → 2 ^ (32 * (k + 1)) ≡ 2 ^ 32 * 2 ^ (32 * k)
power_more k = (let e : 32 * (k + 1) ≡ 32 + 32 * k = omega arith in ap (λ n. 2 ^ n) e ∙ pow-add 2 32 (32 * k))

pub word_more : {Words : Type 0} (stream : Stream Words) (words now new : Words) (value k word : ℕ) → IsBlock stream words now value k → word ≡ stream.first now → word < 2 ^ 32 → new ≡ stream.next now
    → IsBlock stream words new (value + word * 2 ^ (32 * k)) (k + 1)
word_more stream words now new value k word b word_is word_small rest =
    let here : word ≡ ahead stream words k = word_is ∙ ap stream.first b.rest in
    let next : k + 1 ≡ suc k = omega arith in
    let p : ℕ = 2 ^ (32 * k) in
    let below : value < p = b.small in
    let power : 2 ^ (32 * (k + 1)) ≡ 2 ^ 32 * p = power_more k in
    let room : word * p + p ≤ 2 ^ 32 * p = scale p word word_small in
    record {
      is = ap (λ v. v + word * p) b.is ∙ ap (λ w. block (ahead stream words) k + w * p) here ∙ ap (block (ahead stream words)) (sym next);
      small = omega (arith, below, power, room);
      rest = rest ∙ ap stream.next b.rest ∙ behind_next stream k words;
    }
  where
    scale : (p word : ℕ) → word < 2 ^ 32 → word * p + p ≤ 2 ^ 32 * p
    scale p word h = grind arith

pub pow_le : (i j : ℕ) → i ≤ j → 2 ^ i ≤ 2 ^ j
pow_le i j h = elim (cases_le i j h) [
  | inl l ↦ (let p : 2 ^ i < 2 ^ j = pow_below i j l in omega arith)
  | inr e ↦ (let q : 2 ^ i ≡ 2 ^ j = ap (λ n. 2 ^ n) e in omega (arith, q))
]
  where
    cases_le : (i j : ℕ) → i ≤ j → (i < j) ⊎ (i ≡ j)
    cases_le i j h = elim (cases_lt i j) [ inl l ↦ inl l | inr l ↦ inr (omega arith) ]
