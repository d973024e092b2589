-- What is left behind words, and the words there.
use Rattle.std.proofs.Common.{◌≡◌, ℕ, zero, suc, ◌+◌, ap, ◌∙◌, arith}
use Rattle.smp_tape.specs.Streams.{Stream, ahead, behind}

module _ {Words : Type 0} (stream : Stream Words) where
  pub behind_next : (n : ℕ) (words : Words) → stream.next (behind stream n words) ≡ behind stream (n + 1) words
  behind_next n words = (let one : suc n ≡ n + 1 = omega arith in ap (λ k. behind stream k words) one)

  pub behind_more : (m n : ℕ) (words : Words) → behind stream n (behind stream m words) ≡ behind stream (m + n) words
  behind_more m zero words = (let none : m ≡ m + 0 = omega arith in ap (λ k. behind stream k words) none)
  behind_more m (suc n) words =
      let next : suc (m + n) ≡ m + suc n = omega arith in
      ap stream.next (behind_more m n words) ∙ ap (λ k. behind stream k words) next

  pub ahead_behind : (m place : ℕ) (words : Words) → ahead stream (behind stream m words) place ≡ ahead stream words (m + place)
  ahead_behind m place words = ap stream.first (behind_more m place words)
