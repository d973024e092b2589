-- Pieces put one behind the other.
use Rattle.std.proofs.{Common.{◌≡◌, ℕ, ◌+◌, List, [], ◌++◌, length, take, sym, ◌∙◌, ap, append_assoc}, lemmas.List.{append-nil}}

-- a front and one more piece are a longer front
pub next : (at size : ℕ) (front piece old now : List ℕ) → take at old ≡ front → length piece ≡ size → take (at + length piece) now ≡ take at old ++ piece → take (at + size) now ≡ front ++ piece
next at size front piece old now had long put = ap (λ n. take (at + n) now) (sym long) ∙ put ∙ ap (λ f. f ++ piece) had

pub head_lines : (version word digest other_word other_digest feed : List ℕ) → (version ++ feed) ++ word ++ digest ++ feed ++ other_word ++ other_digest ++ feed
    ≡ version ++ (feed ++ ((word ++ digest) ++ (feed ++ ((other_word ++ other_digest) ++ (feed ++ [])))))
head_lines version word digest other_word other_digest feed = simp (append_assoc, append-nil)
