-- What a text stands for, as far as it was read.
use Rattle.std.proofs.Common.{◌≡◌, ℕ, List, [], ◌∷◌, ◌++◌, Some, None, sym, subst, ◌∙◌, ap, append_assoc, append-nil}
use Rattle.std.proofs.lemmas.Option.{none-some, same_Some}
use Rattle.smp_caseread.specs.Escapes.{first_byte, StandsFor, StandsForNothing}

-- The text stands for these bytes and then for what the rest stands for, and it stands for nothing where the rest does.
pub record GoesOn (text done rest : List ℕ) : Type 0 where
  pub on : (more : List ℕ) → StandsFor rest more → StandsFor text (done ++ more)
  pub back : (all : List ℕ) → StandsFor text all → (more : List ℕ) × StandsFor rest more

pub at_start : (text : List ℕ) → GoesOn text [] text
at_start text = record { on = λ more h. h; back = λ all h. (all, h) }

-- one byte further
step_on : (text done rest next : List ℕ) (byte : ℕ) → GoesOn text done rest → first_byte rest ≡ Some (byte, next) → (more : List ℕ) → StandsFor next more → StandsFor text ((done ++ byte ∷ []) ++ more)
step_on text done rest next byte so_far is more h = subst (StandsFor text) (sym (append_assoc done (byte ∷ []) more)) (so_far.on (byte ∷ more) (next, is, h))

nothing_first : (rest next : List ℕ) (byte : ℕ) → rest ≡ [] → first_byte rest ≡ Some (byte, next) → ⊥
nothing_first rest next byte empty is = none-some (byte, next) (sym (ap first_byte empty) ∙ is)

after : (rest next : List ℕ) (byte : ℕ) → first_byte rest ≡ Some (byte, next) → (more : List ℕ) → StandsFor rest more → (others : List ℕ) × StandsFor next others
after rest next byte is [] h = absurd (nothing_first rest next byte h is)
after rest next byte is (b ∷ more) (r, at, h) = (more, subst (λ t. StandsFor t more) (ap (λ p. p.1) (same_Some (b, r) (byte, next) (sym at ∙ is))) h)

pub one_further : (text done rest next : List ℕ) (byte : ℕ) → GoesOn text done rest → first_byte rest ≡ Some (byte, next) → GoesOn text (done ++ byte ∷ []) next
one_further text done rest next byte so_far is = record {
  on = step_on text done rest next byte so_far is;
  back = λ all h. let (more, rests) = so_far.back all h in after rest next byte is more rests;
}

-- nothing is left
pub at_end : (text done rest : List ℕ) → GoesOn text done rest → rest ≡ [] → StandsFor text done
at_end text done rest so_far empty = subst (StandsFor text) (append-nil done) (so_far.on [] empty)

stuck : (rest : List ℕ) → first_byte rest ≡ None → (rest ≡ [] → ⊥) → (more : List ℕ) → StandsFor rest more → ⊥
stuck rest none some [] h = some h
stuck rest none some (b ∷ more) (r, at, h) = none-some (b, r) (sym none ∙ at)

-- something is left that no byte begins
pub at_fault : (text done rest : List ℕ) → GoesOn text done rest → first_byte rest ≡ None → (rest ≡ [] → ⊥) → StandsForNothing text
at_fault text done rest so_far none some all h = let (more, rests) = so_far.back all h in stuck rest none some more rests
