-- Lines that lack a byte, and texts of such lines.
use Rattle.std.proofs.Common.{◌≡◌, ℕ, ◌==◌, true, false, List, [], ◌∷◌, ◌++◌, Option, Some, None, option_map, refl, sym, ap, ◌∙◌, subst, append_assoc, inl, inr}
use Rattle.std.proofs.lemmas.Bool.{cases_Bool, eqb-true, eq-eqb}
use Rattle.smp_frac.specs.Cuts.{cut_at}
use Rattle.smp_log.specs.{Lines.{longer, whole_lines, lines_text, Lacks, AreLines}, Reading.{behind}}

-- ---- a byte that a text lacks

no_pair : {A : Type 0} (p : A) → Some p ≡ None → ⊥
no_pair p h = cc

none_behind : {A B : Type 0} (f : A → B) (o : Option A) → option_map f o ≡ None → o ≡ None
none_behind f None h = refl
none_behind f (Some x) h = absurd (no_pair (f x) h)

-- by its first byte
pub Lacks-cons : (c b : ℕ) (text : List ℕ) → Lacks c (b ∷ text) → ((b == c) ≡ false) × Lacks c text
Lacks-cons c b text h = elim (cases_Bool (b == c)) [
  | inl e ↦ (let some : Some ([], text) ≡ None = rw e at h in absurd (no_pair ([], text) some))
  | inr e ↦ (e, none_behind (λ (p : List ℕ × List ℕ). (b ∷ p.0, p.1)) (cut_at c text) (rw e at h))
]

pub cons-Lacks : (c b : ℕ) (text : List ℕ) → (b == c) ≡ false → Lacks c text → Lacks c (b ∷ text)
cons-Lacks c b text e h = rw (e, h) refl

pub Lacks-append : (c : ℕ) (a b : List ℕ) → Lacks c a → Lacks c b → Lacks c (a ++ b)
Lacks-append c [] b h k = k
Lacks-append c (x ∷ a) b h k = let parts = Lacks-cons c x a h in cons-Lacks c x (a ++ b) parts.0 (Lacks-append c a b parts.1 k)

pub cut_behind : (c : ℕ) (a b : List ℕ) → Lacks c a → cut_at c (a ++ c ∷ b) ≡ Some (a, b)
cut_behind c [] b h = let e : (c == c) ≡ true = eq-eqb c c refl in rw e refl
cut_behind c (x ∷ a) b h = let parts = Lacks-cons c x a h in rw (parts.0, cut_behind c a b parts.1) refl

-- what a cut says of the whole
abbrev IsCut : ℕ → List ℕ → Option (List ℕ × List ℕ) → Type 0
IsCut c text None = Unit {0}
IsCut c text (Some p) = (text ≡ p.0 ++ c ∷ p.1) × Lacks c p.0

cut_longer : (c b : ℕ) (text : List ℕ) (cut : Option (List ℕ × List ℕ)) → (b == c) ≡ false → IsCut c text cut → IsCut c (b ∷ text) (option_map (λ p. (b ∷ p.0, p.1)) cut)
cut_longer c b text None e h = tt
cut_longer c b text (Some p) e h = (ap (λ t. b ∷ t) h.0, cons-Lacks c b p.0 e h.1)

cut_is : (c : ℕ) (text : List ℕ) → IsCut c text (cut_at c text)
cut_is c [] = tt
cut_is c (b ∷ text) = elim (cases_Bool (b == c)) [
  | inl e ↦ rw e (ap (λ x. x ∷ text) (eqb-true b c e), refl)
  | inr e ↦ rw e (cut_longer c b text (cut_at c text) e (cut_is c text))
]

pub cut_parts : (c : ℕ) (text : List ℕ) (p : List ℕ × List ℕ) → cut_at c text ≡ Some p → (text ≡ p.0 ++ c ∷ p.1) × Lacks c p.0
cut_parts c text p h = subst (IsCut c text) h (cut_is c text)

-- ---- whole lines

longer_lines : (b : ℕ) (text : List ℕ) → (b == 10) ≡ false → whole_lines (b ∷ text) ≡ longer b (whole_lines text)
longer_lines b text e = rw e refl

pub whole_lines-cons : (line text : List ℕ) → Lacks 10 line → whole_lines (line ++ 10 ∷ text) ≡ line ∷ whole_lines text
whole_lines-cons [] text h = refl
whole_lines-cons (b ∷ line) text h =
    let parts = Lacks-cons 10 b line h in
    longer_lines b (line ++ 10 ∷ text) parts.0 ∙ ap (longer b) (whole_lines-cons line text parts.1)

pub whole_lines-none : (text : List ℕ) → Lacks 10 text → whole_lines text ≡ []
whole_lines-none [] h = refl
whole_lines-none (b ∷ text) h = let parts = Lacks-cons 10 b text h in longer_lines b text parts.0 ∙ ap (longer b) (whole_lines-none text parts.1)

pub AreLines-append : (ls ms : List (List ℕ)) → AreLines ls → AreLines ms → AreLines (ls ++ ms)
AreLines-append [] ms h k = k
AreLines-append (l ∷ ls) ms h k = (h.0, AreLines-append ls ms h.1 k)

pub whole_lines-text : (lines : List (List ℕ)) (text : List ℕ) → AreLines lines → whole_lines (lines_text lines ++ text) ≡ lines ++ whole_lines text
whole_lines-text [] text h = refl
whole_lines-text (line ∷ lines) text h =
    let regrouped : lines_text (line ∷ lines) ++ text ≡ line ++ 10 ∷ (lines_text lines ++ text) = append_assoc line (10 ∷ lines_text lines) text in
    ap whole_lines regrouped ∙ whole_lines-cons line (lines_text lines ++ text) h.0 ∙ ap (λ ls. line ∷ ls) (whole_lines-text lines text h.1)

pub lines_text-append : (ls ms : List (List ℕ)) → lines_text (ls ++ ms) ≡ lines_text ls ++ lines_text ms
lines_text-append [] ms = refl
lines_text-append (l ∷ ls) ms = ap (λ t. l ++ 10 ∷ t) (lines_text-append ls ms) ∙ sym (append_assoc l (10 ∷ lines_text ls) (lines_text ms))

-- ---- what stands behind a front

pub behind-append : (front rest : List ℕ) → behind front (front ++ rest) ≡ Some rest
behind-append [] rest = refl
behind-append (b ∷ front) rest = let e : (b == b) ≡ true = eq-eqb b b refl in rw e (behind-append front rest)

pub behind-is : (front text rest : List ℕ) → behind front text ≡ Some rest → text ≡ front ++ rest
behind-is [] text rest h = let e : ◌≡◌ {A = Option (List ℕ)} (Some text) (Some rest) = h in cc
behind-is (b ∷ front) [] rest h = absurd (let e : ◌≡◌ {A = Option (List ℕ)} None (Some rest) = h in cc)
behind-is (b ∷ front) (c ∷ text) rest h = elim (cases_Bool (b == c)) [
  | inl e ↦
      (let more : behind front text ≡ Some rest = rw e at h in
      let head : b ≡ c = eqb-true b c e in
      let tail : text ≡ front ++ rest = behind-is front text rest more in
      ap (λ x. x ∷ text) (sym head) ∙ ap (λ t. b ∷ t) tail)
  | inr e ↦ (let none : ◌≡◌ {A = Option (List ℕ)} None (Some rest) = rw e at h in absurd (cc))
]
