-- The lines of a head, in any script that begins with them.
use Rattle.std.proofs.Common.{◌≡◌, ℕ, Bool, true, false, cond, List, [], ◌∷◌, ◌++◌, Some, None, refl, sym, ap, ◌∙◌, subst}
use Rattle.std.specs.Str.{bytes_eq}
use Rattle.std.proofs.lemmas.Slice.Eq.{bytes_eq-Decides}
use Rattle.smp_log.specs.Reading.{Script}
use Rattle.smp_log.proofs.{Options.{some_cond}, Scripts.{Accepts}}

-- before the lines of a head: the first of them leads on, and no other line
pub record AreHeads {Place : Type 0} (script : Script Place) (before : List (List ℕ) → Place) : Type 0 where
  pub takes : (x : List ℕ) (hs : List (List ℕ)) (line : List ℕ) → script.follow (before (x ∷ hs)) line ≡ cond (bytes_eq line x) (Some (before hs)) None
  pub goes_on : (x : List ℕ) (hs : List (List ℕ)) → script.over (before (x ∷ hs)) ≡ false

-- lines behind those of a head
pub record HasHead {Place : Type 0} (script : Script Place) (behind : Place) (hs lines : List (List ℕ)) (to : Place) : Type 0 where
  pub rest : List (List ℕ)
  pub lines_are : lines ≡ hs ++ rest
  pub accepted : Accepts script behind rest to

module _ {Place : Type 0} (script : Script Place) (before : List (List ℕ) → Place) (are : AreHeads script before) where
  pub behind_head : (hs lines : List (List ℕ)) (to : Place) → Accepts script (before []) lines to → Accepts script (before hs) (hs ++ lines) to
  behind_head [] lines to h = h
  behind_head (line ∷ hs) lines to h =
      (before hs, are.takes line hs line ∙ ap (λ (b : Bool). cond b (Some (before hs)) None) ((bytes_eq-Decides line line).1 refl), behind_head hs lines to h)

  pub has_head : (hs lines : List (List ℕ)) (to : Place) → Accepts script (before hs) lines to → HasHead script (before []) hs lines to
  has_head [] lines to h = record { rest = lines; lines_are = refl; accepted = h }
  has_head (x ∷ hs) [] to h = absurd (let no : ◌≡◌ {A = Bool} true false = sym h.1 ∙ are.goes_on x hs in cc)
  has_head (x ∷ hs) (line ∷ lines) to h =
      let test = some_cond (bytes_eq line x) (before hs) h.0 (sym (are.takes x hs line) ∙ h.1) in
      let on = has_head hs lines to (subst (λ p. Accepts script p lines to) (sym test.1) h.2) in
      record { rest = on.rest; lines_are = ap (λ l. l ∷ lines) ((bytes_eq-Decides line x).0 test.0) ∙ ap (λ ls. x ∷ ls) on.lines_are; accepted = on.accepted }
