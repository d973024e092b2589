-- How the reading of a front goes on: a text is read as far as it has the front's lines.
use Rattle.std.specs.Prelude.{◌≡◌, ◌⊎◌, ℕ, ◌+◌, false, Some, None, List, ◌∷◌, ◌++◌, length}
use Rattle.std.specs.Str.{bytes_eq}
use Rattle.smp_frac.specs.Cuts.{cut_at}
use Rattle.smp_log.specs.Lines.{AreLines, lines_text, whole_lines}
use Rattle.smp_log.specs.declared.fault.ReplayFault.{ReplayFault}
use Rattle.smp_log.specs.declared.fault.ReplayFault.TheVariants.{Differs, NoMemory}

-- a text that ends with its last whole line
abbrev pub IsCompleteLines : List ℕ → Type 0
IsCompleteLines text = text ≡ lines_text (whole_lines text)

-- a text has no whole line, or its first one is another
abbrev pub HasOtherLine : List ℕ → List ℕ → Type 0
HasOtherLine wanted text =
    (cut_at 10 text ≡ None)
    ⊎ ((p : List ℕ × List ℕ) × (cut_at 10 text ≡ Some p) × (bytes_eq p.0 wanted ≡ false))

-- The line of this number is the first that isn't that of a front: the lines before it are, and it isn't there or is another.
pub record StopsAt (front text : List ℕ) (number : ℕ) : Type 0 where
  pub same : List (List ℕ)
  pub wanted : List ℕ
  pub others : List (List ℕ)
  pub front_is : whole_lines front ≡ same ++ wanted ∷ others
  pub rest : List ℕ
  pub text_is : text ≡ lines_text same ++ rest
  pub are : AreLines same
  pub other : HasOtherLine wanted rest
  pub counted : number ≡ length same + 1

-- a fault that names a line, of whose number this is true
abbrev pub Names : (ℕ → Type 0) → ReplayFault → Type 0
Names P (Differs line) = P line
Names P NoMemory = ⊥
