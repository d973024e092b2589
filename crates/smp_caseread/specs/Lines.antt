-- The lines of a case.
use Rattle.std.specs.Prelude.{◌≡◌, ℕ, List, [], ◌++◌, ◌⊎◌, Some, None, codes}
use Rattle.smp_caseread.specs.declared.lines.Line.{Line}
use Rattle.smp_caseread.specs.declared.lines.Line.TheVariants as lines

-- how a line is written
abbrev pub IsWritten : Line → List ℕ → Type 0
IsWritten lines.Remark text = (text ≡ []) ⊎ ((rest : List ℕ) × (text ≡ codes "#" ++ rest))
IsWritten (lines.Content rest) text = text ≡ codes "|" ++ rest.now
IsWritten (lines.Words None) text = text ≡ codes "words"
IsWritten (lines.Words (Some rest)) text = text ≡ codes "words " ++ rest.now
IsWritten (lines.File rest) text = text ≡ codes "file " ++ rest.now
IsWritten (lines.FailingCall rest) text = text ≡ codes "failing call " ++ rest.now
IsWritten (lines.FailingPut rest) text = text ≡ codes "failing put " ++ rest.now
IsWritten (lines.WantedCode rest) text = text ≡ codes "wanted code " ++ rest.now
IsWritten (lines.WantedFile rest) text = text ≡ codes "wanted file " ++ rest.now
IsWritten (lines.WantedNoFile rest) text = text ≡ codes "wanted no file " ++ rest.now
IsWritten lines.WantedPut text = text ≡ codes "wanted put"

-- No line is written so.
abbrev pub IsNoLine : List ℕ → Type 0
IsNoLine text = (line : Line) → IsWritten line text → ⊥
