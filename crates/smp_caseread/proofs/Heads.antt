-- A text that begins as no line does.
use Rattle.std.proofs.Common.{◌≡◌, ℕ, List, [], ◌++◌, Some, None, codes, inl, inr}
use Rattle.smp_caseread.specs.Lines.{IsNoLine}
use Rattle.smp_caseread.specs.declared.lines.Line.TheVariants as lines

-- The text doesn't begin with these bytes.
abbrev pub Lacks : List ℕ → List ℕ → Type 0
Lacks head text = (rest : List ℕ) → text ≡ head ++ rest → ⊥

-- the tests of `of_text` fail
module _ (text : List ℕ) (some : text ≡ [] → ⊥) (remark : Lacks (codes "#") text) (content : Lacks (codes "|") text) (wanted : Lacks (codes "wanted ") text) (no_words : text ≡ codes "words" → ⊥)
    (words : Lacks (codes "words ") text) (file : Lacks (codes "file ") text) (call : Lacks (codes "failing call ") text) (put : Lacks (codes "failing put ") text) where
  pub no_line : IsNoLine text
  no_line lines.Remark (inl empty) = some empty
  no_line lines.Remark (inr (rest, is)) = remark rest is
  no_line (lines.Content rest) is = content rest.now is
  no_line (lines.Words None) is = no_words is
  no_line (lines.Words (Some rest)) is = words rest.now is
  no_line (lines.File rest) is = file rest.now is
  no_line (lines.FailingCall rest) is = call rest.now is
  no_line (lines.FailingPut rest) is = put rest.now is
  no_line (lines.WantedCode rest) is = wanted (codes "code " ++ rest.now) is
  no_line (lines.WantedFile rest) is = wanted (codes "file " ++ rest.now) is
  no_line (lines.WantedNoFile rest) is = wanted (codes "no file " ++ rest.now) is
  no_line lines.WantedPut is = wanted (codes "put") is
