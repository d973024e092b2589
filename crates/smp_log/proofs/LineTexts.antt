-- The texts of steps by their lines.
use Rattle.std.proofs.Common.{◌≡◌, ℕ, List, [], ◌∷◌, ◌++◌, map, refl, sym, ap, ◌∙◌, append_assoc, codes}
use Rattle.std.specs.Fmt.{decimal}
use Rattle.smp_split.specs.{Kinds.{kind_word}, Paths.{Entry}}
use Rattle.smp_log.specs.{Lines.{lines_text, AreLines}, Logs.{step_text, steps_text, end_text}, Reading.{step_line, end_line}}
use Rattle.smp_log.proofs.StepLines.{step_line_lacks}

pub step_text_line : (l : Entry) (rest : List ℕ) → step_text l ++ rest ≡ step_line l ++ 10 ∷ rest
step_text_line l rest =
    let word = kind_word l.0 in
    append_assoc word (32 ∷ (decimal l.1 ++ (32 ∷ (decimal l.2 ++ 10 ∷ [])))) rest
    ∙ ap (λ t. word ++ 32 ∷ t) (append_assoc (decimal l.1) (32 ∷ (decimal l.2 ++ 10 ∷ [])) rest ∙ ap (λ t. decimal l.1 ++ 32 ∷ t) (append_assoc (decimal l.2) (10 ∷ []) rest))
    ∙ sym (append_assoc word (32 ∷ (decimal l.1 ++ 32 ∷ decimal l.2)) (10 ∷ rest) ∙ ap (λ t. word ++ 32 ∷ t) (append_assoc (decimal l.1) (32 ∷ decimal l.2) (10 ∷ rest)))

pub steps_lines : (path : List Entry) (rest : List (List ℕ)) → steps_text path ++ lines_text rest ≡ lines_text (map step_line path ++ rest)
steps_lines [] rest = refl
steps_lines (l ∷ path) rest = append_assoc (step_text l) (steps_text path) (lines_text rest) ∙ ap (λ t. step_text l ++ t) (steps_lines path rest) ∙ step_text_line l (lines_text (map step_line path ++ rest))

pub end_text_line : (n : ℕ) → end_text n ≡ lines_text (end_line n ∷ [])
end_text_line n = sym (append_assoc (codes "end ") (decimal n) (10 ∷ []))

pub step_lines_are : (path : List Entry) → AreLines (map step_line path)
step_lines_are [] = tt
step_lines_are (l ∷ path) = (step_line_lacks l, step_lines_are path)
