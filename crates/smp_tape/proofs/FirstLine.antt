-- The lines of a text, by the first one and what comes after it.
use Rattle.std.proofs.Common.{◌≡◌, ℕ, ◌<◌, Bool, true, false, cond, List, [], ◌∷◌, length, Option, Some, None, option_map, refl, ◌∙◌, ap, arith, ◌==◌}
use Rattle.smp_frac.specs.Cuts.{cut_at}
use Rattle.smp_tape.specs.TapeText.{in_front, lines_in}

abbrev by_first : List ℕ → Option (List ℕ × List ℕ) → List (List ℕ)
by_first text None = text ∷ []
by_first text (Some p) = p.0 ∷ lines_in p.1

behind : (b : ℕ) (text : List ℕ) (cut : Option (List ℕ × List ℕ)) → in_front b (by_first text cut) ≡ by_first (b ∷ text) (option_map (λ p. (b ∷ p.0, p.1)) cut)
behind b text None = refl
behind b text (Some p) = refl

by_test : (t : Bool) (b : ℕ) (text : List ℕ) → in_front b (lines_in text) ≡ by_first (b ∷ text) (option_map (λ p. (b ∷ p.0, p.1)) (cut_at 10 text))
    → cond t ([] ∷ lines_in text) (in_front b (lines_in text)) ≡ by_first (b ∷ text) (cond t (Some ([], text)) (option_map (λ p. (b ∷ p.0, p.1)) (cut_at 10 text)))
by_test true b text h = refl
by_test false b text h = h

lines_by_first : (b : ℕ) (text : List ℕ) → lines_in (b ∷ text) ≡ by_first (b ∷ text) (cut_at 10 (b ∷ text))
lines_by_first b [] = by_test (b == 10) b [] refl
lines_by_first b (c ∷ text) = by_test (b == 10) b (c ∷ text) (ap (in_front b) (lines_by_first c text) ∙ behind b (c ∷ text) (cut_at 10 (c ∷ text)))

lines_in-cut : (text : List ℕ) → 0 < length text → lines_in text ≡ by_first text (cut_at 10 text)
lines_in-cut [] h = absurd (omega arith)
lines_in-cut (b ∷ text) h = lines_by_first b text

-- a text without a line feed is one line
pub lines_in-no_cut : (text : List ℕ) → 0 < length text → cut_at 10 text ≡ None → lines_in text ≡ text ∷ []
lines_in-no_cut text h none = lines_in-cut text h ∙ ap (by_first text) none

-- else the lines are the first one and those of what comes after it
pub lines_in-first : (text line after : List ℕ) → 0 < length text → cut_at 10 text ≡ Some (line, after) → lines_in text ≡ line ∷ lines_in after
lines_in-first text line after h cut = lines_in-cut text h ∙ ap (by_first text) cut
