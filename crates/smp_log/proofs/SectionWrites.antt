-- A log of version 2 that is being written.
use Rattle.std.proofs.Common.{◌≡◌, ℕ, zero, suc, ◌+◌, ◌<◌, ◌≤◌, nat_lt, Bool, true, false, cond, List, [], ◌∷◌, ◌++◌, length, refl, sym, ap, ◌∙◌, subst, arith, append_assoc, codes}
use Rattle.std.specs.List.{flat_map, range_with_len}
use Rattle.smp_split.specs.Paths.{Entry}
use Rattle.smp_log.specs.{Lines.{lines_text}, Logs.{step_text, end_text}, Reading.{step_line, end_line}}
use Rattle.smp_log.specs.SectionLogs.{RiseFrom, stratum_text, done_text, section_text, sectioned_head, sections_text}
use Rattle.smp_log.specs.SectionReading.{stratum_line, done_line}
use Rattle.smp_log.proofs.{LineTexts.{step_text_line, end_text_line}, KeptSections.{sections_lines, numbered_text}}
use Rattle.smp_log.proofs.SectionScripts.{AllFrom, all_from_less, open_lines, inside_lines, open_lines-enter, inside_lines-step, inside_lines-leave}

-- before a section or the last line: the text so far, and then the lines of the steps that are left, are the log
pub record WritesOpening (head : List ℕ) (count : ℕ) (steps : List (ℕ × Entry)) (h taken next : ℕ) (left : List (ℕ × Entry)) (text : List ℕ) : Type 0 where
  pub more : ℕ
  pub at : h + more ≡ count
  pub rise : RiseFrom count h left
  pub behind : next + length left ≡ length steps
  pub few : taken ≤ next
  pub whole : text ++ lines_text (open_lines h more taken next left) ≡ sections_text head count steps

-- the same in a section, of which `own` steps stand there
pub record WritesInside (head : List ℕ) (count : ℕ) (steps : List (ℕ × Entry)) (h taken next own : ℕ) (left : List (ℕ × Entry)) (text : List ℕ) : Type 0 where
  pub more : ℕ
  pub at : h + suc more ≡ count
  pub rise : RiseFrom count h left
  pub behind : next + length left ≡ length steps
  pub few : (taken ≤ next) × (own ≤ next)
  pub whole : text ++ lines_text (inside_lines h more taken next own left) ≡ sections_text head count steps

all_from : (count low : ℕ) (steps : List (ℕ × Entry)) → RiseFrom count low steps → AllFrom low steps
all_from count low [] rise = tt
all_from count low (step ∷ steps) rise = (rise.0, all_from_less low step.0 steps rise.0 (all_from count step.0 steps rise.2))

module _ (head : List ℕ) (count : ℕ) (steps : List (ℕ × Entry)) where
  pub first : RiseFrom count 0 steps → (text : List ℕ) → text ≡ sectioned_head head → WritesOpening head count steps 0 0 0 steps text
  first rise text is =
      let none : length steps ≡ 0 + length steps = omega arith in
      record {
        more = count;
        at = omega arith;
        rise = rise;
        behind = omega arith;
        few = omega arith;
        whole = ap (λ t. t ++ lines_text (open_lines 0 count 0 0 steps)) is ∙ ap (λ t. sectioned_head head ++ t) (sym (sections_lines count 0 0 steps)) ∙ ap (λ n. sectioned_head head ++ (flat_map (section_text steps) (range_with_len 0 count) ++ end_text n)) (sym none);
      }

  pub enters : (h taken next : ℕ) (left : List (ℕ × Entry)) (text new : List ℕ) → WritesOpening head count steps h taken next left text → h < count → new ≡ text ++ stratum_text (h + 1) taken → WritesInside head count steps h taken next 0 left new
  enters h taken next left text new w less is = by_more w.more refl
    where
      by_more : (more : ℕ) → w.more ≡ more → WritesInside head count steps h taken next 0 left new
      by_more zero e = absurd (omega (arith, w.at, e))
      by_more (suc more) e =
          let lines : open_lines h w.more taken next left ≡ stratum_line (h + 1) taken ∷ inside_lines h more taken next 0 left =
          ap (λ k. open_lines h k taken next left) e ∙ open_lines-enter h h more taken next left (omega arith) (all_from count h left w.rise) in
          let rest : List ℕ = lines_text (inside_lines h more taken next 0 left) in
          record {
            more = more;
            at = omega (arith, w.at, e);
            rise = w.rise;
            behind = w.behind;
            few = (w.few, omega arith);
            whole = ap (λ t. t ++ rest) is ∙ append_assoc text (stratum_text (h + 1) taken) rest ∙ ap (λ t. text ++ t) (numbered_text (codes "stratum ") (h + 1) taken rest) ∙ ap (λ ls. text ++ lines_text ls) (sym lines) ∙ w.whole;
          }

  module _ (h taken next own : ℕ) (left : List (ℕ × Entry)) (text : List ℕ) (w : WritesInside head count steps h taken next own left text) where
    pub steps_on : (g : ℕ) (line : Entry) (rest : List (ℕ × Entry)) (new : List ℕ) → left ≡ (g, line) ∷ rest → g ≡ h → new ≡ text ++ step_text line → WritesInside head count steps h (taken + cond (nat_lt 1 line.1) 1 0) (next + 1) (own + 1) rest new
    steps_on g line rest new is here new_is =
        let rise : RiseFrom count h ((g, line) ∷ rest) = subst (RiseFrom count h) is w.rise in
        let taken' : ℕ = taken + cond (nat_lt 1 line.1) 1 0 in
        let after : List ℕ = lines_text (inside_lines h w.more taken' (next + 1) (own + 1) rest) in
        let lines : inside_lines h w.more taken next own left ≡ step_line line ∷ inside_lines h w.more taken' (next + 1) (own + 1) rest =
        ap (inside_lines h w.more taken next own) is ∙ inside_lines-step h g w.more taken next own line rest here in
        let one : cond (nat_lt 1 line.1) 1 0 ≤ 1 = at_most (nat_lt 1 line.1) in
        let size : length left ≡ suc (length rest) = ap length is in
        record {
          more = w.more;
          at = w.at;
          rise = subst (λ low. RiseFrom count low rest) here rise.2;
          behind = omega (arith, w.behind, size);
          few = (omega (arith, w.few.0, one), omega (arith, w.few.1));
          whole = ap (λ x. x ++ after) new_is ∙ append_assoc text (step_text line) after ∙ ap (λ x. text ++ x) (step_text_line line after) ∙ ap (λ ls. text ++ lines_text ls) (sym lines) ∙ w.whole;
        }
      where
        at_most : (b : Bool) → cond b 1 0 ≤ 1
        at_most true = omega arith
        at_most false = omega arith

    -- no step of the section is left
    pub leaves : (new : List ℕ) → RiseFrom count (h + 1) left → new ≡ text ++ done_text (h + 1) own → WritesOpening head count steps (h + 1) taken next left new
    leaves new later new_is =
        let rest : List ℕ = lines_text (open_lines (h + 1) w.more taken next left) in
        let lines : inside_lines h w.more taken next own left ≡ done_line (h + 1) own ∷ open_lines (h + 1) w.more taken next left =
        inside_lines-leave h (h + 1) w.more taken next own left (omega arith) (all_from count (h + 1) left later) in
        record {
          more = w.more;
          at = omega (arith, w.at);
          rise = later;
          behind = w.behind;
          few = w.few.0;
          whole = ap (λ t. t ++ rest) new_is ∙ append_assoc text (done_text (h + 1) own) rest ∙ ap (λ t. text ++ t) (numbered_text (codes "done ") (h + 1) own rest) ∙ ap (λ ls. text ++ lines_text ls) (sym lines) ∙ w.whole;
        }

  pub whole_log : (h taken next : ℕ) (left : List (ℕ × Entry)) (text new : List ℕ) → WritesOpening head count steps h taken next left text → count ≤ h → new ≡ text ++ end_text next → new ≡ sections_text head count steps
  whole_log h taken next left text new w high is =
      let over : w.more ≡ 0 = omega (arith, w.at) in
      let none : next + 0 ≡ next = omega arith in
      let lines : open_lines h w.more taken next left ≡ end_line next ∷ [] =
      ap (λ k. open_lines h k taken next left) over ∙ ap (λ (ls : List (ℕ × Entry)). end_line (next + length ls) ∷ []) (none_left left w.rise) ∙ ap (λ n. end_line n ∷ []) none in
      is ∙ ap (λ t. text ++ t) (end_text_line next) ∙ ap (λ ls. text ++ lines_text ls) (sym lines) ∙ w.whole
    where
      none_left : (ls : List (ℕ × Entry)) → RiseFrom count h ls → ls ≡ []
      none_left [] rise = refl
      none_left (step ∷ ls) rise = absurd (omega (arith, rise.0, rise.1))
