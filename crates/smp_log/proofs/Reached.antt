-- A reading that is under way: the lines so far lead to a place, and the rest is to be read from there.
use Rattle.std.proofs.Common.{◌≡◌, ℕ, suc, ◌+◌, true, List, [], ◌∷◌, ◌++◌, length, take, Some, None, refl, sym, ap, ◌∙◌, subst, arith, append_assoc, length-append, inl, inr, ◌⊎◌}
use Rattle.std.proofs.lemmas.List.{take_at}
use Rattle.smp_frac.specs.Cuts.{cut_at}
use Rattle.smp_log.specs.{Lines.{whole_lines, lines_text, AreLines}, Reading.{Script, follows}}
use Rattle.smp_log.proofs.Texts.{AreLines-append, whole_lines-text, whole_lines-none, whole_lines-cons, lines_text-append, cut_parts}
use Rattle.smp_log.proofs.Scripts.{Accepts, follows-some, follows-none}

-- the script leads along lines from a place to another
abbrev pub LeadsAlong : {Place : Type 0} → Script Place → Place → List (List ℕ) → Place → Type 0
LeadsAlong script place [] to = to ≡ place
LeadsAlong {Place} script place (line ∷ lines) to = (next : Place) × (script.follow place line ≡ Some next) × LeadsAlong script next lines to

module _ {Place : Type 0} (script : Script Place) where
  pub LeadsAlong-push : (place mid to : Place) (lines : List (List ℕ)) (line : List ℕ) → LeadsAlong script place lines mid → script.follow mid line ≡ Some to → LeadsAlong script place (lines ++ line ∷ []) to
  LeadsAlong-push place mid to [] line h step = (to, ap (λ p. script.follow p line) (sym h) ∙ step, refl)
  LeadsAlong-push place mid to (l ∷ lines) line h step = (h.0, h.1, LeadsAlong-push h.0 mid to lines line h.2 step)

  pub follows-append : (place mid : Place) (lines more : List (List ℕ)) → LeadsAlong script place lines mid → follows script place (lines ++ more) ≡ (length lines + (follows script mid more).0, (follows script mid more).1)
  follows-append place mid [] more h = (let none : (follows script mid more).0 ≡ 0 + (follows script mid more).0 = omega arith in ap (λ p. follows script p more) (sym h) ∙ ap (λ n. (n, (follows script mid more).1)) none)
  follows-append place mid (l ∷ lines) more h =
      let rest = follows-append h.0 mid lines more h.2 in
      let n : ℕ = (follows script mid more).0 in
      let count : suc (length lines + n) ≡ suc (length lines) + n = omega arith in
      follows-some script place h.0 l (lines ++ more) h.1 ∙ ap (λ r. (suc r.0, r.1)) rest ∙ ap (λ k. (k, (follows script mid more).1)) count

  pub accepted_along : (place to : Place) (lines : List (List ℕ)) → LeadsAlong script place lines to → script.over to ≡ true → Accepts script place lines to
  accepted_along place to [] h over = (h, subst (λ p. script.over p ≡ true) h over)
  accepted_along place to (l ∷ lines) h over = (h.0, h.1, accepted_along h.0 to lines h.2 over)

  -- so many lines of a text lead to a place, and the rest stands behind them
  pub record Reached (start place : Place) (text rest : List ℕ) (count : ℕ) : Type 0 where
    pub lines : List (List ℕ)
    pub text_is : text ≡ lines_text lines ++ rest
    pub are : AreLines lines
    pub counted : length lines ≡ count
    pub leads : LeadsAlong script start lines place

  pub reached_more : (start place next : Place) (text rest line after : List ℕ) (count : ℕ) → Reached start place text rest count → cut_at 10 rest ≡ Some (line, after) → script.follow place line ≡ Some next → Reached start next text after (count + 1)
  reached_more start place next text rest line after count r cut step =
      let parts = cut_parts 10 rest (line, after) cut in
      record {
        lines = r.lines ++ line ∷ [];
        text_is =
            r.text_is ∙ ap (λ t. lines_text r.lines ++ t) parts.0
            ∙ sym (ap (λ t. t ++ after) (lines_text-append r.lines (line ∷ [])) ∙ append_assoc (lines_text r.lines) (line ++ 10 ∷ []) after ∙ ap (λ t. lines_text r.lines ++ t) (append_assoc line (10 ∷ []) after));
        are = AreLines-append r.lines (line ∷ []) r.are (parts.1, tt);
        counted = length-append r.lines (line ∷ []) ∙ ap (λ n. n + 1) r.counted;
        leads = LeadsAlong-push start place next r.lines line r.leads step;
      }

  -- they are the first lines of the text
  whole_reached : (start place : Place) (text rest : List ℕ) (count : ℕ) (r : Reached start place text rest count) → whole_lines text ≡ r.lines ++ whole_lines rest
  whole_reached start place text rest count r = ap whole_lines r.text_is ∙ whole_lines-text r.lines rest r.are

  pub first_lines : (start place : Place) (text rest : List ℕ) (count : ℕ) (r : Reached start place text rest count) → take count (whole_lines text) ≡ r.lines
  first_lines start place text rest count r = ap (take count) (whole_reached start place text rest count r) ∙ take_at r.lines (whole_lines rest) count r.counted

  pub reached_lines : (start place : Place) (text rest : List ℕ) (count : ℕ) → Reached start place text rest count → whole_lines text ≡ take count (whole_lines text) ++ whole_lines rest
  reached_lines start place text rest count r = whole_reached start place text rest count r ∙ ap (λ ls. ls ++ whole_lines rest) (sym (first_lines start place text rest count r))

  -- and the line behind them comes next
  pub next_lines : (start place : Place) (text rest : List ℕ) (count : ℕ) → Reached start place text rest count → (line after : List ℕ) → cut_at 10 rest ≡ Some (line, after) → take (count + 1) (whole_lines text) ≡ take count (whole_lines text) ++ line ∷ []
  next_lines start place text rest count r line after cut =
      let parts = cut_parts 10 rest (line, after) cut in
      let lines : whole_lines text ≡ (r.lines ++ line ∷ []) ++ whole_lines after =
      whole_reached start place text rest count r ∙ ap (λ ls. r.lines ++ ls) (ap whole_lines parts.0 ∙ whole_lines-cons line after parts.1) ∙ sym (append_assoc r.lines (line ∷ []) (whole_lines after)) in
      ap (take (count + 1)) lines ∙ take_at (r.lines ++ line ∷ []) (whole_lines after) (count + 1) (length-append r.lines (line ∷ []) ∙ ap (λ n. n + 1) r.counted)
      ∙ ap (λ ls. ls ++ line ∷ []) (sym (first_lines start place text rest count r))

  -- where the first whole line of the rest doesn't lead on, or isn't there
  stuck_follows : (place : Place) (rest : List ℕ) → (cut_at 10 rest ≡ None) ⊎ ((p : List ℕ × List ℕ) × (cut_at 10 rest ≡ Some p) × (script.follow place p.0 ≡ None)) → follows script place (whole_lines rest) ≡ (0, place)
  stuck_follows place rest h = elim h [
    | inl none ↦ ap (follows script place) (whole_lines-none rest none)
    | inr w ↦
        (let parts = cut_parts 10 rest w.0 w.1 in
        ap (λ t. follows script place (whole_lines t)) parts.0 ∙ ap (follows script place) (whole_lines-cons w.0.0 w.0.1 parts.1) ∙ follows-none script place w.0.0 (whole_lines w.0.1) w.2)
  ]

  -- so the script follows exactly the lines so far
  pub stuck : (start place : Place) (text rest : List ℕ) (count : ℕ) → Reached start place text rest count → (cut_at 10 rest ≡ None) ⊎ ((p : List ℕ × List ℕ) × (cut_at 10 rest ≡ Some p) × (script.follow place p.0 ≡ None)) → follows script start (whole_lines text) ≡ (count, place)
  stuck start place text rest count r h =
      let here = stuck_follows place rest h in
      let all : length r.lines + 0 ≡ count = omega (arith, r.counted) in
      ap (λ t. follows script start (whole_lines t)) r.text_is ∙ ap (follows script start) (whole_lines-text r.lines rest r.are)
      ∙ follows-append start place r.lines (whole_lines rest) r.leads ∙ ap (λ x. (length r.lines + x.0, x.1)) here ∙ ap (λ n. (n, place)) all
