-- What a log of version 2 tells of its path.
use Rattle.std.proofs.Common.{◌≡◌, ◌≢◌, ℕ, zero, suc, ◌+◌, ◌<◌, ◌≤◌, ◌==◌, true, false, cond, nat_lt, List, [], ◌∷◌, ◌++◌, drop, Option, Some, None, refl, sym, ap, ◌∙◌, subst, arith, codes, inl, inr}
use Rattle.std.specs.{Prelude.{option_and_then}, Fmt.{decimal}}
use Rattle.std.proofs.lemmas.Bool.{cases_Bool, eqb-true, eqb-false}
use Rattle.smp_split.specs.{declared.kind.Kind.{Kind}, declared.kind.Kind.TheVariants.{Order}, Kinds.{kind_word}, Paths.{Entry, Leads}}
use Rattle.smp_split.specs.{Trees.{Tree, Lawful, weight_sum, picked}, Sectioning.{Sectioning, IsSectioned}}
use Rattle.smp_split.specs.Laws.Steps.{picked_belongs, value_within}
use Rattle.smp_log.specs.{Lines.{whole_lines}, Heads.{IsHead}, SectionLogs.{placed, IsSectionedGenuine}}
use Rattle.smp_log.specs.Reading.{Script, behind, numbers_of, value_of, step_line, step_value, after_line}
use Rattle.smp_log.specs.{SectionReading.{stratum_line, done_line}, Told.{path_along, path_told, path_in_first_lines, IsToldAlong}}
use Rattle.smp_log.proofs.{FirstLines.{first_is}, Described.{whole_text}, OnePath.{entry_is, value_read}, Reached.{Reached}}
use Rattle.smp_log.proofs.{Telling.{none_along, step_along, told_over}, KeptSections.{sectioned_head_lines, log_lines, log_lines_are}}
use Rattle.smp_log.proofs.SectionScripts.{open_lines, inside_lines, open_lines-enter, inside_lines-step, inside_lines-leave, placed_from, later_section, done_here}

-- ---- lines that are no steps

-- a line is that of no step
abbrev pub IsNoStep : List ℕ → Type 0
IsNoStep line = (kind : Kind) → behind (kind_word kind) line ≡ None

stratum_no_step : (rest : List ℕ) (kind : Kind) → behind (kind_word kind) (codes "stratum " ++ rest) ≡ None
stratum_no_step rest Order = refl
stratum_no_step rest _ = refl

done_no_step : (rest : List ℕ) (kind : Kind) → behind (kind_word kind) (codes "done " ++ rest) ≡ None
done_no_step rest Order = refl
done_no_step rest _ = refl

pub stratum_is_no_step : (number place : ℕ) → IsNoStep (stratum_line number place)
stratum_is_no_step number place kind = stratum_no_step (decimal number ++ 32 ∷ decimal place) kind

pub done_is_no_step : (number steps : ℕ) → IsNoStep (done_line number steps)
done_is_no_step number steps kind = done_no_step (decimal number ++ 32 ∷ decimal steps) kind

no_value : (kind : Kind) (bound : ℕ) (line : List ℕ) → behind (kind_word kind) line ≡ None → step_value kind bound line ≡ None
unfolding step_value
no_value kind bound line none = ap (option_and_then (λ rest. option_and_then (value_of bound) (numbers_of rest))) none

module _ {State : Type 0} (tree : Tree State) where
  -- such a line is passed over
  pub passed_over : (s : State) (line : List ℕ) (lines : List (List ℕ)) → IsNoStep line → path_along tree s (line ∷ lines) ≡ path_along tree s lines
  passed_over s line lines none = elim (cases_Bool (tree.done s)) [
    | inl e ↦ none_along tree s (line ∷ lines) e ∙ sym (none_along tree s lines e)
    | inr e ↦ (let no : step_value (tree.kind s) (weight_sum (tree.parts s)) line ≡ None = no_value (tree.kind s) (weight_sum (tree.parts s)) line (none (tree.kind s)) in rw (path_along, e, no) refl)
  ]

-- ---- a replay that tells its steps

-- a line that is no step was passed over
pub told_passed : {State Place : Type 0} {script : Script Place} {start place : Place} {log rest : List ℕ} {count : ℕ} (tree : Tree State) (from : State) (old : Option (List Entry)) → Reached script start place log rest count → 3 ≤ count → (s : State) (now : Option (List Entry))
    → IsToldAlong tree (path_in_first_lines tree from count log) from s old now → (wanted after : List ℕ) → after_line wanted rest ≡ Some after → IsNoStep wanted → IsToldAlong tree (path_in_first_lines tree from (count + 1) log) from s old now
told_passed {rest = rest} tree from old r low s now t wanted after some none = told_over tree from old r low s now t wanted after (first_is wanted rest after some) (passed_over tree s wanted [] none)

-- ---- what a genuine log tells

module _ {State : Type 0} (tree : Tree State) (belongs : State → Type 0) (lawful : Lawful tree belongs) (sections : Sectioning State) (sectioned : IsSectioned tree belongs sections) (from : State) (member : belongs from) where
  abbrev Along : ℕ → Type 0
  Along k = (h taken n : ℕ) (path : List Entry) (s leaf : State) → h + k ≡ sections.count → h ≤ sections.of s → belongs s → Leads tree s path leaf → tree.done leaf ≡ true → path_along tree s (open_lines h k taken n (placed tree sections s path)) ≡ path

  leave_along : (k : ℕ) → Along k → (h taken n own : ℕ) (path : List Entry) (s leaf : State) → h + suc k ≡ sections.count → h < sections.of s → belongs s → Leads tree s path leaf → tree.done leaf ≡ true
      → path_along tree s (inside_lines h k taken n own (placed tree sections s path)) ≡ path
  leave_along k opens h taken n own path s leaf at less b leads done =
      let steps : List (ℕ × Entry) = placed tree sections s path in
      ap (path_along tree s) (inside_lines-leave h (sections.of s) k taken n own steps less (placed_from tree belongs lawful sections sectioned from member path s leaf b leads))
      ∙ passed_over tree s (done_line (h + 1) own) (open_lines (h + 1) k taken n steps) (done_is_no_step (h + 1) own)
      ∙ opens (h + 1) taken n path s leaf (omega arith) (omega arith) b leads done

  inside_along : (k : ℕ) → Along k → (path : List Entry) (h taken n own : ℕ) (s leaf : State) → h + suc k ≡ sections.count → h ≤ sections.of s → belongs s → Leads tree s path leaf → tree.done leaf ≡ true
      → path_along tree s (inside_lines h k taken n own (placed tree sections s path)) ≡ path
  inside_along k opens [] h taken n own s leaf at le b leads done = none_along tree s (inside_lines h k taken n own []) (subst (λ t. tree.done t ≡ true) leads done)
  inside_along k opens (l ∷ path) h taken n own s leaf at le b leads done = elim (cases_Bool (sections.of s == h)) [
    | inl e ↦
        (let is : sections.of s ≡ h = eqb-true (sections.of s) h e in
        let t : State = picked s (tree.parts s) l.2 in
        let within : l.2 < weight_sum (tree.parts s) = value_within tree belongs lawful s l leads.0 in
        let b' : belongs t = picked_belongs tree belongs lawful s t l.2 b leads.0.going within refl in
        let later : sections.of s ≤ sections.of t = later_section tree belongs lawful sections sectioned from member s l.2 b leads.0.going within in
        let taken' : ℕ = taken + cond (nat_lt 1 l.1) 1 0 in
        let lines : List (List ℕ) = inside_lines h k taken' (n + 1) (own + 1) (placed tree sections t path) in
        ap (path_along tree s) (inside_lines-step h (sections.of s) k taken n own l (placed tree sections t path) is)
        ∙ step_along tree s (step_line l) lines l.2 leads.0.going (value_read tree belongs lawful s l b leads.0)
        ∙ ap (λ (e : Entry). e ∷ path_along tree t lines) (entry_is tree belongs lawful s l leads.0)
        ∙ ap (λ (p : List Entry). l ∷ p) (inside_along k opens path h taken' (n + 1) (own + 1) t leaf at (omega arith) b' leads.1 done))
    | inr e ↦ (let no : sections.of s ≢ h = eqb-false (sections.of s) h e in leave_along k opens h taken n own (l ∷ path) s leaf at (omega arith) b leads done)
  ]

  along : (k : ℕ) → Along k
  along zero h taken n path s leaf at le b leads done =
      let e : tree.done s ≡ true = done_here tree belongs lawful sections sectioned from member s b (omega arith) in
      none_along tree s (open_lines h 0 taken n (placed tree sections s path)) e ∙ sym (ends_here path leads e)
    where
      ends_here : (path : List Entry) → Leads tree s path leaf → tree.done s ≡ true → path ≡ []
      ends_here [] leads e = refl
      ends_here (l ∷ path) leads e = absurd (let no : true ≡ false = sym e ∙ leads.0.going in cc)
  along (suc k) h taken n path s leaf at le b leads done =
      let steps : List (ℕ × Entry) = placed tree sections s path in
      ap (path_along tree s) (open_lines-enter h (sections.of s) k taken n steps le (placed_from tree belongs lawful sections sectioned from member path s leaf b leads))
      ∙ passed_over tree s (stratum_line (h + 1) taken) (inside_lines h k taken n 0 steps) (stratum_is_no_step (h + 1) taken)
      ∙ inside_along k (along k) path h taken n 0 s leaf at le b leads done

  -- a genuine log tells its own path
  pub sectioned_told : (head log : List ℕ) → IsHead head → (leaf : State) (genuine : IsSectionedGenuine tree sections from head log leaf) → path_told tree from log ≡ genuine.path
  sectioned_told head log h leaf genuine =
      let path : List Entry = genuine.path in
      let lines : List (List ℕ) = sectioned_head_lines h ++ open_lines 0 sections.count 0 0 (placed tree sections from path) in
      let whole : whole_lines log ≡ lines = ap whole_lines (genuine.text ∙ log_lines tree belongs lawful sections sectioned from member head h path) ∙ whole_text lines (log_lines_are tree belongs lawful sections sectioned from member head h path) in
      ap (λ (ls : List (List ℕ)). path_along tree from (drop 3 ls)) whole ∙ along sections.count 0 0 0 path from leaf (omega arith) (omega arith) member genuine.full.leads genuine.full.done
