-- How many lines a log of version 2 has.
use Rattle.std.proofs.Common.{◌≡◌, ℕ, zero, suc, ◌+◌, ◌*◌, ◌<◌, ◌≤◌, ◌==◌, nat_lt, Bool, true, false, cond, List, [], ◌∷◌, ◌++◌, length, map, refl, sym, ap, ◌∙◌, arith, length-append, inl, inr}
use Rattle.std.proofs.{lemmas.List.{length-map}, lemmas.Bool.{cases_Bool, cases_eq, eq-eqb, ne_eqb}}
use Rattle.smp_split.specs.{Trees.{Tree, Lawful, weight_sum, picked}, Paths.{Entry, Leads}, Sectioning.{Sectioning, IsSectioned}}
use Rattle.smp_split.specs.Laws.Steps.{picked_belongs}
use Rattle.smp_log.specs.{Lines.{whole_lines, lines_text}, Heads.{IsHead}, Genuine.{IsFullPath}, Reading.{step_line}}
use Rattle.smp_log.specs.SectionLogs.{placed, tape_place, sections_text}
use Rattle.smp_log.proofs.{StepsIn.{steps_before, steps_in}, Described.{whole_text}, OpeningLines.{lines_long}}
use Rattle.smp_log.proofs.SectionScripts.{section_lines, open_lines, tape_place-step}
use Rattle.smp_log.proofs.KeptSections.{sectioned_head_lines, log_lines, log_lines_are}

-- ---- the steps in k sections from h on

abbrev in_range : ℕ → ℕ → List (ℕ × Entry) → ℕ
in_range h zero steps = 0
in_range h (suc k) steps = length (steps_in h steps) + in_range (h + 1) k steps

in_range-none : (k h : ℕ) → in_range h k [] ≡ 0
in_range-none zero h = refl
in_range-none (suc k) h = (let rest : in_range (h + 1) k [] ≡ 0 = in_range-none k (h + 1) in omega (arith, rest))

in_range-out : (k h : ℕ) (e : ℕ × Entry) (steps : List (ℕ × Entry)) → e.0 < h → in_range h k (e ∷ steps) ≡ in_range h k steps
in_range-out zero h e steps less = refl
in_range-out (suc k) h e steps less =
    let other : (e.0 == h) ≡ false = ne_eqb e.0 h (λ same. omega (arith, same, less)) in
    rw other (ap (λ n. length (steps_in h steps) + n) (in_range-out k (h + 1) e steps (omega arith)))

in_range-in : (k h : ℕ) (e : ℕ × Entry) (steps : List (ℕ × Entry)) → h ≤ e.0 → e.0 < h + k → in_range h k (e ∷ steps) ≡ suc (in_range h k steps)
in_range-in zero h e steps low high = absurd (omega arith)
in_range-in (suc k) h e steps low high = elim (cases_eq e.0 h) [
  | inl same ↦
      (let is : (e.0 == h) ≡ true = eq-eqb e.0 h same in
      let rest : in_range (h + 1) k (e ∷ steps) ≡ in_range (h + 1) k steps = in_range-out k (h + 1) e steps (omega (arith, same)) in
      rw is (omega (arith, rest)))
  | inr away ↦
      (let other : (e.0 == h) ≡ false = ne_eqb e.0 h away in
      let later : h + 1 ≤ e.0 = omega (arith, away, low) in
      let rest : in_range (h + 1) k (e ∷ steps) ≡ suc (in_range (h + 1) k steps) = in_range-in k (h + 1) e steps later (omega arith) in
      rw other (omega (arith, rest)))
]

abbrev AllBelow : ℕ → List (ℕ × Entry) → Type 0
AllBelow m [] = Unit {0}
AllBelow m (e ∷ steps) = (e.0 < m) × AllBelow m steps

in_range-all : (k : ℕ) (steps : List (ℕ × Entry)) → AllBelow k steps → in_range 0 k steps ≡ length steps
in_range-all k [] all = in_range-none k 0
in_range-all k (e ∷ steps) all = in_range-in k 0 e steps (omega arith) (let low : e.0 < k = all.0 in omega arith) ∙ ap suc (in_range-all k steps all.1)

open_lines-count : (k h taken n : ℕ) (steps : List (ℕ × Entry)) → length (open_lines h k taken n steps) ≡ in_range h k steps + 2 * k + 1
open_lines-count zero h taken n steps = refl
open_lines-count (suc k) h taken n steps =
    let rest : length (open_lines (h + 1) k taken n steps) ≡ in_range (h + 1) k steps + 2 * k + 1 = open_lines-count k (h + 1) taken n steps in
    let both : length (open_lines h (suc k) taken n steps) ≡ length (section_lines taken steps h) + length (open_lines (h + 1) k taken n steps) = length-append (section_lines taken steps h) (open_lines (h + 1) k taken n steps) in
    let own : length (map step_line (steps_in h steps)) ≡ length (steps_in h steps) = length-map (steps_in h steps) step_line in
    let last : length (section_lines taken steps h) ≡ suc (length (steps_in h steps) + 1) = ap suc (length-append (map step_line (steps_in h steps)) _ ∙ ap (λ n. n + 1) own) in
    both ∙ omega (arith, rest, last)

-- ---- genuine logs

module _ {State : Type 0} (tree : Tree State) (belongs : State → Type 0) (lawful : Lawful tree belongs) (sections : Sectioning State) (sectioned : IsSectioned tree belongs sections) (from : State) (member : belongs from) (head : List ℕ) (h : IsHead head) where
  placed_below : (path : List Entry) (s leaf : State) → belongs s → Leads tree s path leaf → AllBelow sections.count (placed tree sections s path)
  placed_below [] s leaf b leads = tt
  placed_below (l ∷ path) s leaf b leads =
      let small : l.2 < weight_sum (tree.parts s) = rw leads.0.bound at leads.0.value in
      let next : State = picked s (tree.parts s) l.2 in
      let b' : belongs next = picked_belongs tree belongs lawful s next l.2 b leads.0.going small refl in
      (sectioned.going s b leads.0.going, placed_below path next leaf b' leads.1)

  placed_length : (path : List Entry) (s : State) → length (placed tree sections s path) ≡ length path
  placed_length [] s = refl
  placed_length (l ∷ path) s = ap suc (placed_length path (picked s (tree.parts s) l.2))

  pub sectioned_log_count : (path : List Entry) (leaf : State) → IsFullPath tree from path leaf → length (whole_lines (sections_text head sections.count (placed tree sections from path))) ≡ length path + 2 * sections.count + 4
  sectioned_log_count path leaf full =
      let steps : List (ℕ × Entry) = placed tree sections from path in
      let lines : List (List ℕ) = sectioned_head_lines h ++ open_lines 0 sections.count 0 0 steps in
      let is : whole_lines (sections_text head sections.count steps) ≡ lines =
      ap whole_lines (log_lines tree belongs lawful sections sectioned from member head h path)
      ∙ whole_text lines (log_lines_are tree belongs lawful sections sectioned from member head h path) in
      let all : in_range 0 sections.count steps ≡ length path = in_range-all sections.count steps (placed_below path from leaf member full.leads) ∙ placed_length path from in
      let total : length (open_lines 0 sections.count 0 0 steps) ≡ in_range 0 sections.count steps + 2 * sections.count + 1 = open_lines-count sections.count 0 0 0 steps in
      ap length is ∙ omega (arith, all, total)

  few_before : (k : ℕ) (steps : List (ℕ × Entry)) → length (steps_before k steps) ≤ length steps
  few_before k [] = omega arith
  few_before k (e ∷ steps) =
      let rest : length (steps_before k steps) ≤ length steps = few_before k steps in
      elim (cases_Bool (nat_lt e.0 k)) [ inl t ↦ rw t (omega (arith, rest)) | inr t ↦ rw t (omega (arith, rest)) ]

  few_taken : (path : List Entry) → tape_place path ≤ length path
  few_taken [] = omega arith
  few_taken (l ∷ path) =
      let rest : tape_place path ≤ length path = few_taken path in
      let one : cond (nat_lt 1 l.1) 1 0 ≤ 1 = at_most (nat_lt 1 l.1) in
      let all : tape_place (l ∷ path) ≡ cond (nat_lt 1 l.1) 1 0 + tape_place path = tape_place-step l path in
      omega (arith, rest, one, all)
    where
      at_most : (b : Bool) → cond b 1 0 ≤ 1
      at_most true = omega arith
      at_most false = omega arith

  -- no line of a log is shorter than its line feed
  long_log : (path : List Entry) (leaf : State) → IsFullPath tree from path leaf → length path + 2 * sections.count + 4 ≤ length (sections_text head sections.count (placed tree sections from path))
  long_log path leaf full =
      let steps : List (ℕ × Entry) = placed tree sections from path in
      let ls : List (List ℕ) = sectioned_head_lines h ++ open_lines 0 sections.count 0 0 steps in
      let text : sections_text head sections.count steps ≡ lines_text ls = log_lines tree belongs lawful sections sectioned from member head h path in
      let whole : whole_lines (sections_text head sections.count steps) ≡ ls = ap whole_lines text ∙ whole_text ls (log_lines_are tree belongs lawful sections sectioned from member head h path) in
      let size : length (sections_text head sections.count steps) ≡ length (lines_text ls) = ap length text in
      let many : length ls ≡ length path + 2 * sections.count + 4 = ap length (sym whole) ∙ sectioned_log_count path leaf full in
      let long = lines_long ls in
      omega (arith, size, many, long)

  -- so its length bounds the number of sections
  pub sections_within : (path : List Entry) (leaf : State) → IsFullPath tree from path leaf → sections.count ≤ length (sections_text head sections.count (placed tree sections from path))
  sections_within path leaf full = (let long = long_log path leaf full in omega (arith, long))

  -- and each place on the tape
  pub place_within : (path : List Entry) (leaf : State) → IsFullPath tree from path leaf → (k : ℕ) → tape_place (steps_before k (placed tree sections from path)) ≤ length (sections_text head sections.count (placed tree sections from path))
  place_within path leaf full k =
      let steps : List (ℕ × Entry) = placed tree sections from path in
      let long = long_log path leaf full in
      let first = few_taken (steps_before k steps) in
      let second = few_before k steps in
      let all : length steps ≡ length path = placed_length path from in
      omega (arith, long, first, second, all)
