-- The script of logs of version 2 describes the genuine ones.
use Rattle.std.proofs.Common.{◌≡◌, ℕ, zero, suc, ◌+◌, List, [], ◌∷◌, ◌++◌, length, map, drop, refl, sym, ap, ◌∙◌, arith, append_assoc, codes, inl}
use Rattle.std.specs.{List.{flat_map, range_with_len}, Fmt.{decimal}}
use Rattle.std.proofs.lemmas.List.{append-nil}
use Rattle.smp_split.specs.{Trees.{Tree, Lawful}, Paths.{Entry}, Sectioning.{Sectioning, IsSectioned}}
use Rattle.smp_log.specs.{Lines.{lines_text, Lacks, AreLines}, Heads.{IsHead}, Logs.{steps_text, end_text}, Reading.{Script, step_line}}
use Rattle.smp_log.specs.SectionLogs.{placed, tape_place, stratum_text, done_text, lone_text, section_text, sectioned_head, sections_text, IsSectionedGenuine, IsSectionedText}
use Rattle.smp_log.proofs.{StepsIn.{steps_before, steps_in}, Texts.{cons-Lacks, Lacks-append, AreLines-append, lines_text-append}}
use Rattle.smp_log.specs.SectionReading.{stratum_line, done_line, SectionPlace, closed, before, section_script}
use Rattle.smp_log.proofs.{Numbers.{decimal_lacks}, StepLines.{end_line_lacks}, LineTexts.{steps_lines, end_text_line, step_lines_are}}
use Rattle.smp_log.proofs.Described.{Describes, path_log, text_accepted}
use Rattle.smp_log.proofs.SectionScripts.{section_lines, open_lines, open_accepted, accepted_opening, Good, good_before, keeps, each_ends, head_accepted, accepted_head}

-- ---- the texts of sections by their lines

pub numbered_text : (word : List ℕ) (a b : ℕ) (rest : List ℕ) → (word ++ (decimal a ++ (codes " " ++ (decimal b ++ codes "\n")))) ++ rest ≡ (word ++ (decimal a ++ 32 ∷ decimal b)) ++ 10 ∷ rest
numbered_text word a b rest =
    append_assoc word (decimal a ++ (32 ∷ (decimal b ++ 10 ∷ []))) rest
    ∙ ap (λ t. word ++ t) (append_assoc (decimal a) (32 ∷ (decimal b ++ 10 ∷ [])) rest ∙ ap (λ t. decimal a ++ 32 ∷ t) (append_assoc (decimal b) (10 ∷ []) rest))
    ∙ sym (append_assoc word (decimal a ++ 32 ∷ decimal b) (10 ∷ rest) ∙ ap (λ t. word ++ t) (append_assoc (decimal a) (32 ∷ decimal b) (10 ∷ rest)))

pub numbered_lacks : (word : List ℕ) (a b : ℕ) → Lacks 10 word → Lacks 10 (word ++ (decimal a ++ 32 ∷ decimal b))
numbered_lacks word a b h =
    let second : Lacks 10 (32 ∷ decimal b) = cons-Lacks 10 32 (decimal b) refl (decimal_lacks 10 b (inl (omega arith))) in
    Lacks-append 10 word (decimal a ++ 32 ∷ decimal b) h (Lacks-append 10 (decimal a) (32 ∷ decimal b) (decimal_lacks 10 a (inl (omega arith))) second)

done_end : (a b : ℕ) → done_text a b ≡ lines_text (done_line a b ∷ [])
done_end a b = sym (append-nil (done_text a b)) ∙ numbered_text (codes "done ") a b []

-- a section by its lines
pub lone_lines : (number place : ℕ) (path : List Entry) → lone_text number place path ≡ lines_text (stratum_line number place ∷ (map step_line path ++ done_line number (length path) ∷ []))
lone_lines number place path =
    ap (λ t. stratum_text number place ++ t) (ap (λ t. steps_text path ++ t) (done_end number (length path)) ∙ steps_lines path (done_line number (length path) ∷ []))
    ∙ numbered_text (codes "stratum ") number place (lines_text (map step_line path ++ done_line number (length path) ∷ []))

pub lone_lines_are : (number place : ℕ) (path : List Entry) → AreLines (stratum_line number place ∷ (map step_line path ++ done_line number (length path) ∷ []))
lone_lines_are number place path =
    (numbered_lacks (codes "stratum ") number place refl, AreLines-append (map step_line path) (done_line number (length path) ∷ []) (step_lines_are path) (numbered_lacks (codes "done ") number (length path) refl, tt))

pub section_text_lines : (steps : List (ℕ × Entry)) (h : ℕ) → section_text steps h ≡ lines_text (section_lines 0 steps h)
section_text_lines steps h =
    let place : ℕ = tape_place (steps_before h steps) in
    let none : place ≡ 0 + place = omega arith in
    lone_lines (h + 1) place (steps_in h steps) ∙ ap (λ p. lines_text (stratum_line (h + 1) p ∷ (map step_line (steps_in h steps) ++ done_line (h + 1) (length (steps_in h steps)) ∷ []))) none

pub sections_lines : (k h n : ℕ) (steps : List (ℕ × Entry)) → flat_map (section_text steps) (range_with_len h k) ++ end_text (n + length steps) ≡ lines_text (open_lines h k 0 n steps)
sections_lines zero h n steps = end_text_line (n + length steps)
sections_lines (suc k) h n steps =
    append_assoc (section_text steps h) (flat_map (section_text steps) (range_with_len (h + 1) k)) (end_text (n + length steps))
    ∙ ap (λ t. section_text steps h ++ t) (sections_lines k (h + 1) n steps)
    ∙ ap (λ t. t ++ lines_text (open_lines (h + 1) k 0 n steps)) (section_text_lines steps h)
    ∙ sym (lines_text-append (section_lines 0 steps h) (open_lines (h + 1) k 0 n steps))

open_lines_are : (k h taken n : ℕ) (steps : List (ℕ × Entry)) → AreLines (open_lines h k taken n steps)
open_lines_are zero h taken n steps = (end_line_lacks (n + length steps), tt)
open_lines_are (suc k) h taken n steps =
    AreLines-append (section_lines taken steps h) (open_lines (h + 1) k taken n steps) (lone_lines_are (h + 1) (taken + tape_place (steps_before h steps)) (steps_in h steps)) (open_lines_are k (h + 1) taken n steps)

-- ---- the head of version 2

-- its lines
abbrev pub sectioned_head_lines : {head : List ℕ} → IsHead head → List (List ℕ)
sectioned_head_lines h = codes "sampler-log 2" ∷ h.design ∷ h.frame ∷ []

pub sectioned_head_lines_are : {head : List ℕ} (h : IsHead head) → AreLines (sectioned_head_lines h)
sectioned_head_lines_are h = (refl, (h.design_line, (h.frame_line, tt)))

pub sectioned_head-text : (head : List ℕ) (h : IsHead head) → sectioned_head head ≡ lines_text (sectioned_head_lines h)
sectioned_head-text head h = ap (λ t. codes "sampler-log 2\n" ++ drop 14 t) h.text

closed_is : {State : Type 0} (a b : State) → closed a ≡ closed b → a ≡ b
closed_is a b h = cc

module _ {State : Type 0} (tree : Tree State) (belongs : State → Type 0) (lawful : Lawful tree belongs) (sections : Sectioning State) (sectioned : IsSectioned tree belongs sections) (from : State) (member : belongs from)
    (head : List ℕ) (is_head : IsHead head) where
  abbrev pub script : Script (SectionPlace State)
  script = section_script tree sections from

  abbrev pub hs : List (List ℕ)
  hs = sectioned_head_lines is_head

  abbrev pub lines_of : List Entry → List (List ℕ)
  lines_of path = open_lines 0 sections.count 0 0 (placed tree sections from path)

  pub log_lines : (path : List Entry) → sections_text head sections.count (placed tree sections from path) ≡ lines_text (hs ++ lines_of path)
  log_lines path =
      let steps = placed tree sections from path in
      let none : length steps ≡ 0 + length steps = omega arith in
      ap (λ t. t ++ (flat_map (section_text steps) (range_with_len 0 sections.count) ++ end_text (length steps))) (sectioned_head-text head is_head)
      ∙ ap (λ n. lines_text hs ++ (flat_map (section_text steps) (range_with_len 0 sections.count) ++ end_text n)) none
      ∙ ap (λ t. lines_text hs ++ t) (sections_lines sections.count 0 0 steps)
      ∙ sym (lines_text-append hs (lines_of path))

  pub log_lines_are : (path : List Entry) → AreLines (hs ++ lines_of path)
  log_lines_are path = AreLines-append hs (lines_of path) (sectioned_head_lines_are is_head) (open_lines_are sections.count 0 0 0 (placed tree sections from path))

  pub described : Describes script (before from hs) closed (IsSectionedGenuine tree sections from head)
  described = record {
    complete = λ log leaf genuine. text_accepted script (before from hs) closed log (hs ++ lines_of genuine.path) leaf (genuine.text ∙ log_lines genuine.path) (log_lines_are genuine.path)
        (head_accepted tree belongs lawful sections sectioned from member hs (lines_of genuine.path) (closed leaf)
        (open_accepted tree belongs lawful sections sectioned from member sections.count 0 0 0 genuine.path from leaf (omega arith) (omega arith) member genuine.full.leads genuine.full.done));
    sound = λ lines to h.
        (let split = accepted_head tree belongs lawful sections sectioned from member hs lines to h in
        let on = accepted_opening tree belongs lawful sections sectioned from member split.rest sections.count 0 0 0 from to (omega arith) (omega arith) member split.accepted in
        path_log closed (IsSectionedText tree sections from head) tree from lines (hs ++ lines_of on.path) to on.path on.leaf (split.lines_are ∙ ap (λ ls. hs ++ ls) on.lines_are) (log_lines_are on.path)
        (sym (log_lines on.path)) on.leads on.done on.end);
    Good = Good tree belongs lawful sections sectioned from member;
    starts = good_before tree belongs lawful sections sectioned from member hs;
    keeps = keeps tree belongs lawful sections sectioned from member;
    ends = each_ends tree belongs lawful sections sectioned from member;
    closes = λ a b h. closed_is a b h;
    over = λ s. refl;
    last = λ s line. refl;
  }
