-- A section of a genuine log of version 2 is replayed by the design that is this section.
use Rattle.std.proofs.Common.{◌≡◌, ◌≢◌, ℕ, zero, suc, ◌+◌, ◌-◌, ◌^◌, ◌<◌, ◌≤◌, ◌==◌, Bool, true, false, List, [], ◌∷◌, ◌++◌, length, map, Some, None, refl, sym, ap, ◌∙◌, subst, arith, append_assoc, codes, eqb, inl, inr}
use Rattle.std.specs.{Prelude.{is_some}, List.{flat_map, range_with_len}, Option.{option_eq}, Fmt.{decimal}}
use Rattle.std.proofs.lemmas.Bool.{cases_eq, eq-eqb, ne_eqb}
use Rattle.smp_split.specs.{declared.kind.Kind.{Kind}, declared.kind.Kind.TheVariants.{Order}, Kinds.{kind_word}}
use Rattle.smp_split.specs.{Trees.{Tree, Lawful, weight_sum, picked}, Paths.{Entry, IsStep, Leads}}
use Rattle.smp_split.specs.{Sectioning.{Sectioning, IsSectioned, IsPartOf}, Laws.Steps.{picked_belongs, leads_belong}}
use Rattle.smp_log.specs.{Lines.{lines_text, AreLines}, Heads.{IsHead}, Logs.{end_text}, Genuine.{IsFullPath}}
use Rattle.smp_log.specs.{Reading.{behind, written, step_line}, SectionReading.{stratum_line, done_line}}
use Rattle.smp_log.specs.SectionLogs.{placed, tape_place, section_text, sections_text, IsSectionedGenuine}
use Rattle.smp_log.proofs.{StepsIn.{steps_before, steps_in}, Texts.{cut_behind, behind-append, AreLines-append, lines_text-append}}
use Rattle.smp_log.specs.LoneSections.{opening_words, opens, NoneOpens, HasSection, IsReplayedAlone, IsOpened}
use Rattle.smp_log.proofs.{Numbers.{decimal_lacks, written-decimal}, LineTexts.{step_lines_are}, SectionScripts.{section_lines}}
use Rattle.smp_log.proofs.{KeptSections.{numbered_lacks, section_text_lines}, OpeningLines.{other_word, other_number, NoneOpens-append}}
use Rattle.smp_log.proofs.LoneReplays as LoneReplays
use Rattle.smp_log.proofs.SectionCounts.{place_within}

-- ---- the steps of a section are the path of the design that is this section

module _ {State Inner : Type 0} (tree : Tree State) (belongs : State → Type 0) (lawful : Lawful tree belongs) (sections : Sectioning State) (sectioned : IsSectioned tree belongs sections) (h : ℕ) (within : h < sections.count) (part : Tree Inner) (at : State → Inner) (own : ℕ → Bool) (is : IsPartOf tree belongs sections h part at own) where
  pub part_leads : (path : List Entry) (s leaf : State) → belongs s → Leads tree s path leaf → tree.done leaf ≡ true
      → Leads part (at s) (steps_in h (placed tree sections s path)) (at leaf) × (part.done (at leaf) ≡ true)
  part_leads [] s leaf b leads done =
      let same : leaf ≡ s = leads in
      let e : tree.done s ≡ true = subst (λ t. tree.done t ≡ true) same done in
      let behind : sections.of s ≡ sections.count = sectioned.done s b e in
      (ap at same, subst (λ t. part.done (at t) ≡ true) (sym same) (is.done s b (omega arith)))
  part_leads (l ∷ path) s leaf b leads done =
      let small : l.2 < weight_sum (tree.parts s) = rw leads.0.bound at leads.0.value in
      let next : State = picked s (tree.parts s) l.2 in
      let b' : belongs next = picked_belongs tree belongs lawful s next l.2 b leads.0.going small refl in
      let rest = part_leads path next leaf b' leads.1 done in
      elim (cases_eq (sections.of s) h) [
        | inl here ↦
            (let e : (sections.of s == h) ≡ true = eq-eqb (sections.of s) h here in
            let step : IsStep part (at s) l = record { going = is.going s b here; kind = leads.0.kind ∙ sym (is.kind s b here); bound = leads.0.bound ∙ sym (is.bound s b here); value = leads.0.value } in
            rw e ((step, subst (λ t. Leads part t (steps_in h (placed tree sections next path)) (at leaf)) (is.step s l.2 b here small) rest.0), rest.1))
        | inr away ↦
            (let e : (sections.of s == h) ≡ false = ne_eqb (sections.of s) h away in
            rw e (subst (λ t. Leads part t (steps_in h (placed tree sections next path)) (at leaf)) (is.elsewhere s l.2 b leads.0.going away small) rest.0, rest.1))
      ]

-- ---- which lines of a log open a section

step_word : (kind : Kind) (rest : List ℕ) → behind (codes "stratum ") (kind_word kind ++ 32 ∷ rest) ≡ None
step_word Order rest = refl
step_word _ rest = refl

steps_open : (number : ℕ) (steps : List Entry) → NoneOpens number (map step_line steps)
steps_open number [] = tt
steps_open number (l ∷ steps) = (ap is_some (sym (other_word number (step_line l) (step_word l.0 (decimal l.1 ++ 32 ∷ decimal l.2)))), steps_open number steps)

stratum_opens : (number g place : ℕ) → number < 2 ^ 64 → g < 2 ^ 64 → g ≢ number → opens number (stratum_line g place) ≡ false
stratum_opens number g place small less other =
    let numbers : List ℕ = decimal g ++ 32 ∷ decimal place in
    let word : behind (codes "stratum ") (stratum_line g place) ≡ Some numbers = behind-append (codes "stratum ") numbers in
    let not : option_eq eqb (written (decimal g)) (Some number) ≡ false = ap (λ o. option_eq eqb o (Some number)) (written-decimal g (omega arith)) ∙ ne_eqb g number other in
    ap is_some (sym (other_number number (stratum_line g place) numbers word (decimal g) (decimal place) (cut_behind 32 (decimal g) (decimal place) (decimal_lacks 32 g (inl (omega arith)))) (option_eq eqb (written (decimal g)) (Some number)) refl (omega arith) not))

it_opens : (number place : ℕ) → opens number (stratum_line number place) ≡ true
it_opens number place =
    let text : stratum_line number place ≡ opening_words number ++ decimal place =
    sym (append_assoc (codes "stratum ") (decimal number ++ 32 ∷ []) (decimal place) ∙ ap (λ t. codes "stratum " ++ t) (append_assoc (decimal number) (32 ∷ []) (decimal place))) in
    ap is_some (ap (behind (opening_words number)) text ∙ behind-append (opening_words number) (decimal place))

section_opens : (number taken g : ℕ) (steps : List (ℕ × Entry)) → number < 2 ^ 64 → g + 1 < 2 ^ 64 → g + 1 ≢ number → NoneOpens number (section_lines taken steps g)
section_opens number taken g steps small less other = (
  stratum_opens number (g + 1) (taken + tape_place (steps_before g steps)) small less other,
  NoneOpens-append number (map step_line (steps_in g steps)) (done_line (g + 1) (length (steps_in g steps)) ∷ []) (steps_open number (steps_in g steps))
      (ap is_some (sym (other_word number (done_line (g + 1) (length (steps_in g steps))) refl)), tt),
)

-- ---- the sections before one of them

earlier : ℕ → ℕ → List (ℕ × Entry) → List (List ℕ)
earlier g zero steps = []
earlier g (suc k) steps = section_lines 0 steps g ++ earlier (g + 1) k steps

section_are : (g : ℕ) (steps : List (ℕ × Entry)) → AreLines (section_lines 0 steps g)
section_are g steps = (
  numbered_lacks (codes "stratum ") (g + 1) (0 + tape_place (steps_before g steps)) refl,
  AreLines-append (map step_line (steps_in g steps)) (done_line (g + 1) (length (steps_in g steps)) ∷ []) (step_lines_are (steps_in g steps)) (numbered_lacks (codes "done ") (g + 1) (length (steps_in g steps)) refl, tt),
)

earlier_are : (k g : ℕ) (steps : List (ℕ × Entry)) → AreLines (earlier g k steps)
unfolding earlier
earlier_are zero g steps = tt
earlier_are (suc k) g steps = AreLines-append (section_lines 0 steps g) (earlier (g + 1) k steps) (section_are g steps) (earlier_are k (g + 1) steps)

earlier_open : (k g number : ℕ) (steps : List (ℕ × Entry)) → number < 2 ^ 64 → g + k < number → NoneOpens number (earlier g k steps)
unfolding earlier
earlier_open zero g number steps small less = tt
earlier_open (suc k) g number steps small less =
    NoneOpens-append number (section_lines 0 steps g) (earlier (g + 1) k steps) (section_opens number 0 g steps small (omega arith) (λ same. omega (arith, same, less))) (earlier_open k (g + 1) number steps small (omega arith))

-- k sections from g on, one, and m more
more : ℕ → ℕ → ℕ
more zero m = suc m
more (suc k) m = suc (more k m)

more-is : (k m : ℕ) → more k m ≡ k + suc m
unfolding more
more-is zero m = omega arith
more-is (suc k) m = (let rest : more k m ≡ k + suc m = more-is k m in omega (arith, rest))

abbrev texts : List (ℕ × Entry) → ℕ → ℕ → List ℕ
texts steps g n = flat_map (section_text steps) (range_with_len g n)

split_at : (k g m : ℕ) (steps : List (ℕ × Entry)) → texts steps g (more k m) ≡ lines_text (earlier g k steps) ++ (section_text steps (g + k) ++ texts steps (g + k + 1) m)
unfolding more earlier
split_at zero g m steps = (let none : g ≡ g + 0 = omega arith in ap (λ n. section_text steps n ++ texts steps (n + 1) m) none)
split_at (suc k) g m steps =
    let next : g + 1 + k ≡ g + suc k = omega arith in
    let rest : List ℕ = section_text steps (g + suc k) ++ texts steps (g + suc k + 1) m in
    ap (λ t. section_text steps g ++ t) (split_at k (g + 1) m steps ∙ ap (λ n. lines_text (earlier (g + 1) k steps) ++ (section_text steps n ++ texts steps (n + 1) m)) next)
    ∙ ap (λ t. t ++ (lines_text (earlier (g + 1) k steps) ++ rest)) (section_text_lines steps g)
    ∙ sym (append_assoc (lines_text (section_lines 0 steps g)) (lines_text (earlier (g + 1) k steps)) rest)
    ∙ ap (λ t. t ++ rest) (sym (lines_text-append (section_lines 0 steps g) (earlier (g + 1) k steps)))

-- ---- the section of a genuine log

module _ {State Inner : Type 0} (tree : Tree State) (belongs : State → Type 0) (lawful : Lawful tree belongs) (sections : Sectioning State) (sectioned : IsSectioned tree belongs sections)
    (h : ℕ) (within : h < sections.count) (part : Tree Inner) (at : State → Inner) (own : ℕ → Bool) (is : IsPartOf tree belongs sections h part at own)
    (part_belongs : Inner → Type 0) (part_lawful : Lawful part part_belongs) (from : State) (member : belongs from) (part_member : part_belongs (at from)) (head : List ℕ) (is_head : IsHead head) where
  pub section_replays : (path : List Entry) (leaf : State) → IsFullPath tree from path leaf → sections.count < 2 ^ 64 → tape_place (steps_before h (placed tree sections from path)) < 2 ^ 64
      → HasSection part (at from) head (h + 1) (sections_text head sections.count (placed tree sections from path)) (at leaf)
  section_replays path leaf full few small =
      let steps : List (ℕ × Entry) = placed tree sections from path in
      let m : ℕ = sections.count - (h + 1) in
      let total : sections.count ≡ more h m = (let e = more-is h m in omega (arith, e)) in
      let after : List ℕ = texts steps (0 + h + 1) m ++ end_text (length steps) in
      let here : 0 + h ≡ h = omega arith in
      let text : List ℕ = section_text steps h ++ after in
      let place : ℕ = 0 + tape_place (steps_before h steps) in
      let behind_head : List ℕ = texts steps 0 sections.count ++ end_text (length steps) in
      let split : behind_head ≡ lines_text (earlier 0 h steps) ++ text =
      ap (λ n. texts steps 0 n ++ end_text (length steps)) total
      ∙ ap (λ t. t ++ end_text (length steps)) (split_at h 0 m steps ∙ ap (λ n. lines_text (earlier 0 h steps) ++ (section_text steps n ++ texts steps (0 + h + 1) m)) here)
      ∙ append_assoc (lines_text (earlier 0 h steps)) (section_text steps h ++ texts steps (0 + h + 1) m) (end_text (length steps))
      ∙ ap (λ t. lines_text (earlier 0 h steps) ++ t) (append_assoc (section_text steps h) (texts steps (0 + h + 1) m) (end_text (length steps))) in
      let own_lines : List (List ℕ) = map step_line (steps_in h steps) ++ done_line (h + 1) (length (steps_in h steps)) ∷ [] in
      let lines : text ≡ stratum_line (h + 1) place ++ 10 ∷ (lines_text own_lines ++ after) =
      ap (λ t. t ++ after) (section_text_lines steps h) ∙ append_assoc (stratum_line (h + 1) place) (10 ∷ lines_text own_lines) after in
      let skips : IsOpened (h + 1) behind_head 4 text (4 + length (earlier 0 h steps)) = record {
        before = earlier 0 h steps;
        log_is = split;
        are = earlier_are h 0 steps;
        none = earlier_open h 0 (h + 1) steps (omega arith) (omega arith);
        first = stratum_line (h + 1) place;
        rest = lines_text own_lines ++ after;
        text_is = lines;
        first_lacks = numbered_lacks (codes "stratum ") (h + 1) place refl;
        opening = it_opens (h + 1) place;
        counted = refl;
      } in
      let inner = part_leads tree belongs lawful sections sectioned h within part at own is path from leaf member full.leads full.done in
      record {
        behind_head = behind_head;
        head_is = refl;
        text = text;
        line = 4 + length (earlier 0 h steps);
        opened = LoneReplays.opened part_lawful part_member head (h + 1) (sections_text head sections.count steps) behind_head text (4 + length (earlier 0 h steps)) is_head refl skips;
        section = section_text steps h;
        after = after;
        text_is = refl;
        genuine = record {
          path = steps_in h steps;
          full = record { leads = inner.0; done = inner.1 };
          text = record { place = tape_place (steps_before h steps); small = small; is = refl };
        };
      }

  -- so each genuine log, whose length bounds the place on the tape
  pub replayed_alone : (log : List ℕ) (leaf : State) → IsSectionedGenuine tree sections from head log leaf → sections.count < 2 ^ 64 → length log < 2 ^ 64 → IsReplayedAlone tree from head log h part at own leaf
  replayed_alone log leaf genuine few long =
      let path : List Entry = genuine.path in
      let place : tape_place (steps_before h (placed tree sections from path)) ≤ length (sections_text head sections.count (placed tree sections from path)) = place_within tree belongs lawful sections sectioned from member head is_head path leaf genuine.full h in
      let size : length log ≡ length (sections_text head sections.count (placed tree sections from path)) = ap length genuine.text in
      record {
        section = subst (λ t. HasSection part (at from) head (h + 1) t (at leaf)) (sym genuine.text) (section_replays path leaf genuine.full few (omega (arith, place, size, long)));
        selected = is.selected leaf (leads_belong tree belongs lawful path from leaf genuine.full.leads member) genuine.full.done;
      }
