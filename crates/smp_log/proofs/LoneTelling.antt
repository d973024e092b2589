-- What a replay of one section tells.
use Rattle.std.proofs.Common.{◌≡◌, ℕ, ◌+◌, Bool, true, false, List, [], ◌∷◌, ◌++◌, length, take, Option, Some, Err, refl, sym, ap, ◌∙◌, subst}
use Rattle.std.proofs.{Math.Seq.{take-length}, lemmas.List.{take_at}}
use Rattle.smp_split.specs.{Trees.{Tree, Lawful, weight_sum, picked}, Paths.{Entry, entry_at}, Runs.{and_then}}
use Rattle.smp_log.specs.{Fronts.{StopsAt}, Lines.{whole_lines}, Heads.{IsHead}, Reading.{stepping, step_first}}
use Rattle.smp_log.specs.{SectionLogs.{sectioned_head}, Told.{path_along, IsToldAlong, IsToldPart}, Replayed.{Replays, section_form}}
use Rattle.smp_log.specs.declared.fault.ReplayFault.TheVariants.{Differs}
use Rattle.smp_log.specs.LoneSections.{NoneOpens, IsOpened, LonePlace, start, lone_script, from_opening, section_in_first_lines, section_told}
use Rattle.smp_log.proofs.{Texts.{whole_lines-text}, Described.{whole_text}, FirstLines.{first_step}, Reached.{next_lines, reached_lines}}
use Rattle.smp_log.proofs.{KeptSections.{sectioned_head_lines, sectioned_head_lines_are, sectioned_head-text}, Replied.{refused}}
use Rattle.smp_log.proofs.{LoneAnswers.{Differing, from_opened, opening_nowhere, section_part}, LoneReplays.{ReadsSection, head_opens_none}}
use Rattle.smp_log.proofs.Telling.{none_told, none_begins, step_told, begins, all_told}

-- ---- the lines before the opening line

NoneOpens-front : (number : ℕ) (ls ms : List (List ℕ)) → NoneOpens number (ls ++ ms) → NoneOpens number ls
NoneOpens-front number [] ms none = tt
NoneOpens-front number (l ∷ ls) ms none = (none.0, NoneOpens-front number ls ms none.1)

module _ (number : ℕ) (log : List ℕ) where
  pub none_in_head : (head : List ℕ) → IsHead head → (line : ℕ) (at : StopsAt (sectioned_head head) log line) → NoneOpens number (take (length at.same) (whole_lines log))
  none_in_head head h line at =
      let part : take (length at.same) (whole_lines log) ≡ at.same =
      ap (take (length at.same)) (ap whole_lines at.text_is ∙ whole_lines-text at.same at.rest at.are) ∙ take_at at.same (whole_lines at.rest) (length at.same) refl in
      let front : sectioned_head_lines h ≡ at.same ++ at.wanted ∷ at.others =
      sym (ap whole_lines (sectioned_head-text head h) ∙ whole_text (sectioned_head_lines h) (sectioned_head_lines_are h)) ∙ at.front_is in
      subst (NoneOpens number) (sym part) (NoneOpens-front number at.same (at.wanted ∷ at.others) (subst (NoneOpens number) front (head_opens_none number head h)))

  pub none_in_all : NoneOpens number (whole_lines log) → NoneOpens number (take (length (whole_lines log)) (whole_lines log))
  none_in_all none = subst (NoneOpens number) (sym (take-length (whole_lines log))) none

  pub none_before : (text : List ℕ) (line : ℕ) (o : IsOpened number log 1 text line) → NoneOpens number (take (length o.before) (whole_lines log))
  none_before text line o =
      let part : take (length o.before) (whole_lines log) ≡ o.before =
      ap (take (length o.before)) (ap whole_lines o.log_is ∙ whole_lines-text o.before text o.are) ∙ take_at o.before (whole_lines text) (length o.before) refl in
      subst (NoneOpens number) (sym part) o.none

-- ---- what is told

module _ {State : Type 0} (tree : Tree State) (from : State) (old : Option (List Entry)) (number : ℕ) (log : List ℕ) where
  abbrev lines_in : ℕ → List (List ℕ)
  lines_in count = (from_opening number (take count (whole_lines log))).1

  -- nothing before the opening line
  pub unopened_told : (count : ℕ) → NoneOpens number (take count (whole_lines log)) → IsToldAlong tree (section_in_first_lines tree from number count log) from from old old
  unopened_told count none = none_told tree from old (lines_in count) (ap (λ (r : ℕ × List (List ℕ)). path_along tree from r.1) (opening_nowhere number (take count (whole_lines log)) none))

  module _ {belongs : State → Type 0} {head : List ℕ} {at own : ℕ} {s : State} {rest : List ℕ} (r : ReadsSection tree belongs from head number log at own s rest) (now : Option (List Entry)) (t : IsToldAlong tree (section_in_first_lines tree from number (at + own) log) from s old now) where
    -- one step more
    pub section_step : (v : ℕ) (after : List ℕ) (new : Option (List Entry)) → tree.done s ≡ false → step_first (tree.kind s) (weight_sum (tree.parts s)) rest ≡ Some (v, after) → new ≡ and_then now (entry_at tree s v ∷ [])
        → IsToldAlong tree (section_in_first_lines tree from number (at + (own + 1)) log) from (picked s (tree.parts s) v) old new
    section_step v after new e some told_now =
        let f = first_step (tree.kind s) (weight_sum (tree.parts s)) v rest after some in
        let longer : lines_in (at + (own + 1)) ≡ lines_in (at + own) ++ f.line ∷ [] =
        section_part number log r.text at r.opened (own + 1)
        ∙ next_lines (lone_script tree number from) start (LonePlace.at (stepping own s)) r.text rest (own + 1) r.reached f.line after f.cut
        ∙ ap (λ ls. ls ++ f.line ∷ []) (sym (section_part number log r.text at r.opened own)) in
        step_told tree from old (lines_in (at + own)) (lines_in (at + (own + 1))) f.line s v now new t longer e f.read told_now

    all_lines : (from_opening number (whole_lines log)).1 ≡ lines_in (at + own) ++ whole_lines rest
    all_lines =
        ap (λ (p : ℕ × List (List ℕ)). p.1) (from_opened number log r.text at r.opened)
        ∙ reached_lines (lone_script tree number from) start (LonePlace.at (stepping own s)) r.text rest (own + 1) r.reached
        ∙ ap (λ ls. ls ++ whole_lines rest) (sym (section_part number log r.text at r.opened own))

    -- the beginning of what all lines tell
    pub section_begins : IsToldPart tree (section_told tree from number log) from s old now
    section_begins = begins tree from old (lines_in (at + own)) (whole_lines rest) (from_opening number (whole_lines log)).1 s now t all_lines

    -- at a leaf all is told
    pub section_all : tree.done s ≡ true → now ≡ and_then old (section_told tree from number log)
    section_all e = all_told tree from old (lines_in (at + own)) (whole_lines rest) (from_opening number (whole_lines log)).1 s now t all_lines e

-- ---- a replay stops at a line with which no genuine section goes on

module _ {State : Type 0} {tree : Tree State} {belongs : State → Type 0} {lawful : Lawful tree belongs} {from : State} {member : belongs from} {head : List ℕ} {number : ℕ} {log : List ℕ} {here : ℕ} (d : Differing tree belongs lawful from member head number log here) {old : Option (List Entry)} {refuses : Bool} where
  -- before the opening line
  pub refused_unopened : (count : ℕ) → count + 1 ≡ here → NoneOpens number (take count (whole_lines log)) → Replays tree belongs (section_form tree from head number log) from from old old refuses (Err (Differs here))
  refused_unopened count next none =
      refused tree belongs (section_form tree from head number log) from from old old refuses count here next d.differs d.reads (none_begins tree from old (section_told tree from number log)) (unopened_told tree from old number log count none) member

  -- behind lines that were read
  pub refused_inside : {at own : ℕ} {s : State} {rest : List ℕ} (r : ReadsSection tree belongs from head number log at own s rest) {now : Option (List Entry)} → IsToldAlong tree (section_in_first_lines tree from number (at + own) log) from s old now
      → at + own + 1 ≡ here → Replays tree belongs (section_form tree from head number log) from s old now refuses (Err (Differs here))
  refused_inside {at} {own} {s} r {now} along next =
      refused tree belongs (section_form tree from head number log) from s old now refuses (at + own) here next d.differs d.reads (section_begins tree from old number log r now along) along r.member
