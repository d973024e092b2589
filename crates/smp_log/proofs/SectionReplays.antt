-- A replay of a log of version 2 that is under way, and its ends.
use Rattle.std.proofs.Common.{◌≡◌, ◌≢◌, ℕ, ◌+◌, ◌<◌, ◌≤◌, ◌==◌, nat_lt, Bool, true, false, cond, List, [], ◌∷◌, ◌++◌, length, Some, None, option_map, refl, sym, ap, ◌∙◌, subst, arith, length-append, inl, inr}
use Rattle.std.specs.Str.{bytes_eq}
use Rattle.std.proofs.{lemmas.Slice.Eq.{bytes_eq-Decides}, lemmas.Bool.{eq-eqb, ne_eqb, lt-ltb, le-ltb}}
use Rattle.smp_split.specs.{Trees.{Tree, Lawful, weight_sum, picked}, Laws.Steps.{picked_belongs}, Sectioning.{Sectioning, IsSectioned}}
use Rattle.smp_log.specs.{Lines.{whole_lines, lines_text}, Fronts.{IsCompleteLines, StopsAt}, Heads.{IsHead}, Genuine.{DiffersAt}}
use Rattle.smp_log.specs.{Reading.{Script, step_value, end_line, after_line, step_first}, SectionLogs.{sectioned_head, IsSectionedGenuine}}
use Rattle.smp_log.specs.SectionReading.{stratum_line, done_line, SectionPlace, heading, opening, inside, closed, before, section_script, taken_at}
use Rattle.smp_log.proofs.FirstLines.{first_is, first_stuck, step_stuck, first_step, first_within, shorter_by}
use Rattle.smp_log.proofs.{Reached.{LeadsAlong, Reached, reached_more}, Described.{Describes, whole_text, differs, differs_behind, genuine}}
use Rattle.smp_log.proofs.SectionScripts.{later_section, going_here, done_here}
use Rattle.smp_log.proofs.KeptSections.{sectioned_head_lines, sectioned_head_lines_are, sectioned_head-text, described}

-- ---- where a replay stands

-- before a section, or before the last line
pub record IsOpening {State : Type 0} (tree : Tree State) (belongs : State → Type 0) (sections : Sectioning State) (from : State) (head log : List ℕ) (h taken steps : ℕ) (s : State) (rest : List ℕ) (lines : ℕ) : Type 0 where
  pub is_head : IsHead head
  pub reached : Reached (section_script tree sections from) (before from (sectioned_head_lines is_head)) (opening h taken steps s) log rest lines
  pub member : belongs s
  pub high : h ≤ sections.count
  pub low : h ≤ sections.of s
  pub behind : 3 ≤ lines
  pub room : lines + length rest ≤ length log
  pub counts : (taken ≤ steps) × (steps ≤ lines)

-- in a section
pub record IsInside {State : Type 0} (tree : Tree State) (belongs : State → Type 0) (sections : Sectioning State) (from : State) (head log : List ℕ) (h taken steps own : ℕ) (s : State) (rest : List ℕ) (lines : ℕ) : Type 0 where
  pub is_head : IsHead head
  pub reached : Reached (section_script tree sections from) (before from (sectioned_head_lines is_head)) (inside h taken steps own s) log rest lines
  pub member : belongs s
  pub high : h < sections.count
  pub low : h ≤ sections.of s
  pub behind : 3 ≤ lines
  pub room : lines + length rest ≤ length log
  pub counts : (taken ≤ steps) × (own ≤ steps) × (steps ≤ lines)

pub whole_sectioned_head : (head : List ℕ) → IsHead head → IsCompleteLines (sectioned_head head)
whole_sectioned_head head h =
    let text = sectioned_head-text head h in
    text ∙ ap lines_text (sym (ap whole_lines text ∙ whole_text (sectioned_head_lines h) (sectioned_head_lines_are h)))

pub sectioned_head_count : (head : List ℕ) → IsHead head → length (whole_lines (sectioned_head head)) ≡ 3
sectioned_head_count head h = ap length (ap whole_lines (sectioned_head-text head h) ∙ whole_text (sectioned_head_lines h) (sectioned_head_lines_are h))

module _ {State : Type 0} (tree : Tree State) (sections : Sectioning State) (from : State) where
  head_leads : (same others : List (List ℕ)) → LeadsAlong (section_script tree sections from) (before from (same ++ others)) same (before from others)
  head_leads [] others = refl
  head_leads (l ∷ same) others = (before from (same ++ others), ap (λ (b : Bool). cond b (Some (before from (same ++ others))) None) ((bytes_eq-Decides l l).1 refl), head_leads same others)

module _ {State : Type 0} {tree : Tree State} {belongs : State → Type 0} (lawful : Lawful tree belongs) {sections : Sectioning State} (sectioned : IsSectioned tree belongs sections) {from : State} (member : belongs from) (head log : List ℕ) where
  abbrev script : Script (SectionPlace State)
  script = section_script tree sections from

  abbrev pub Genuine : List ℕ → State → Type 0
  Genuine = IsSectionedGenuine tree sections from head

  pub logs : (h : IsHead head) → Describes script (before from (sectioned_head_lines h)) closed Genuine
  logs h = described tree belongs lawful sections sectioned from member head h

  pub first : (rest : List ℕ) → IsHead head → log ≡ sectioned_head head ++ rest → IsOpening tree belongs sections from head log 0 0 0 from rest 3
  first rest h is =
      let text = sectioned_head-text head h in
      let whole : log ≡ lines_text (sectioned_head_lines h) ++ rest = is ∙ ap (λ t. t ++ rest) text in
      let size : length log ≡ length (lines_text (sectioned_head_lines h)) + length rest = ap length whole ∙ length-append (lines_text (sectioned_head_lines h)) rest in
      let long : 3 ≤ length (lines_text (sectioned_head_lines h)) = omega arith in
      record {
        is_head = h;
        reached = record { lines = sectioned_head_lines h; text_is = whole; are = sectioned_head_lines_are h; counted = refl; leads = head_leads tree sections from (sectioned_head_lines h) [] };
        member = member;
        high = omega arith;
        low = omega arith;
        behind = omega arith;
        room = omega (arith, size, long);
        counts = (omega arith, omega arith);
      }

  -- the head isn't there
  pub stops : (line : ℕ) → IsHead head → StopsAt (sectioned_head head) log line → DiffersAt Genuine log line
  stops line h at =
      let hs : List (List ℕ) = sectioned_head_lines h in
      let lines : hs ≡ at.same ++ at.wanted ∷ at.others = sym (ap whole_lines (sectioned_head-text head h) ∙ whole_text hs (sectioned_head_lines_are h)) ∙ at.front_is in
      let leads : LeadsAlong script (before from hs) at.same (heading at.wanted at.others) =
      subst (λ ls. LeadsAlong script (before from ls) at.same (heading at.wanted at.others)) (sym lines) (head_leads tree sections from at.same (at.wanted ∷ at.others)) in
      subst (DiffersAt Genuine log) (sym at.counted)
      (differs script (before from hs) closed Genuine (logs h) log at.rest (length at.same) (heading at.wanted at.others) refl
      (record { lines = at.same; text_is = at.text_is; are = at.are; counted = refl; leads = leads })
      (elim at.other [ inl none ↦ inl none | inr w ↦ inr (w.0, w.1, ap (λ (b : Bool). cond b (Some (before from at.others)) None) w.2) ]))

  -- ---- before a section, or before the last line
  module _ {h taken steps : ℕ} {s : State} {rest : List ℕ} {lines : ℕ} (r : IsOpening tree belongs sections from head log h taken steps s rest lines) where
    enters : h < sections.count → (line : List ℕ) → script.follow (opening h taken steps s) line ≡ cond (bytes_eq line (stratum_line (h + 1) taken)) (Some (inside h taken steps 0 s)) None
    enters less line = let e : nat_lt h sections.count ≡ true = lt-ltb h sections.count less in rw e refl

    closes : sections.count ≤ h → (line : List ℕ) → script.follow (opening h taken steps s) line ≡ cond (bytes_eq line (end_line steps)) (Some (closed s)) None
    closes high line = let e : nat_lt h sections.count ≡ false = le-ltb h sections.count high in rw e refl

    pub enter_none : h < sections.count → after_line (stratum_line (h + 1) taken) rest ≡ None → DiffersAt Genuine log (lines + 1)
    enter_none less none = differs script (before from (sectioned_head_lines r.is_head)) closed Genuine (logs r.is_head) log rest lines (opening h taken steps s) refl r.reached
        (first_stuck script (opening h taken steps s) (inside h taken steps 0 s) (stratum_line (h + 1) taken) rest (enters less) none)

    pub enter_some : (after : List ℕ) → h < sections.count → after_line (stratum_line (h + 1) taken) rest ≡ Some after → IsInside tree belongs sections from head log h taken steps 0 s after (lines + 1)
    enter_some after less some =
        let cut = first_is (stratum_line (h + 1) taken) rest after some in
        let short = shorter_by rest (stratum_line (h + 1) taken) after cut in
        record {
          is_head = r.is_head;
          reached = reached_more script (before from (sectioned_head_lines r.is_head)) (opening h taken steps s) (inside h taken steps 0 s) log rest (stratum_line (h + 1) taken) after lines r.reached cut
              (enters less (stratum_line (h + 1) taken) ∙ ap (λ (b : Bool). cond b (Some (inside h taken steps 0 s)) None) ((bytes_eq-Decides (stratum_line (h + 1) taken) (stratum_line (h + 1) taken)).1 refl));
          member = r.member;
          high = less;
          low = r.low;
          behind = omega (arith, r.behind);
          room = omega (arith, r.room, short);
          counts = (r.counts.0, omega arith, omega (arith, r.counts.1));
        }

    pub end_none : sections.count ≤ h → after_line (end_line steps) rest ≡ None → DiffersAt Genuine log (lines + 1)
    end_none high none = differs script (before from (sectioned_head_lines r.is_head)) closed Genuine (logs r.is_head) log rest lines (opening h taken steps s) refl r.reached
        (first_stuck script (opening h taken steps s) (closed s) (end_line steps) rest (closes high) none)

    at_end : (after : List ℕ) → sections.count ≤ h → after_line (end_line steps) rest ≡ Some after → Reached script (before from (sectioned_head_lines r.is_head)) (closed s) log after (lines + 1)
    at_end after high some =
        let cut = first_is (end_line steps) rest after some in
        reached_more script (before from (sectioned_head_lines r.is_head)) (opening h taken steps s) (closed s) log rest (end_line steps) after lines r.reached cut
        (closes high (end_line steps) ∙ ap (λ (b : Bool). cond b (Some (closed s)) None) ((bytes_eq-Decides (end_line steps) (end_line steps)).1 refl))

    pub something_behind : (after : List ℕ) → sections.count ≤ h → after_line (end_line steps) rest ≡ Some after → 0 < length after → DiffersAt Genuine log (lines + 2)
    something_behind after high some more =
        let two : lines + 1 + 1 ≡ lines + 2 = omega arith in
        subst (DiffersAt Genuine log) two (differs_behind script (before from (sectioned_head_lines r.is_head)) closed Genuine (logs r.is_head) log after (lines + 1) s more (at_end after high some))

    -- behind all sections the state is done
    pub done_behind : sections.count ≤ h → tree.done s ≡ true
    done_behind high = (let low : h ≤ sections.of s = r.low in done_here tree belongs lawful sections sectioned from member s r.member (omega arith))

    pub replayed : (after : List ℕ) → sections.count ≤ h → after_line (end_line steps) rest ≡ Some after → length after ≡ 0 → Genuine log s
    replayed after high some none =
        genuine script (before from (sectioned_head_lines r.is_head)) closed Genuine (logs r.is_head) log (lines + 1) s
        (subst (λ t. Reached script (before from (sectioned_head_lines r.is_head)) (closed s) log t (lines + 1)) (nil after none) (at_end after high some))
      where
        nil : (t : List ℕ) → length t ≡ 0 → t ≡ []
        nil [] h = refl
        nil (b ∷ t) h = absurd (omega arith)

  -- ---- in a section
  module _ {h taken steps own : ℕ} {s : State} {rest : List ℕ} {lines : ℕ} (r : IsInside tree belongs sections from head log h taken steps own s rest lines) where
    abbrev next : ℕ → SectionPlace State
    next v = inside h (taken + taken_at tree s) (steps + 1) (own + 1) (picked s (tree.parts s) v)

    goes : sections.of s ≡ h → (line : List ℕ) → script.follow (inside h taken steps own s) line ≡ option_map next (step_value (tree.kind s) (weight_sum (tree.parts s)) line)
    goes is line = let e : (sections.of s == h) ≡ true = eq-eqb (sections.of s) h is in rw e refl

    leaves : sections.of s ≢ h → (line : List ℕ) → script.follow (inside h taken steps own s) line ≡ cond (bytes_eq line (done_line (h + 1) own)) (Some (opening (h + 1) taken steps s)) None
    leaves not line = let e : (sections.of s == h) ≡ false = ne_eqb (sections.of s) h not in rw e refl

    pub going : sections.of s ≡ h → tree.done s ≡ false
    going is = (let less : h < sections.count = r.high in going_here tree belongs lawful sections sectioned from member s r.member (omega arith))

    pub step_none : sections.of s ≡ h → step_first (tree.kind s) (weight_sum (tree.parts s)) rest ≡ None → DiffersAt Genuine log (lines + 1)
    step_none is none = differs script (before from (sectioned_head_lines r.is_head)) closed Genuine (logs r.is_head) log rest lines (inside h taken steps own s) refl r.reached
        (step_stuck script (inside h taken steps own s) (tree.kind s) (weight_sum (tree.parts s)) next rest (goes is) none)

    pub step_some : (v : ℕ) (after : List ℕ) → sections.of s ≡ h → step_first (tree.kind s) (weight_sum (tree.parts s)) rest ≡ Some (v, after)
        → IsInside tree belongs sections from head log h (taken + taken_at tree s) (steps + 1) (own + 1) (picked s (tree.parts s) v) after (lines + 1)
    step_some v after is some =
        let f = first_step (tree.kind s) (weight_sum (tree.parts s)) v rest after some in
        let within : v < weight_sum (tree.parts s) = first_within (tree.kind s) (weight_sum (tree.parts s)) v rest after some in
        let short = shorter_by rest f.line after f.cut in
        let later : sections.of s ≤ sections.of (picked s (tree.parts s) v) = later_section tree belongs lawful sections sectioned from member s v r.member (going is) within in
        let one : taken_at tree s ≤ 1 = at_most (nat_lt 1 (weight_sum (tree.parts s))) in
        record {
          is_head = r.is_head;
          reached = reached_more script (before from (sectioned_head_lines r.is_head)) (inside h taken steps own s) (next v) log rest f.line after lines r.reached f.cut (goes is f.line ∙ ap (option_map next) f.read);
          member = picked_belongs tree belongs lawful s (picked s (tree.parts s) v) v r.member (going is) within refl;
          high = r.high;
          low = omega arith;
          behind = omega (arith, r.behind);
          room = omega (arith, r.room, short);
          counts = (omega (arith, r.counts.0, one), omega (arith, r.counts.1), omega (arith, r.counts.2));
        }
      where
        at_most : (b : Bool) → cond b 1 0 ≤ 1
        at_most true = omega arith
        at_most false = omega arith

    pub leave_none : sections.of s ≢ h → after_line (done_line (h + 1) own) rest ≡ None → DiffersAt Genuine log (lines + 1)
    leave_none not none = differs script (before from (sectioned_head_lines r.is_head)) closed Genuine (logs r.is_head) log rest lines (inside h taken steps own s) refl r.reached
        (first_stuck script (inside h taken steps own s) (opening (h + 1) taken steps s) (done_line (h + 1) own) rest (leaves not) none)

    pub leave_some : (after : List ℕ) → sections.of s ≢ h → after_line (done_line (h + 1) own) rest ≡ Some after → IsOpening tree belongs sections from head log (h + 1) taken steps s after (lines + 1)
    leave_some after not some =
        let cut = first_is (done_line (h + 1) own) rest after some in
        let short = shorter_by rest (done_line (h + 1) own) after cut in
        let low : h ≤ sections.of s = r.low in
        let high : h < sections.count = r.high in
        record {
          is_head = r.is_head;
          reached = reached_more script (before from (sectioned_head_lines r.is_head)) (inside h taken steps own s) (opening (h + 1) taken steps s) log rest (done_line (h + 1) own) after lines r.reached cut
              (leaves not (done_line (h + 1) own) ∙ ap (λ (b : Bool). cond b (Some (opening (h + 1) taken steps s)) None) ((bytes_eq-Decides (done_line (h + 1) own) (done_line (h + 1) own)).1 refl));
          member = r.member;
          high = omega arith;
          low = omega arith;
          behind = omega (arith, r.behind);
          room = omega (arith, r.room, short);
          counts = (r.counts.0, omega (arith, r.counts.2));
        }
