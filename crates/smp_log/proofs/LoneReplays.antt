-- A replay of one section that is under way, and its ends.
use Rattle.std.proofs.Common.{◌≡◌, ℕ, ◌+◌, ◌<◌, ◌≤◌, Bool, true, false, cond, List, [], ◌∷◌, ◌++◌, length, take, Option, Err, Some, None, option_map, refl, sym, ap, ◌∙◌, subst, arith, append_assoc, length-append, inl, inr, ◌⊎◌}
use Rattle.std.specs.{Prelude.{option_and_then}, Str.{bytes_eq}}
use Rattle.std.proofs.lemmas.Slice.Eq.{bytes_eq-Decides}
use Rattle.smp_frac.specs.Cuts.{cut_at}
use Rattle.smp_split.specs.{Trees.{Tree, Lawful, weight_sum, picked}, Laws.Steps.{picked_belongs}}
use Rattle.smp_log.specs.{Fronts.{StopsAt}, Lines.{whole_lines, lines_text}, Heads.{IsHead}, SectionLogs.{sectioned_head}}
use Rattle.smp_log.specs.{Reading.{Script, LogPlace, stepping, closed, step_value, after_line, step_first}, Told.{path_along}}
use Rattle.smp_log.specs.SectionReading.{stratum_line, done_line}
use Rattle.smp_log.specs.LoneSections.{IsGenuineSection, opens, NoneOpens, IsOpened, HasSection, SectionLine, place_of, opening_first, LonePlace, start, lone_script, is_over, section_reading, section_in_first_lines}
use Rattle.smp_log.proofs.{Options.{goes_on, mapped}, OpeningLines.{NoneOpens-append, lines_long}, Reached.{Reached, reached_more, stuck}}
use Rattle.smp_log.proofs.Texts.{AreLines-append, lines_text-append, whole_lines-text, whole_lines-cons, cut_parts}
use Rattle.smp_log.proofs.KeptSections.{sectioned_head_lines, sectioned_head_lines_are, sectioned_head-text}
use Rattle.smp_log.proofs.{LoneScripts.{over_at, described, place_of-is}, Described.{Describes, differs, genuine_front}}
use Rattle.smp_log.proofs.LoneAnswers.{Differing, differing, stops_reading, unopened_reading, stopped_reading, section_part}
use Rattle.smp_log.proofs.FirstLines.{first_is, first_stuck, step_stuck, first_step, first_within, shorter_by}
use Rattle.smp_log.proofs.SectionTelling.{passed_over, stratum_is_no_step}

abbrev stepped : {State : Type 0} → LogPlace State → LonePlace State
stepped p = LonePlace.at p

-- no line of a head opens a section
pub head_opens_none : (number : ℕ) (head : List ℕ) (h : IsHead head) → NoneOpens number (sectioned_head_lines h)
head_opens_none number head h = (refl, (ap (opens number) h.design_is, (ap (opens number) h.frame_is, tt)))

-- nor a line of a log of which no line behind its head does
pub opens_nowhere : (head : List ℕ) (number : ℕ) (log rest : List ℕ) → IsHead head → log ≡ sectioned_head head ++ rest → NoneOpens number (whole_lines rest) → NoneOpens number (whole_lines log) × (length (whole_lines log) ≡ 3 + length (whole_lines rest))
opens_nowhere head number log rest h is none =
    let lines : whole_lines log ≡ sectioned_head_lines h ++ whole_lines rest = ap whole_lines (is ∙ ap (λ t. t ++ rest) (sectioned_head-text head h)) ∙ whole_lines-text (sectioned_head_lines h) rest (sectioned_head_lines_are h) in (
      subst (NoneOpens number) (sym lines) (NoneOpens-append number (sectioned_head_lines h) (whole_lines rest) (head_opens_none number head h) none),
      ap length lines ∙ length-append (sectioned_head_lines h) (whole_lines rest),
    )

-- in the section: its opening line and so many steps were read
pub record ReadsSection {State : Type 0} (tree : Tree State) (belongs : State → Type 0) (from : State) (head : List ℕ) (number : ℕ) (log : List ℕ) (at own : ℕ) (s : State) (rest : List ℕ) : Type 0 where
  pub is_head : IsHead head
  pub behind_head : List ℕ
  pub head_is : log ≡ sectioned_head head ++ behind_head
  pub text : List ℕ
  pub opened : IsOpened number log 1 text at
  pub reached : Reached (lone_script tree number from) start (LonePlace.at (stepping own s)) text rest (own + 1)
  pub member : belongs s
  pub room : at + own + length rest ≤ length log

map_cond : {A B : Type 0} (f : A → B) (b : Bool) (x : A) → option_map f (cond b (Some x) None) ≡ cond b (Some (f x)) None
map_cond f true x = refl
map_cond f false x = refl

map_map : {A B C : Type 0} (f : B → C) (g : A → B) (o : Option A) → option_map f (option_map g o) ≡ option_map (λ x. f (g x)) o
map_map f g None = refl
map_map f g (Some x) = refl

none_reached : {Place : Type 0} (script : Script Place) (place : Place) (text : List ℕ) → Reached script place place text text 0
none_reached script place text = record { lines = []; text_is = refl; are = tt; counted = refl; leads = refl }

module _ {State : Type 0} {tree : Tree State} {belongs : State → Type 0} (lawful : Lawful tree belongs) {from : State} (member : belongs from) (head : List ℕ) (number : ℕ) (log : List ℕ) where
  abbrev script : Script (LonePlace State)
  script = lone_script tree number from

  abbrev Genuine : List ℕ → State → Type 0
  Genuine = IsGenuineSection tree from number

  abbrev pub DiffersHere : ℕ → Type 0
  DiffersHere = Differing tree belongs lawful from member head number log

  one_section : Describes script start (over_at tree belongs lawful from member number) Genuine
  one_section = described tree belongs lawful from member number

  here : (line : ℕ) → IsHead head → SectionLine tree from head number log line → section_reading tree from head number log ≡ Err line → DiffersHere line
  here = differing tree belongs lawful from member head number log

  -- ---- the head and the opening line

  pub stops : (line : ℕ) → IsHead head → StopsAt (sectioned_head head) log line → DiffersHere line
  stops line h s = here line h (SectionLine.other_head s) (stops_reading tree belongs lawful from member head number log line s)

  pub no_opening : (rest : List ℕ) (line : ℕ) → IsHead head → log ≡ sectioned_head head ++ rest → NoneOpens number (whole_lines rest) → line ≡ 4 + length (whole_lines rest) → DiffersHere line
  no_opening rest line h is none line_is =
      let all = opens_nowhere head number log rest h is none in
      let at : line ≡ 1 + length (whole_lines log) = omega (arith, line_is, all.1) in
      here line h (SectionLine.no_opening rest is all.0 at) (unopened_reading tree belongs lawful from member head number log rest line h is all.0 at)

  pub opened : (rest found : List ℕ) (there : ℕ) → IsHead head → log ≡ sectioned_head head ++ rest → IsOpened number rest 4 found there → IsOpened number log 1 found there
  opened rest found there h is s =
      let count = length-append (sectioned_head_lines h) s.before in
      record {
        before = sectioned_head_lines h ++ s.before;
        log_is = is ∙ (λ i. (sectioned_head-text head h) i ++ (s.log_is) i) ∙ sym (append_assoc (lines_text (sectioned_head_lines h)) (lines_text s.before) found) ∙ ap (λ t. t ++ found) (sym (lines_text-append (sectioned_head_lines h) s.before));
        are = AreLines-append (sectioned_head_lines h) s.before (sectioned_head_lines_are h) s.are;
        none = NoneOpens-append number (sectioned_head_lines h) s.before (head_opens_none number head h) s.none;
        first = s.first;
        rest = s.rest;
        text_is = s.text_is;
        first_lacks = s.first_lacks;
        opening = s.opening;
        counted = omega (arith, s.counted, count);
      }

  -- where the script stops behind so many lines of the text
  stopped : (h : IsHead head) (behind_head : List ℕ) → log ≡ sectioned_head head ++ behind_head → (text rest : List ℕ) (at count : ℕ) (place : LonePlace State) → IsOpened number log 1 text at → is_over place ≡ false → Reached script start place text rest count
      → (cut_at 10 rest ≡ None) ⊎ ((p : List ℕ × List ℕ) × (cut_at 10 rest ≡ Some p) × (script.follow place p.0 ≡ None)) → DiffersHere (at + count)
  stopped h behind_head head_is text rest at count place op not_over r ends =
      let d = differs script start (over_at tree belongs lawful from member number) Genuine one_section text rest count place not_over r ends in
      let line : at + count ≡ at + d.kept = (let next : count + 1 ≡ d.kept + 1 = d.next in omega (arith, next)) in
      here (at + count) h (SectionLine.in_section behind_head head_is text at d.kept op d.is_kept line)
      (stopped_reading tree belongs lawful from member head number log behind_head h head_is text at op count place (stuck script start place text rest count r ends) not_over)

  pub not_opened : (h : IsHead head) (behind_head : List ℕ) → log ≡ sectioned_head head ++ behind_head → (text : List ℕ) (at : ℕ) → IsOpened number log 1 text at → opening_first number text ≡ None → DiffersHere at
  not_opened h behind_head head_is text at op none =
      let none_yet : at + 0 ≡ at = omega arith in
      subst DiffersHere none_yet (stopped h behind_head head_is text text at 0 start op refl (none_reached script start text) (by_cut (cut_at 10 text) refl))
    where
      no_place : (after : List ℕ) (o : Option ℕ) → option_map (λ (place : ℕ). after) o ≡ None → o ≡ None
      no_place after None is = refl
      no_place after (Some place) is = absurd (let e : ◌≡◌ {A = Option (List ℕ)} (Some after) None = is in cc)

      by_cut : (o : Option (List ℕ × List ℕ)) → cut_at 10 text ≡ o → (cut_at 10 text ≡ None) ⊎ ((p : List ℕ × List ℕ) × (cut_at 10 text ≡ Some p) × (script.follow start p.0 ≡ None))
      by_cut None is = inl is
      by_cut (Some p) is =
          let no : option_map (λ (place : ℕ). p.1) (place_of number p.0) ≡ None = sym (ap (option_and_then (λ (q : List ℕ × List ℕ). option_map (λ (place : ℕ). q.1) (place_of number q.0))) is) ∙ none in
          inr (p, is, ap (option_map (λ (place : ℕ). LonePlace.at (stepping 0 from))) (no_place p.1 (place_of number p.0) no))

  pub record Entered (at : ℕ) (after : List ℕ) : Type 0 where
    pub reads : ReadsSection tree belongs from head number log at 0 from after
    pub tells : section_in_first_lines tree from number (at + 0) log ≡ []

  pub enters : IsHead head → (behind_head : List ℕ) → log ≡ sectioned_head head ++ behind_head → (text : List ℕ) (at : ℕ) → IsOpened number log 1 text at → (after : List ℕ) → opening_first number text ≡ Some after → Entered at after
  enters h behind_head head_is text at op after some =
      let cut = goes_on (λ (q : List ℕ × List ℕ). option_map (λ (place : ℕ). q.1) (place_of number q.0)) (cut_at 10 text) after some in
      let place = mapped (λ (place : ℕ). cut.value.1) (place_of number cut.value.0) after cut.gives in
      let line : List ℕ = cut.value.0 in
      let cut_is : cut_at 10 text ≡ Some (line, after) = cut.is ∙ ap (λ a. Some (line, a)) place.gives in
      let short = shorter_by text line after cut_is in
      let size : length log ≡ length (lines_text op.before) + length text = ap length op.log_is ∙ length-append (lines_text op.before) text in
      let long = lines_long op.before in
      let parts = cut_parts 10 text (line, after) cut_is in
      let stratum : line ≡ stratum_line number place.value = (place_of-is number place.value line place.is).0 in
      record {
        reads = record {
          is_head = h;
          behind_head = behind_head;
          head_is = head_is;
          text = text;
          opened = op;
          reached = reached_more script start start (LonePlace.at (stepping 0 from)) text text line after 0 (none_reached script start text) cut_is (ap (option_map (λ (place : ℕ). LonePlace.at (stepping 0 from))) place.is);
          member = member;
          room = omega (arith, short, size, long, op.counted);
        };
        tells = ap (path_along tree from) (section_part number log text at op 0)
            ∙ ap (λ ls. path_along tree from (take 1 ls)) (ap whole_lines parts.0 ∙ whole_lines-cons line after parts.1)
            ∙ ap (λ l. path_along tree from (l ∷ [])) stratum
            ∙ passed_over tree from (stratum_line number place.value) [] (stratum_is_no_step number place.value);
      }

  -- ---- in the section

  module _ {at own : ℕ} {s : State} {rest : List ℕ} (r : ReadsSection tree belongs from head number log at own s rest) where
    abbrev next : ℕ → LonePlace State
    next v = LonePlace.at (stepping (own + 1) (picked s (tree.parts s) v))

    goes : tree.done s ≡ false → (line : List ℕ) → script.follow (LonePlace.at (stepping own s)) line ≡ option_map next (step_value (tree.kind s) (weight_sum (tree.parts s)) line)
    goes e line =
        ap (λ (b : Bool). option_map stepped (cond b (cond (bytes_eq line (done_line number own)) (Some (closed s)) None) (option_map (λ v. stepping (own + 1) (picked s (tree.parts s) v)) (step_value (tree.kind s) (weight_sum (tree.parts s)) line)))) e
        ∙ map_map stepped (λ v. stepping (own + 1) (picked s (tree.parts s) v)) (step_value (tree.kind s) (weight_sum (tree.parts s)) line)

    ends : tree.done s ≡ true → (line : List ℕ) → script.follow (LonePlace.at (stepping own s)) line ≡ cond (bytes_eq line (done_line number own)) (Some (LonePlace.at (closed s))) None
    ends e line =
        ap (λ (b : Bool). option_map stepped (cond b (cond (bytes_eq line (done_line number own)) (Some (closed s)) None) (option_map (λ v. stepping (own + 1) (picked s (tree.parts s) v)) (step_value (tree.kind s) (weight_sum (tree.parts s)) line)))) e
        ∙ map_cond stepped (bytes_eq line (done_line number own)) (closed s)

    one_more : at + (own + 1) ≡ at + own + 1
    one_more = omega arith

    pub step_none : tree.done s ≡ false → step_first (tree.kind s) (weight_sum (tree.parts s)) rest ≡ None → DiffersHere (at + own + 1)
    step_none e none = subst DiffersHere one_more (stopped r.is_head r.behind_head r.head_is r.text rest at (own + 1) (LonePlace.at (stepping own s)) r.opened refl r.reached
        (step_stuck script (LonePlace.at (stepping own s)) (tree.kind s) (weight_sum (tree.parts s)) next rest (goes e) none))

    pub step_some : (v : ℕ) (after : List ℕ) → tree.done s ≡ false → step_first (tree.kind s) (weight_sum (tree.parts s)) rest ≡ Some (v, after) → ReadsSection tree belongs from head number log at (own + 1) (picked s (tree.parts s) v) after
    step_some v after e some =
        let f = first_step (tree.kind s) (weight_sum (tree.parts s)) v rest after some in
        let within : v < weight_sum (tree.parts s) = first_within (tree.kind s) (weight_sum (tree.parts s)) v rest after some in
        let short = shorter_by rest f.line after f.cut in
        record {
          is_head = r.is_head;
          behind_head = r.behind_head;
          head_is = r.head_is;
          text = r.text;
          opened = r.opened;
          reached = reached_more script start (LonePlace.at (stepping own s)) (next v) r.text rest f.line after (own + 1) r.reached f.cut (goes e f.line ∙ ap (option_map next) f.read);
          member = picked_belongs tree belongs lawful s (picked s (tree.parts s) v) v r.member e within refl;
          room = omega (arith, r.room, short);
        }

    pub end_none : tree.done s ≡ true → after_line (done_line number own) rest ≡ None → DiffersHere (at + own + 1)
    end_none e none = subst DiffersHere one_more (stopped r.is_head r.behind_head r.head_is r.text rest at (own + 1) (LonePlace.at (stepping own s)) r.opened refl r.reached
        (first_stuck script (LonePlace.at (stepping own s)) (LonePlace.at (closed s)) (done_line number own) rest (ends e) none))

    pub end_some : (after : List ℕ) → tree.done s ≡ true → after_line (done_line number own) rest ≡ Some after → HasSection tree from head number log s
    end_some after e some =
        let cut = first_is (done_line number own) rest after some in
        let reached = reached_more script start (LonePlace.at (stepping own s)) (LonePlace.at (closed s)) r.text rest (done_line number own) after (own + 1) r.reached cut
        (ends e (done_line number own) ∙ ap (λ (b : Bool). cond b (Some (LonePlace.at (closed s))) None) ((bytes_eq-Decides (done_line number own) (done_line number own)).1 refl)) in
        let front = genuine_front script start (over_at tree belongs lawful from member number) Genuine one_section r.text after (own + 1 + 1) s reached in
        record {
          behind_head = r.behind_head;
          head_is = r.head_is;
          text = r.text;
          line = at;
          opened = r.opened;
          section = front.front;
          after = after;
          text_is = front.log_is;
          genuine = front.is;
        }
