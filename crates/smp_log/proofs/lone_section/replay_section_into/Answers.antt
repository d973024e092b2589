use Rattle.std.proofs.Common.{◌≡◌, ℕ, ◌+◌, ◌++◌, ◌∷◌, [], Bool, true, false, not, List, Option, Some, None, Err, option_map, length, take, refl, sym, ap, ◌∙◌, subst, arith, length-append}
use Rattle.std.specs.Prelude.{is_some}
use Rattle.std.proofs.{lemmas.Bool.{not-true, not-false}, lemmas.Result.{err_from_is_err_and}}
use Rattle.smp_split.specs.{Paths.{Entry, entry_at}, Runs.{and_then}, Trees.{Tree, Lawful}}
use Rattle.smp_log.specs.{Fronts.{IsCompleteLines, Names, StopsAt}, Heads.{IsHead}, Lines.{whole_lines}, Replayed.{Replays, section_form}}
use Rattle.smp_log.specs.{LoneSections.{IsOpened, NoneOpens, from_opening, opening_first, section_in_first_lines}, Steps.{AreAllMade}}
use Rattle.smp_log.specs.{SectionLogs.{sectioned_head}, Told.{IsToldAlong}, declared.fault.ReplayFault.{ReplayFault}}
use Rattle.smp_log.specs.declared.fault.ReplayFault.TheVariants.{Differs, NoMemory}
use Rattle.smp_log.proofs.{SectionReplays.{whole_sectioned_head}, LoneAnswers.{has_reading, has_told}, Replied.{taken}, Telling.{none_told}}
use Rattle.smp_log.proofs.LoneReplays.{ReadsSection, opens_nowhere, stops, no_opening, opened, not_opened, enters, step_none, step_some, end_none, end_some}
use Rattle.smp_log.proofs.LoneTelling.{none_in_head, none_in_all, none_before, refused_unopened, refused_inside, section_begins, section_step, section_all}
use Rattle.smp_log.proofs.StepsAlong.{ReadsOn, stands_on, stopped}
use Rattle.smp_log.proofs.lone_section.replay_section_into.Goals as goal

none_from : {A : Type 0} (o : Option A) (t : Bool) → is_some o ≡ not t → t ≡ true → o ≡ None
none_from None t is e = refl
none_from (Some x) t is e = absurd (let f : true ≡ false = is ∙ ap not e in cc)

some_from : {A : Type 0} (o : Option A) (t : Bool) → is_some o ≡ not t → t ≡ false → (v : A) × (o ≡ Some v)
some_from None t is e = absurd (let f : false ≡ true = is ∙ ap not e in cc)
some_from (Some x) t is e = (x, refl)

module _ {State : Type 0} {tree : Tree State} {belongs : State → Type 0} (lawful : Lawful tree belongs) {from : State} (member : belongs from) (head : List ℕ) (number : ℕ) (log : List ℕ) (old : Option (List Entry)) where
  -- ---- before the opening line

  unread : {refuses : Bool} → IsHead head → (fault : ReplayFault) → Names (StopsAt (sectioned_head head) log) fault → Replays tree belongs (section_form tree from head number log) from from old old refuses (Err fault)
  unread h (Differs line) at = refused_unopened (stops lawful member head number log line h at) (length at.same) (sym at.counted) (none_in_head number log head h line at)
  unread h NoMemory at = absurd at

  unopened : {refuses : Bool} → IsHead head → (rest : List ℕ) → log ≡ sectioned_head head ++ rest → (fault : ReplayFault) → Names (λ line. NoneOpens number (whole_lines rest) × (line ≡ 4 + length (whole_lines rest))) fault
      → Replays tree belongs (section_form tree from head number log) from from old old refuses (Err fault)
  unopened h rest is (Differs line) at =
      let nowhere = opens_nowhere head number log rest h is at.0 in
      refused_unopened (no_opening lawful member head number log rest line h is at.0 at.1) (length (whole_lines log)) (omega (arith, nowhere.1, at.1)) (none_in_all number log nowhere.0)
  unopened h rest is NoMemory at = absurd at

  -- ---- the steps

  -- in the section whose opening line has this number
  abbrev Stands : ℕ → ℕ → ℕ → State → List ℕ → Option (List Entry) → Type 0
  Stands at own taken s rest now = ReadsSection tree belongs from head number log at own s rest × IsToldAlong tree (section_in_first_lines tree from number (at + own) log) from s old now

  enters_at : {front : List ℕ} → IsHead head → front ≡ sectioned_head head → (rest : List ℕ) → log ≡ front ++ rest → (text : List ℕ) (at : ℕ) → IsOpened number rest 4 text at → (after : List ℕ) → opening_first number text ≡ Some after → Stands at 0 0 from after old
  enters_at h same rest front_is text at found after some =
      let is = front_is ∙ ap (λ f. f ++ rest) same in
      let op = opened lawful member head number log rest text at h is found in
      let into = enters lawful member head number log h rest is text at op after some in
      (into.reads, none_told tree from old (from_opening number (take (at + 0) (whole_lines log))).1 into.tells)

  reads_on : (at : ℕ) → ReadsOn tree (λ s. not (tree.done s)) (section_form tree from head number log) from old at (Stands at)
  reads_on at = record {
    one = λ own taken s rest now so has going v after read. (step_some lawful member head number log so.0 v after going read, section_step tree from old number log so.0 now so.1 v after (and_then now (entry_at tree s v ∷ [])) going read refl);
    begins = λ own taken s rest now so. section_begins tree from old number log so.0 now so.1;
    along = λ own taken s rest now so. so.1;
    stuck = λ own taken s rest now so has none. (let d = step_none lawful member head number log so.0 (not-true _ has) none in (d.differs, d.reads));
  }

  -- behind all of them
  record AtLeaf (at : ℕ) (to : State) (rest : List ℕ) (own : ℕ) (new : Option (List Entry)) : Type 0 where
    reads : ReadsSection tree belongs from head number log at own to rest
    told : IsToldAlong tree (section_in_first_lines tree from number (at + own) log) from to old new
    done : tree.done to ≡ true

  at_leaf : {at : ℕ} {rest left : List ℕ} {to : State} {own more : ℕ} {new : Option (List Entry)} → Stands at 0 0 from rest old → AreAllMade tree (λ s. not (tree.done s)) from to rest left own more old new → AtLeaf at to left own new
  at_leaf {at} stands all =
      let so = stands_on lawful (reads_on at) 0 stands member all.made in
      record { reads = so.0; told = so.1; done = not-false _ all.over }

-- ---- the goals

pub after_front-requires : goal.after_front-requires
after_front-requires g c = subst IsCompleteLines (sym c.sectioned.ensures.bytes) (whole_sectioned_head c.args.head.now c.sectioned.ensures.lines)

pub returns-in_err-sections-clause-replays : goal.returns-in_err-sections-clause-replays
returns-in_err-sections-clause-replays g c =
    let is = err_from_is_err_and c.from_residual.result c.from_residual.ensures.1 in
    let at = subst (λ front. Names (StopsAt front c.args.log.now) c.in_err-sections.field-0.0) c.sectioned.ensures.bytes c.in_err-sections.ensures.stops in
    rw (is.1, is.2) (unread (g.S.Splitting.method c.args.run.now).lawful c.requires.state c.args.head.now c.args.number c.args.log.now (g.T.Trace.lines c.args.trace.now) c.sectioned.ensures.lines c.in_err-sections.field-0.0 at)

pub opening-requires : goal.opening-requires
opening-requires g c =
    let size : length c.args.log.now ≡ length c.sectioned.result + length c.in_ok-sections.sections.now = ap length c.in_ok-sections.ensures.front ∙ length-append c.sectioned.result c.in_ok-sections.sections.now in
    omega (arith, size)

pub returns-in_err-section-clause-replays : goal.returns-in_err-section-clause-replays
returns-in_err-section-clause-replays g c =
    let lawful = (g.S.Splitting.method c.args.run.now).lawful in
    let old = g.T.Trace.lines c.args.trace.now in
    let head_is = c.in_ok-sections.ensures.front ∙ ap (λ h. h ++ c.in_ok-sections.sections.now) c.sectioned.ensures.bytes in
    let is = err_from_is_err_and c.from_residual-in_err-section.result c.from_residual-in_err-section.ensures.1 in
    rw (is.1, is.2) (unopened lawful c.requires.state c.args.head.now c.args.number c.args.log.now old c.sectioned.ensures.lines c.in_ok-sections.sections.now head_is c.in_err-section.field-0.0 c.in_err-section.ensures.none)

pub returns-in_default-clause-replays : goal.returns-in_default-clause-replays
returns-in_default-clause-replays g c =
    let lawful = (g.S.Splitting.method c.args.run.now).lawful in
    let h = c.sectioned.ensures.lines in
    let head_is = c.in_ok-sections.ensures.front ∙ ap (λ h. h ++ c.in_ok-sections.sections.now) c.sectioned.ensures.bytes in
    let rest = c.in_ok-sections.sections.now in
    let text = c.in_ok-section.section.now in
    let op = opened lawful c.requires.state c.args.head.now c.args.number c.args.log.now rest text c.in_ok-section.at h head_is c.in_ok-section.ensures.found in
    refused_unopened (not_opened lawful c.requires.state c.args.head.now c.args.number c.args.log.now h rest head_is text c.in_ok-section.at op (sym c.in_default.ensures)) (length op.before) (omega (arith, op.counted)) (none_before c.args.number c.args.log.now text c.in_ok-section.at op)

pub replay_steps-requires-clause-room : goal.replay_steps-requires-clause-room
replay_steps-requires-clause-room g c =
    let lawful = (g.S.Splitting.method c.args.run.now).lawful in
    let old = g.T.Trace.lines c.args.trace.now in
    let stands = enters_at lawful c.requires.state c.args.head.now c.args.number c.args.log.now old c.sectioned.ensures.lines c.sectioned.ensures.bytes c.in_ok-sections.sections.now c.in_ok-sections.ensures.front c.in_ok-section.section.now c.in_ok-section.at c.in_ok-section.ensures.found c.in-Some.rest.now (sym c.in-Some.ensures) in
    let room = stands.0.room in
    omega (arith, room)

pub returns-in_err-all-clause-replays : goal.returns-in_err-all-clause-replays
returns-in_err-all-clause-replays g c =
    let lawful = (g.S.Splitting.method c.args.run.now).lawful in
    let old = g.T.Trace.lines c.args.trace.now in
    let stands = enters_at lawful c.requires.state c.args.head.now c.args.number c.args.log.now old c.sectioned.ensures.lines c.sectioned.ensures.bytes c.in_ok-sections.sections.now c.in_ok-sections.ensures.front c.in_ok-section.section.now c.in_ok-section.at c.in_ok-section.ensures.found c.in-Some.rest.now (sym c.in-Some.ensures) in
    let is = err_from_is_err_and c.from_residual-in_err-all.result c.from_residual-in_err-all.ensures.1 in
    rw (is.1, is.2) (stopped lawful (reads_on lawful c.requires.state c.args.head.now c.args.number c.args.log.now old c.in_ok-section.at) 0 stands c.requires.state _ c.in_err-all.field-0.0 c.in_err-all.ensures.stopped)

-- ---- the last line

pub returns-then-is_none-clause-replays : goal.returns-then-is_none-clause-replays
returns-then-is_none-clause-replays g c =
    let lawful = (g.S.Splitting.method c.args.run.now).lawful in
    let old = g.T.Trace.lines c.args.trace.now in
    let stands = enters_at lawful c.requires.state c.args.head.now c.args.number c.args.log.now old c.sectioned.ensures.lines c.sectioned.ensures.bytes c.in_ok-sections.sections.now c.in_ok-sections.ensures.front c.in_ok-section.section.now c.in_ok-section.at c.in_ok-section.ensures.found c.in-Some.rest.now (sym c.in-Some.ensures) in
    let leaf = at_leaf lawful c.requires.state c.args.head.now c.args.number c.args.log.now old stands c.in_ok-all.ensures.made in
    let none = sym c.after_numbers.ensures ∙ ap (option_map (λ r. r.now)) (none_from c.after_numbers.result c.is_none.result c.is_none.ensures c.if-is_none.true) in
    refused_inside (end_none lawful c.requires.state _ _ _ leaf.reads leaf.done none) leaf.reads leaf.told refl

pub returns-clause-replays : goal.returns-clause-replays
returns-clause-replays g c =
    let lawful = (g.S.Splitting.method c.args.run.now).lawful in
    let old = g.T.Trace.lines c.args.trace.now in
    let stands = enters_at lawful c.requires.state c.args.head.now c.args.number c.args.log.now old c.sectioned.ensures.lines c.sectioned.ensures.bytes c.in_ok-sections.sections.now c.in_ok-sections.ensures.front c.in_ok-section.section.now c.in_ok-section.at c.in_ok-section.ensures.found c.in-Some.rest.now (sym c.in-Some.ensures) in
    let leaf = at_leaf lawful c.requires.state c.args.head.now c.args.number c.args.log.now old stands c.in_ok-all.ensures.made in
    let some = some_from c.after_numbers.result c.is_none.result c.is_none.ensures c.if-is_none.false in
    let has = end_some lawful c.requires.state _ _ _ leaf.reads some.0.now leaf.done (sym c.after_numbers.ensures ∙ ap (option_map (λ r. r.now)) some.1) in
    taken _ _ _ _ _ _ _ _ _ (record { has = has; told = has_told _ _ lawful _ c.requires.state _ _ _ _ has }) (section_all _ _ _ c.args.number c.args.log.now leaf.reads _ leaf.told leaf.done)
    (has_reading _ _ lawful _ c.requires.state _ _ _ leaf.reads.is_head _ has) leaf.done leaf.reads.member

pub returns-clause-kept : goal.returns-clause-kept
returns-clause-kept g c = c.in_ok-all.ensures.kept
