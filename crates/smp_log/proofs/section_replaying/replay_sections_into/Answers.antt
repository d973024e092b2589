use Rattle.std.proofs.Common.{◌≡◌, ◌≢◌, ℕ, ◌+◌, ◌++◌, ◌∷◌, [], ◌<◌, ◌≤◌, ◌==◌, List, Option, Some, length, Ok, rules, refl, sym, ap, ◌∙◌, subst, arith}
use Rattle.std.proofs.{lemmas.Bool.{eqb-true, eqb-false}, lemmas.Result.{err_from_is_err_and}}
use Rattle.smp_split.specs.{Paths.{Entry, entry_at}, Runs.{and_then}, Sectioning.{Sectioning, IsSectioned}, Trees.{Tree, Lawful, picked}}
use Rattle.smp_log.specs.{Fronts.{IsCompleteLines}, Reading.{end_line, after_line}, Replayed.{sectioned_form}, Steps.{AreAllMade}}
use Rattle.smp_log.specs.{SectionReading.{stratum_line, taken_at}, Told.{path_in_first_lines, IsToldAlong}}
use Rattle.smp_log.proofs.{FirstLines.{first_is}, Replied.{refused_at, refused_behind, refused_head, taken}}
use Rattle.smp_log.proofs.SectionReplays.{IsOpening, IsInside, whole_sectioned_head, sectioned_head_count, first, stops, enter_none, enter_some, end_none, something_behind, replayed, step_none, step_some, leave_none, leave_some, done_behind}
use Rattle.smp_log.proofs.{AnsweredSections.{exact_sectioned, sectioned_reads}, StepsAlong.{ReadsOn, stands_on, stopped}}
use Rattle.smp_log.proofs.Telling.{few_told, none_along, told_step, told_over, told_part, told_all}
use Rattle.smp_log.proofs.SectionTelling.{told_passed, stratum_is_no_step, done_is_no_step, sectioned_told}
use Rattle.smp_log.proofs.section_replaying.replay_sections_into.Goals as goal

-- ---- the steps of a section

module _ {State : Type 0} {tree : Tree State} {belongs : State → Type 0} (lawful : Lawful tree belongs) {sections : Sectioning State} (sectioned : IsSectioned tree belongs sections) {from : State} (member : belongs from) (head log : List ℕ) (old : Option (List Entry)) (h : ℕ) where
  -- in the section behind so many steps and lines
  abbrev Stands : (steps lines : ℕ) → ℕ → ℕ → State → List ℕ → Option (List Entry) → Type 0
  Stands steps lines own taken s rest now = IsInside tree belongs sections from head log h taken (steps + own) own s rest (lines + own) × IsToldAlong tree (path_in_first_lines tree from (lines + own) log) from s old now

  reads_on : (steps lines : ℕ) → ReadsOn tree (λ s. sections.of s == h) (sectioned_form tree sections from head log) from old lines (Stands steps lines)
  reads_on steps lines = record {
    one = λ own taken s rest now so has going v after read.
        (let count : lines + own + 1 ≡ lines + (own + 1) = omega arith in
        let all : steps + own + 1 ≡ steps + (own + 1) = omega arith in
        let next : State = picked s (tree.parts s) v in
        let new : Option (List Entry) = and_then now (entry_at tree s v ∷ []) in
        let At : ℕ × ℕ → Type 0 = λ n. IsInside tree belongs sections from head log h (taken + taken_at tree s) n.0 (own + 1) next after n.1 in (
          subst At (λ i. (all i, count i)) (step_some lawful sectioned member head log so.0 v after (eqb-true (sections.of s) h has) read),
          subst (λ n. IsToldAlong tree (path_in_first_lines tree from n log) from next old new) count (told_step tree from old so.0.reached so.0.behind s now so.1 v after new going read refl),
        ));
    begins = λ own taken s rest now so. told_part tree from old so.0.reached so.0.behind s now so.1;
    along = λ own taken s rest now so. so.1;
    stuck = λ own taken s rest now so has none.
        (let differs = step_none lawful sectioned member head log so.0 (eqb-true (sections.of s) h has) none in
        (differs, sectioned_reads lawful sectioned member so.0.is_head log (lines + own + 1) differs));
  }

  -- behind the opening line
  enters_at : {taken steps lines : ℕ} {s : State} {rest : List ℕ} {now : Option (List Entry)} → IsOpening tree belongs sections from head log h taken steps s rest lines → IsToldAlong tree (path_in_first_lines tree from lines log) from s old now → {count : ℕ} → count ≡ sections.count → h < count → (after : List ℕ) → after_line (stratum_line (h + 1) taken) rest ≡ Some after
      → Stands steps (lines + 1) 0 taken s after now
  enters_at {taken} {steps} {lines} {s} {rest} {now} at told same below after some =
      let less = subst (λ n. h < n) same below in
      let none : steps ≡ steps + 0 = omega arith in
      let count : lines + 1 ≡ lines + 1 + 0 = omega arith in
      let At : ℕ × ℕ → Type 0 = λ n. IsInside tree belongs sections from head log h taken n.0 0 s after n.1 in (
        subst At (λ i. (none i, count i)) (enter_some lawful sectioned member head log at after less some),
        subst (λ n. IsToldAlong tree (path_in_first_lines tree from n log) from s old now) count (told_passed tree from old at.reached at.behind s now told (stratum_line (h + 1) taken) after some (stratum_is_no_step (h + 1) taken)),
      )

  -- behind all its steps
  record AtEnd (to : State) (rest : List ℕ) (taken steps own lines : ℕ) (new : Option (List Entry)) : Type 0 where
    at : IsInside tree belongs sections from head log h taken steps own to rest lines
    told : IsToldAlong tree (path_in_first_lines tree from lines log) from to old new
    away : sections.of to ≢ h

  at_end : {taken steps lines : ℕ} {s : State} {rest : List ℕ} {now : Option (List Entry)} → IsOpening tree belongs sections from head log h taken steps s rest lines → IsToldAlong tree (path_in_first_lines tree from lines log) from s old now → {count : ℕ} → count ≡ sections.count → h < count
      → (after : List ℕ) → after_line (stratum_line (h + 1) taken) rest ≡ Some after → {left : List ℕ} {to : State} {own more : ℕ} {new : Option (List Entry)} → AreAllMade tree (λ s. sections.of s == h) s to after left own more now new → AtEnd to left (taken + more) (steps + own) own (lines + 1 + own) new
  at_end {taken} {steps} {lines} at told same below after some {to = to} all =
      let so = stands_on lawful (reads_on steps (lines + 1)) taken (enters_at at told same below after some) at.member all.made in
      record { at = so.0; told = so.1; away = eqb-false (sections.of to) h all.over }

-- ---- the head

pub after_front-requires : goal.after_front-requires
after_front-requires g c = subst IsCompleteLines (sym c.sectioned.ensures.bytes) (whole_sectioned_head c.args.head.now c.sectioned.ensures.lines)

pub returns-in_err-rest-clause-replays : goal.returns-in_err-rest-clause-replays
returns-in_err-rest-clause-replays g c =
    let lawful = (g.S.Splitting.method c.args.run.now).lawful in
    let sectioned = g.met.S.Sections.sectioned c.args.run.now in
    let h = c.sectioned.ensures.lines in
    let is = err_from_is_err_and c.from_residual.result c.from_residual.ensures.1 in
    rw (is.1, is.2) (refused_head c.args.log.now (sectioned_reads lawful sectioned c.requires h c.args.log.now) c.requires c.sectioned.ensures.bytes (sectioned_head_count c.args.head.now h) (λ line at. stops lawful sectioned c.requires c.args.head.now c.args.log.now line h at) c.in_err-rest.field-0.0 c.in_err-rest.ensures.stops)

pub loop-section-init : goal.loop-section-init
loop-section-init g c =
    let front = c.in_ok-rest.ensures.front ∙ ap (λ h. h ++ c.in_ok-rest.rest.now) c.sectioned.ensures.bytes in
    (first (g.S.Splitting.method c.args.run.now).lawful (g.met.S.Sections.sectioned c.args.run.now) c.requires _ _ c.in_ok-rest.rest.now c.sectioned.ensures.lines front, few_told _ _ _ c.args.log.now 3 (omega arith), λ from so. so)

-- ---- before a section, and behind all of them

pub returns-in_default-clause-replays : goal.returns-in_default-clause-replays
returns-in_default-clause-replays g c =
    let at = c.loop-section.invariant.0 in
    let less = subst (λ n. c.loop-section.section < n) c.sections-section-end.ensures c.loop-section-test.true in
    refused_behind c.args.log.now (sectioned_reads (g.S.Splitting.method c.args.run.now).lawful (g.met.S.Sections.sectioned c.args.run.now) c.requires at.is_head c.args.log.now) at.member at.reached at.behind c.loop-section.invariant.1 (c.loop-section.lines + 1) refl (enter_none (g.S.Splitting.method c.args.run.now).lawful (g.met.S.Sections.sectioned c.args.run.now) c.requires _ _ at less (sym c.in_default.ensures))

pub returns-in_default-after_end-clause-replays : goal.returns-in_default-after_end-clause-replays
returns-in_default-after_end-clause-replays g c =
    let at = c.loop-section.invariant.0 in
    let high = subst (λ n. n ≤ c.loop-section.section) c.sections-section-end.ensures c.loop-section-test.false in
    refused_behind c.args.log.now (sectioned_reads (g.S.Splitting.method c.args.run.now).lawful (g.met.S.Sections.sectioned c.args.run.now) c.requires at.is_head c.args.log.now) at.member at.reached at.behind c.loop-section.invariant.1 (c.loop-section.lines + 1) refl (end_none (g.S.Splitting.method c.args.run.now).lawful (g.met.S.Sections.sectioned c.args.run.now) c.requires _ _ at high (sym c.in_default-after_end.ensures))

pub returns-then-not-is_empty-clause-replays : goal.returns-then-not-is_empty-clause-replays
returns-then-not-is_empty-clause-replays g c =
    let at = c.loop-section.invariant.0 in
    let high = subst (λ n. n ≤ c.loop-section.section) c.sections-section-end.ensures c.loop-section-test.false in
    let something : 0 < length c.in-Some-after_end.after.now = search rules in
    let cut = first_is (end_line c.loop-section.steps) c.loop-section.rest.now c.in-Some-after_end.after.now (sym c.in-Some-after_end.ensures) in
    let none = none_along (g.S.Splitting.method c.args.run.now).tree c.loop-section.state (end_line c.loop-section.steps ∷ []) (done_behind (g.S.Splitting.method c.args.run.now).lawful (g.met.S.Sections.sectioned c.args.run.now) c.requires _ _ at high) in
    refused_at c.args.log.now (sectioned_reads (g.S.Splitting.method c.args.run.now).lawful (g.met.S.Sections.sectioned c.args.run.now) c.requires at.is_head c.args.log.now) at.member (c.loop-section.lines + 1) (c.loop-section.lines + 2) (omega arith) (something_behind (g.S.Splitting.method c.args.run.now).lawful (g.met.S.Sections.sectioned c.args.run.now) c.requires _ _ at c.in-Some-after_end.after.now high (sym c.in-Some-after_end.ensures) something)
    (told_part _ _ _ at.reached at.behind _ _ c.loop-section.invariant.1) (told_over _ _ _ at.reached at.behind _ _ c.loop-section.invariant.1 (end_line c.loop-section.steps) c.in-Some-after_end.after.now cut none)

pub returns-clause-replays : goal.returns-clause-replays
returns-clause-replays g c =
    let at = c.loop-section.invariant.0 in
    let high = subst (λ n. n ≤ c.loop-section.section) c.sections-section-end.ensures c.loop-section-test.false in
    let none : length c.in-Some-after_end.after.now ≡ 0 = search rules in
    let done = done_behind (g.S.Splitting.method c.args.run.now).lawful (g.met.S.Sections.sectioned c.args.run.now) c.requires _ _ at high in
    let genuine = replayed (g.S.Splitting.method c.args.run.now).lawful (g.met.S.Sections.sectioned c.args.run.now) c.requires _ _ at c.in-Some-after_end.after.now high (sym c.in-Some-after_end.ensures) none in
    taken _ _ _ _ _ _ _ _ _ (record { genuine = genuine; told = sectioned_told _ _ (g.S.Splitting.method c.args.run.now).lawful _ (g.met.S.Sections.sectioned c.args.run.now) _ c.requires _ _ at.is_head _ genuine }) (told_all _ _ _ at.reached at.behind _ _ c.loop-section.invariant.1 done)
    (sym ((exact_sectioned _ _ (g.S.Splitting.method c.args.run.now).lawful _ (g.met.S.Sections.sectioned c.args.run.now) _ c.requires _ at.is_head c.args.log.now).alone (Ok c.loop-section.state) genuine)) done at.member

-- ---- in a section

pub replay_steps-requires-clause-part : goal.replay_steps-requires-clause-part
replay_steps-requires-clause-part g c = subst (λ n. c.loop-section.section < n) c.sections-section-end.ensures c.loop-section-test.true

pub replay_steps-requires-clause-room : goal.replay_steps-requires-clause-room
replay_steps-requires-clause-room g c =
    let stands = enters_at (g.S.Splitting.method c.args.run.now).lawful (g.met.S.Sections.sectioned c.args.run.now) c.requires c.args.head.now c.args.log.now (g.T.Trace.lines c.args.trace.now) c.loop-section.section c.loop-section.invariant.0 c.loop-section.invariant.1 c.sections-section-end.ensures c.loop-section-test.true c.in-Some.after.now (sym c.in-Some.ensures) in
    let room = stands.0.room in
    omega (arith, room)

pub returns-in_err-own-clause-replays : goal.returns-in_err-own-clause-replays
returns-in_err-own-clause-replays g c =
    let lawful = (g.S.Splitting.method c.args.run.now).lawful in
    let sectioned = g.met.S.Sections.sectioned c.args.run.now in
    let h = c.loop-section.section in
    let stands = enters_at lawful sectioned c.requires c.args.head.now c.args.log.now (g.T.Trace.lines c.args.trace.now) h c.loop-section.invariant.0 c.loop-section.invariant.1 c.sections-section-end.ensures c.loop-section-test.true c.in-Some.after.now (sym c.in-Some.ensures) in
    let is = err_from_is_err_and c.from_residual-in_err-own.result c.from_residual-in_err-own.ensures.1 in
    rw (is.1, is.2) (stopped lawful (reads_on lawful sectioned c.requires c.args.head.now c.args.log.now (g.T.Trace.lines c.args.trace.now) h c.loop-section.steps (c.loop-section.lines + 1)) c.loop-section.taken stands stands.0.member _ c.in_err-own.field-0.0 c.in_err-own.ensures.stopped)

pub returns-in_default-after_numbers-clause-replays : goal.returns-in_default-after_numbers-clause-replays
returns-in_default-after_numbers-clause-replays g c =
    let lawful = (g.S.Splitting.method c.args.run.now).lawful in
    let sectioned = g.met.S.Sections.sectioned c.args.run.now in
    let h = c.loop-section.section in
    let end = at_end lawful sectioned c.requires c.args.head.now c.args.log.now (g.T.Trace.lines c.args.trace.now) h c.loop-section.invariant.0 c.loop-section.invariant.1 c.sections-section-end.ensures c.loop-section-test.true c.in-Some.after.now (sym c.in-Some.ensures) c.in_ok-own.ensures.made in
    refused_behind c.args.log.now (sectioned_reads lawful sectioned c.requires end.at.is_head c.args.log.now) end.at.member end.at.reached end.at.behind end.told (c.loop-section.lines + 1 + c.in_ok-own.own.steps + 1) refl (leave_none lawful sectioned c.requires _ _ end.at end.away (sym c.in_default-after_numbers.ensures))

pub loop-section-preserved : goal.loop-section-preserved
loop-section-preserved g c =
    let lawful = (g.S.Splitting.method c.args.run.now).lawful in
    let sectioned = g.met.S.Sections.sectioned c.args.run.now in
    let h = c.loop-section.section in
    let end = at_end lawful sectioned c.requires c.args.head.now c.args.log.now (g.T.Trace.lines c.args.trace.now) h c.loop-section.invariant.0 c.loop-section.invariant.1 c.sections-section-end.ensures c.loop-section-test.true c.in-Some.after.now (sym c.in-Some.ensures) c.in_ok-own.ensures.made in (
      leave_some lawful sectioned c.requires _ _ end.at c.in-Some-after_numbers.after.now end.away (sym c.in-Some-after_numbers.ensures),
      told_passed _ _ _ end.at.reached end.at.behind _ _ end.told _ c.in-Some-after_numbers.after.now (sym c.in-Some-after_numbers.ensures) (done_is_no_step (h + 1) c.in_ok-own.own.steps),
      λ first so. c.in_ok-own.ensures.kept first (c.loop-section.invariant.2 first so),
    )

pub returns-clause-kept : goal.returns-clause-kept
returns-clause-kept g c = c.loop-section.invariant.2
