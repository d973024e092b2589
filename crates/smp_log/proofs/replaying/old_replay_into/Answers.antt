use Rattle.std.proofs.Common.{◌≡◌, ℕ, ◌+◌, ◌++◌, ◌∷◌, [], ◌<◌, true, not, List, Option, length, Ok, rules, refl, sym, ap, ◌∙◌, subst, arith, length-append}
use Rattle.std.proofs.{lemmas.Bool.{not-true, not-false}, lemmas.Result.{err_from_is_err_and}}
use Rattle.smp_split.specs.{Paths.{Entry, entry_at}, Runs.{and_then}, Trees.{Tree, Lawful, picked}}
use Rattle.smp_log.specs.{Fronts.{IsCompleteLines}, Genuine.{DiffersAt, IsGenuine}, Heads.{IsHead}, Reading.{end_line}, Replayed.{old_form}}
use Rattle.smp_log.specs.{Steps.{AreAllMade}, Told.{path_in_first_lines, IsToldAlong}}
use Rattle.smp_log.proofs.{FirstLines.{first_is}, Replied.{refused_at, refused_behind, refused_head, taken}}
use Rattle.smp_log.proofs.Replays.{IsReplaying, whole_head, head_count, first, stops, no_step, more, no_end, something_behind, replayed}
use Rattle.smp_log.proofs.{Answered.{exact_reading, old_reads}, StepsAlong.{ReadsOn, stands_on, stopped}}
use Rattle.smp_log.proofs.Telling.{few_told, none_along, told_step, told_over, told_part, told_all, genuine_told}
use Rattle.smp_log.proofs.replaying.old_replay_into.Goals as goal

-- ---- the steps

module _ {State : Type 0} {tree : Tree State} {belongs : State → Type 0} (lawful : Lawful tree belongs) {from : State} (member : belongs from) (head log : List ℕ) (old : Option (List Entry)) where
  abbrev Stands : ℕ → ℕ → State → List ℕ → Option (List Entry) → Type 0
  Stands own taken s rest now = IsReplaying tree belongs from head log s rest own × IsToldAlong tree (path_in_first_lines tree from (own + 3) log) from s old now

  begins_at : (rest : List ℕ) → IsHead head → log ≡ head ++ rest → Stands 0 0 from rest old
  begins_at rest h front = (first lawful member head log rest h front, few_told tree from old log 3 (omega arith))

  reads_on : ReadsOn tree (λ s. not (tree.done s)) (old_form tree from head log) from old 3 Stands
  reads_on = record {
    one = λ own taken s rest now so has going v after read.
        (let count : own + 3 + 1 ≡ own + 1 + 3 = omega arith in (
          more lawful member head log so.0 v after read going,
          subst (λ n. IsToldAlong tree (path_in_first_lines tree from n log) from (picked s (tree.parts s) v) old (and_then now (entry_at tree s v ∷ []))) count
              (told_step tree from old so.0.reached (omega arith) s now so.1 v after (and_then now (entry_at tree s v ∷ [])) going read refl),
        ));
    begins = λ own taken s rest now so. told_part tree from old so.0.reached (omega arith) s now so.1;
    along = λ own taken s rest now so. (let count : own + 3 ≡ 3 + own = omega arith in subst (λ n. IsToldAlong tree (path_in_first_lines tree from n log) from s old now) count so.1);
    stuck = λ own taken s rest now so has none.
        (let count : own + 4 ≡ 3 + own + 1 = omega arith in
        let differs = subst (DiffersAt (IsGenuine tree from head) log) count (no_step lawful member head log so.0 (not-true _ has) none) in
        (differs, old_reads lawful member so.0.is_head log (3 + own + 1) differs));
  }

  -- behind all of them
  record AtLeaf (to : State) (rest : List ℕ) (steps : ℕ) (new : Option (List Entry)) : Type 0 where
    at : IsReplaying tree belongs from head log to rest steps
    told : IsToldAlong tree (path_in_first_lines tree from (steps + 3) log) from to old new
    done : tree.done to ≡ true

  at_leaf : {rest left : List ℕ} {to : State} {steps taken : ℕ} {new : Option (List Entry)} → IsHead head → log ≡ head ++ rest → AreAllMade tree (λ s. not (tree.done s)) from to rest left steps taken old new → AtLeaf to left steps new
  at_leaf {rest} h front all =
      let so = stands_on lawful reads_on 0 (begins_at rest h front) member all.made in
      record { at = so.0; told = so.1; done = not-false _ all.over }

-- ---- the head

pub after_front-requires : goal.after_front-requires
after_front-requires g c = subst IsCompleteLines (sym c.as_slice.ensures.bytes) (whole_head c.args.head.now c.as_slice.ensures.lines)

pub returns-in_err-rest-clause-replays : goal.returns-in_err-rest-clause-replays
returns-in_err-rest-clause-replays g c =
    let lawful = (g.S.Splitting.method c.args.run.now).lawful in
    let h = c.as_slice.ensures.lines in
    let is = err_from_is_err_and c.from_residual.result c.from_residual.ensures.1 in
    rw (is.1, is.2) (refused_head c.args.log.now (old_reads lawful c.requires h c.args.log.now) c.requires c.as_slice.ensures.bytes (head_count c.args.head.now h) (λ line at. stops lawful c.requires c.args.head.now c.args.log.now line h at) c.in_err-rest.field-0.0 c.in_err-rest.ensures.stops)

pub replay_steps-requires-clause-room : goal.replay_steps-requires-clause-room
replay_steps-requires-clause-room g c =
    let size : length c.args.log.now ≡ length c.as_slice.result.now + length c.in_ok-rest.rest.now = ap length c.in_ok-rest.ensures.front ∙ length-append c.as_slice.result.now c.in_ok-rest.rest.now in
    omega (arith, size, c.as_slice.ensures.length)

pub returns-in_err-all-clause-replays : goal.returns-in_err-all-clause-replays
returns-in_err-all-clause-replays g c =
    let lawful = (g.S.Splitting.method c.args.run.now).lawful in
    let front = c.in_ok-rest.ensures.front ∙ ap (λ h. h ++ c.in_ok-rest.rest.now) c.as_slice.ensures.bytes in
    let old = g.T.Trace.lines c.args.trace.now in
    let is = err_from_is_err_and c.from_residual-in_err-all.result c.from_residual-in_err-all.ensures.1 in
    rw (is.1, is.2) (stopped lawful (reads_on lawful c.requires c.args.head.now c.args.log.now old) 0 (begins_at lawful c.requires c.args.head.now c.args.log.now old c.in_ok-rest.rest.now c.as_slice.ensures.lines front) c.requires _ c.in_err-all.field-0.0 c.in_err-all.ensures.stopped)

-- ---- at a leaf

pub returns-in_default-clause-replays : goal.returns-in_default-clause-replays
returns-in_default-clause-replays g c =
    let lawful = (g.S.Splitting.method c.args.run.now).lawful in
    let front = c.in_ok-rest.ensures.front ∙ ap (λ h. h ++ c.in_ok-rest.rest.now) c.as_slice.ensures.bytes in
    let leaf = at_leaf lawful c.requires c.args.head.now c.args.log.now (g.T.Trace.lines c.args.trace.now) c.as_slice.ensures.lines front c.in_ok-all.ensures.made in
    refused_behind c.args.log.now (old_reads lawful c.requires leaf.at.is_head c.args.log.now) leaf.at.member leaf.at.reached (omega arith) leaf.told (c.in_ok-all.all.steps + 4) (omega arith) (no_end lawful c.requires _ _ leaf.at leaf.done (sym c.in_default.ensures))

pub returns-then-not-is_empty-clause-replays : goal.returns-then-not-is_empty-clause-replays
returns-then-not-is_empty-clause-replays g c =
    let method = g.S.Splitting.method c.args.run.now in
    let steps = c.in_ok-all.all.steps in
    let front = c.in_ok-rest.ensures.front ∙ ap (λ h. h ++ c.in_ok-rest.rest.now) c.as_slice.ensures.bytes in
    let leaf = at_leaf method.lawful c.requires c.args.head.now c.args.log.now (g.T.Trace.lines c.args.trace.now) c.as_slice.ensures.lines front c.in_ok-all.ensures.made in
    let something : 0 < length c.in-Some.after.now = search rules in
    let cut = first_is (end_line steps) c.in_ok-all.all.rest.now c.in-Some.after.now (sym c.in-Some.ensures) in
    let none = none_along method.tree c.replay_steps.new.state (end_line steps ∷ []) leaf.done in
    refused_at c.args.log.now (old_reads method.lawful c.requires leaf.at.is_head c.args.log.now) leaf.at.member (steps + 3 + 1) (steps + 5) (omega arith) (something_behind method.lawful c.requires _ _ leaf.at c.in-Some.after.now leaf.done (sym c.in-Some.ensures) something)
    (told_part _ _ _ leaf.at.reached (omega arith) _ _ leaf.told) (told_over _ _ _ leaf.at.reached (omega arith) _ _ leaf.told (end_line steps) c.in-Some.after.now cut none)

pub returns-clause-replays : goal.returns-clause-replays
returns-clause-replays g c =
    let method = g.S.Splitting.method c.args.run.now in
    let front = c.in_ok-rest.ensures.front ∙ ap (λ h. h ++ c.in_ok-rest.rest.now) c.as_slice.ensures.bytes in
    let leaf = at_leaf method.lawful c.requires c.args.head.now c.args.log.now (g.T.Trace.lines c.args.trace.now) c.as_slice.ensures.lines front c.in_ok-all.ensures.made in
    let none : length c.in-Some.after.now ≡ 0 = search rules in
    let genuine = replayed method.lawful c.requires _ _ leaf.at c.in-Some.after.now leaf.done (sym c.in-Some.ensures) none in
    taken _ _ _ _ _ _ _ _ _ (record { genuine = genuine; told = genuine_told _ _ method.lawful _ c.requires _ _ leaf.at.is_head _ genuine }) (told_all _ _ _ leaf.at.reached (omega arith) _ _ leaf.told leaf.done)
    (sym ((exact_reading _ _ method.lawful _ c.requires _ leaf.at.is_head c.args.log.now).alone (Ok c.replay_steps.new.state) genuine)) leaf.done leaf.at.member

pub returns-clause-kept : goal.returns-clause-kept
returns-clause-kept g c = c.in_ok-all.ensures.kept
