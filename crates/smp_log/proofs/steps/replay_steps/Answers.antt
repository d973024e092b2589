use Rattle.std.proofs.Common.{◌≡◌, ◌<◌, ◌≤◌, true, false, Bool, cond, ltb, length, Err, rules, refl, sym, ◌∙◌, arith}
use mir.Val.{bool_byte}
use Rattle.smp_split.specs.{Laws.Steps.{picked_belongs}, Trees.{weight_sum}}
use Rattle.smp_log.specs.declared.fault.ReplayFault.TheVariants.{NoMemory}
use Rattle.smp_log.proofs.{FirstLines.{first_shorter, first_within}, StepsMade.{left_by, made_by, more_made, none_made}}
use Rattle.smp_log.proofs.steps.replay_steps.Goals as goal

bool_cond : (b : Bool) → bool_byte b ≡ cond b 1 0
bool_cond true = refl
bool_cond false = refl

at_most : (b : Bool) → cond b 1 0 ≤ 1
at_most true = omega arith
at_most false = omega arith

pub goes_on-requires-clause-state : goal.goes_on-requires-clause-state
goes_on-requires-clause-state g c = c.loop-state.invariant.1

pub goes_on-requires-clause-part : goal.goes_on-requires-clause-part
goes_on-requires-clause-part g c = c.requires.part

pub replay_step-requires-clause-member : goal.replay_step-requires-clause-member
replay_step-requires-clause-member g c = c.loop-state.invariant.1

pub replay_step-requires-clause-going : goal.replay_step-requires-clause-going
replay_step-requires-clause-going g c = c.goes_on.ensures.going c.loop-state-test.true

pub loop-state-init : goal.loop-state-init
loop-state-init g c = (none_made (g.S.Splitting.method c.args.run.now).tree (g.P.Part.has c.args.part.now c.args.run.now) c.args.state.now c.args.text.now (g.T.Trace.lines c.args.trace.now), c.requires.member, omega arith, omega arith, λ from so. so)

-- ---- a line that isn't that of a step

pub returns-in_default-clause-stopped : goal.returns-in_default-clause-stopped
returns-in_default-clause-stopped g c =
    let lines = g.T.Trace.lines in
    let left = left_by (g.S.Splitting.method c.args.run.now).tree c.loop-state.state c.replay_step.new.state c.loop-state.rest.now _ (lines c.loop-state.trace) (lines c.replay_step.new.trace) c.in_ok-after.field-0 c.in_default.not-Some c.in_ok-after.ensures.step in
    rw (left.same, left.untold) (record {
      begun = record { rest = c.loop-state.rest.now; steps = c.loop-state.steps; taken = c.loop-state.taken; made = c.loop-state.invariant.0 };
      going = sym c.goes_on.ensures.answer ∙ c.loop-state-test.true;
      read = left.read;
      counted = refl;
    })

-- ---- no memory

pub returns-in_err-after-clause-made : goal.returns-in_err-after-clause-made
returns-in_err-after-clause-made g c = (let same : c.from_residual.result ≡ Err NoMemory = search rules in rw same tt)

pub returns-in_err-after-clause-kept : goal.returns-in_err-after-clause-kept
returns-in_err-after-clause-kept g c = (let same : c.from_residual.result ≡ Err NoMemory = search rules in rw same tt)

pub returns-in_err-after-clause-stopped : goal.returns-in_err-after-clause-stopped
returns-in_err-after-clause-stopped g c =
    let same : c.from_residual.result ≡ Err NoMemory = search rules in
    rw (same, c.in_err-after.ensures.stays, c.in_err-after.ensures.untold) (
      record { rest = c.loop-state.rest.now; steps = c.loop-state.steps; taken = c.loop-state.taken; made = c.loop-state.invariant.0 },
      c.in_err-after.ensures.may_refuse,
    )

-- ---- a step

pub loop-state-smaller : goal.loop-state-smaller
loop-state-smaller g c =
    let lines = g.T.Trace.lines in
    let made = made_by (g.S.Splitting.method c.args.run.now).tree c.loop-state.state c.replay_step.new.state c.loop-state.rest.now _ (lines c.loop-state.trace) (lines c.replay_step.new.trace) c.in_ok-after.field-0 _ c.in-Some.is c.in_ok-after.ensures.step in
    first_shorter _ _ made.value _ _ made.read

pub loop-state-preserved : goal.loop-state-preserved
loop-state-preserved g c =
    let method = g.S.Splitting.method c.args.run.now in
    let lines = g.T.Trace.lines in
    let so = c.loop-state.invariant in
    let going = c.goes_on.ensures.going c.loop-state-test.true in
    let made = made_by method.tree c.loop-state.state c.replay_step.new.state c.loop-state.rest.now _ (lines c.loop-state.trace) (lines c.replay_step.new.trace) c.in_ok-after.field-0 _ c.in-Some.is c.in_ok-after.ensures.step in
    let from = c.loop-state.state in
    let short : length c.in-Some.after.now < length c.loop-state.rest.now = first_shorter (method.tree.kind from) (weight_sum (method.tree.parts from)) made.value c.loop-state.rest.now c.in-Some.after.now made.read in
    let one = at_most (ltb 1 c.in-Some.bound) in
    rw (bool_cond (ltb 1 c.in-Some.bound)) (
      more_made method.tree (g.P.Part.has c.args.part.now c.args.run.now) so.0 (sym c.goes_on.ensures.answer ∙ c.loop-state-test.true) going made,
      picked_belongs method.tree method.belongs method.lawful c.loop-state.state c.replay_step.new.state made.value so.1 going (first_within (method.tree.kind from) (weight_sum (method.tree.parts from)) made.value c.loop-state.rest.now c.in-Some.after.now made.read) made.made,
      omega (arith, so.2, short),
      omega (arith, so.3, one),
      λ first kept. c.in_ok-after.ensures.kept first (so.4 first kept),
    )

-- ---- all of them

pub returns-clause-made : goal.returns-clause-made
returns-clause-made g c = record { made = c.loop-state.invariant.0; over = sym c.goes_on.ensures.answer ∙ c.loop-state-test.false }

pub returns-clause-few : goal.returns-clause-few
returns-clause-few g c =
    let short = c.loop-state.invariant.2 in
    (c.loop-state.invariant.3, short, omega (arith, c.requires.room, short))

pub returns-in_err-after-clause-few : goal.returns-in_err-after-clause-few
returns-in_err-after-clause-few g c = (let same : c.from_residual.result ≡ Err NoMemory = search rules in rw same tt)

pub returns-clause-kept : goal.returns-clause-kept
returns-clause-kept g c = c.loop-state.invariant.4
