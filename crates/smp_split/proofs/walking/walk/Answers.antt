use Rattle.std.proofs.Common.{◌≡◌, ◌<◌, true, false, Ok, Err, refl, ap, sym, subst, ◌∙◌, rules}
use Rattle.smp_split.specs.{Trees.{weight_sum}, Paths.{Entry, IsStep, entry_at}, Runs.{position, Refused}}
use Rattle.smp_split.specs.declared.walking.WalkFault.TheVariants as faults
use Rattle.smp_split.specs.{Laws.Means.{mean_is_value, probability_is_value}, Laws.Steps.{picked_falls, Gives-push, Walking-step}}
use Rattle.smp_split.proofs.Runs.{run_to_leaf, run_to_stop}
use Rattle.smp_split.proofs.walking.walk.Goals as goal

pub loop-state-smaller : goal.loop-state-smaller
loop-state-smaller g c =
    let design = c.args.design.now in
    let going : (g.S.Splitting.method design).tree.done c.loop-state.state ≡ false = search rules in
    let within : c.in_ok-value.value < weight_sum ((g.S.Splitting.method design).tree.parts c.loop-state.state) = search rules in
    picked_falls (g.S.Splitting.method design).tree (g.S.Splitting.method design).belongs (g.S.Splitting.method design).lawful c.loop-state.state c.advance.new.state c.in_ok-value.value c.loop-state.invariant.0.member going within c.advance.ensures

pub loop-state-preserved : goal.loop-state-preserved
loop-state-preserved g c =
    let tree = (g.S.Splitting.method c.args.design.now).tree in
    let lines = g.T.Trace.lines in
    let entry : Entry = (c.kind-kind.result, c.bound-bound.result, c.in_ok-value.value) in
    let going : tree.done c.loop-state.state ≡ false = search rules in
    let step : IsStep tree c.loop-state.state entry = record { going = going; kind = c.kind-kind.ensures; bound = c.bound-bound.ensures; value = c.in_ok-value.ensures.below } in (
      Walking-step tree (g.S.Splitting.method c.args.design.now).belongs (g.S.Splitting.method c.args.design.now).lawful g.D.Draws.source
          (position c.args.state.now c.args.draws.now (lines c.args.trace.now)) (position c.loop-state.state c.loop-state.draws (lines c.loop-state.trace)) (position c.advance.new.state c.below.new.self (lines c.line.new.self)) entry
          c.loop-state.invariant.0 step
          (ap (λ d. d.answer) c.in_ok-value.ensures.drawn) (sym (ap (λ d. d.rest) c.in_ok-value.ensures.drawn)) c.in_ok-line.ensures.ok c.advance.ensures,
      λ from so. rw c.advance.ensures (c.in_ok-line.ensures.kept step from (c.loop-state.invariant.1 from so)),
    )

pub returns-clause-kept : goal.returns-clause-kept
returns-clause-kept g c = c.loop-state.invariant.1

pub returns-clause-arrived : goal.returns-clause-arrived
returns-clause-arrived g c =
    let tree = (g.S.Splitting.method c.args.design.now).tree in
    let walked = c.loop-state.invariant.0 in
    let done : tree.done c.loop-state.state ≡ true = search rules in
    record {
      path = walked.path;
      ran = run_to_leaf g.D.Draws.source tree (g.S.Splitting.method c.args.design.now).belongs (g.S.Splitting.method c.args.design.now).lawful c.args.state.now c.loop-state.state walked.path c.args.draws.now c.loop-state.draws c.requires
          (record { leads = walked.leads; done = done; gives = walked.gives });
      told = walked.told;
    }

pub returns-in_err-value-clause-refused : goal.returns-in_err-value-clause-refused
returns-in_err-value-clause-refused g c refusal h =
    let source = g.D.Draws.source in
    let tree = (g.S.Splitting.method c.args.design.now).tree in
    let lines = g.T.Trace.lines in
    let walked = c.loop-state.invariant.0 in
    let fault = c.in_err-value.field-0.0 in
    let going : tree.done c.loop-state.state ≡ false = search rules in
    let is : c.from_residual.result ≡ Err (faults.Draw fault) = search (rules, c.from_residual.ensures) in
    let same : fault ≡ refusal = cc in
    let refused : source.next c.loop-state.draws (weight_sum (tree.parts c.loop-state.state)) ≡ record { answer = Err fault; rest = c.below.new.self } =
    subst (λ b. source.next c.loop-state.draws b ≡ record { answer = Err fault; rest = c.below.new.self }) c.bound-bound.ensures c.in_err-value.ensures.drawn in
    subst (λ f. Refused source tree f (position c.args.state.now c.args.draws.now (lines c.args.trace.now)) (position c.loop-state.state c.below.new.self (lines c.loop-state.trace))) same
    (record {
      path = walked.path;
      ran = run_to_stop source tree (g.S.Splitting.method c.args.design.now).belongs (g.S.Splitting.method c.args.design.now).lawful c.args.state.now c.loop-state.state walked.path fault c.args.draws.now c.below.new.self c.requires
          (record { asked = c.loop-state.draws; leads = walked.leads; going = going; gives = walked.gives; refused = refused });
      told = walked.told;
    })

pub returns-in_err-line-clause-untold : goal.returns-in_err-line-clause-untold
returns-in_err-line-clause-untold g c h =
    let source = g.D.Draws.source in
    let tree = (g.S.Splitting.method c.args.design.now).tree in
    let lines = g.T.Trace.lines in
    let walked = c.loop-state.invariant.0 in
    let value = c.in_ok-value.value in
    let state = c.loop-state.state in
    let going : tree.done state ≡ false = search rules in
    let answer : (source.next c.loop-state.draws (weight_sum (tree.parts state))).answer ≡ Ok value =
    subst (λ b. (source.next c.loop-state.draws b).answer ≡ Ok value) c.bound-bound.ensures (ap (λ d. d.answer) c.in_ok-value.ensures.drawn) in
    let left : (source.next c.loop-state.draws (weight_sum (tree.parts state))).rest ≡ c.below.new.self =
    subst (λ b. (source.next c.loop-state.draws b).rest ≡ c.below.new.self) c.bound-bound.ensures (ap (λ d. d.rest) c.in_ok-value.ensures.drawn) in
    let below : value < weight_sum (tree.parts state) = subst (λ b. value < b) c.bound-bound.ensures c.in_ok-value.ensures.below in
    record {
      path = walked.path;
      value = value;
      leads = walked.leads;
      step = record { going = going; kind = refl; bound = refl; value = below };
      gives = rw (← left) (Gives-push source walked.path (entry_at tree state value) c.args.draws.now c.loop-state.draws walked.gives answer);
      told = c.in_err-line.ensures.err ∙ walked.told;
    }

-- ---- what a uniform draw at each step would give on average, however the walk ends

pub returns-clause-mean : goal.returns-clause-mean
returns-clause-mean g c sum = let method = g.S.Splitting.method c.args.design.now in mean_is_value method.tree method.belongs method.lawful sum c.args.state.now c.requires

pub returns-clause-probability : goal.returns-clause-probability
returns-clause-probability g c = let method = g.S.Splitting.method c.args.design.now in probability_is_value method.tree method.belongs method.lawful c.args.state.now c.requires

pub returns-in_err-value-clause-mean : goal.returns-in_err-value-clause-mean
returns-in_err-value-clause-mean g c sum = let method = g.S.Splitting.method c.args.design.now in mean_is_value method.tree method.belongs method.lawful sum c.args.state.now c.requires

pub returns-in_err-value-clause-probability : goal.returns-in_err-value-clause-probability
returns-in_err-value-clause-probability g c = let method = g.S.Splitting.method c.args.design.now in probability_is_value method.tree method.belongs method.lawful c.args.state.now c.requires

pub returns-in_err-line-clause-mean : goal.returns-in_err-line-clause-mean
returns-in_err-line-clause-mean g c sum = let method = g.S.Splitting.method c.args.design.now in mean_is_value method.tree method.belongs method.lawful sum c.args.state.now c.requires

pub returns-in_err-line-clause-probability : goal.returns-in_err-line-clause-probability
returns-in_err-line-clause-probability g c = let method = g.S.Splitting.method c.args.design.now in probability_is_value method.tree method.belongs method.lawful c.args.state.now c.requires
