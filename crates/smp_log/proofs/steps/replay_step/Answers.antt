use Rattle.std.proofs.Common.{◌<◌, sym, subst}
use Rattle.smp_split.specs.Paths.{IsStep}
use Rattle.smp_log.proofs.FirstLines.{first_within}
use Rattle.smp_log.proofs.steps.replay_step.Goals as goal

pub advance-requires-clause-within : goal.advance-requires-clause-within
advance-requires-clause-within g c = subst (λ bound. c.in-Some.value < bound) c.bound-bound.ensures (first_within c.kind-kind.result c.bound-bound.result _ c.args.text.now _ (sym c.in-Some.ensures))

pub returns-clause-kept : goal.returns-clause-kept
returns-clause-kept g c from so =
    let value = first_within c.kind-kind.result c.bound-bound.result _ c.args.text.now _ (sym c.in-Some.ensures) in
    let step : IsStep (g.S.Splitting.method c.args.run.now).tree c.args.state.now (c.kind-kind.result, c.bound-bound.result, c.in-Some.value) =
    record { going = c.requires.going; kind = c.kind-kind.ensures; bound = c.bound-bound.ensures; value = value } in
    rw c.advance.ensures (c.in_ok-line.ensures.kept step from so)
