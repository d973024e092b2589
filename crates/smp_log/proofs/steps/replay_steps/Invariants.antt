use Rattle.std.proofs.Common.{◌+◌, ◌≤◌, length}
use Rattle.smp_split.specs.Runs.{KeepsOn}
use Rattle.smp_log.specs.Steps.{AreMade}
use Rattle.smp_log.proofs.steps.replay_steps.Given as goal

abbrev pub invariant-loop-state : goal.invariant-loop-state
invariant-loop-state g l =
    AreMade (g.S.Splitting.method l.run).tree (g.P.Part.has l.part l.run) l.fn.state l.state l.text l.rest l.steps l.taken (g.T.Trace.lines l.fn.trace) (g.T.Trace.lines l.trace)
    × (g.S.Splitting.method l.run).belongs l.state
    × (l.steps + length l.rest ≤ length l.text)
    × (l.taken ≤ l.steps)
    × KeepsOn (g.T.Trace.keeps l.run) l.fn.state l.state l.fn.trace l.trace

abbrev pub decreases-loop-state : goal.decreases-loop-state
decreases-loop-state g l = length l.rest
