use Rattle.smp_split.specs.{Runs.{position, KeepsOn}, Laws.Steps.{Walking}}
use Rattle.smp_split.proofs.walking.walk.Given as goal

abbrev pub invariant-loop-state : goal.invariant-loop-state
invariant-loop-state g l =
    let s = g.S.Splitting in
    let d = g.D.Draws in
    let t = g.T.Trace in
    Walking d.source (s.method l.design).tree (s.method l.design).belongs (position l.fn.state l.fn.draws (t.lines l.fn.trace)) (position l.state l.draws (t.lines l.trace))
    × KeepsOn (t.keeps l.design) l.fn.state l.state l.fn.trace l.trace

abbrev pub decreases-loop-state : goal.decreases-loop-state
decreases-loop-state g l = (g.S.Splitting.method l.design).tree.rank l.state
