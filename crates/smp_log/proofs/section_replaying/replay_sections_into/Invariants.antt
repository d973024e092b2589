use Rattle.smp_split.specs.Runs.{KeepsOn}
use Rattle.smp_log.proofs.SectionReplays.{IsOpening}
use Rattle.smp_log.specs.Told.{path_in_first_lines, IsToldAlong}
use Rattle.smp_log.proofs.section_replaying.replay_sections_into.Given as goal

abbrev pub invariant-loop-section : goal.invariant-loop-section
invariant-loop-section g l =
    IsOpening (g.S.Splitting.method l.run).tree (g.S.Splitting.method l.run).belongs (g.S.Sections.sectioning l.run) l.fn.state l.head l.log l.section l.taken l.steps l.state l.rest l.lines
    × IsToldAlong (g.S.Splitting.method l.run).tree (path_in_first_lines (g.S.Splitting.method l.run).tree l.fn.state l.lines l.log) l.fn.state l.state (g.T.Trace.lines l.fn.trace) (g.T.Trace.lines l.trace)
    × KeepsOn (g.T.Trace.keeps l.run) l.fn.state l.state l.fn.trace l.trace
