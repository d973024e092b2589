use Rattle.std.proofs.Common.{◌≡◌, ◌++◌, drop, map}
use Rattle.smp_log.specs.{Logs.{steps_text}, SectionLogs.{section_line, steps_of}}
use Rattle.smp_log.proofs.writing.push_steps.Given as goal

abbrev pub invariant-loop-step : goal.invariant-loop-step
invariant-loop-step l = l.text ++ steps_text (steps_of (map section_line (drop l.step-index l.steps))) ≡ l.fn.text ++ steps_text (steps_of (map section_line l.steps))
