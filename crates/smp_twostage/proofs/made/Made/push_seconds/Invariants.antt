use Rattle.std.proofs.Common.{◌≡◌, ◌++◌, Some}
use Rattle.smp_twostage.specs.{Kept.Stages.{EachStarts}, Selections.{stages_within}}
use Rattle.smp_twostage.proofs.made.Made.push_seconds.Given as goal

abbrev pub invariant-loop-unit : goal.invariant-loop-unit
invariant-loop-unit l = record {
  stages : l.self.stages.items ≡ l.fn.self.stages.items ++ stages_within (Some l.method) l.stage l.units l.unit;
  each : EachStarts l.self.stages.items l.self.states.items;
}
