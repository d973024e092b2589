use Rattle.std.proofs.Common.{◌≡◌, map}
use Rattle.std.specs.List.{range_with_len}
use Rattle.smp_twostage.specs.{Kept.Stages.{EachStarts}, Selections.{first_number, stages_below}}
use Rattle.smp_twostage.proofs.made.Made.push_strata.Given as goal

abbrev pub invariant-loop-number : goal.invariant-loop-number
invariant-loop-number l = record {
  stages : l.self.stages.items ≡ stages_below l.plan l.number;
  each : EachStarts l.self.stages.items l.self.states.items;
  firsts : l.firsts.items ≡ map (first_number l.plan) (range_with_len 0 l.number);
}
