use Rattle.std.proofs.Common.{◌≡◌, ◌++◌, [], drop, map}
use Rattle.std.specs.Prelude.{slice_index_or}
use Rattle.smp_twostage.specs.Kept.Stages.{free_lists, list_of}
use Rattle.smp_twostage.proofs.made.free_lists.Given as goal

-- the lists so far, and those of the other units
abbrev pub invariant-loop-unit : goal.invariant-loop-unit
invariant-loop-unit l =
    l.lists.items ++ map (λ k. slice_index_or (map (list_of l.columns) l.stratum.units) k []) (drop l.unit-index l.stratum.request.free)
    ≡ free_lists l.columns l.stratum
