use Rattle.std.proofs.Common.{◌≡◌, ◌++◌, drop}
use Rattle.smp_split.specs.Paths.{values_of}
use Rattle.method_tests.proofs.walking.tape_for.Given as goal

-- the values so far, and those of the other steps
abbrev pub invariant-loop-bound : goal.invariant-loop-bound
invariant-loop-bound l = l.values.items ++ values_of (drop l.bound-index l.path) ≡ values_of l.path
