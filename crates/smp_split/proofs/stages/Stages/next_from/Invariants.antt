use Rattle.std.proofs.Common.{◌≡◌, ℕ, ◌<◌, false}
use Rattle.smp_split.specs.{Stages.{waits}, Methods.{trees}}
use Rattle.smp_split.proofs.stages.Stages.next_from.Given as goal

-- no stage so far waits
abbrev pub invariant-loop-number : goal.invariant-loop-number
invariant-loop-number g l = (j : ℕ) → j < l.number → waits (trees g.D.Splitting.method) l.self.stages.items l.states j ≡ false
