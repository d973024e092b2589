use Rattle.std.proofs.Common.{◌≡◌, take}
use Rattle.smp_kernel.specs.RowReduction.{cut}
use Rattle.smp_kernel.proofs.prefixes.Prefixes.standing.Given as goal

-- the columns so far are the same
abbrev pub invariant-loop-place : goal.invariant-loop-place
invariant-loop-place g l = take l.place l.fn.self ≡ take l.place (cut g.row.Q l.fn.columns)
