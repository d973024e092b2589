use Rattle.std.proofs.Common.{ℕ, [], ◌<◌, ◌≤◌, get_or}
use Rattle.smp_near.specs.Kept.Regions.{IsIn}
use Rattle.smp_near.proofs.regions.region_of.Given as goal

-- the points so far lie in the region
abbrev pub invariant-loop-place : goal.invariant-loop-place
invariant-loop-place g l = (k : ℕ) → l.low ≤ k → k < l.place → IsIn l.region (get_or l.coords (get_or l.order k 0) []) (get_or l.order k 0)
