use Rattle.std.proofs.Common.{◌≡◌, map, take}
use Rattle.smp_strata.specs.Kept.Layouts.{prob_of}
use Rattle.smp_strata.proofs.sizes.probs_at.Given as goal

abbrev pub invariant-loop-member : goal.invariant-loop-member
invariant-loop-member l = l.probs.items ≡ map (prob_of l.units l.clusters.rows) (take l.member-index l.members)
