use Rattle.std.proofs.Common.{◌≡◌, ℕ, ◌-◌, ◌*◌, ◌<◌, ◌≤◌, drop}
use Rattle.std.specs.Prelude.{slice_index, sum}
use Rattle.smp_prob.proofs.proportional.least_cut.Given as goal

abbrev pub invariant-loop-cut : goal.invariant-loop-cut
invariant-loop-cut l = record {
  left : l.rest ≡ sum (drop l.cut l.falling);
  full : (d : ℕ) → d < l.cut → sum (drop d l.falling) ≤ (l.n - d) * slice_index l.falling d;
}
