use Rattle.std.proofs.Common.{◌≡◌, ◌≤◌, ◌<◌, ◌-◌, ℕ, length, get_or}
use Rattle.smp_prob.proofs.requests.place_of.Given as goal

-- the unit stands between these places, if it is in the list
abbrev pub invariant-loop-low : goal.invariant-loop-low
invariant-loop-low l = record {
  within : l.high ≤ length l.units;
  all : (place : ℕ) → place < length l.units → get_or l.units place 0 ≡ l.unit → (l.low ≤ place) × (place < l.high);
}

abbrev pub decreases-loop-low : goal.decreases-loop-low
decreases-loop-low l = l.high - l.low
