use Rattle.std.proofs.Common.{◌≡◌, ℕ, ◌-◌, ◌<◌, ◌≤◌, length, get_or}
use Rattle.smp_stratcube.specs.Kept.Behind.{IsBehind}
use Rattle.smp_stratcube.proofs.making.behind_of.Given as goal

-- the least common denominators of the last units, and that of the last of these again
abbrev pub invariant-loop-back : goal.invariant-loop-back
invariant-loop-back l = record {
  count : length l.all.items ≡ l.back;
  each : (k : ℕ) → k < l.back → IsBehind l.members (length l.members - 1 - k) (get_or l.all.items k 0);
  again : 1 ≤ l.back → IsBehind l.members (length l.members - l.back) l.last;
}
