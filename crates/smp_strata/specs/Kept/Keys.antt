-- How the allocation is found: one number for each stratum, larger the earlier it gets one more.
use Rattle.std.specs.Prelude.{ℕ, ◌+◌, ◌-◌, ◌*◌, List, length, map, slice_index}
use Rattle.std.specs.List.{range_with_len}
use Rattle.smp_frac.specs.Limits.{most_rows}
use Rattle.smp_strata.specs.Allocations.{remainder}

abbrev pub key : ℕ → ℕ → ℕ → ℕ → ℕ
key n all count place = remainder n all count * most_rows + (most_rows - 1 - place)

abbrev pub keys : ℕ → ℕ → List ℕ → List ℕ
keys n all counts = map (λ h. key n all (slice_index counts h) h) (range_with_len 0 (length counts))
