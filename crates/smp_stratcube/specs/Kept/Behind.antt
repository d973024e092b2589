-- The least common denominators that the code keeps of units and those behind them.
use Rattle.std.specs.Prelude.{◌≡◌, ℕ, ◌-◌, ◌^◌, ◌<◌, ◌≤◌, nat_eq, List, length, map, slice_index, slice_index_or}
use Rattle.std.specs.List.{filter, range_with_len}
use Prim.Native.Nat.{◌∣◌}
use Rattle.smp_stratcube.specs.declared.units.Member.{Member}
use Rattle.smp_stratcube.specs.Units.{nobody}
use Rattle.smp_moves.specs.Steps.{common_multiple}

-- the units of a stratum from a place on
abbrev pub units_behind : List Member → ℕ → ℕ → List ℕ
units_behind members h place =
    filter (λ k. nat_eq (slice_index_or members k nobody).stratum h)
    (range_with_len place (length members - place))

-- the denominators of their probabilities
abbrev pub dens_behind : List Member → ℕ → ℕ → List ℕ
dens_behind members h place =
    map (λ k. (slice_index_or members k nobody).share.den) (units_behind members h place)

-- the least common denominator of a unit and those behind it in its stratum
abbrev pub IsBehind : List Member → ℕ → ℕ → Type 0
IsBehind members unit m =
    m ≡ common_multiple (dens_behind members (slice_index_or members unit nobody).stratum unit)

-- that of each unit, from the last one to the first
pub record AreBehind (members : List Member) (behind : List ℕ) : Type 0 where
  pub count : length behind ≡ length members
  pub each : (k : ℕ) → k < length members
      → IsBehind members k (slice_index behind (length members - 1 - k))

-- In each stratum all denominators divide one number, and the strata rise.
pub record HaveCommon (members : List Member) : Type 0 where
  pub common : ℕ → ℕ
  pub some : (h : ℕ) → 1 ≤ common h
  pub most : (h : ℕ) → common h ≤ 2 ^ 49
  pub some_den : (k : ℕ) → k < length members → 1 ≤ (slice_index_or members k nobody).share.den
  pub divides : (k : ℕ) → k < length members
      → (slice_index_or members k nobody).share.den ∣ common (slice_index_or members k nobody).stratum
  pub rises : (j k : ℕ) → j ≤ k → k < length members
      → (slice_index_or members j nobody).stratum ≤ (slice_index_or members k nobody).stratum
