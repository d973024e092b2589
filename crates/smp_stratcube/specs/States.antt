-- The states of a selection by the cube over all strata, and which of them are the selection's.
use Rattle.std.specs.Prelude.{◌≡◌, ℕ, ◌<◌, ◌≤◌, false, List, length, map, []}
use Rattle.smp_frac.specs.Limits.{most_denominator}
use Rattle.smp_moves.specs.Cubes as cubes
use Rattle.smp_moves.specs.Cubes.{flying, pairing}
use Rattle.smp_stratcube.specs.declared.units.Member.{Member}
use Rattle.smp_stratcube.specs.declared.values.Value.{Value}
use Rattle.smp_stratcube.specs.Units.{Units, IsUnits, share}
use Rattle.smp_stratcube.specs.Values.{AreValues, common_of, stratum_common, value}

-- a state of the flight; what no step changes is the units that it is of
abbrev pub Flight : Type 0
Flight = cubes.Flight (List Value) Units

-- a state of flight and landing
abbrev pub Balancing : Type 0
Balancing = cubes.Balancing (List Value) Units

-- the state before the first step: the value of each unit is the probability that is requested of it, and all rows are in force
abbrev pub started : Units → Balancing
started units =
    flying (record {
      values = map (λ (m : Member). record { at = m.share; touched = false }) units.members;
      rows = units.rows;
      fixed = units;
    }) 0

-- ---- the states of a selection

-- A state of the flight: a unit that no move has changed has the value that is requested of it, and the common denominator fits its gate.
pub record IsFlying (units : Units) (f : cubes.Flight (List Value) Units) : Type 0 where
  pub are : IsUnits units
  pub fixed_is : f.fixed ≡ units
  pub values : AreValues (length units.members) f.values
  pub fresh : (k : ℕ) → k < length units.members → (value f.values k).touched ≡ false
      → (value f.values k).at ≡ share units k
  pub narrow : common_of units f.values [] ≤ most_denominator
  pub rows_in : f.rows ≤ units.rows

-- values on which pivotal steps go on: those of each stratum have a common denominator that fits the gate
pub record IsPairing (units : Units) (now : List Value) : Type 0 where
  pub are : IsUnits units
  pub values : AreValues (length units.members) now
  pub fresh : (k : ℕ) → k < length units.members → (value now k).touched ≡ false
      → (value now k).at ≡ share units k
  pub narrow : (h : ℕ) → stratum_common units now h ≤ most_denominator

-- a state of either sort is one of the selection where this holds
abbrev pub IsBalancing : Units → Balancing → Type 0
IsBalancing units (flying f left) = IsFlying units f
IsBalancing units (pairing values left) = IsPairing units values
