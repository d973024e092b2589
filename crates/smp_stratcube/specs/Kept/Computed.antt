-- How the code finds a step.
use Rattle.std.specs.Prelude.{ℕ, ◌*◌, ◌/◌, nat_eq, true, Bool, if◌then◌else◌, List, ℤ, length, map}
use Rattle.std.specs.List.{range_with_len}
use Rattle.std.specs.Int.RustNames.{unsigned_abs}
use Rattle.smp_moves.specs.Cubes.{chosen_by}
use Rattle.smp_moves.specs.declared.reaches.Reach.{Reach}
use Rattle.smp_moves.specs.Ends.{advanced, lowest, reach}
use Rattle.smp_moves.specs.Kept.Computed.{next_by}
use Rattle.smp_moves.specs.Moves.{Line, Move, Next, entry_of}
use Rattle.smp_stratcube.specs.declared.values.Value.{Value}
use Rattle.smp_stratcube.specs.Units.{Units}
use Rattle.smp_stratcube.specs.States.{Flight}
use Rattle.smp_stratcube.specs.Moves.{setting_of}
use Rattle.smp_stratcube.specs.Values.{fractional_units, over_common, common_of, value}

-- ---- the ends

-- the value at the end of a line, of a unit whose entry there is e
abbrev pub moved_value : Value → ℕ → Reach → ℤ → Value
moved_value v den r e =
    if nat_eq (unsigned_abs e) 0 then v
    else record {
      at = lowest (advanced (v.at.num * (den / v.at.den)) r e) (den * r.size);
      touched = true;
    }

-- the values at its end, over a common denominator
abbrev pub values_along : List Value → Line → ℕ → Reach → List Value
values_along values line den r =
    map (λ k. moved_value (value values k) den r (entry_of line k)) (range_with_len 0 (length values))

-- the values at the end of a line
abbrev pub moved_values : Units → List Value → Line → List Value
moved_values units values line =
    let den = common_of units values line.units in
    values_along values line den (reach (over_common den values) line)

-- ---- the step

-- the state of the flight of these units with these values and so many rows in force
abbrev pub flight_of : Units → List Value → ℕ → Flight
flight_of units values rows = record { values = values; rows = rows; fixed = units }

-- the step of a state, whose search goes through the fractional units in their order
abbrev pub next : Units → Flight → Next
next units f = next_by (setting_of units) (moved_values units) (fractional_units f.values) f

-- the end that is chosen
abbrev pub chosen : Units → Flight → Move → Bool → Flight
chosen units = chosen_by (moved_values units)
