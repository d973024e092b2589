-- Values of units in lowest terms. With each stands whether a move has changed it.
use Rattle.std.specs.Prelude.{◌≡◌, ℕ, ◌*◌, ◌/◌, ◌≤◌, Bool, true, false, cond, nat_eq, List, [], ◌∷◌, ◌++◌}
use Rattle.std.specs.Prelude.{length, map, filter, slice_index, slice_index_or}
use Rattle.std.specs.List.{count_by, flat_map, range_with_len}
use Rattle.std.specs.Int.{IsGcd}
use Rattle.smp_frac.specs.Fractions.{Fraction}
use Rattle.smp_prob.specs.Shares.{Shares}
use Rattle.smp_values.specs.Values.{fractional}
use Rattle.smp_moves.specs.Ends.{lowest}
use Rattle.smp_moves.specs.Moves.{fraction_of}
use Rattle.smp_moves.specs.Steps.{common_multiple}
use Rattle.smp_stratcube.specs.declared.values.Value.{Value}
use Rattle.smp_stratcube.specs.Units.{Units, first, stratum}

-- where there is no unit
abbrev pub nothing : Value
nothing = record { at = record { num = 0; den = 1 }; touched = false }

-- the value of a unit as it stands
abbrev pub value : List Value → ℕ → Value
value values k = slice_index_or values k nothing

-- the value of a unit as a fraction
abbrev pub value_at : List Value → ℕ → Fraction
value_at values k = fraction_of (value values k).at

-- whether a unit's value is 1
abbrev pub is_one : List Value → ℕ → Bool
is_one values k = nat_eq (value values k).at.num (value values k).at.den

-- whether a unit's value is strictly between 0 and 1
abbrev pub is_fractional : List Value → ℕ → Bool
is_fractional values k = fractional (value values k).at.den (value values k).at.num

-- the fractional units in order
abbrev pub fractional_units : List Value → List ℕ
fractional_units values = filter (is_fractional values) (range_with_len 0 (length values))

-- how many units are fractional
abbrev pub fractional_count : List Value → ℕ
fractional_count values = count_by (is_fractional values) (range_with_len 0 (length values))

-- whether no unit is fractional
abbrev pub is_settled : List Value → Bool
is_settled values = nat_eq (fractional_count values) 0

-- ---- common denominators

-- the values as numerators over a multiple of their denominators
abbrev pub over_common : ℕ → List Value → Shares
over_common den values = record {
  numer = map (λ v. v.at.num * (den / v.at.den)) values;
  den = den;
}

-- The common denominator of a state of the flight and of a line through these units, of which there may be none: the least common
-- multiple of the denominator of each stratum in which a touched unit is fractional, of those of the values of these units, and of
-- the denominators of the strata of the line.
abbrev pub common_of : Units → List Value → List ℕ → ℕ
common_of units values line =
    let touched = filter (λ k. (value values k).touched) (fractional_units values) in
    common_multiple (flat_map (λ k. first units k ∷ (value values k).at.den ∷ []) touched ++ map (first units) line)

-- the least common denominator of the values of a stratum's fractional units
abbrev pub stratum_common : Units → List Value → ℕ → ℕ
stratum_common units values h =
    common_multiple (map (λ k. (value values k).at.den)
    (filter (λ k. nat_eq (stratum units k) h) (fractional_units values)))

-- ---- what a step changes

-- the values in which these units have taken over those of a row of numerators; each is touched then
abbrev pub taken_over : (ℕ → Bool) → List Value → Shares → List Value
taken_over moves values t =
    map (λ k. cond (moves k)
    (record { at = lowest (slice_index t.numer k) t.den; touched = true }) (value values k))
    (range_with_len 0 (length values))

-- ---- what holds of values

-- a value from 0 to 1 in lowest terms
pub record IsValue (v : Value) : Type 0 where
  pub positive : 1 ≤ v.at.den
  pub most : v.at.num ≤ v.at.den
  pub reduced : IsGcd v.at.num v.at.den 1

-- such a value for each of so many units
pub record AreValues (units : ℕ) (values : List Value) : Type 0 where
  pub count : length values ≡ units
  pub each : (k : ℕ) → IsValue (value values k)
