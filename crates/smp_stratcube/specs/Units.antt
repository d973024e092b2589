-- The units of all strata that are balanced together, stratum by stratum.
use Rattle.std.specs.Prelude.{◌≡◌, ◌≢◌, ℕ, suc, ◌+◌, ◌-◌, ◌*◌, ◌^◌, ◌<◌, ◌≤◌, List, [], ◌∷◌, ◌++◌, ℤ, pos, length, map, take, replicate}
use Rattle.std.specs.Prelude.{slice_index, slice_index_or, slice_set}
use Rattle.std.specs.List.{range_with_len}
use Rattle.std.specs.Int.{IsGcd}
use Prim.Native.Nat.{◌∣◌}
use Rattle.smp_frac.specs.Fractions.{Fraction, Same, whole, times}
use Rattle.smp_kernel.specs.Vectors.{entry, Within}
use Rattle.smp_prob.specs.Shares.{common_denominator}
use Rattle.smp_moves.specs.declared.lines.Ratio.{Ratio}
use Rattle.smp_moves.specs.Ends.{lowest}
use Rattle.smp_moves.specs.Moves.{fraction_of}
use Rattle.smp_stratcube.specs.declared.units.Member.{Member}
use Rattle.smp_stratcube.specs.Layers.{Layer, variables}

-- ---- the units

-- The units with their columns and requested probabilities, the common denominator of the probabilities of each stratum, and how many rows
-- there are: first that of the size of each stratum, and then those of the variables.
pub record Units : Type 0 where
  pub members : List Member
  pub firsts : List ℕ
  pub rows : ℕ

-- of a unit of stratum h: its size in row h, 0 in the rows of the other strata, and then its balancing values, filled up to 16 numbers
abbrev pub column_of : ℕ → ℕ → ℕ → List ℤ → List ℤ
column_of strata h size xs =
    take 16 (slice_set (replicate strata (pos 0)) h (pos size) ++ xs ++ replicate 16 (pos 0))

-- unit k of stratum h, where there are so many strata
abbrev pub member_of : ℕ → ℕ → Layer → ℕ → Member
member_of strata h layer k = record {
  column = column_of strata h (slice_index layer.request.shape k) (slice_index_or layer.values k []);
  stratum = h;
  share = lowest (slice_index layer.request.shape k * layer.request.r) layer.request.total;
}

-- the units of these strata, of which the first has the number h, a stratum after the other
abbrev pub members_from : ℕ → ℕ → List Layer → List Member
members_from strata h [] = []
members_from strata h (layer ∷ layers) =
    map (member_of strata h layer) (range_with_len 0 (length layer.request.shape))
    ++ members_from strata (suc h) layers

-- the units of all strata, and their rows
abbrev pub units_of : List Layer → Units
units_of layers = record {
  members = members_from (length layers) 0 layers;
  firsts = map (λ layer. common_denominator layer.request) layers;
  rows = length layers + variables layers;
}

-- ---- a unit

-- where there is no unit
abbrev pub nobody : Member
nobody = record { column = []; stratum = 0; share = record { num = 0; den = 1 } }

-- a unit by its number
abbrev pub member : Units → ℕ → Member
member units k = slice_index_or units.members k nobody

-- the column of a unit
abbrev pub column : Units → ℕ → List ℤ
column units k = (member units k).column

-- the stratum of a unit
abbrev pub stratum : Units → ℕ → ℕ
stratum units k = (member units k).stratum

-- the probability that is requested of it
abbrev pub share : Units → ℕ → Ratio
share units k = (member units k).share

-- the common denominator of the probabilities of its stratum
abbrev pub first : Units → ℕ → ℕ
first units k = slice_index_or units.firsts (stratum units k) 1

-- the columns of some units, in their order
abbrev pub columns_of : Units → List ℕ → List (List ℤ)
columns_of units order = map (column units) order

-- ---- what holds of the units

-- A probability is strictly between 0 and 1 and in lowest terms, and its denominator divides that of its stratum. In the row of its
-- stratum a unit has its size, to which its probability is in proportion, and in those of the other strata it has 0. The units stand
-- stratum by stratum.
pub record IsUnits (units : Units) : Type 0 where
  pub few : length units.members ≤ 3000000
  pub few_rows : units.rows ≤ 16
  pub strata : length units.firsts ≤ units.rows
  pub firsts : (h : ℕ) → (1 ≤ slice_index_or units.firsts h 1) × (slice_index_or units.firsts h 1 ≤ 2 ^ 49)
  pub within : (k : ℕ) → k < length units.members → stratum units k < length units.firsts
  pub rises : (j k : ℕ) → j ≤ k → k < length units.members → stratum units j ≤ stratum units k
  pub drawn : (k : ℕ) → k < length units.members → 0 < (share units k).num
  pub below_one : (k : ℕ) → k < length units.members → (share units k).num < (share units k).den
  pub reduced : (k : ℕ) → k < length units.members → IsGcd (share units k).num (share units k).den 1
  pub divides : (k : ℕ) → k < length units.members → (share units k).den ∣ first units k
  pub small : (k : ℕ) → k < length units.members → Within (2 ^ 31 - 1) (column units k)
  pub size : ℕ → ℕ
  pub some_size : (k : ℕ) → k < length units.members → 1 ≤ size k
  pub own_row : (k : ℕ) → k < length units.members → entry (column units k) (stratum units k) ≡ pos (size k)
  pub other_rows : (k row : ℕ) → k < length units.members → row < length units.firsts
      → row ≢ stratum units k → entry (column units k) row ≡ pos 0
  pub scale : ℕ → Fraction
  pub proportional : (k : ℕ) → k < length units.members
      → Same (fraction_of (share units k)) (times (scale (stratum units k)) (whole (size k)))
