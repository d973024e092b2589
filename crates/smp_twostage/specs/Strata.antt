-- A stratum that is drawn by the cube method (Deville and Tillé 2004), or by the local cube, over all of its units: those that are free,
-- which the method draws from, those that are certain, and those that are never selected.
use Rattle.std.specs.Prelude.{◌≡◌, ℕ, ◌<◌, List, [], ℤ, length, map, slice_index, slice_index_or}
use Rattle.smp_prob.specs.declared.requests.Request.{Request}
use Rattle.smp_prob.specs.declared.inclusions.Inclusion.TheVariants.{Free}
use Rattle.smp_prob.specs.Requests.{IsRequest}
use Rattle.smp_prob.specs.Inclusions.{IsRising, inclusion}
use Rattle.smp_kernel.specs.Vectors.{entry}
use Rattle.smp_flight.specs.States.{Units}
use Rattle.smp_flight.specs.Requests.{AreValues, units_of}

-- the request for the units of the stratum, and the balancing values of each unit
pub record StratumUnits : Type 0 where
  pub request : Request
  pub values : List (List ℤ)

-- the balancing values of a unit
abbrev pub values_of : StratumUnits → ℕ → List ℤ
values_of s k = slice_index_or s.values k []

-- the balancing value of a unit in a column
abbrev pub value_in : StratumUnits → ℕ → ℕ → ℤ
value_in s column k = entry (values_of s k) column

-- how many balancing columns there are
abbrev pub column_count : StratumUnits → ℕ
column_count s = length (values_of s 0)

-- the balancing values of the free units, in their order
abbrev pub free_values : StratumUnits → List (List ℤ)
free_values s = map (values_of s) s.request.free

-- the units that the method draws from
abbrev pub free_units : StratumUnits → Units
free_units s = units_of s.request (free_values s)

-- a request for these units: each free one is one of them and stands as that, and each has balancing values
pub record AreStratumUnits (s : StratumUnits) : Type 0 where
  pub request : IsRequest s.request
  pub rising : IsRising s.request
  pub inside : (u : ℕ) → u < length s.request.free → slice_index s.request.free u < length s.values
  pub stands : (u : ℕ) → u < length s.request.free
      → inclusion s.request (slice_index s.request.free u) ≡ Free u
  pub values : AreValues s.values
