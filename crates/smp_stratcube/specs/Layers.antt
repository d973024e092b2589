-- The strata that are balanced together, each by the free units of a request.
use Rattle.std.specs.Prelude.{◌≡◌, ℕ, ◌+◌, ◌-◌, ◌<◌, ◌≤◌, nat_eq, if◌then◌else◌, List, [], ◌∷◌, ℤ, length, slice_index_or}
use Rattle.smp_frac.specs.Limits.{number_limit}
use Rattle.smp_kernel.specs.Vectors.{Within}
use Rattle.smp_prob.specs.declared.requests.Request.{Request}
use Rattle.smp_prob.specs.Requests.{IsRequest}

-- balancing values: for each unit a list of the same length, of at most 15 numbers below 2^31
pub record AreNumbers (xs : List (List ℤ)) : Type 0 where
  pub same : (k : ℕ) → k < length xs → length (slice_index_or xs k []) ≡ length (slice_index_or xs 0 [])
  pub few : length (slice_index_or xs 0 []) ≤ 15
  pub within : (k : ℕ) → k < length xs → Within (number_limit - 1) (slice_index_or xs k [])

-- a stratum: the request of its free units, with their balancing values
pub record Layer : Type 0 where
  pub request : Request
  pub values : List (List ℤ)

-- where there is none
abbrev pub no_layer : Layer
no_layer = record { request = record { certain = []; free = []; shape = []; r = 0; total = 0 }; values = [] }

-- how many balancing values a unit has: as many as the first unit that there is
abbrev pub variables : List Layer → ℕ
variables [] = 0
variables (layer ∷ layers) =
    if nat_eq (length layer.values) 0 then variables layers
    else length (slice_index_or layer.values 0 [])

-- what holds of a stratum: each of its free units has balancing values
pub record IsLayer (layer : Layer) : Type 0 where
  pub request : IsRequest layer.request
  pub one_each : length layer.values ≡ length layer.request.free
  pub numbers : AreNumbers layer.values

-- each stratum that has a unit has as many balancing values as the first that has one
pub record AreLayers (layers : List Layer) : Type 0 where
  pub some : 1 ≤ length layers
  pub few : length layers ≤ 15
  pub rows : length layers + variables layers ≤ 16
  pub same : (h : ℕ) → h < length layers
      → 1 ≤ length (slice_index_or layers h no_layer).request.shape
      → length (slice_index_or (slice_index_or layers h no_layer).values 0 []) ≡ variables layers
