-- How the code keeps a stratum.
use Rattle.std.specs.Prelude.{◌≡◌, ℕ, ◌<◌, ◌≤◌, List, [], ℤ, pos, length, map, slice_index_or, take}
use Rattle.smp_kernel.specs.Vectors.{entry}
use Rattle.smp_prob.specs.declared.requests.Request.{Request}
use Rattle.smp_prob.specs.Shares.{common_denominator}
use Rattle.smp_stratcube.specs.Layers.{IsLayer, Layer, no_layer}

-- some numbers in 15 places, and 0 in the places past them
pub record IsFilledUp (xs places : List ℤ) : Type 0 where
  pub long : length places ≡ 15
  pub same : (k : ℕ) → k < length xs → entry places k ≡ entry xs k
  pub past : (k : ℕ) → length xs ≤ k → entry places k ≡ pos 0

-- how many balancing values a unit of a stratum has
abbrev pub width : Layer → ℕ
width layer = length (slice_index_or layer.values 0 [])

-- a stratum by a request, and by the balancing values of its units
abbrev pub layer_of : Request → List (List ℤ) → Layer
layer_of request values = record { request = request; values = values }

-- the common denominator of the probabilities of a stratum
abbrev pub first_of : Layer → ℕ
first_of layer = common_denominator layer.request

-- a stratum by its units' balancing values in the first places of arrays
abbrev pub stored : Request → List (List ℤ) → ℕ → Layer
stored request values variables = layer_of request (map (take variables) values)

pub record IsStored (request : Request) (shape : List ℕ) (r total : ℕ) (values : List (List ℤ)) (variables first : ℕ) : Type 0 where
  pub is : IsLayer (stored request values variables)
  pub shape_is : shape ≡ request.shape
  pub r_is : r ≡ request.r
  pub total_is : total ≡ request.total
  pub first_is : first ≡ common_denominator request
  pub long : (k : ℕ) → k < length values → length (slice_index_or values k []) ≡ 15
  pub few : variables ≤ 15
  pub past : (k i : ℕ) → k < length values → variables ≤ i → entry (slice_index_or values k []) i ≡ pos 0
  pub variables_is : variables ≡ length (slice_index_or (map (take variables) values) 0 [])

-- each of some strata is one
abbrev pub EachIsLayer : List Layer → Type 0
EachIsLayer layers = (h : ℕ) → h < length layers → IsLayer (slice_index_or layers h no_layer)
