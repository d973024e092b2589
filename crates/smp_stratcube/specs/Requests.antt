-- The values with which a selection starts are those that are requested.
use Rattle.std.specs.Prelude.{ℕ, zero, suc, ◌+◌, ◌*◌, ◌<◌, List, ◌∷◌, [], length, slice_index, slice_index_or}
use Rattle.smp_frac.specs.Fractions.{Same, over}
use Rattle.smp_moves.specs.Cubes.{values_in}
use Rattle.smp_stratcube.specs.Layers.{Layer, no_layer}
use Rattle.smp_stratcube.specs.Values.{value_at}
use Rattle.smp_stratcube.specs.States.{Balancing}

-- how many units the first h strata have
abbrev pub offset : List Layer → ℕ → ℕ
offset [] h = 0
offset (layer ∷ layers) zero = 0
offset (layer ∷ layers) (suc h) = length layer.request.shape + offset layers h

-- each unit of each stratum, in the order of the strata, has the probability that is requested of it
abbrev pub AreRequested : List Layer → Balancing → Type 0
AreRequested layers s =
    (h place : ℕ) → h < length layers
    → place < length (slice_index_or layers h no_layer).request.shape
    → Same (value_at (values_in s) (offset layers h + place))
    (over (slice_index (slice_index_or layers h no_layer).request.shape place * (slice_index_or layers h no_layer).request.r)
    (slice_index_or layers h no_layer).request.total)
