-- Where a selection starts: with the requested probabilities as its values, in the order of the frame or in an order that is drawn first.
use Rattle.std.specs.Prelude.{◌≡◌, ℕ, ◌≤◌, ◌<◌, length, sum}
use Rattle.smp_frac.specs.Fractions.{Same}
use Rattle.smp_prob.specs.declared.orders.Order.{Order}
use Rattle.smp_prob.specs.declared.orders.Order.TheVariants.{Frame, Random}
use Rattle.smp_prob.specs.declared.requests.Request.{Request}
use Rattle.smp_prob.specs.Shares.{Shares}
use Rattle.smp_prob.specs.Inclusions.{free_fraction}
use Rattle.smp_split.specs.Counts.{AddsUp}
use Rattle.smp_split.specs.Orders.{Placing, Ordered, in_order, frame_order, undrawn_order}
use Rattle.smp_split.specs.Trees.{Tree}

-- where the units stand before the first step
abbrev pub first_order : Order → ℕ → Placing
first_order Frame units = frame_order units
first_order Random units = undrawn_order units

-- values in this order, before the first step
abbrev pub ordered_values : Order → Shares → Ordered Shares
ordered_values order s = in_order (first_order order (length s.numer)) s

-- The units of the state are the request's free units, and each has the value that is requested of it. Where the shapes add up to
-- the total, the values add up to the number of draws.
pub record IsRequested {State : Type 0} (tree : Tree State) (request : Request)
    (state : State) : Type 0 where
  pub units : tree.units ≡ length request.free
  pub values : (unit : ℕ) → unit < length request.free
      → Same (tree.value state unit) (free_fraction request unit)
  pub whole : 1 ≤ length request.free → sum request.shape ≡ request.total
      → AddsUp tree request.r state

-- The units drawn are whole in number: the shapes add up to the total, and none is drawn where no unit is free.
pub record DrawsWhole (request : Request) : Type 0 where
  pub total : sum request.shape ≡ request.total
  pub none_free : length request.free ≡ 0 → request.r ≡ 0
