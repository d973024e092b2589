-- Systematic selection with unequal probabilities (Madow 1949). The probabilities are numerators over one denominator, and
-- they are laid end to end in the order of the units. One draw below the denominator picks a point and all points that are
-- whole multiples of the denominator further on; the units whose lengths hold such a point are selected.
use Rattle.std.specs.Prelude.{ℕ, ◌+◌, ◌-◌, ◌*◌, ◌≤◌, ◌<◌, Bool, nat_lt, nat_le, nat_eq, ◌&&◌}
use Rattle.std.specs.Prelude.{if◌then◌else◌, List, length, map, take, sum, slice_index}
use Rattle.std.specs.List.{list_any, range_with_len}
use Rattle.smp_frac.specs.Limits.{wide_limit}
use Rattle.smp_prob.specs.Shares.{Shares}
use Rattle.smp_split.specs.Trees.{Tree}
use Rattle.smp_split.specs.Parts.{equal_parts}
use Rattle.smp_split.specs.Orders.{Ordered}
use Rattle.smp_split.specs.declared.kind.Kind.TheVariants.{System}
use Rattle.smp_values.specs.InOrder.{StepRule, IsPlacedBy, placed_tree}

-- the sum of the first k numerators
abbrev pub cumulated : List ℕ → ℕ → ℕ
cumulated numer k = sum (take k numer)

-- whether some whole j of 0 or more has before <= draw + j * den < after; such a j is below `after`
abbrev pub meets : ℕ → ℕ → ℕ → ℕ → Bool
meets den before after draw =
    list_any (λ j. nat_le before (draw + j * den) && nat_lt (draw + j * den) after)
    (range_with_len 0 after)

-- the same, told as a fact
pub record Meets (den before after draw : ℕ) : Type 0 where
  pub j : ℕ
  pub from : before ≤ draw + j * den
  pub below : draw + j * den < after

-- Whether a draw takes what stands at a place (Madow 1949): the numerators are laid end to end, and the draw, or a point some whole number
-- of denominators further on, lies on that of the place.
abbrev pub takes : Shares → ℕ → ℕ → Bool
takes s draw place = meets s.den (cumulated s.numer place) (cumulated s.numer (place + 1)) draw

-- the values after a draw: 1 at the places that it takes, 0 at all others
abbrev pub sampled : Shares → ℕ → Shares
sampled s draw = record {
  numer =
      map (λ place. if takes s draw place then s.den else 0) (range_with_len 0 (length s.numer));
  den = s.den;
}

-- one step, in which each draw below the denominator is a part of weight 1
abbrev pub systematic_rule : StepRule
systematic_rule = record {
  most = wide_limit - 1;
  kind = λ _. System;
  parts = λ s. equal_parts s.den (sampled s);
  rank = λ fractional. if nat_eq fractional 0 then 0 else 1;
}

-- this step on the values of so many units, once their order is drawn
abbrev pub systematic_tree : ℕ → Tree (Ordered Shares)
systematic_tree units = placed_tree systematic_rule units

-- a state of a selection of so many units
abbrev pub IsSystematic : ℕ → Ordered Shares → Type 0
IsSystematic units s = IsPlacedBy systematic_rule units s

-- ---- a unit and a draw, once the order is drawn

-- where a unit stands, and its numerator, the length of its piece
abbrev pub place_of : Ordered Shares → ℕ → ℕ
place_of s unit = slice_index s.order.places unit

abbrev pub numerator_of : Ordered Shares → ℕ → ℕ
numerator_of s unit = slice_index s.state.numer (place_of s unit)

-- some whole j of 0 or more puts draw + j * den on the unit's piece
abbrev pub PointsAt : Ordered Shares → ℕ → ℕ → Type 0
PointsAt s draw unit =
    Meets s.state.den (cumulated s.state.numer (place_of s unit))
    (cumulated s.state.numer (place_of s unit + 1)) draw
