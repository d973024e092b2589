-- A move of the flight is split lawfully.
use Rattle.std.proofs.Common.{◌≡◌, ℕ, ◌+◌, ◌<◌, ◌≤◌, ◌^◌, true, false, ℤ, arith, sym, subst}
use Rattle.smp_frac.specs.Fractions.{Same, whole, integer, plus, times}
use Rattle.smp_prob.specs.Shares.{Shares}
use Rattle.smp_split.specs.Trees.{LawfulParts}
use Rattle.smp_moves.specs.Moves.{Line, Move, IsLine, entry_of, fraction_of, turned, move}
use Rattle.smp_moves.specs.Kept.Computed.{IsKnown, direction}
use Rattle.smp_moves.specs.Kept.Ends.{IsOver}
use Rattle.smp_moves.proofs.Computed.{known}
use Rattle.smp_moves.proofs.Evens.{even_ends, entry_of_turned}
use Rattle.smp_moves.proofs.Sizes.{weights_small}
use Rattle.smp_moves.proofs.Weights.{ends_weighed, plus_some, minus_some}
use Rattle.smp_moves.specs.Cubes.{flying}
use Rattle.smp_stratcube.specs.Units.{Units, share}
use Rattle.smp_stratcube.specs.Values.{common_of, fractional_units, over_common, value_at}
use Rattle.smp_stratcube.specs.States.{Flight, IsBalancing, IsFlying}
use Rattle.smp_stratcube.specs.Kept.Computed.{moved_values, next}
use Rattle.smp_stratcube.specs.Moves.{setting_of}
use Rattle.smp_stratcube.specs.Kept.Trees.{flight_parts, strat_tree}
use Rattle.smp_stratcube.specs.Laws.Nexts.{end_is, fit, line_ok, over}

-- the weights of a move: neither is 0, and they keep each value in the mean
record HasWeights (m : Move) : Type 0 where
  plus : 1 ≤ m.plus_weight
  minus : 1 ≤ m.minus_weight
  narrow : m.plus_weight + m.minus_weight < 2 ^ 126
  even : Same (times (whole m.plus_weight) (fraction_of m.up)) (times (whole m.minus_weight) (fraction_of m.down))

module _ (units : Units) (f : Flight) (ok : IsFlying units f) (left : ℕ) (m : Move) (is : next units f ≡ move m) where
  k : IsKnown (setting_of units) (moved_values units) f (fractional_units f.values) m
  k = known (setting_of units) (moved_values units) f (fractional_units f.values) m is

  weights : HasWeights m
  weights =
      let line : Line = direction (share units) (fractional_units f.values) k.circuit in
      let s : Shares = over_common (common_of units f.values line.units) f.values in
      let over_it : IsOver 1 s = over units f ok k.circuit k.finds (fit units f ok m k) in
      let line_is : IsLine s line = line_ok units f ok k.circuit k.finds in
      subst HasWeights (sym k.same) (record {
        plus = plus_some 1 s over_it line line_is;
        minus = minus_some 1 s over_it line line_is;
        narrow = weights_small 1 s over_it line line_is (fit units f ok m k).entries;
        even = ends_weighed 1 s over_it line line_is;
      })

  pub move_split : LawfulParts (strat_tree units) (IsBalancing units) (flying f left) (flight_parts units f left (move m))
  move_split =
      let up = end_is units f ok m k true in
      let down = end_is units f ok m k false in
      record {
        some = omega (arith, weights.plus);
        narrow = omega (arith, weights.narrow);
        each = (
          record { heavy = weights.plus; falls = omega (arith, up.falls); member = up.flight },
          (record { heavy = weights.minus; falls = omega (arith, down.falls); member = down.flight }, tt),
        );
        even = λ u _.
            even_ends m.plus_weight m.minus_weight (value_at f.values u) (value_at (moved_values units f.values m.direction) u)
            (value_at (moved_values units f.values (turned m.direction)) u) (fraction_of m.up) (fraction_of m.down)
            (entry_of m.direction u) (up.moved.at u)
            (subst (λ (z : ℤ). Same (value_at (moved_values units f.values (turned m.direction)) u)
            (plus (value_at f.values u) (times (fraction_of m.down) (integer z)))) (entry_of_turned m.direction u)
            (down.moved.at u)) weights.even;
      }
