-- The numbers of a move that fits its gates.
use Rattle.std.proofs.Common.{ℕ, ◌+◌, ◌<◌, ◌^◌, Bool, true, false, List, sym, subst}
use Rattle.smp_kernel.specs.Vectors.{Within}
use Rattle.smp_prob.specs.Shares.{Shares}
use Rattle.smp_flight.specs.States.{Units, Flight, IsFlight}
use Rattle.smp_moves.specs.Moves.{Line, Move, IsOrder, IsLine, chosen_line, move, turned}
use Rattle.smp_flight.specs.declared.ends.End.{End}
use Rattle.smp_flight.specs.declared.steps.Move.{Move as MoveOfPlaces}
use Rattle.smp_moves.specs.Answers.{line_of}
use Rattle.smp_flight.specs.Answers.{HasEnds, move_of, IsEnd}
use Rattle.smp_flight.specs.Steps.{next_on}
use Rattle.smp_flight.specs.Statements.{EachEnds, GoesBothWays}
use Rattle.smp_moves.specs.Steps.{IsFlown}
use Rattle.smp_flight.specs.Moves.{setting_of}
use Rattle.smp_moves.specs.Kept.Ends.{IsOver}
use Rattle.smp_flight.specs.Kept.Ends.{IsEndOf, chosen_end}
use Rattle.smp_moves.proofs.LineEnds.{reached, full_positive, common_some}
use Rattle.smp_flight.specs.Laws.NextProperties.{known, next_is}
use Rattle.smp_flight.specs.Laws.Nexts.{flight_over}
use Rattle.smp_flight.specs.Laws.Moved.{chosen_there}
use Rattle.smp_flight.specs.Laws.OneMove.{one_next, goes_both_ways}
use Rattle.smp_moves.proofs.Sizes.{can_advance, reach_small, turned_within, weights_small}

module _ (first : ℕ) (s : Shares) (is_over : IsOver first s) (line : Line) (ok : IsLine s line) (w : Within (2 ^ 44) line.entries) where
  -- ---- the end that the code finds

  pub end_found : (end : End) → IsEnd first s line end → IsEndOf first s line end
  end_found end is =
      let r = reached first s is_over line ok in
      record {
        is = is;
        can = rw is.reach_is (can_advance first s is_over line ok w);
        some_left = rw is.reach_is r.some;
        some_size = rw is.reach_is r.some_size;
        left = rw is.reach_is (reach_small first s is_over line ok w).0;
        size = rw is.reach_is (reach_small first s is_over line ok w).1;
        some_full = rw (is.full_is, is.reach_is) (full_positive first s is_over line ok);
        some_common = rw (is.common_is, is.full_is, is.reach_is) (common_some first s is_over line ok);
      }

-- the end of a move that is chosen
pub chosen_found : (first : ℕ) (s : Shares) → IsOver first s → (m : MoveOfPlaces) (plus : Bool)
    → IsLine s (chosen_line (move_of m) plus) → Within (2 ^ 44) (line_of m.direction).entries → HasEnds first s m
    → IsEndOf first s (chosen_line (move_of m) plus) (chosen_end m plus)
chosen_found first s is_over m true ok w ends =
    end_found first s is_over (line_of m.direction) ok w m.up ends.up
chosen_found first s is_over m false ok w ends =
    end_found first s is_over (turned (line_of m.direction)) ok (turned_within (line_of m.direction) w) m.down ends.down

pub flown_both_ways : (units : Units) (s : Flight) (order : List ℕ) → IsFlight units s → IsOrder s.values order
    → (m : Move) → IsFlown (setting_of units) s order m → GoesBothWays m
flown_both_ways units s order is_flight ok m f =
    let k = known units s order is_flight ok m
    (one_next units s order is_flight ok (next_on units order s) (move m) (next_is units s order is_flight ok)
    f) in
    goes_both_ways units s order is_flight ok f.circuit m f.plus_end f.minus_end f.is
    (subst (λ (n : Move). n.plus_weight + n.minus_weight < 2 ^ 126) (sym k.same)
    (weights_small units.requested.den s.values (flight_over units s is_flight) m.direction k.line
    k.on_line.entries))

pub flown_ends : EachEnds
flown_ends units s order is_flight ok m f plus =
    let k = known units s order is_flight ok m
    (one_next units s order is_flight ok (next_on units order s) (move m) (next_is units s order is_flight ok)
    f) in
    (chosen_there units s is_flight order m plus k).moved
