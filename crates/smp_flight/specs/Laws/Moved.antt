-- Both ends of a move.
use Rattle.std.proofs.Common.{sym, subst, ◌≡◌, ℕ, ◌<◌, ◌≤◌, ◌^◌, Bool, true, false, List, length}
use Rattle.smp_prob.specs.Shares.{Shares}
use Rattle.smp_values.specs.Values.{fractional_count, is_fractional}
use Rattle.smp_moves.specs.declared.lines.Ratio.{Ratio}
use Rattle.smp_flight.specs.States.{Units, Flight, IsFlight}
use Rattle.smp_moves.specs.Moves.{Line, Move, IsLine, IsMoved, turned, chosen_line, chosen_extent}
use Rattle.smp_moves.specs.Ends.{end_of}
use Rattle.smp_moves.proofs.Entries.{turned_line}
use Rattle.smp_flight.specs.Laws.Nexts.{IsKnown, flight_over}
use Rattle.smp_moves.proofs.Moved.{end_settles, end_values, end_multiple, keeps_fractional}
use Rattle.smp_flight.specs.Steps.{chosen, end_at_is}

pub record IsChosen (units : Units) (s : Flight) (line : Line) (r : Ratio) (t : Shares) : Type 0 where
  pub line_ok : IsLine s.values line
  pub moved : IsMoved units.requested.den s.values line r t
  pub flight : IsFlight units (record { values = t; rows = s.rows; fixed = s.fixed })
  pub settles : fractional_count t < fractional_count s.values
  pub fewer : (k : ℕ) → is_fractional t k ≡ true → is_fractional s.values k ≡ true

module _ (units : Units) (s : Flight) (is_flight : IsFlight units s) where
  chosen_on : (line : Line) (r : Ratio) → IsLine s.values line
      → IsMoved units.requested.den s.values line r (end_of units.requested.den s.values line)
      → (end_of units.requested.den s.values line).den ≤ 2 ^ 80
      → IsChosen units s line r (end_of units.requested.den s.values line)
  chosen_on line r ok m narrow =
      let is_over = flight_over units s is_flight in
      record {
        line_ok = ok;
        moved = m;
        flight = record {
          are = is_flight.are;
          values = end_values units.requested.den s.values is_over line ok (length units.sizes)
              is_flight.values.count narrow;
          fixed_is = is_flight.fixed_is;
          multiple = end_multiple units.requested.den s.values is_over line ok;
          rows_in = is_flight.rows_in;
        };
        settles = end_settles units.requested.den s.values is_over line ok;
        fewer = keeps_fractional units.requested.den s.values is_over line ok;
      }

  pub chosen_is : (order : List ℕ) (m : Move) (plus : Bool) → IsKnown units s order m
      → IsChosen units s (chosen_line m plus) (chosen_extent m plus)
      (end_of units.requested.den s.values (chosen_line m plus))
  chosen_is order m true k = chosen_on m.direction m.up k.line k.is.plus_moved k.at_ends.plus
  chosen_is order m false k = chosen_on (turned m.direction) m.down (turned_line s.values m.direction k.line)
      k.is.minus_moved k.at_ends.minus

  -- and of the state itself
  pub chosen_there : (order : List ℕ) (m : Move) (plus : Bool) → IsKnown units s order m
      → IsChosen units s (chosen_line m plus) (chosen_extent m plus) (chosen units s m plus).values
  chosen_there order m plus k =
      subst (IsChosen units s (chosen_line m plus) (chosen_extent m plus))
      (sym (end_at_is units s.values (chosen_line m plus))) (chosen_is order m plus k)
