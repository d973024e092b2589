-- There is a step with the properties of a search and of a move.
use Rattle.std.proofs.Common.{◌≡◌, ℕ, ◌≤◌, ◌<◌, List, ℤ, length, get_or, arith, refl, sym, subst}
use Rattle.smp_frac.specs.Limits.{most_entry, most_denominator}
use Rattle.smp_kernel.specs.Vectors.{Within}
use Rattle.smp_kernel.specs.Searches.{found}
use Rattle.smp_kernel.proofs.Primitive.{not_primitive}
use Rattle.smp_prob.specs.Shares.{Shares}
use Rattle.smp_moves.specs.Ends.{end_of, move_along}
use Rattle.smp_moves.specs.Moves.{Line, Move, IsOrder, IsLine, turned, move}
use Rattle.smp_moves.specs.Steps.{Finds, FitsAtEnds, FitsOnLine, IsDirection, IsMove, Stepping}
use Rattle.smp_moves.specs.Kept.Computed as computed
use Rattle.smp_moves.specs.Kept.Ends.{IsOver}
use Rattle.smp_moves.proofs.Computed as steps
use Rattle.smp_moves.proofs.Computed.{Owes, at_ends, is_direction, stepping_by}
use Rattle.smp_moves.proofs.Entries.{order_within, order_front, turned_line}
use Rattle.smp_moves.proofs.LineEnds.{moved}
use Rattle.smp_moves.proofs.Products.{HaveSome}
use Rattle.smp_flight.specs.States.{Units, Flight, IsFlight}
use Rattle.smp_flight.specs.Moves.{setting_of}
use Rattle.smp_flight.specs.Laws.Entries.{scale_one}

-- ---- the line of the circuit that is found

-- any line with its direction
pub direction_line : (units : Units) (s : Shares) (order : List ℕ) → IsOrder s order → (w : List ℤ) (line : Line)
    → IsDirection (setting_of units).share order w line → IsLine s line
direction_line units s order ok w line d = record {
  lengths = d.lengths;
  order = subst (IsOrder s) (sym d.prefix) (order_front s order ok (length w));
  some = λ z. not_primitive line.entries z d.entries.primitive;
}

pub flight_over : (units : Units) (s : Flight) → IsFlight units s → IsOver units.requested.den s.values
flight_over units s is_flight = record {
  some = is_flight.are.requested.positive;
  multiple = is_flight.multiple;
  values = record { count = refl; positive = is_flight.values.positive; narrow = is_flight.values.narrow; each = is_flight.values.each };
}

pub order_inside : (units : Units) (s : Flight) → IsFlight units s → (us : List ℕ) → IsOrder s.values us → (j : ℕ) → j < length us
    → get_or us j 0 < length units.sizes
order_inside units s is_flight us ok j l = omega (arith, order_within s.values us ok j l, is_flight.values.count)

-- with sizes as shares, and a denominator that fits, the entries alone can pass their gate
pub narrow_line : (units : Units) (s : Flight) → IsFlight units s → (w : List ℤ) (line : Line) → Within most_entry line.entries
    → FitsOnLine (setting_of units) s.values w line
narrow_line units s is_flight w line entries = record {
  scale = subst (λ (n : ℕ). n ≤ most_denominator) (sym (scale_one units line.units w)) (omega arith);
  entries = entries;
  denominator = is_flight.values.narrow;
}

module _ (units : Units) (s : Flight) (order : List ℕ) (is_flight : IsFlight units s) (ok : IsOrder s.values order) where
  pub some_sizes : HaveSome (setting_of units).share order
  some_sizes j l = record {
    num = is_flight.are.some_size (get_or order j 0) (order_inside units s is_flight order ok j l);
    den = omega arith;
  }

  module _ (w : List ℤ) (finds : Finds (setting_of units) s order (found w)) where
    pub direction_is : IsDirection (setting_of units).share order w (computed.direction (setting_of units).share order w)
    direction_is = is_direction (setting_of units) s order w finds some_sizes

    pub line_ok : IsLine s.values (computed.direction (setting_of units).share order w)
    line_ok = direction_line units s.values order ok w (computed.direction (setting_of units).share order w) direction_is

  over : IsOver units.requested.den s.values
  over = flight_over units s is_flight

  pub owes : Owes (setting_of units) (end_of units.requested.den) s order
  owes = record {
    some = some_sizes;
    goes = λ w finds narrow. record { first = units.requested.den; over = over; ok = line_ok w finds };
    up = λ w finds narrow. moved units.requested.den s.values over (computed.direction (setting_of units).share order w) (line_ok w finds);
    down = λ w finds narrow.
        moved units.requested.den s.values over (turned (computed.direction (setting_of units).share order w))
        (turned_line s.values (computed.direction (setting_of units).share order w) (line_ok w finds));
  }

-- ---- what a move of a step is

pub record IsKnown (units : Units) (s : Flight) (order : List ℕ) (m : Move) : Type 0 where
  pub circuit : List ℤ
  pub finds : Finds (setting_of units) s order (found circuit)
  pub line : IsLine s.values m.direction
  pub same : m ≡ move_along s.values m.direction
  pub is : IsMove (setting_of units) s.values order circuit m (end_of units.requested.den s.values m.direction)
      (end_of units.requested.den s.values (turned m.direction))
  pub on_line : FitsOnLine (setting_of units) s.values circuit m.direction
  pub at_ends : FitsAtEnds (setting_of units) (end_of units.requested.den s.values m.direction)
      (end_of units.requested.den s.values (turned m.direction))

pub known_by : (units : Units) (s : Flight) (order : List ℕ) → IsFlight units s → IsOrder s.values order → (m : Move)
    → computed.next_by (setting_of units) (end_of units.requested.den) order s ≡ move m → IsKnown units s order m
known_by units s order is_flight ok m e =
    let seen = setting_of units in
    let k = steps.known (setting_of units) (end_of units.requested.den) s order m e in
    let owed = owes units s order is_flight ok in
    subst (IsKnown units s order) (sym k.same)
    (record {
      circuit = k.circuit;
      finds = k.finds;
      line = line_ok units s order is_flight ok k.circuit k.finds;
      same = refl;
      is = steps.found_move (setting_of units) (end_of units.requested.den) s order owed k.circuit k.finds k.fits;
      on_line = steps.on_line (setting_of units) (end_of units.requested.den) s order owed k.circuit k.finds k.fits;
      at_ends = at_ends (setting_of units) (end_of units.requested.den) s order owed k.circuit k.finds k.fits;
    })

-- ---- so there are steps

abbrev pub each_step : Stepping setting_of (λ units s order. IsFlight units s × IsOrder s.values order)
each_step =
    stepping_by setting_of (λ units s order. IsFlight units s × IsOrder s.values order) (λ units. end_of units.requested.den)
    (λ units s order allowed. owes units s order allowed.0 allowed.1)
