-- What a procedure needs of a request, and of the values of its units.
use Rattle.std.specs.Prelude.{◌≡◌, ◌≤◌, ℤ, length, Bool, true, false, List}
use Rattle.smp_design.specs.declared.procedure.Procedure.{Procedure}
use Rattle.smp_design.specs.Procedures.{AreNeeded}
use Rattle.smp_design.specs.Words.{row, balances}
use Rattle.smp_prob.specs.declared.requests.Request.{Request}
pub use Rattle.smp_values.specs.Starts.{DrawsWhole}
use Rattle.smp_flight.specs.Requests.{AreValues}

-- this is needed where a test holds, and nothing otherwise
abbrev pub NeededIf : Bool → Type 0 → Type 0
NeededIf true Needed = Needed
NeededIf false Needed = Unit {0}

-- what a procedure needs of the number of units drawn: that it is whole, or nothing
abbrev pub NeedsWhole : Procedure → Request → Type 0
NeedsWhole way request = NeededIf (row way.method).draws_whole (DrawsWhole request)

-- What a procedure needs of the balancing values and the coordinates of the free units of a request: it has the columns that its method
-- needs; where it has columns of one kind, each unit has a list of that kind; and the values on which the method balances are as many of
-- each unit, and small.
pub record TakesValues (way : Procedure) (request : Request) (values points : List (List ℤ)) : Type 0 where
  pub columns : AreNeeded (row way.method).needs way.balance way.near
  pub paired : 1 ≤ way.balance → length values ≡ length request.free
  pub located : 1 ≤ way.near → length points ≡ length request.free
  pub balancing : NeededIf (balances way.method) (AreValues values)
