-- A selection starts from the values that are requested, and is balanced.
use Rattle.std.proofs.Common.{ℤ, List, arith, refl, sym, ◌∙◌}
use Rattle.smp_frac.proofs.Arithmetic.{same_refl}
use Rattle.smp_prob.specs.{declared.requests.Request.{Request}, Requests.{IsRequest}, Shares.{shares_of}}
use Rattle.smp_prob.proofs.Fractions.{length-numerators}
use Rattle.smp_split.specs.Methods.{Starts}
use Rattle.smp_split.proofs.Methods.{starts}
use Rattle.smp_values.specs.{Starts.{IsRequested}, Values.{fractional_units, value_at}}
use Rattle.smp_values.proofs.Requests.{requested_values}
use Rattle.smp_flight.specs.States as flights
use Rattle.smp_flight.specs.{States.{Units, IsFlight}, Requests.{units_of}, Landings.{IsBalanced}, Selections.{IsBalancing, starting}}
use Rattle.smp_flight.proofs.{Owed.{selection_balanced}, WholeSums.{leaves_count}, CubeFronts.{IsFront, keeps_front}}
use Rattle.smp_flight.specs.{Cube.{cube_of, cube_tree}, Laws.CubeSplits.{is_cube}, CubeMethod.{method_of}}

pub starts_requested : (request : Request) (xs : List (List ℤ)) → IsRequest request →
    IsRequested (cube_tree (units_of request xs)) request (starting (units_of request xs))
starts_requested request xs is =
    requested_values request is (cube_tree (units_of request xs)) (starting (units_of request xs)) (is.paired ∙ sym (length-numerators request is)) (λ k _. same_refl (value_at (shares_of request) k))

module _ (units : Units) (is_flight : IsFlight units (flights.tracked_start units).flight) where
  pub cube_starts : Starts (method_of units) (starting units)
  cube_starts =
      starts (method_of units) (starting units) is_flight
      (λ n adds. leaves_count (cube_of units) (IsBalancing units) (is_cube units) n (starting units) is_flight (omega arith) adds)

  pub cube_balances : IsBalanced (cube_of units) (starting units)
  cube_balances = selection_balanced (cube_of units) (IsBalancing units) (is_cube units) (starting units) is_flight refl IsFront (keeps_front units) (fractional_units units.requested, refl)
