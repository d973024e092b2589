-- The rows of a plan, looked up once for all their pairs. No public clause cites it.
use Rattle.std.specs.Prelude.{◌≡◌, ℕ, ◌<◌, List, length, slice_get, slice_index_or, Some}
use Rattle.smp_frac.specs.Fractions.{Same}
use Rattle.smp_frac.specs.Exact.{fraction}
use Rattle.smp_prob.specs.declared.inclusions.Inclusion.TheVariants.{Free}
use Rattle.smp_prob.specs.Inclusions.{fraction_at, inclusion}
use Rattle.smp_prob.specs.Shares.{shares_of}
use Rattle.smp_strata.specs.Plans.{Plan}
use Rattle.smp_strata.specs.declared.strata.Seat.{Seat}
use Rattle.smp_strata.specs.declared.strata.Stratum.{Stratum}
use Rattle.smp_twostage.specs.Selections.{place_of}
use Rattle.smp_joint.specs.declared.row.Row.{Row}

-- what is written down for a row that stands at this seat
pub record StandsAt (strata : List Stratum) (seat : Seat) (row : Row) : Type 0 where
  pub stratum : Stratum
  pub there : slice_get strata seat.stratum ≡ Some stratum
  pub number : row.stratum ≡ seat.stratum
  pub inclusion : row.inclusion ≡ inclusion stratum.request seat.unit
  pub asked : Same (fraction row.asked) (fraction_at stratum.request row.inclusion)
  -- a free unit has an arc
  pub free : (place : ℕ) → row.inclusion ≡ Free place
      → place < length (shares_of stratum.request).numer

-- there is a row for each one of the plan, by the seat where it stands
pub record AreRows (plan : Plan) (rows : List Row) : Type 0 where
  pub count : length rows ≡ plan.rows
  pub each : (row : ℕ) (d : Row) → row < plan.rows
      → StandsAt plan.strata (place_of plan.strata row) (slice_index_or rows row d)
