-- What is true of every plan.
use Rattle.std.specs.Prelude.{◌≡◌, ℕ, ◌<◌, ◌≤◌, List, length, is_some, Option, IfSome, IsTrue, All}
use Rattle.smp_frac.specs.Limits.{most_rows}
use Rattle.smp_frame.specs.Bounds.{AreSmall}
use Rattle.smp_prob.specs.declared.requests.Request.{Request}
use Rattle.smp_prob.specs.Requests.{IsRequest}
use Rattle.smp_prob.specs.Inclusions.{AreApart, IsRising}
use Rattle.smp_values.specs.Starts.{DrawsWhole}
use Rattle.smp_design.specs.declared.method.Method.{Method}
use Rattle.smp_design.specs.Words.{row}
use Rattle.smp_strata.specs.Plans.{Plan}
use Rattle.smp_strata.specs.Seats.{IsSeat, Seated}
use Rattle.smp_strata.specs.declared.strata.FirstUnit as first
use Rattle.smp_strata.specs.declared.strata.Seat as seat
use Rattle.smp_strata.specs.declared.strata.Stratum as stratum

-- a request over so many units, with the certain ones and the free ones in order, of which none is both
pub record IsOver (count : ℕ) (request : Request) : Type 0 where
  pub sound : IsRequest request
  pub rising : IsRising request
  pub apart : AreApart request
  pub certain : All (λ unit. unit < count) request.certain
  pub free : All (λ unit. unit < count) request.free

-- a request for a whole number of so many units
pub record DrawsWholeOver (count : ℕ) (request : Request) : Type 0 where
  pub over : IsOver count request
  pub whole : DrawsWhole request

-- a first stage unit has rows, balancing values and coordinates within 2,147,483,647 of 0, and a request over its rows where there is a
-- second stage
pub record IsFirst (method : Option Method) (f : first.FirstUnit) : Type 0 where
  pub some : 1 ≤ length f.rows
  pub balance : AreSmall f.balance
  pub point : AreSmall f.point
  pub over : IfSome f.second (DrawsWholeOver (length f.rows))
  pub staged : is_some f.second ≡ is_some method

-- a stratum has first stage units, as many as a frame has rows at most, and a request over them
pub record IsStratum (method : Option Method) (s : stratum.Stratum) : Type 0 where
  pub some : 1 ≤ length s.units
  pub few : length s.units ≤ most_rows
  pub over : IsOver (length s.units) s.request
  pub firsts : All (IsFirst method) s.units

-- each row of a frame of so many rows stands at one seat
pub record AreSeated (rows : ℕ) (strata : List stratum.Stratum) : Type 0 where
  pub seats : (row : ℕ) → row < rows → Seated strata row
  pub once : (row : ℕ) (s t : seat.Seat) → IsSeat strata row s → IsSeat strata row t → s ≡ t
  pub below : (row : ℕ) (s : seat.Seat) → IsSeat strata row s → row < rows

-- a plan, whose first stage units have a balancing value and a coordinate in each of the procedure's columns of these
pub record IsPlan (plan : Plan) : Type 0 where
  pub strata : All (IsStratum plan.second) plan.strata
  -- where the method draws a whole number of units alone, a whole number is asked of each stratum
  pub whole : IsTrue (row plan.procedure.method).draws_whole → All (λ s. DrawsWhole s.request) plan.strata
  pub balance : All (λ s. All (λ f. length f.balance ≡ plan.procedure.balance) s.units) plan.strata
  pub points : All (λ s. All (λ f. length f.point ≡ plan.procedure.near) s.units) plan.strata
  pub seated : AreSeated plan.rows plan.strata
