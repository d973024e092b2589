-- Which plans can be drawn.
use Rattle.std.specs.Prelude.{◌≡◌, ◌+◌, ◌≤◌, true, IfSome, IsTrue, None, length}
use Rattle.smp_frac.specs.Limits.{most_rows}
use Rattle.smp_design.specs.declared.method.Method.{Method}
use Rattle.smp_design.specs.Procedures.{IsProcedure}
use Rattle.smp_design.specs.Words.{draws_together, in_second}
use Rattle.smp_strata.specs.Bounds.{IsPlan}
use Rattle.smp_strata.specs.Plans.{Plan}

-- a method draws from rows, which have no values
abbrev pub TakesRows : Method → Type 0
TakesRows method = IsTrue (in_second method)

-- What a method needs that draws all strata together: there is one stage, the rows of the balancing equations are 16 at most, one for
-- each stratum and one for each balancing column, and those of the frame are as many as a frame has at most.
pub record IsTogether (plan : Plan) : Type 0 where
  pub one_stage : plan.second ≡ None
  pub some : 1 ≤ length plan.strata
  pub rows : length plan.strata + plan.procedure.balance ≤ 16
  pub few : plan.rows ≤ most_rows

-- a sound plan, whose procedure has the columns that its method needs, and whose second method needs none
pub record CanBeDrawn (plan : Plan) : Type 0 where
  pub sound : IsPlan plan
  pub procedure : IsProcedure plan.procedure
  pub second : IfSome plan.second TakesRows
  pub together : draws_together plan.procedure.method ≡ true → IsTogether plan
