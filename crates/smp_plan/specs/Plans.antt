-- What a design asks of a frame.
use Rattle.std.specs.Prelude.{ℕ, List, [], map, slice_index_or, Some, None}
use Rattle.smp_frac.specs.Fractions.{Fraction}
use Rattle.smp_frame.specs.declared.frame.Unit as unit
use Rattle.smp_frame.specs.Sized.{sized_columns}
use Rattle.smp_design.specs.declared.design.Design.{Design}
use Rattle.smp_design.specs.declared.method.Method.TheVariants.{Pivotal}
use Rattle.smp_design.specs.Procedures.{without_values}
use Rattle.smp_strata.specs.Asked.{row_fraction}
use Rattle.smp_strata.specs.Plans.{Plan, strata_plan}

-- the design of `quick`: n units by pivotal steps in frame order, with the columns `id` and `size`
abbrev pub quick_design : ℕ → Design
quick_design n = record {
  version = 1;
  procedure = without_values Pivotal;
  columns = sized_columns;
  n = Some n;
  sizes = [];
  second = None;
}

-- ---- the plan

-- a design, the rows of the frame of which it asks, and the first lines of a log, which name the bytes that both were read from
pub record Survey : Type 0 where
  pub design : Design
  pub units : List unit.Unit
  pub head : List ℕ

-- the strata, their first stage units, and the requests over them
abbrev pub survey_plan : Survey → Plan
survey_plan plan = strata_plan plan.design plan.units

-- the probability that is asked for a row (Tillé 2006)
-- = π(row)
-- e.g. of c 3/5
abbrev pub row_probability : Survey → ℕ → Fraction
row_probability plan row = row_fraction plan.design plan.units row

-- the id of a row
-- e.g. of row 2: `c`
abbrev pub row_id : Survey → ℕ → List ℕ
row_id plan row = slice_index_or (map (λ u. u.id) plan.units) row []
