-- The plan of a design can be drawn, and the design of `quick` is one.
use Rattle.std.proofs.Common.{◌≡◌, ℕ, ◌+◌, ◌≤◌, Bool, true, false, true≢false, List, [], ◌∷◌, length, Option, Some, None, IfSome, arith, refl, sym, subst, ◌∙◌}
use Rattle.std.specs.{Prelude.{OnSome, nat_lt, option_map}, List.Sorted.{IsStrictlySortedBy}}
use Rattle.std.proofs.{lemmas.Bool.{ltb-false}, lemmas.List.{length-map}, lemmas.List.FromFn.{length-range_with_len}}
use Rattle.smp_frame.specs.declared.frame.Unit as unit
use Rattle.smp_frac.specs.Limits.{most_rows}
use Rattle.smp_design.specs.{Bounds.{Ascend, IsDesign}, Words.{row, draws_together, in_second}, declared.design.Design.{Design}}
use Rattle.smp_design.proofs.Rows.{bare}
use Rattle.smp_design.specs.{declared.design.Second.{Second}, declared.method.Method.{Method}, declared.method.Method.TheVariants.{Pivotal}}
use Rattle.smp_strata.specs.{Bounds.{IsPlan}, Clusters.{strata_numbers, stratum_names}, Misfits.{misfit_of, row_limit_by}}
use Rattle.smp_strata.specs.{Plans.{Plan, strata_plan, stratum_of}, declared.misfit.Misfit.TheVariants.{RowLimit}}
use Rattle.smp_strata.proofs.{Founds.{when_false}, MisfitOrder.{rows_fit}}
use Rattle.smp_twostage.specs.Plans.{CanBeDrawn, IsTogether, TakesRows}
use Rattle.smp_plan.specs.Plans.{quick_design}

second_takes : (second : Option Second) → IfSome second (λ s. in_second s.method ≡ true) → IfSome (option_map (λ s. s.method) second) TakesRows
second_takes (Some second) h = h
second_takes None h = tt

no_second : (m : Method) (second : Option Second) → OnSome second (draws_together m ≡ false) → draws_together m ≡ true → option_map (λ s. s.method) second ≡ None
no_second m None apart together = refl
no_second m (Some second) apart together = absurd (true≢false (sym together ∙ apart))

-- where all strata are drawn together, the rows of the balancing equations are few
few_rows : (together : Bool) (strata variables : ℕ) → row_limit_by together strata variables ≡ None → together ≡ true → strata + variables ≤ 16
few_rows true strata variables fits joined =
    ltb-false 16 (strata + variables) (when_false (nat_lt 16 (strata + variables)) (RowLimit strata variables) fits)
few_rows false strata variables fits joined = absurd (cc)

-- a frame has a stratum
some_names : (units : List unit.Unit) → 1 ≤ length units → 1 ≤ length (stratum_names units)
some_names [] some = absurd (omega (arith, some))
some_names (u ∷ units) some = omega arith

module _ (design : Design) (units : List unit.Unit) (is : IsDesign design) (some : 1 ≤ length units) (few : length units ≤ most_rows) (fits : misfit_of design units ≡ None) where
  strata_count : length (strata_plan design units).strata ≡ length (stratum_names units)
  strata_count =
      length-map (strata_numbers units) (stratum_of design units) ∙ length-range_with_len 0 (length (stratum_names units))

  together : draws_together design.procedure.method ≡ true → IsTogether (strata_plan design units)
  together joined = record {
    one_stage = no_second design.procedure.method design.second is.second_apart joined;
    some = (let names = some_names units some in omega (arith, names, strata_count));
    rows =
        (let few = few_rows (draws_together design.procedure.method) (length (stratum_names units)) (length design.columns.balance) (rows_fit design units fits) joined in
        omega (arith, few, strata_count, is.balance));
    few = few;
  }

  parts_drawn : IsPlan (strata_plan design units) → CanBeDrawn (strata_plan design units)
  parts_drawn sound = record {
    sound = sound;
    procedure = is.procedure;
    second = second_takes design.second is.second_method;
    together = together;
  }

  -- the plan of a design and a frame
  pub can_be_drawn : (plan : Plan) → plan ≡ strata_plan design units → IsPlan plan → CanBeDrawn plan
  can_be_drawn plan are sound = subst CanBeDrawn (sym are) (parts_drawn (subst IsPlan are sound))

none_ascend : Ascend []
unfolding IsStrictlySortedBy
none_ascend = tt

pub quick_is_design : (n : ℕ) → 1 ≤ n → n ≤ most_rows → IsDesign (quick_design n)
unfolding row
quick_is_design n some few = record {
  version = (omega arith, omega arith);
  size = (some, few);
  quotas = λ k d l. absurd (omega (arith, l));
  ascending = none_ascend;
  one_size = refl;
  prob = tt;
  strata = tt;
  procedure = bare Pivotal refl;
  balance = refl;
  near = refl;
  second_size = tt;
  second_method = tt;
  second_first = tt;
  second_apart = tt;
  psu = refl;
  second_sizes = refl;
}
