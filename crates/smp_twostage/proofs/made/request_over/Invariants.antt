use Rattle.std.proofs.Common.{◌≡◌, ◌++◌, drop}
use Rattle.smp_prob.specs.declared.requests.Request.{Request}
use Rattle.smp_twostage.specs.Selections.{numbers_from, units_before}
use Rattle.smp_twostage.proofs.made.request_over.Given as goal

-- the units so far, and those of the other strata
abbrev pub invariant-loop-number : goal.invariant-loop-number
invariant-loop-number l = record {
  before : l.before ≡ units_before l.plan.strata l.number;
  certain : l.certain.items ++ numbers_from (λ (r : Request). r.certain) l.before (drop l.number l.plan.strata) ≡ numbers_from (λ (r : Request). r.certain) 0 l.plan.strata;
  free : l.free.items ++ numbers_from (λ (r : Request). r.free) l.before (drop l.number l.plan.strata) ≡ numbers_from (λ (r : Request). r.free) 0 l.plan.strata;
}
