use Rattle.std.proofs.Common.{◌≡◌, ℕ, Option, Some, None, Result, Ok, Err}
use Rattle.std.specs.Prelude.{IfOk}
use Rattle.smp_strata.specs.Plans.{Plan}
use Rattle.smp_twostage.specs.{Selections.{covered_start}, declared.whole.StartedWhole.{StartedWhole}}
use Rattle.smp_app.specs.Kept.Stages.{IsStart, StartsOf}
use Rattle.smp_app.proofs.selection.started_for.Goals as goal

starts_so : {E : Type 0} (plan : Plan) (only : Option ℕ) (result : Result StartedWhole E) → IfOk result (λ s. s.whole ≡ record { plan = plan; only = only })
    → IfOk result (λ s. s.state ≡ covered_start (record { plan = plan; only = only })) → IfOk result (λ s. StartsOf plan only s.state) → IfOk result (IsStart plan only)
starts_so plan only (Ok s) whole state starts = record { whole = whole; state = state; starts = starts }
starts_so plan only (Err e) whole state starts = tt

pub only-requires-clause-stratum : goal.only-requires-clause-stratum
only-requires-clause-stratum c = rw c.in-Some.is at c.requires.only

pub returns-in-None : goal.returns-in-None
returns-in-None c = rw c.in-None.is (starts_so c.args.plan.now.plan None c.start.result c.start.ensures.plan c.start.ensures.state c.start.ensures.starts)

pub returns-in-Some : goal.returns-in-Some
returns-in-Some c = rw c.in-Some.is (starts_so c.args.plan.now.plan (Some c.in-Some.stratum) c.only.result c.only.ensures.whole c.only.ensures.state c.only.ensures.starts)
