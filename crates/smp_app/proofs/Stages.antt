-- What the work of a job draws and writes.
use Rattle.std.proofs.Common.{◌≡◌, List, [], ◌∷◌, map, Result, Ok, Err, refl, ap}
use Rattle.smp_io.specs.Store.{Files}
use Rattle.smp_plan.specs.{Plans.{Survey}, Inputs.{plan_stage}, Reads.{Follows}}
use Rattle.smp_app.specs.{Drawn.{Drawn}, Commands.{DrawnFile, Job, written_by}, Deliveries.{names_of}}
use Rattle.smp_status.specs.declared.status.Status.{Status}
use Rattle.smp_app.specs.Kept.Exact.{EndsExact, EndsExactFrom, IsExactRefusal, IsRefused, IsRefusedFrom}
use Rattle.smp_app.proofs.Refusals.{line_more, plan_line}

-- a job whose plan is refused names no line
pub plan_refused : (job : Job) (fs : Files) (error : Status) → Follows (Err error) (plan_stage job.design job.frame fs) → IsExactRefusal job error fs
plan_refused job fs error follows = plan_line job.design job.frame fs error (IsRefused job fs) follows

-- a job ends as its work does by the plan of the job
pub exact_end : {A : Type 0} (job : Job) (plan : Survey) (fs : Files) (result : Result A Status) → plan_stage job.design job.frame fs ≡ Ok plan → EndsExactFrom plan job.work fs result → EndsExact job fs result
exact_end job plan fs (Ok outputs) planned exact = record { plan = plan; planned = planned; from_plan = exact }
exact_end job plan fs (Err refusal) planned refused =
    line_more refusal (IsRefusedFrom plan job.work fs) (IsRefused job fs) (λ line at. record { plan = plan; planned = planned; by_plan = at }) refused

pub names_written : (drawn : Drawn) (files : List DrawnFile) → names_of (map (written_by drawn) files) ≡ map (λ file. file.name) files
names_written drawn [] = refl
names_written drawn (file ∷ files) = ap (λ names. file.name ∷ names) (names_written drawn files)
