-- What the work of a job hands on to the main statement: by which plan it drew, listed or refused, and what holds of that.
use Rattle.std.specs.Prelude.{◌≡◌, ℕ, ◌-◌, List, Option, Some, None, Result, Ok, Err}
use Rattle.smp_io.specs.Store.{Files}
use Rattle.smp_status.specs.declared.status.Status.{Status}
use Rattle.smp_status.specs.declared.status.Status.TheVariants as status
use Rattle.smp_status.specs.Codes.{Class, IsDone, IsRefusal}
use Rattle.smp_twostage.specs.Plans.{CanBeDrawn}
use Rattle.smp_twostage.specs.Selections.{BelongsToWhole}
use Rattle.smp_plan.specs.Inputs.{plan_stage}
use Rattle.smp_plan.specs.Plans.{Survey, survey_plan}
use Rattle.smp_plan.specs.Reads.{Sees}
use Rattle.smp_app.specs.Commands.{Source, ByLog, ByOldLog, BySection, Work, Lists, Draws, Job, inputs_of, job_for}
use Rattle.smp_app.specs.Drawn.{Drawn, start_of}
use Rattle.smp_app.specs.Draws.{HasProbabilities, IsDrawnAlone, IsDrawnBy, OldDiffers, RefusesLog, StratumDiffers, WholeDiffers}
use Rattle.smp_app.specs.Verdict.{drawn_stage}

-- ---- what is drawn

-- what is drawn of all strata by this plan, from a state of the selection
pub record IsDrawnWhole (plan : Survey) (drawn : Drawn) : Type 0 where
  pub plan_is : drawn.plan ≡ plan
  pub member : BelongsToWhole (survey_plan plan) (start_of plan)
  pub by_plan : IsDrawnBy drawn

abbrev pub IsDrawnOf : Option ℕ → Survey → Drawn → Type 0
IsDrawnOf None plan drawn = IsDrawnWhole plan drawn
IsDrawnOf (Some h) plan drawn = IsDrawnAlone plan h drawn

-- what a source draws by a plan
pub record IsDrawFrom (plan : Survey) (source : Source) (fs : Files) : Type 0 where
  pub drawn : Drawn
  pub is_drawn : drawn_stage plan source fs ≡ Ok drawn
  pub by_plan : IsDrawnOf drawn.only plan drawn

-- What holds of a plan of which a job lists: it can be drawn, and by its draw tree each row has its probability.
pub record IsListed (plan : Survey) : Type 0 where
  pub drawable : CanBeDrawn (survey_plan plan)
  pub probabilities : HasProbabilities plan

abbrev pub IsExactFrom : Survey → Work → Files → Type 0
IsExactFrom plan (Lists text) fs = IsListed plan
IsExactFrom plan (Draws source files put) fs = IsDrawFrom plan source fs

-- what a job draws by its plan is drawn with the requested probabilities
pub record IsExact (job : Job) (fs : Files) : Type 0 where
  pub plan : Survey
  pub planned : plan_stage job.design job.frame fs ≡ Ok plan
  pub from_plan : IsExactFrom plan job.work fs

-- ---- a log that is refused

-- where a refusal names the line of a log, this holds of the line
abbrev pub IfLine : Status → (ℕ → Type 0) → Type 0
IfLine (status.LogDiffers line) holds = holds line
IfLine other holds = Unit {0}

-- a plan and a source whose log is refused at a line
abbrev pub IsRefusedAt : Survey → Source → Files → ℕ → Type 0
IsRefusedAt plan (ByLog log) fs line = RefusesLog (λ bytes. WholeDiffers plan bytes line) log fs
IsRefusedAt plan (ByOldLog log) fs line = RefusesLog (λ bytes. OldDiffers plan bytes line) log fs
IsRefusedAt plan (BySection log number) fs line =
    RefusesLog (λ bytes. StratumDiffers (number - 1) plan bytes line) log fs
IsRefusedAt plan other fs line = Unit {0}

abbrev pub IsRefusedBy : Survey → Source → Files → Status → Type 0
IsRefusedBy plan source fs refusal = IfLine refusal (IsRefusedAt plan source fs)

-- ---- what a job ends with: what is drawn, or a refusal

abbrev pub IsRefusedFrom : Survey → Work → Files → ℕ → Type 0
IsRefusedFrom plan (Lists text) fs = λ line. Unit {0}
IsRefusedFrom plan (Draws source files put) fs = IsRefusedAt plan source fs

-- what a job refuses at a line, by its plan
pub record IsRefused (job : Job) (fs : Files) (line : ℕ) : Type 0 where
  pub plan : Survey
  pub planned : plan_stage job.design job.frame fs ≡ Ok plan
  pub by_plan : IsRefusedFrom plan job.work fs line

abbrev pub IsExactRefusal : Job → Status → Files → Type 0
IsExactRefusal job refusal fs = IfLine refusal (IsRefused job fs)

abbrev pub EndsExactFrom : {A : Type 0} → Survey → Work → Files → Result A Status → Type 0
EndsExactFrom plan work fs (Ok outputs) = IsExactFrom plan work fs
EndsExactFrom plan work fs (Err refusal) = IfLine refusal (IsRefusedFrom plan work fs)

abbrev pub EndsExact : {A : Type 0} → Job → Files → Result A Status → Type 0
EndsExact job fs (Ok outputs) = IsExact job fs
EndsExact job fs (Err refusal) = IsExactRefusal job refusal fs

-- What a status of each class says besides its answer, of the job that the words ask for.
abbrev pub ExactSays : Class → Status → List (List ℕ) → Option Files → Type 0
ExactSays IsDone answer words told =
    (job : Job) → job_for words ≡ Some job → (fs : Files) → Sees (inputs_of job) told fs
    → IsExact job fs
ExactSays IsRefusal answer words told =
    (job : Job) → job_for words ≡ Some job → (fs : Files) → Sees (inputs_of job) told fs
    → IsExactRefusal job answer fs
ExactSays other answer words told = Unit {0}
