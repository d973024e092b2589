-- How a call ends, from what its parts did.
use Rattle.std.proofs.Common.{◌≡◌, ◌⊎◌, ◌≤◌, ℕ, List, Option, Some, None, option_map, Ok, Err, refl, sym, ap, subst, ◌∙◌, inl, inr, true}
use Rattle.std.specs.Prelude.{is_some, is_ok}
use Rattle.smp_io.specs.{Counts.{Rose, NeverFalls}, Sink.{with_bytes, AppendsFront}, Store.{Files}}
use Rattle.smp_status.specs.{declared.status.Status.{Status}, FaultLines.{fault_line, line_by}}
use Rattle.smp_status.specs.declared.status.Status.TheVariants as status
use Rattle.smp_words.specs.{declared.command.Command.{Command}, Words.{command_of}}
use Rattle.smp_status.specs.Codes.{Class, IsDone, IsUsage, IsRefusal, IsReadFault, IsWriteFault, IsNoMemory, class_of}
use Rattle.smp_app.specs.{Commands.{Job, job_of, job_for, inputs_by, inputs_named, inputs_of, outputs_of}, Verdict.{outputs_stage, verdict}}
use Rattle.smp_frac.specs.Faults.{◌>>=◌}
use Rattle.smp_plan.specs.{Stops.{Refused, or_refused, without}, Reads.{IsErrorOf, IsCaused, ReadCause, Sees}}
use Rattle.smp_app.specs.{Kept.Exact.{ExactSays, IsExact, IsExactRefusal}, Kept.Stages.{Refusing, WorkSays}}
use Rattle.smp_status.specs.Reports.{IsOfInputs, Put, PutsLine, Whole, Cut, OutOfMemory, Reports}
use Rattle.smp_app.specs.Deliveries.{Outputs, SomeRose, names_of, with_files, FailsAt}
use Rattle.smp_app.specs.Answers.{Outside, Untouched, Done, RefusesBy, Refusal, StoppedBy, NoMemory, Says, Undisturbed, IsVerdict, UsageOnly, IsAnswer}
use Rattle.smp_plan.proofs.Steps.{rose_since}
use Rattle.smp_app.proofs.Deliveries.{place_since, place_rose}

-- ---- the verdict of a job

by_command : (told : Option Command) (job : Job) → option_map job_of told ≡ Some job → (fs : Files)
    → (or_refused status.Usage told >>= λ c. outputs_stage (job_of c) fs) ≡ outputs_stage job fs
by_command None job h fs = absurd (cc)
by_command (Some command) job h fs = let some : ◌≡◌ {A = Option Job} (Some (job_of command)) (Some job) = h in let same : job_of command ≡ job = cc in ap (λ (j : Job). outputs_stage j fs) same

pub verdict_of : (words : List (List ℕ)) (job : Job) → job_for words ≡ Some job → (fs : Files) → verdict words fs ≡ outputs_stage job fs
unfolding verdict
verdict_of words job asked fs = by_command (command_of words) job asked fs

-- a job is that of a command
record Commanded (told : Option Command) : Type 0 where
  command : Command
  is : told ≡ Some command

commanded : (told : Option Command) (job : Job) → option_map job_of told ≡ Some job → Commanded told
commanded None job h = absurd (cc)
commanded (Some command) job h = record { command = command; is = refl }

job_is : (told : Option Command) (command : Command) (job : Job) → told ≡ Some command → option_map job_of told ≡ Some job → job_of command ≡ job
job_is told command job is asked = let one : ◌≡◌ {A = Option Job} (Some (job_of command)) (Some job) = ap (option_map job_of) (sym is) ∙ asked in cc

-- ---- the work

module _ (words : List (List ℕ)) (job : Job) (before now : Outside) (asked : job_for words ≡ Some job) where
  -- a status to which the inputs led
  pub error_says :
      (asked_before asked_now : Option (List (List ℕ))) (class : Class) (error : Status)
      → IsOfInputs class error
      → ((fs : Files) → Sees (inputs_of job) before.files fs → IsErrorOf class error (outputs_stage job fs))
      → IsCaused class (ReadCause (inputs_of job) (outputs_stage job) (record { files = before.files; read_faults = before.read_faults; write_faults = before.write_faults; write_shortages = before.write_shortages; asked = asked_before }) (record { files = now.files; read_faults = now.read_faults; write_faults = now.write_faults; write_shortages = now.write_shortages; asked = asked_now }))
      → Untouched before now
      → WorkSays class error words before now
  error_says asked_before asked_now IsDone error kind follows cause same = absurd kind
  error_says asked_before asked_now IsUsage error kind follows cause same = absurd kind
  error_says asked_before asked_now IsWriteFault error kind follows cause same = absurd kind
  error_says asked_before asked_now IsNoMemory error kind follows cause same = inl same
  error_says asked_before asked_now IsRefusal error kind follows cause same =
      let by = commanded (command_of words) job asked in
      let one : job_of by.command ≡ job = job_is (command_of words) by.command job by.is asked in
      let seen : (fs : Files) → Sees (inputs_of (job_of by.command)) before.files fs → Sees (inputs_of job) before.files fs = λ fs sees. subst (λ (j : Job). Sees (inputs_of j) before.files fs) one sees in
      record {
        refused = record {
          command = by.command;
          asked = by.is;
          verdict_is = λ fs sees. verdict_of words job asked fs ∙ follows fs (seen fs sees);
        };
        lined = kind;
        same = same;
      }
  error_says asked_before asked_now IsReadFault error kind follows cause same = record {
    job = job;
    asked = asked;
    cause = record { name = cause.name; is_one = cause.is_input; rose = cause.rose };
    first = λ fs told. verdict_of words job asked (without cause.name fs) ∙ cause.first fs told;
    same = same;
  }

  -- the outputs, where the files between the work and the writes are those before it
  module _ (mid : Option Files) (same : mid ≡ before.files) (outputs : Outputs) (stage : (fs : Files) → Sees (inputs_of job) before.files fs → outputs_stage job fs ≡ Ok outputs) where
    pub all_done : now.files ≡ option_map (with_files outputs.files) mid → now.put ≡ with_bytes outputs.put before.put → Done words before now
    all_done wrote put = record {
      job = job;
      asked = asked;
      done = λ fs sees. record {
        outputs = outputs;
        accepted = verdict_of words job asked fs ∙ stage fs sees;
        files = wrote ∙ ap (option_map (with_files outputs.files)) same;
        put = put;
      };
    }

    -- by a write or a put whose count rose
    pub stopped_by :
        (first counts counts_now : List ℕ → ℕ) (put : Type 0) → NeverFalls first counts → names_of outputs.files ≡ outputs_of job
        → FailsAt outputs mid now.files before.put now.put (λ name. Rose (counts name) (counts_now name)) put → StoppedBy words before now (λ name. Rose (first name) (counts_now name)) put
    stopped_by first counts counts_now put rises named fails =
        let Fails : Option Files → Type 0 = λ held. FailsAt outputs held now.files before.put now.put (λ name. Rose (counts name) (counts_now name)) put in
        let here : Fails before.files = subst Fails same fails in
        record {
          stopped = record {
            job = job;
            asked = asked;
            outputs = outputs;
            named = named;
            accepted = λ fs sees. verdict_of words job asked fs ∙ stage fs sees;
            stops = here.stops;
          };
          cause = place_since outputs before.files now.files before.put now.put put first counts counts_now rises here.stops here.cause;
        }

-- ---- what the work says besides

job_same : (x y : Job) → Some x ≡ Some y → x ≡ y
job_same x y same = cc

module _ (words : List (List ℕ)) (job : Job) (told : Option Files) (asked : job_for words ≡ Some job) where
  of_job : (other : Job) → job_for words ≡ Some other → job ≡ other
  of_job other also = job_same job other (sym asked ∙ also)

  pub exact_done : (answer : Status) → ((fs : Files) → Sees (inputs_of job) told fs → IsExact job fs) → ExactSays IsDone answer words told
  exact_done answer exact other also = subst (λ (j : Job). (fs : Files) → Sees (inputs_of j) told fs → IsExact j fs) (of_job other also) exact

  pub exact_error : (class : Class) (error : Status) → IsOfInputs class error → ((fs : Files) → Sees (inputs_of job) told fs → IsExactRefusal job error fs) → ExactSays class error words told
  exact_error IsDone error kind exact = absurd kind
  exact_error IsRefusal error kind exact = λ other also. subst (λ (j : Job). (fs : Files) → Sees (inputs_of j) told fs → IsExactRefusal j error fs) (of_job other also) exact
  exact_error IsUsage error kind exact = tt
  exact_error IsReadFault error kind exact = tt
  exact_error IsWriteFault error kind exact = tt
  exact_error IsNoMemory error kind exact = tt

-- the answer is the status with which the work ended, unless memory ran out in the put of its line
module _ (ended answer : Status) (words : List (List ℕ)) (told : Option Files) (before now : Put) where
  same_or_out : (line : Option (List ℕ)) → Reports line ended answer before now → (answer ≡ ended) ⊎ (answer ≡ status.NoMemory)
  same_or_out None reports = inl reports.0
  same_or_out (Some line) puts = elim puts [
    | Whole same whole ↦ inl same
    | Cut same rose front ↦ inl same
    | OutOfMemory same uncounted some ↦ inr same
  ]

  pub exact_says : Reports (fault_line ended) ended answer before now → ExactSays (class_of ended) ended words told → ExactSays (class_of answer) answer words told
  exact_says reports exact =
      elim (same_or_out (fault_line ended) reports) [
        | inl same ↦ subst (λ a. ExactSays (class_of a) a words told) (sym same) exact
        | inr out ↦ subst (λ a. ExactSays (class_of a) a words told) (sym out) tt
      ]

-- ---- the line of a refusal

module _ (ended answer : Status) (words : List (List ℕ)) (before now : Outside) (put : Put) (le : before.put_faults ≤ put.faults) (few : before.put_shortages ≤ put.shortages) where
  abbrev pub worked : Outside
  worked = record now { put = put.written; put_faults = put.faults; put_shortages = put.shortages }

  abbrev pub put_now : Put
  put_now = record { written = now.put; faults = now.put_faults; shortages = now.put_shortages }

  -- what is said of the answer, if it is as the work ended or memory ran out
  said : (class : Class) → class_of ended ≡ class → (answer ≡ ended) × Says class ended words before now → Says (class_of answer) answer words before now
  said class is h = subst (λ a. Says (class_of a) a words before now) (sym h.0) (subst (λ k. Says k ended words before now) (sym is) h.1)

  out_of_memory : answer ≡ status.NoMemory → NoMemory words before now → Says (class_of answer) answer words before now
  out_of_memory is h = subst (λ a. Says (class_of a) a words before now) (sym is) h

  -- a status that has no line
  silent : (class : Class) → class_of ended ≡ class → WorkSays class ended words before worked → (WorkSays class ended words before now → Says class ended words before now)
      → Reports None ended answer put put_now → Says (class_of answer) answer words before now
  silent class is work same_says reports =
      let ends : ◌≡◌ {A = Outside} worked now = ap (λ (p : Put). record now { put = p.written; put_faults = p.faults; put_shortages = p.shortages }) (sym reports.1) in
      said class is (reports.0, same_says (subst (λ (o : Outside). WorkSays class ended words before o) ends work))

  -- how a refusal ends, whose line was put after its work
  line_put : (class : Class) → class_of ended ≡ class → (Refusal class ended words before now → Says class ended words before now)
      → Refusing class ended words before worked → (line : List ℕ) → fault_line ended ≡ Some line → PutsLine ended answer line put put_now → Says (class_of answer) answer words before now
  line_put class is says work line line_is puts = elim puts [
    | Whole same whole ↦ said class is (same, says (record { refused = work.refused; files = work.same.files; line = line; line_is = line_is; put = inl (whole ∙ ap (with_bytes line) work.same.put) }))
    | Cut same rose front ↦ said class is (same, says (record { refused = work.refused; files = work.same.files; line = line; line_is = line_is; put = inr (rose_since _ _ _ le rose, subst (λ w. AppendsFront line w now.put) work.same.put front) }))
    | OutOfMemory same uncounted some ↦ out_of_memory same (elim some [
      | inl front ↦ inr (inl (record {
        refusal = ended;
        refused = subst (λ k. RefusesBy k ended words before.files) (sym is) work.refused;
        line = line;
        line_is = line_is;
        files = work.same.files;
        cause = rose_since _ _ _ few front.0;
        put = subst (λ w. AppendsFront line w now.put) work.same.put front.1;
      }))
      | inr none ↦ inl (record { files = work.same.files; put = none ∙ work.same.put })
    ])
  ]

  reported : (class : Class) → class_of ended ≡ class → (Refusal class ended words before now → Says class ended words before now)
      → Refusing class ended words before worked → (told : Option (List ℕ)) → fault_line ended ≡ told → is_some told ≡ true → Reports told ended answer put put_now → Says (class_of answer) answer words before now
  reported class is says work (Some line) line_is has reports = line_put class is says work line line_is reports
  reported class is says work None line_is has reports = absurd (cc)

  by_class : (class : Class) → class_of ended ≡ class → WorkSays class ended words before worked → Reports (line_by class ended) ended answer put put_now → Says (class_of answer) answer words before now
  by_class IsDone is work reports = silent IsDone is work (λ w. w) reports
  by_class IsReadFault is work reports = silent IsReadFault is work (λ w. w) reports
  by_class IsWriteFault is work reports = silent IsWriteFault is work (λ w. w) reports
  by_class IsNoMemory is work reports = silent IsNoMemory is work (λ w. w) reports
  by_class IsUsage is work reports = reported IsUsage is (λ r. r) work (line_by IsUsage ended) (ap (λ k. line_by k ended) is) refl reports
  by_class IsRefusal is work reports =
      reported IsRefusal is (λ r. r) work (line_by IsRefusal ended) (ap (λ k. line_by k ended) is) (subst (λ k. is_some (line_by k ended) ≡ true) is work.lined) reports

  -- what a call says, from its work and its line
  pub says : WorkSays (class_of ended) ended words before worked → Reports (fault_line ended) ended answer put put_now → Says (class_of answer) answer words before now
  says work reports = by_class (class_of ended) refl work reports

-- ---- words of no command, and a call that nothing disturbs

unasked : (words : List (List ℕ)) (job : Job) → command_of words ≡ None → job_for words ≡ Some job → ⊥
unasked words job none some = let e : None ≡ Some job = ap (option_map job_of) (sym none) ∙ some in cc

module _ (answer : Status) (words : List (List ℕ)) (before now : Outside) where
  usage : (class : Class) → Says class answer words before now → command_of words ≡ None → UsageOnly class
  usage IsUsage said none = tt
  usage IsNoMemory said none = tt
  usage IsDone said none = absurd (unasked words said.job none said.asked)
  usage IsReadFault said none = absurd (unasked words said.job none said.asked)
  usage IsWriteFault said none = absurd (unasked words said.stopped.job none said.stopped.asked)
  usage IsRefusal said none = absurd (let e : None ≡ Some said.refused.command = sym none ∙ said.refused.asked in cc)

  none_asked : (fs : Files) → command_of words ≡ None → verdict words fs ≡ Err (Refused status.Usage)
  unfolding verdict
  none_asked fs none = rw none refl

  -- the files that a job is told
  seen : (fs : Files) (job : Job) → job_for words ≡ Some job → Sees (inputs_named words) before.files fs → Sees (inputs_of job) before.files fs
  seen fs job asked sees = subst (λ (names : List (List ℕ)). Sees names before.files fs) (ap inputs_by asked) sees

  complete : (class : Class) → class_of answer ≡ class → Says class answer words before now → (fs : Files) → Sees (inputs_named words) before.files fs
      → ((job : Job) → job_for words ≡ Some job → Undisturbed job before now) → IsVerdict class answer (verdict words fs)
  complete IsDone is said fs sees calm = ap is_ok (said.done fs (seen fs said.job said.asked sees)).accepted
  complete IsNoMemory is said fs told calm = tt
  complete IsReadFault is said fs told calm = (calm said.job said.asked).reads said.cause
  complete IsWriteFault is said fs told calm =
      let stopped = said.stopped in
      let quiet = calm stopped.job stopped.asked in
      elim (place_rose stopped.outputs before.files now.files before.put now.put (Rose before.put_faults now.put_faults) before.write_faults now.write_faults stopped.stops said.cause) [
        | inl write ↦ quiet.writes (subst (λ names. SomeRose names before.write_faults now.write_faults) stopped.named write)
        | inr put ↦ quiet.put put
      ]
  complete IsRefusal is said fs sees calm =
      said.refused.verdict_is fs (seen fs (job_of said.refused.command) (ap (option_map job_of) said.refused.asked) sees)
  complete IsUsage is said fs told calm = none_asked fs said.refused

  pub is_answer : Says (class_of answer) answer words before now → IsAnswer answer words before now
  is_answer said = record { says = said; usage = usage (class_of answer) said; complete = complete (class_of answer) refl said }
