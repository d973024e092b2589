-- The table of the commands: what each reads, how it draws, and what it writes and puts.
use Rattle.std.specs.Prelude.{ℕ, List, [], ◌∷◌, ◌++◌, map, Option, Some, None, option_map}
use Rattle.smp_words.specs.declared.command.Command.{Command}
use Rattle.smp_words.specs.declared.command.Command.TheVariants as commands
use Rattle.smp_words.specs.declared.command.Chance.{Chance}
use Rattle.smp_words.specs.declared.command.Chance.TheVariants.{Tape, Seed}
use Rattle.smp_words.specs.Words.{command_of}
use Rattle.smp_app.specs.declared.outputs.OutputFile.{OutputFile}
use Rattle.smp_plan.specs.Plans.{Survey, quick_design}
use Rattle.smp_app.specs.Drawn.{Drawn}
use Rattle.smp_app.specs.Texts.{ids_text, steps_text, log_text, sample_text, report_text, migrated_text, demo_text, probabilities_text}
use Rattle.smp_app.specs.Texts.{accepted_text, joints_text}
use Rattle.smp_app.specs.Deliveries.{Outputs}
use Rattle.smp_cases.specs.Demo.{demo_design_text, demo_frame_text, demo_key}
use Rattle.smp_plan.specs.Inputs.{DesignSource, input_names, Held, HeldForJoint, Given, Made}
use Rattle.smp_plan.specs.Inputs.{FrameSource, FrameHeld, FrameForJoint, FrameMade}

-- a file that is written, by its name: a text of what is drawn
pub record DrawnFile : Type 0 where
  pub name : List ℕ
  pub text : Drawn → List ℕ

-- What leads through the draw tree: the values of the tape of a name, the words of a seed, the steps of the log of a name, of version 1
-- alone or of either version, or the steps of the stratum of this number, counted from 1, in such a log of version 2.
pub data Source : Type 0 where
  ByTape : (name : List ℕ) → Source
  BySeed : (seed : List ℕ) → Source
  ByLog : (name : List ℕ) → Source
  ByOldLog : (name : List ℕ) → Source
  BySection : (name : List ℕ) → (number : ℕ) → Source

abbrev pub source_of : Chance → Source
source_of (Tape name) = ByTape name
source_of (Seed seed) = BySeed seed

-- a log, or one stratum of it
abbrev pub log_source : List ℕ → Option ℕ → Source
log_source name None = ByLog name
log_source name (Some number) = BySection name number

-- How a command goes on from the plan. It puts a text of it; or it selects by a source, writes files, and puts a text.
pub data Work : Type 0 where
  Lists : (text : Survey → List ℕ) → Work
  Draws : (source : Source) → (files : List DrawnFile) → (put : Drawn → List ℕ) → Work

pub record Job : Type 0 where
  pub design : DesignSource
  pub frame : FrameSource
  pub work : Work

-- ---- the table

-- the job of a design and a frame that files hold
abbrev pub held_job : List ℕ → List ℕ → Work → Job
held_job design frame work = record { design = Held design; frame = FrameHeld frame; work = work }

-- the work of each command
abbrev pub job_of : Command → Job
job_of (commands.Quick a) = record {
  design = Given (quick_design a.n);
  frame = FrameHeld a.frame;
  work = Draws (ByTape a.tape) (record { name = a.out; text = ids_text } ∷ []) steps_text;
}
job_of (commands.Draw a) = held_job a.design a.frame
    (Draws (source_of a.chance)
    (record { name = a.log; text = log_text } ∷ record { name = a.sample; text = sample_text } ∷ [])
    report_text)
job_of (commands.Probs a) = held_job a.design a.frame (Lists probabilities_text)
job_of (commands.Check a) = held_job a.design a.frame (Lists accepted_text)
job_of (commands.Joint a) = record {
  design = HeldForJoint a.design;
  frame = FrameForJoint a.frame;
  work = Lists joints_text;
}
job_of (commands.Replay a) = held_job a.design a.frame
    (Draws (log_source a.log a.stratum) (record { name = a.sample; text = sample_text } ∷ []) report_text)
job_of (commands.Migrate a) = held_job a.design a.frame
    (Draws (ByOldLog a.log) (record { name = a.to; text = log_text } ∷ []) migrated_text)
job_of (commands.Demo a) = record {
  design = Made (demo_design_text a.n);
  frame = FrameMade (demo_frame_text a.n a.seed);
  work = Draws (BySeed (demo_key a.seed)) [] demo_text;
}

-- the work that some words ask for, the program's name first
abbrev pub job_for : List (List ℕ) → Option Job
job_for words = option_map job_of (command_of words)

-- ---- what a job reads and writes

abbrev pub source_names : Source → List (List ℕ)
source_names (ByTape name) = name ∷ []
source_names (BySeed seed) = []
source_names (ByLog name) = name ∷ []
source_names (ByOldLog name) = name ∷ []
source_names (BySection name number) = name ∷ []

abbrev pub drawn_names : Work → List (List ℕ)
drawn_names (Lists text) = []
drawn_names (Draws source files put) = source_names source

-- the names of the files that are read, in the order of work
abbrev pub inputs_of : Job → List (List ℕ)
inputs_of job = input_names job.design job.frame ++ drawn_names job.work

-- the names of the files that are written, in their order
abbrev pub written_names : Work → List (List ℕ)
written_names (Lists text) = []
written_names (Draws source files put) = map (λ file. file.name) files

abbrev pub outputs_of : Job → List (List ℕ)
outputs_of job = written_names job.work

-- those that some words have read
abbrev pub inputs_by : Option Job → List (List ℕ)
inputs_by None = []
inputs_by (Some job) = inputs_of job

abbrev pub inputs_named : List (List ℕ) → List (List ℕ)
inputs_named words = inputs_by (job_for words)

-- all files that a job names, and those that some words name: none for `demo`, and none for words that are those of no command
abbrev pub files_of : Job → List (List ℕ)
files_of job = inputs_of job ++ outputs_of job

abbrev pub files_by : Option Job → List (List ℕ)
files_by None = []
files_by (Some job) = files_of job

abbrev pub files_named : List (List ℕ) → List (List ℕ)
files_named words = files_by (job_for words)

-- what is written and put of what is drawn
abbrev pub written_by : Drawn → DrawnFile → OutputFile
written_by drawn file = record { name = file.name; bytes = file.text drawn }

abbrev pub outputs_by : List DrawnFile → (Drawn → List ℕ) → Drawn → Outputs
outputs_by files put drawn = record { files = map (written_by drawn) files; put = put drawn }
