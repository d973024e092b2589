-- What the words of a command line ask for: the table of the commands.
use Rattle.std.specs.Prelude.{◌≡◌, ℕ, ◌^◌, ◌≤◌, List, [], ◌∷◌, Bool, true, false, not, ◌&&◌, nat_le}
use Rattle.std.specs.Prelude.{Option, Some, None, Result, Ok, Err, option_map, unwrap_or, if◌then◌else◌, IfSome, codes}
use Rattle.std.specs.List.{list_any, list_all}
use Rattle.std.specs.Str.{bytes_eq}
use Rattle.smp_frac.specs.Limits.{most_rows}
use Rattle.clap.specs.Words.{Row, first_of, all_of}
use Rattle.hex.specs.Hex.{decode_sized}
use Rattle.hex.specs.declared.error.FromHexError.{FromHexError}
use Rattle.smp_frac.specs.Decimals.{number_below}
use Rattle.smp_words.specs.CommandLine.{words_of}
use Rattle.smp_words.specs.declared.command.DesignArguments.{DesignArguments}
use Rattle.smp_words.specs.declared.command.Command.{Command}
use Rattle.smp_words.specs.declared.command.Command.TheVariants.{Quick, Draw, Replay, Migrate, Probs, Check, Joint, Demo}
use Rattle.smp_words.specs.declared.command.Chance.{Chance}
use Rattle.smp_words.specs.declared.command.Chance.TheVariants.{Tape, Seed}

-- what a command line gives: the command, the words after it, and the value of each option that is there
pub record Given : Type 0 where
  pub command : Option (List ℕ)
  pub rest : List (List ℕ)
  pub design : Option (List ℕ)
  pub frame : Option (List ℕ)
  pub tape : Option (List ℕ)
  pub seed : Option (List ℕ)
  pub log : Option (List ℕ)
  pub sample : Option (List ℕ)
  pub stratum : Option (List ℕ)
  pub to : Option (List ℕ)

-- what is given, by the values that clap found
abbrev pub given_of : List Row → Given
given_of rows = record {
  command = first_of (codes "command") rows;
  rest = unwrap_or (all_of (codes "rest") rows) [];
  design = first_of (codes "design") rows;
  frame = first_of (codes "frame") rows;
  tape = first_of (codes "tape") rows;
  seed = first_of (codes "seed") rows;
  log = first_of (codes "log") rows;
  sample = first_of (codes "sample") rows;
  stratum = first_of (codes "stratum") rows;
  to = first_of (codes "to") rows;
}

-- every option: its name, and its value where it is there
abbrev pub options_of : Given → List (List ℕ × Option (List ℕ))
options_of g =
    (codes "design", g.design) ∷ (codes "frame", g.frame) ∷ (codes "tape", g.tape) ∷ (codes "seed", g.seed)
    ∷ (codes "log", g.log) ∷ (codes "sample", g.sample) ∷ (codes "stratum", g.stratum) ∷ (codes "to", g.to) ∷ []

infixl 10 ◌>>=◌
-- one thing, and then the next one, where the first is there
abbrev pub ◌>>=◌ : {A B : Type 0} → Option A → (A → Option B) → Option B
(Some x) >>= f = f x
None >>= f = None

-- something, where a condition holds
abbrev pub when : {A : Type 0} → Bool → Option A → Option A
when true x = x
when false x = None

-- an option has one of these names, or isn't there
abbrev pub is_among : List (List ℕ) → List ℕ × Option (List ℕ) → Bool
is_among names (name, Some value) = list_any (bytes_eq name) names
is_among names (name, None) = true

-- each option has one of these names, or isn't there
abbrev pub are_among : List (List ℕ) → List (List ℕ × Option (List ℕ)) → Bool
are_among names options = list_all (is_among names) options

-- every option that is there has one of these names
abbrev pub has_only : List (List ℕ) → Given → Bool
has_only names g = are_among names (options_of g)

-- whether there are no words
abbrev pub is_empty : List (List ℕ) → Bool
is_empty [] = true
is_empty (word ∷ words) = false

-- no two texts are the same
abbrev pub all_distinct : List (List ℕ) → Bool
all_distinct [] = true
all_distinct (name ∷ names) = not (list_any (bytes_eq name) names) && all_distinct names

-- a number, if it lies in a range
abbrev pub in_range : ℕ → ℕ → ℕ → Option ℕ
in_range least most n = when (nat_le least n && nat_le n most) (Some n)

-- the number below 2^128 that decimal digits write, if it lies in a range
abbrev pub number_from : ℕ → ℕ → List ℕ → Option ℕ
number_from least most text = number_below (2 ^ 128) text >>= in_range least most

-- the seed of the bytes that were decoded
abbrev pub seed_of : Result (List ℕ) FromHexError → Option (List ℕ)
seed_of (Ok bytes) = Some bytes
seed_of (Err error) = None

-- the seed that 64 hexadecimal digits write, two digits a byte and in either case
abbrev pub seed_from : List ℕ → Option (List ℕ)
seed_from text = seed_of (decode_sized text 32)

-- ---- the table of the commands

-- FRAME N TAPE OUT, with N from 1 to 200,000
abbrev pub quick_words : List (List ℕ) → Option Command
quick_words (frame ∷ n ∷ tape ∷ out ∷ []) =
    when (all_distinct (frame ∷ tape ∷ out ∷ []))
    (number_from 1 most_rows n >>= λ size. Some
    (Quick (record { frame = frame; n = size; tape = tape; out = out })))
quick_words other = None

-- the fewest units of the frame that `demo` makes
abbrev pub least_demo_units : ℕ
least_demo_units = 30

-- the most units of the frame that `demo` makes
abbrev pub most_demo_units : ℕ
most_demo_units = 100000

-- N SEED, with N from 30 to 100,000 and SEED below 2^64
abbrev pub demo_words : List (List ℕ) → Option Command
demo_words (n ∷ seed ∷ []) = do
  units ← number_from least_demo_units most_demo_units n
  start ← number_from 0 18446744073709551615 seed
  Some (Demo (record { n = units; seed = start }))
demo_words other = None

-- the files of a design and a frame
abbrev pub design_arguments : Given → Option DesignArguments
design_arguments g = when (is_empty g.rest) (do
  design ← g.design
  frame ← g.frame
  when (all_distinct (design ∷ frame ∷ [])) (Some (record { design = design; frame = frame })))

-- the files that `draw`, `replay` and `migrate` name, of which the last one is written
pub record LogFiles : Type 0 where
  pub design : List ℕ
  pub frame : List ℕ
  pub log : List ℕ
  pub out : List ℕ

-- the files of a command on a log, where all are named and no other word is there
abbrev pub log_files : Given → Option (List ℕ) → Option LogFiles
log_files g last = when (is_empty g.rest) (do
  design ← g.design
  frame ← g.frame
  log ← g.log
  out ← last
  Some (record { design = design; frame = frame; log = log; out = out }))

-- no two of these have the same name
abbrev pub have_own_names : LogFiles → Bool
have_own_names files = all_distinct (files.design ∷ files.frame ∷ files.log ∷ files.out ∷ [])

-- the files of a command on a log, where no two of them have the same name
abbrev pub own_log_files : Given → Option (List ℕ) → Option LogFiles
own_log_files g last = log_files g last >>= λ files. when (have_own_names files) (Some files)

-- a draw to these files
abbrev pub draw_command : LogFiles → Chance → Command
draw_command files chance = Draw (record {
  design = files.design;
  frame = files.frame;
  chance = chance;
  log = files.log;
  sample = files.out;
})

-- exactly one of a tape and a seed
abbrev pub draw_by : LogFiles → Option (List ℕ) → Option (List ℕ) → Option Command
draw_by files (Some tape) None =
    when (all_distinct (files.design ∷ files.frame ∷ tape ∷ files.log ∷ files.out ∷ []))
    (Some (draw_command files (Tape tape)))
draw_by files None (Some seed) =
    when (have_own_names files) (seed_from seed >>= λ key. Some (draw_command files (Seed key)))
draw_by files None None = None
draw_by files (Some tape) (Some seed) = None

-- the command `draw`, where its files are given and exactly one of a tape and a seed
abbrev pub draw : Given → Option Command
draw g = log_files g g.sample >>= λ files. draw_by files g.tape g.seed

-- the number of a stratum, from 1 to 200,000, where one is given
abbrev pub stratum_from : Option (List ℕ) → Option (Option ℕ)
stratum_from (Some number) = option_map Some (number_from 1 most_rows number)
stratum_from None = Some None

-- a replay to these files, of all strata or of one
abbrev pub replay_command : LogFiles → Option ℕ → Command
replay_command files stratum = Replay (record {
  design = files.design;
  frame = files.frame;
  log = files.log;
  sample = files.out;
  stratum = stratum;
})

-- the command `replay`, where its files are given with names of their own
abbrev pub replay : Given → Option Command
replay g = own_log_files g g.sample >>= λ files. option_map (replay_command files) (stratum_from g.stratum)

-- a log is read, and another one is written of it
abbrev pub migrate_command : LogFiles → Command
migrate_command files = Migrate (record { design = files.design; frame = files.frame; log = files.log; to = files.out })

-- the command `migrate`, where its files are given with names of their own
abbrev pub migrate : Given → Option Command
migrate g = option_map migrate_command (own_log_files g g.to)

-- the options that a command takes
abbrev pub options_for : List ℕ → List (List ℕ)
options_for name =
    if bytes_eq name (codes "draw") then codes "design" ∷ codes "frame" ∷ codes "tape" ∷ codes "seed" ∷ codes "log"
    ∷ codes "sample" ∷ []
    else if bytes_eq name (codes "replay") then codes "design" ∷ codes "frame" ∷ codes "log" ∷ codes "sample" ∷
    codes "stratum" ∷ []
    else if bytes_eq name (codes "migrate") then codes "design" ∷ codes "frame" ∷ codes "log" ∷ codes "to" ∷ []
    else if bytes_eq name (codes "probs") then codes "design" ∷ codes "frame" ∷ []
    else if bytes_eq name (codes "check") then codes "design" ∷ codes "frame" ∷ []
    else if bytes_eq name (codes "joint") then codes "design" ∷ codes "frame" ∷ []
    else []

-- what stands beside the word of a command
abbrev pub by_name : List ℕ → Given → Option Command
by_name name g =
    if bytes_eq name (codes "quick") then quick_words g.rest
    else if bytes_eq name (codes "draw") then draw g
    else if bytes_eq name (codes "replay") then replay g
    else if bytes_eq name (codes "migrate") then migrate g
    else if bytes_eq name (codes "probs") then option_map Probs (design_arguments g)
    else if bytes_eq name (codes "check") then option_map Check (design_arguments g)
    else if bytes_eq name (codes "joint") then option_map Joint (design_arguments g)
    else if bytes_eq name (codes "demo") then demo_words g.rest
    else None

-- what is given asks for: a command that takes each option that is there
unfoldable pub command_given : Given → Option Command
command_given g = g.command >>= λ name. when (has_only (options_for name) g) (by_name name g)

-- the command that some words give, the program's name first
unfoldable pub command_of : List (List ℕ) → Option Command
command_of words = words_of words >>= λ rows. command_given (given_of rows)

-- ---- the files of a command

-- these files, and before them that of a tape, where the draws come from one
abbrev pub with_tape : Chance → List (List ℕ) → List (List ℕ)
with_tape (Tape name) names = name ∷ names
with_tape (Seed key) names = names

-- the files of a command, in the order of its work
abbrev pub names_of : Command → List (List ℕ)
names_of (Quick a) = a.frame ∷ a.tape ∷ a.out ∷ []
names_of (Draw a) = a.design ∷ a.frame ∷ with_tape a.chance (a.log ∷ a.sample ∷ [])
names_of (Replay a) = a.design ∷ a.frame ∷ a.log ∷ a.sample ∷ []
names_of (Migrate a) = a.design ∷ a.frame ∷ a.log ∷ a.to ∷ []
names_of (Probs a) = a.design ∷ a.frame ∷ []
names_of (Check a) = a.design ∷ a.frame ∷ []
names_of (Joint a) = a.design ∷ a.frame ∷ []
names_of (Demo a) = []

-- the units that a command itself asks for, or its stratum
abbrev pub IsSized : Command → Type 0
IsSized (Quick arguments) = (1 ≤ arguments.n) × (arguments.n ≤ most_rows)
IsSized (Replay arguments) = IfSome arguments.stratum (λ number. (1 ≤ number) × (number ≤ most_rows))
IsSized (Demo arguments) = (least_demo_units ≤ arguments.n) × (arguments.n ≤ most_demo_units)
IsSized other = Unit {0}

-- No two files of a command have the same name. `quick` asks for 1 to 200,000 units, `demo` for 30 to 100,000, and `replay` for all
-- strata or one with a number from 1 to 200,000.
pub record IsAsked (command : Command) : Type 0 where
  pub distinct : all_distinct (names_of command) ≡ true
  pub sized : IsSized command
