-- The command line as one simple command of the crate clap: a command and up to four further words, and options with one value each.
use Rattle.std.specs.Prelude.{ℕ, List, [], ◌∷◌, Option, Some, None, codes, true}
use Rattle.clap.specs.Words.{App, Row, Rule, Kinds, new_app, new_rule, with_rule, fault_of, matches_of}
use Rattle.clap.specs.declared.builder.ArgAction.TheVariants.{Set, Append}

-- an option with one value
abbrev pub option_rule : List ℕ → Rule
option_rule name = record (new_rule name) { long = Some name; action = Some Set }

-- the first word that is no option: the command
abbrev pub command_rule : Rule
command_rule = record (new_rule (codes "command")) { action = Some Set }

-- the words after the command, up to four
abbrev pub rest_rule : Rule
rest_rule = record (new_rule (codes "rest")) { action = Some Append; range = Some (record { start_inclusive = 0; end_inclusive = 4 }) }

-- a command line without arguments, and without clap's own help and version
abbrev pub plain_app : App
plain_app = let a = new_app (codes "sampler") in record a { top = record a.top { disable_help_flag = true; disable_version_flag = true } }

-- with options of these names
abbrev pub with_options : App → List (List ℕ) → App
with_options app [] = app
with_options app (name ∷ names) = with_options (with_rule app (option_rule name)) names

-- with the command and the words after it
abbrev pub with_positionals : App → App
with_positionals app = with_rule (with_rule app command_rule) rest_rule

-- the names of all options
abbrev pub option_names : List (List ℕ)
option_names =
    codes "design" ∷ codes "frame" ∷ codes "tape" ∷ codes "seed" ∷ codes "log" ∷ codes "sample" ∷ codes "stratum" ∷
    codes "to" ∷ []

-- the command line of this program
abbrev pub sampler_app : App
sampler_app = with_options (with_positionals plain_app) option_names

-- the matches where no fault is found, and else nothing
abbrev pub without_fault : Kinds → List Row → Option (List Row)
without_fault [] rows = Some rows
without_fault (kind ∷ kinds) rows = None

-- what clap promises of some words, the program's name first: the values of each argument, or nothing where it finds a fault
unfoldable pub words_of : List (List ℕ) → Option (List Row)
words_of words = without_fault (fault_of sampler_app words) (matches_of sampler_app words)
