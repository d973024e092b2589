-- What is given, as the definitions see it.
use Rattle.std.specs.Prelude.{ℕ, List, [], map, Option, Some, None, option_map}
use Rattle.std.specs.Borrow.{Bor}
use Rattle.smp_words.specs.Words.{Given, LogFiles}
use Rattle.smp_words.specs.declared.given.Given as code
use Rattle.smp_words.specs.declared.words.LogFiles as log_files

abbrev pub option_view : Option (Bor (List ℕ)) → Option (List ℕ)
option_view o = option_map (λ text. text.now) o

abbrev pub rest_view : Option (Bor (List (Bor (List ℕ)))) → List (List ℕ)
rest_view (Some words) = map (λ word. word.now) words.now
rest_view None = []

abbrev pub given_view : code.Given → Given
given_view g = record {
  command = option_view g.command;
  rest = rest_view g.rest;
  design = option_view g.design;
  frame = option_view g.frame;
  tape = option_view g.tape;
  seed = option_view g.seed;
  log = option_view g.log;
  sample = option_view g.sample;
  stratum = option_view g.stratum;
  to = option_view g.to;
}

abbrev pub names_view : List (Bor (List ℕ)) → List (List ℕ)
names_view names = map (λ name. name.now) names

-- an option: its name, and its value where it is there
abbrev pub named_view : Bor (List ℕ) × Option (Bor (List ℕ)) → List ℕ × Option (List ℕ)
named_view option = (option.0.now, option_view option.1)

abbrev pub files_view : log_files.LogFiles → LogFiles
files_view files = record { design = files.design.now; frame = files.frame.now; log = files.log.now; out = files.out.now }
