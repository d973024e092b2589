use Rattle.std.proofs.Common.{◌≡◌, drop}
use Rattle.clap.specs.Words.{app_of}
use Rattle.smp_words.specs.{Views.{names_view}, CommandLine.{with_options}}
use Rattle.smp_words.proofs.command_line.add_options.Given as goal

abbrev pub invariant-loop-name : goal.invariant-loop-name
invariant-loop-name l =
    with_options (app_of l.command) (names_view (drop l.name-index l.names)) ≡ with_options (app_of l.fn.command) (names_view l.names)
