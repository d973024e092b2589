use Rattle.std.proofs.Common.{◌∙◌}
use Rattle.clap.specs.Words.{found_of}
use Rattle.smp_words.proofs.Rows.{first_in}
use Rattle.smp_words.proofs.command_line.value_of.Goals as goal

pub returns : goal.returns
returns c = c.get_str.ensures ∙ first_in c.args.name.now (found_of c.args.matches.now).entries.items
