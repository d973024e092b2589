use Rattle.std.proofs.Common.{◌∙◌}
use Rattle.clap.specs.Words.{found_of}
use Rattle.smp_words.proofs.Rows.{all_in}
use Rattle.smp_words.proofs.command_line.values_of.Goals as goal

pub returns : goal.returns
returns c = c.get_strs.ensures ∙ all_in c.args.name.now (found_of c.args.matches.now).entries.items
