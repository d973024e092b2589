use Rattle.std.proofs.Common.{rules}
use Rattle.smp_caseread.proofs.Heads.{no_line}
use Rattle.smp_caseread.proofs.lines.Line.of_text.Goals as goal

pub returns-in_default-strip_prefix-4-clause-none : goal.returns-in_default-strip_prefix-4-clause-none
returns-in_default-strip_prefix-4-clause-none c none =
    no_line c.args.text.now (search rules) (search rules) (search rules) (search rules) (search rules) (search rules) (search rules)
    (search (rules, c.in_default-strip_prefix-4.ensures.cases)) (search rules)
