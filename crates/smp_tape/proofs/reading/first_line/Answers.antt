use Rattle.std.proofs.Common.{sym}
use Rattle.smp_frac.proofs.Shorter.{shorter}
use Rattle.smp_tape.proofs.FirstLine.{lines_in-no_cut, lines_in-first}
use Rattle.smp_tape.proofs.reading.first_line.Goals as goal

pub returns-in-Some-clause-lines : goal.returns-in-Some-clause-lines
returns-in-Some-clause-lines c = lines_in-first c.args.text.now c.in-Some.parts.0.now c.in-Some.parts.1.now c.requires (sym c.in-Some.ensures)

pub returns-in-Some-clause-shorter : goal.returns-in-Some-clause-shorter
returns-in-Some-clause-shorter c = shorter 10 c.args.text.now c.in-Some.parts.0.now c.in-Some.parts.1.now (sym c.in-Some.ensures)

pub returns-in-None-clause-lines : goal.returns-in-None-clause-lines
returns-in-None-clause-lines c = lines_in-no_cut c.args.text.now c.requires (sym c.in-None.ensures)
