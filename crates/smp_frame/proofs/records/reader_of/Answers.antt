use Rattle.smp_frame.proofs.Rows.{fresh}
use Rattle.smp_frame.proofs.records.reader_of.Goals as goal

pub returns-clause-rows : goal.returns-clause-rows
returns-clause-rows c = fresh c.from_reader.result c.args.bytes.now c.without_marks.result.now c.without_marks.ensures c.from_reader.ensures.state c.from_reader.ensures.source
