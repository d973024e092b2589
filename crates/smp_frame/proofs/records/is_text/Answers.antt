use Rattle.smp_frame.proofs.RecordFields.{ascii_fields}
use Rattle.smp_frame.proofs.records.is_text.Goals as goal

pub returns-then-is_ascii : goal.returns-then-is_ascii
returns-then-is_ascii c = ascii_fields 0 c.args.row.now.ends c.args.row.now.bytes (rw c.as_slice.ensures at c.if-is_ascii.ensures.cases)
