use Rattle.smp_frame.proofs.RecordFields.{ascii_is_text, not_text, is_text}
use Rattle.smp_frame.proofs.records.is_utf8.Goals as goal

pub returns-then-is_ascii : goal.returns-then-is_ascii
returns-then-is_ascii c = ascii_is_text _ c.if-is_ascii.ensures.cases

pub returns-in-Ok : goal.returns-in-Ok
returns-in-Ok c = is_text _ c.in-Ok.ensures.cases.1

pub returns-in-Err : goal.returns-in-Err
returns-in-Err c = not_text _ c.in-Err.ensures.cases.0
