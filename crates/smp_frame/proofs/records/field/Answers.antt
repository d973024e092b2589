use Rattle.smp_frame.proofs.RecordFields.{field_there, field_beyond}
use Rattle.smp_frame.proofs.records.field.Goals as goal

pub returns-in-Some : goal.returns-in-Some
returns-in-Some c = field_there _ _ _ c.in-Some.ensures.value

pub returns-in-None : goal.returns-in-None
returns-in-None c = field_beyond _ _ c.in-None.ensures.value
