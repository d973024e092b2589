use Rattle.smp_frame.proofs.RecordFields.{field_is_text}
use Rattle.smp_frame.proofs.records.text.Goals as goal

pub from_utf8_unchecked-requires : goal.from_utf8_unchecked-requires
from_utf8_unchecked-requires c = rw c.field.ensures (field_is_text _ c.args.place c.requires)
