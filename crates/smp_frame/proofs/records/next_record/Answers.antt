use Rattle.smp_frame.proofs.Rows.{took, reads_on}
use Rattle.smp_frame.proofs.records.next_record.Goals as goal

pub returns-in-Ok-clause-reading : goal.returns-in-Ok-clause-reading
returns-in-Ok-clause-reading c =
    let reading = c.requires in
    reads_on c.args.reader.now c.read_byte_record.new.self c.in-Ok.found _ reading (c.in-Ok.ensures.reads reading.trim reading.ready) (c.in-Ok.ensures.ready reading.trim) c.in-Ok.ensures.flexible

pub returns-in-Ok-clause-takes : goal.returns-in-Ok-clause-takes
returns-in-Ok-clause-takes c =
    let reading = c.requires in
    took c.args.reader.now c.read_byte_record.new.self c.in-Ok.found _ reading (c.in-Ok.ensures.reads reading.trim reading.ready)
