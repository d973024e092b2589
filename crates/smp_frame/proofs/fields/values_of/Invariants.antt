use Rattle.std.proofs.Common.{◌≡◌, drop}
use Rattle.csv.specs.Records.{fields_of}
use Rattle.smp_frame.specs.Fields.{values_in}
use Rattle.smp_frame.proofs.Front.{with_front}
use Rattle.smp_frame.proofs.fields.values_of.Given as goal

abbrev pub invariant-loop-column : goal.invariant-loop-column
invariant-loop-column l = with_front l.values.items (values_in l.number (fields_of l.row) (drop l.column-index l.columns)) ≡ values_in l.number (fields_of l.row) l.columns
