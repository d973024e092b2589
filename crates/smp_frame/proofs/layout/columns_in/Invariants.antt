use Rattle.std.proofs.Common.{◌≡◌, drop}
use Rattle.csv.specs.Records.{fields_of}
use Rattle.smp_frame.specs.Layouts.{columns_in}
use Rattle.smp_frame.proofs.Front.{with_front}
use Rattle.smp_frame.proofs.layout.columns_in.Given as goal

abbrev pub invariant-loop-name : goal.invariant-loop-name
invariant-loop-name l = with_front l.items.items (columns_in (fields_of l.header) (drop l.name-index l.names)) ≡ columns_in (fields_of l.header) l.names
