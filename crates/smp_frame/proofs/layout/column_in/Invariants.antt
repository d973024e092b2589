use Rattle.std.proofs.Common.{◌≡◌, drop}
use Rattle.csv.specs.Records.{fields_of}
use Rattle.smp_frame.specs.Layouts.{places_from}
use Rattle.smp_frame.proofs.Places.{with_found}
use Rattle.smp_frame.proofs.layout.column_in.Given as goal

abbrev pub invariant-loop-place : goal.invariant-loop-place
invariant-loop-place l = with_found l.found (places_from l.place l.name (drop l.place (fields_of l.header))) ≡ places_from 0 l.name (fields_of l.header)
