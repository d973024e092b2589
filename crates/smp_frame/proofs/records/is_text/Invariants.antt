use Rattle.std.proofs.Common.{◌≡◌, drop}
use Rattle.std.specs.{List.{list_all}, Str.{is_utf8}}
use Rattle.csv.specs.Records.{fields_of}
use Rattle.smp_frame.proofs.records.is_text.Given as goal

abbrev pub invariant-loop-place : goal.invariant-loop-place
invariant-loop-place l = list_all is_utf8 (drop l.place (fields_of l.row)) ≡ list_all is_utf8 (fields_of l.row)
