use Rattle.std.proofs.Common.{◌≡◌, [], length, map, string_bytes}
use Rattle.smp_frame.specs.{Frames.{units_from}, Kept.Ids.{named}, Kept.Readers.{IsReading, rows_left}}
use Rattle.smp_frame.proofs.Front.{with_front}
use Rattle.smp_frame.proofs.units.add_units.Given as goal

abbrev pub invariant-loop-number : goal.invariant-loop-number
invariant-loop-number l =
    record {
      reading : IsReading l.reader;
      paired : length l.units.items ≡ length (map string_bytes l.seen.keys);
      units : with_front (named l.units.items (map string_bytes l.seen.keys)) (units_from l.layout l.number (map string_bytes l.seen.keys) (rows_left l.reader)) ≡ units_from l.layout 1 [] (rows_left l.fn.reader);
    }
