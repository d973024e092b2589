use Rattle.std.proofs.Common.{◌≡◌, ◌+◌, length, map, string_bytes}
use Rattle.smp_frame.specs.Kept.Ids.{named}
use Rattle.smp_frame.proofs.Named.{named_behind}
use Rattle.smp_frame.proofs.units.name_units.Given as goal

-- the units so far have their ids, and the others get those that are left
abbrev pub invariant-loop-id : goal.invariant-loop-id
invariant-loop-id l =
    record {
      paired : l.place + length (map string_bytes l.id-iterator) ≡ length l.units.items;
      units : named_behind l.place l.units.items (map string_bytes l.id-iterator) ≡ named l.fn.units.items (map string_bytes l.fn.seen.keys);
    }
