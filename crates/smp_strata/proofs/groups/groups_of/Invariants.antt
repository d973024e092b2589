use Rattle.std.proofs.Common.{◌≡◌, map, length}
use Rattle.std.specs.List.{range_with_len}
use Rattle.smp_strata.specs.Kept.Groups.{places_below, AreAmong}
use Rattle.smp_strata.proofs.groups.groups_of.Given as goal

abbrev pub invariant-loop-place : goal.invariant-loop-place
invariant-loop-place l = record {
  groups : l.groups.items ≡ map (places_below l.numbers l.place) (range_with_len 0 l.count);
  among : AreAmong l.numbers l.place l.among.items;
  paired : length l.among.items ≡ l.place;
}
