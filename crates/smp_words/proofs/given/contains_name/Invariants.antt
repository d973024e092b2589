use Rattle.std.proofs.Common.{◌≡◌, map, drop}
use Rattle.std.specs.{List.{list_any}, Str.{bytes_eq}}
use Rattle.smp_words.proofs.given.contains_name.Given as goal

abbrev pub invariant-loop-other : goal.invariant-loop-other
invariant-loop-other l = list_any (bytes_eq l.name) (map (λ n. n.now) (drop l.other-index l.names)) ≡ list_any (bytes_eq l.name) (map (λ n. n.now) l.names)
