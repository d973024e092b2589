use Rattle.std.proofs.Common.{◌≡◌, map, drop, take}
use Rattle.std.specs.{List.{position_or_len}, Str.{bytes_eq}}
use Rattle.smp_strata.specs.Appearances.{distinct}
use Rattle.smp_strata.proofs.Appearances.{with_new}
use Rattle.smp_strata.proofs.names.numbers_of.Given as goal

abbrev pub invariant-loop-text : goal.invariant-loop-text
invariant-loop-text l = record {
  seen : with_new (map (λ n. n.now) l.seen.keys) (map (λ r. r.now) (drop l.text-index l.texts)) ≡ distinct (map (λ r. r.now) l.texts);
  numbers : l.numbers.items ≡ map (λ t. position_or_len (bytes_eq t.now) (distinct (map (λ r. r.now) l.texts))) (take l.text-index l.texts);
}
