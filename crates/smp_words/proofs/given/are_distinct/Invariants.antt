use Rattle.std.proofs.Common.{◌≡◌, map, drop}
use Rattle.smp_words.specs.Words.{all_distinct}
use Rattle.smp_words.proofs.given.are_distinct.Given as goal

abbrev pub invariant-loop-i : goal.invariant-loop-i
invariant-loop-i l = all_distinct (map (λ n. n.now) (drop l.i l.names)) ≡ all_distinct (map (λ n. n.now) l.names)
