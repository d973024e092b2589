use Rattle.std.proofs.Common.{◌≡◌, map, drop}
use Rattle.smp_words.specs.{Views.{named_view, names_view}, Words.{are_among}}
use Rattle.smp_words.proofs.given.are_among.Given as goal

abbrev pub invariant-loop-name : goal.invariant-loop-name
invariant-loop-name l =
    are_among (names_view l.names) (map named_view (drop l.name-index l.options)) ≡ are_among (names_view l.names) (map named_view l.options)
