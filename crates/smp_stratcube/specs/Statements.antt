-- What the laws say.
use Rattle.std.specs.Prelude.{◌≡◌, List}
use Rattle.smp_moves.specs.Moves.{Next}
use Rattle.smp_split.specs.Trees.{Lawful}
use Rattle.smp_stratcube.specs.Units.{Units, IsUnits}
use Rattle.smp_stratcube.specs.States.{Flight, IsBalancing, IsFlying, IsPairing, started}
use Rattle.smp_stratcube.specs.Steps.{stepping}
use Rattle.smp_stratcube.specs.Moves.{setting_of}
use Rattle.smp_stratcube.specs.Cube.{strat_tree}
use Rattle.smp_stratcube.specs.declared.values.Value.{Value}
use Rattle.smp_stratcube.specs.Values.{fractional_units}
use Rattle.smp_stratcube.specs.Pairs.{IsPairOf, first_pair}
use Rattle.smp_stratcube.specs.Balances.{IsBalanced}
use Rattle.smp_stratcube.specs.Counts.{HasCounts}
use Rattle.smp_moves.specs.Steps.{IsNext}

-- each split is lawful
abbrev pub EachLawful : Type 0
EachLawful = (units : Units) → Lawful (strat_tree units) (IsBalancing units)

-- what the flight keeps and the landing gives up, on every path from the start
abbrev pub EachBalanced : Type 0
EachBalanced = (units : Units) → IsUnits units → IsBalanced units (started units)

-- a stratum whose probabilities have a whole sum has that many selected units, on every path from the start
abbrev pub EachCounted : Type 0
EachCounted = (units : Units) → IsUnits units → HasCounts units (started units)

-- the step of a state has the properties of a step
abbrev pub EachNext : Type 0
EachNext =
    (units : Units) (f : Flight) → IsFlying units f
    → IsNext (setting_of units) f (fractional_units f.values) (stepping.next_on units (fractional_units f.values) f)

-- and no other has
abbrev pub OneNext : Type 0
OneNext =
    (units : Units) (f : Flight) → IsFlying units f → (a b : Next) → IsNext (setting_of units) f (fractional_units f.values) a →
    IsNext (setting_of units) f (fractional_units f.values) b → a ≡ b

-- the pair of a pivotal step is the first two fractional units of the first stratum that has two
abbrev pub EachPair : Type 0
EachPair =
    (units : Units) (values : List Value) → IsPairing units values
    → IsPairOf units values (first_pair units (fractional_units values))
