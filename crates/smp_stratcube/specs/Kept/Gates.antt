-- Common multiples that are held to the gate.
use Rattle.std.specs.Prelude.{ℕ, ◌≤◌, nat_le, ◌&&◌, if◌then◌else◌, Option, Some, None, List, fold, ⊤}
use Rattle.smp_frac.specs.Limits.{most_denominator}
use Rattle.smp_prob.specs.Given.{least_multiple}
use Rattle.smp_values.specs.Values.{fractional}
use Rattle.smp_stratcube.specs.declared.values.Value.{Value}
use Rattle.smp_stratcube.specs.Units.{Units, first}

-- the least common multiple of a number and another, where both are there and it is at most the gate
abbrev pub gated : Option ℕ → ℕ → Option ℕ
gated None n = None
gated (Some m) n =
    if nat_le (least_multiple m n) most_denominator then Some (least_multiple m n) else None

abbrev pub IsSome : Option ℕ → Type 0
IsSome None = ⊤
IsSome (Some m) = 1 ≤ m

-- that of a common denominator and the numbers that a unit of this value adds to it
abbrev pub with_unit : ℕ → Value → Option ℕ → Option ℕ
with_unit first v common =
    if v.touched && fractional v.at.den v.at.num then gated (gated common first) v.at.den
    else common

-- that of a common denominator and the numbers that some units of these values add to it
abbrev pub gathered : Units → (ℕ → Value) → Option ℕ → List ℕ → Option ℕ
gathered units at = fold (λ common k. with_unit (first units k) (at k) common)

-- a number that is at most the gate
abbrev pub held : ℕ → Option ℕ
held m = if nat_le m most_denominator then Some m else None
