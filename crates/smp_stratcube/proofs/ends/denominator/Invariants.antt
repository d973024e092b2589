use Rattle.std.proofs.Common.{◌≡◌, ℕ, Option, Some, fold, take}
use Rattle.smp_stratcube.specs.{Units.{first}, Values.{value}, Kept.Gates.{IsSome, gated, gathered}, Kept.Fronts.{front_units}}
use Rattle.smp_stratcube.proofs.ends.denominator.Given as goal

-- the common denominator so far
abbrev pub invariant-loop-place : goal.invariant-loop-place
invariant-loop-place l = (l.common ≡ gathered l.units (value l.values) (Some 1) (take l.place l.front.units)) × IsSome l.common

-- that with the strata so far
abbrev pub invariant-loop-entry : goal.invariant-loop-entry
invariant-loop-entry l =
    (l.common ≡ fold (λ (m : Option ℕ) k. gated m (first l.units k)) (gathered l.units (value l.values) (Some 1) (front_units l.front)) (take l.entry l.line.units))
    × IsSome l.common
