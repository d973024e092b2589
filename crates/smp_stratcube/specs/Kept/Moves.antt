-- What the code keeps of a move.
use Rattle.std.specs.Prelude.{◌≡◌, ℕ, ◌<◌, ◌≤◌, ◌/◌, Bool, Option, Some, List, length, slice_index}
use Prim.Native.Nat.{◌∣◌}
use Rattle.std.specs.Option.{is_some}
use Rattle.smp_frac.specs.Limits.{most_denominator}
use Rattle.smp_moves.specs.declared.lines.Line.{Line as LineOfPlaces}
use Rattle.smp_moves.specs.declared.reaches.Reach.{Reach}
use Rattle.smp_moves.specs.Moves.{Line, IsLine, entry_of, independent, move, wide, turned}
use Rattle.smp_moves.specs.Ends.{reach}
use Rattle.smp_moves.specs.Answers.{IsPadded, line_of}
use Rattle.smp_moves.specs.Kept.Ends.{HasSmallEntries}
use Rattle.smp_stratcube.specs.declared.ends.Gathered.{Gathered}
use Rattle.smp_stratcube.specs.declared.fronts.Front.{Front}
use Rattle.smp_stratcube.specs.declared.values.Value.{Value}
use Rattle.smp_stratcube.specs.declared.steps.Move.{Move}
use Rattle.smp_moves.specs.declared.steps.Next.{Next as AnswerOf}
use Rattle.smp_moves.specs.declared.steps.Next.TheVariants as answers
use Rattle.smp_stratcube.specs.Units.{Units}
use Rattle.smp_stratcube.specs.Values.{AreValues, over_common, value, common_of}
use Rattle.smp_stratcube.specs.States.{Flight}
use Rattle.smp_stratcube.specs.Kept.Computed.{chosen, moved_value, next}
use Rattle.smp_stratcube.specs.Moves.{setting_of}
use Rattle.smp_stratcube.specs.Kept.Fronts.{front_units}
use Rattle.smp_stratcube.specs.Kept.Gates.{gated, gathered}
use Rattle.smp_moves.specs.Kept.Computed.{next_along}

-- a line of these values over a common denominator, and how far it can be followed
pub record IsAlong (count : ℕ) (values : List Value) (line : LineOfPlaces) (den : ℕ) (r : Reach) : Type 0 where
  pub are : AreValues count values
  pub some : 1 ≤ den
  pub narrow : den ≤ most_denominator
  pub is_line : IsLine (over_common den values) (line_of line)
  pub padded : IsPadded line
  pub small : HasSmallEntries line
  pub is_reach : r ≡ reach (over_common den values) (line_of line)
  pub divides : (j : ℕ) → j < length (line_of line).units → (value values (slice_index (line_of line).units j)).at.den ∣ den

-- the values at its end
pub record AreMoved (old new : List Value) (line : Line) (den : ℕ) (r : Reach) : Type 0 where
  pub count : length new ≡ length old
  pub each : (k : ℕ) → k < length old → value new k ≡ moved_value (value old k) den r (entry_of line k)

-- The common denominator there as the code gathers it: in it is the denominator of the units that the line moves, without what this has in
-- common with their numerators.
abbrev pub joined : ℕ → Gathered → Option ℕ
joined full g = gated g.common (full / g.shared)

-- whether the common denominator of the first units fits there
abbrev pub end_gathered : Units → List Value → Front → Line → ℕ → Reach → Bool
end_gathered units values front line den r =
    is_some (gathered units (λ k. moved_value (value values k) den r (entry_of line k)) (Some 1) (front_units front))

-- a move of a state's next step, with what is known of its line
pub record IsMoveOf (units : Units) (f : Flight) (m : Move) : Type 0 where
  pub next : next units f ≡ move (next_along (setting_of units) f.values (line_of m.line))
  pub den : m.den ≡ common_of units f.values (line_of m.line).units
  pub plus : m.plus_weight ≡ (next_along (setting_of units) f.values (line_of m.line)).plus_weight
  pub minus : m.minus_weight ≡ (next_along (setting_of units) f.values (line_of m.line)).minus_weight
  pub up : IsAlong (length units.members) f.values m.line m.den m.up
  pub down : m.down ≡ reach (over_common m.den f.values) (turned (line_of m.line))

-- a step of the flight as the code answers it
abbrev pub Answer : Type 0
Answer = AnswerOf Move

-- the answer is the next step
abbrev pub IsStep : Units → Flight → Answer → Type 0
IsStep units f (answers.Move m) = IsMoveOf units f m
IsStep units f answers.Independent = next units f ≡ independent
IsStep units f answers.Wide = next units f ≡ wide

-- the values at the end that is chosen
pub record HasGone (units : Units) (f : Flight) (m : Move) (plus : Bool) (new : List Value) : Type 0 where
  pub is : new ≡ (chosen units f (next_along (setting_of units) f.values (line_of m.line)) plus).values
