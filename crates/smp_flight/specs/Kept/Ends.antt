-- What the code keeps of the ends of a line.
use Rattle.std.specs.Prelude.{ℕ, ◌≤◌, nat_le, ◌&&◌, Bool, cond, if◌then◌else◌}
use Rattle.smp_frac.specs.Limits.{most_entry, most_denominator}
use Rattle.smp_prob.specs.Shares.{Shares}
use Rattle.smp_moves.specs.Moves.{Line, Next, move, turned, wide}
use Rattle.smp_moves.specs.Ends.{end_of, move_along}
use Rattle.smp_flight.specs.declared.ends.End.{End}
use Rattle.smp_flight.specs.declared.steps.Move.{Move as MoveOfPlaces}
use Rattle.smp_moves.specs.Kept.Ends.{CanAdvance}
use Rattle.smp_flight.specs.Answers.{IsEnd}

-- the end of a line, whose numbers fit
pub record IsEndOf (first : ℕ) (s : Shares) (line : Line) (end : End) : Type 0 where
  pub is : IsEnd first s line end
  pub can : CanAdvance s.numer line end.reach
  pub some_left : 1 ≤ end.reach.left
  pub some_size : 1 ≤ end.reach.size
  pub left : end.reach.left ≤ most_denominator
  pub size : end.reach.size ≤ most_entry
  pub some_full : 1 ≤ end.full
  pub some_common : 1 ≤ end.common

-- the end of a move that is chosen
abbrev pub chosen_end : MoveOfPlaces → Bool → End
chosen_end m plus = cond plus m.up m.down

-- the step along a line that fits: a move, where the common denominators of both ends fit
abbrev pub next_along : ℕ → Shares → Line → Next
next_along requested_den s line =
    if nat_le (end_of requested_den s line).den most_denominator
    && nat_le (end_of requested_den s (turned line)).den most_denominator
    then move (move_along s line) else wide
