-- How a step is found, in whatever the values are kept: the direction in whole numbers, and whether each number fits its gate.
use Rattle.std.specs.Prelude.{◌≡◌, ℕ, ◌-◌, nat_le, ◌&&◌, Bool, true, if◌then◌else◌, List, ℤ, length, map, take}
use Rattle.smp_frac.specs.Limits.{most_denominator}
use Rattle.smp_kernel.specs.Reduced.{primitive_part}
use Rattle.smp_kernel.specs.Searches.{Search, found, none, too_wide}
use Rattle.smp_moves.specs.Answers.{IsPadded, line_of}
use Rattle.smp_moves.specs.declared.lines.Line.{Line as LineOfPlaces}
use Rattle.smp_moves.specs.declared.lines.Ratio.{Ratio}
use Rattle.smp_moves.specs.Cubes.{Flight}
use Rattle.smp_moves.specs.Ends.{entries_fit, move_along}
use Rattle.smp_moves.specs.Moves.{Line, Move, Next, Setting, move, independent, wide, turned}
use Rattle.smp_moves.specs.Steps.{Finds, scale_of, scaled}
use Rattle.smp_moves.specs.Kept.Ends.{HasSmallEntries}
use Rattle.smp_moves.specs.Kept.Searches.{search}

-- the line at these units whose entries are in proportion to a row, in whole numbers without common divisor
abbrev pub line_in : List ℕ → List ℤ → Line
line_in prefix row = record { units = prefix; entries = primitive_part row }

-- the direction at these units: in proportion to share times factor
abbrev pub direction_on : (ℕ → Ratio) → List ℕ → List ℤ → Line
direction_on share prefix w = line_in prefix (scaled share (scale_of share prefix w) prefix w)

-- the direction of the circuit w of the first of these units
abbrev pub direction : (ℕ → Ratio) → List ℕ → List ℤ → Line
direction share order w = direction_on share (take (length w) order) w

-- whether its numbers fit their gates: the common denominator of the products, and the entries
abbrev pub direction_fits : (ℕ → Ratio) → List ℕ → List ℤ → Bool
direction_fits share prefix w =
    nat_le (scale_of share prefix w) most_denominator && entries_fit (direction_on share prefix w)

-- a line whose entries fit, in the first places of two arrays
pub record HoldsLine (line : Line) (places : LineOfPlaces) : Type 0 where
  pub is : line_of places ≡ line
  pub fits : entries_fit line ≡ true
  pub padded : IsPadded places
  pub small : HasSmallEntries places

-- the direction at these units, which fits
pub record IsLineOf (share : ℕ → Ratio) (prefix : List ℕ) (w : List ℤ) (places : LineOfPlaces) : Type 0 where
  pub fits : direction_fits share prefix w ≡ true
  pub holds : HoldsLine (direction_on share prefix w) places

-- the last row in force is dropped
abbrev pub dropped : {Values Fixed : Type 0} → Flight Values Fixed → Flight Values Fixed
dropped f = record f { rows = f.rows - 1 }

module _ {Values : Type 0} (setting : Setting Values) where
  -- the move along a line
  abbrev pub next_along : Values → Line → Move
  next_along values line = move_along (setting.over values line.units) line

  -- whether the numbers of a direction fit, and the common denominator that its line needs
  abbrev pub fits_on_line : Values → List ℕ → List ℤ → Bool
  fits_on_line values prefix w =
      direction_fits setting.share prefix w && nat_le (setting.over values prefix).den most_denominator

  module _ (end_at : Values → Line → Values) where
    -- whether the common denominators of both ends fit
    abbrev pub fits_at_ends : Values → Line → Bool
    fits_at_ends values line =
        nat_le (setting.common (end_at values line)) most_denominator
        && nat_le (setting.common (end_at values (turned line))) most_denominator

    -- whether each number of the circuit w of these units fits its gate
    abbrev pub fits : Values → List ℕ → List ℤ → Bool
    fits values prefix w = fits_on_line values prefix w && fits_at_ends values (direction_on setting.share prefix w)

    -- the step along it
    abbrev pub next_through : Values → List ℕ → List ℤ → Next
    next_through values prefix w =
        if fits values prefix w then move (next_along values (direction_on setting.share prefix w)) else wide

    -- the step, by what the search answered
    abbrev pub next_of : Values → List ℕ → Search → Next
    next_of values order (found w) = next_through values (take (length w) order) w
    next_of values order none = independent
    next_of values order too_wide = wide

    -- the step of a state whose search goes through the columns of these units
    abbrev pub next_by : {Fixed : Type 0} → List ℕ → Flight Values Fixed → Next
    next_by order f = next_of f.values order (search f.rows (map setting.column order))

-- what a move of a step is
pub record IsKnown {Values Fixed : Type 0} (setting : Setting Values) (end_at : Values → Line → Values) (f : Flight Values Fixed)
    (order : List ℕ) (m : Move) : Type 0 where
  pub circuit : List ℤ
  pub finds : Finds setting f order (found circuit)
  pub fits : fits setting end_at f.values (take (length circuit) order) circuit ≡ true
  pub same : m ≡ next_along setting f.values (direction setting.share order circuit)
