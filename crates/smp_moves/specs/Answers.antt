-- A line in the first places of two arrays.
use Rattle.std.specs.Prelude.{◌≡◌, ℕ, ◌≤◌, pos, length, take, slice_index}
use Rattle.smp_kernel.specs.Vectors.{entry}
use Rattle.smp_moves.specs.Moves.{Line}
use Rattle.smp_moves.specs.declared.lines.Line.{Line as LineOfPlaces}

-- the line in the first places of two arrays
abbrev pub line_of : LineOfPlaces → Line
line_of l = record { units = take l.number l.units; entries = take l.number l.entries }

-- 0 stands in all other places
pub record IsPadded (l : LineOfPlaces) : Type 0 where
  pub short : l.number ≤ 17
  pub places : l.number ≤ length l.units
  pub no_unit : (i : ℕ) → l.number ≤ i → slice_index l.units i ≡ 0
  pub no_entry : (i : ℕ) → l.number ≤ i → entry l.entries i ≡ pos 0
