-- What the code keeps of a line and of the values that move along it.
use Rattle.std.specs.Prelude.{ℕ, ◌*◌, ◌≤◌, ◌<ℤ◌, List, ℤ, pos, length, slice_index}
use Prim.Native.Nat.{◌∣◌}
use Rattle.std.specs.Int.RustNames.{unsigned_abs}
use Rattle.smp_frac.specs.Limits.{most_entry, most_denominator}
use Rattle.smp_prob.specs.Shares.{Shares}
use Rattle.smp_values.specs.Values.{IsValues}
use Rattle.smp_moves.specs.Moves.{Line, entry_of}
use Rattle.smp_moves.specs.declared.reaches.Reach.{Reach}
use Rattle.smp_kernel.specs.Vectors.{entry}
use Rattle.smp_moves.specs.declared.lines.Line.{Line as LineOfPlaces}

-- values over a multiple of the requested denominator
pub record IsOver (first : ℕ) (s : Shares) : Type 0 where
  pub some : 1 ≤ first
  pub multiple : first ∣ s.den
  pub values : IsValues (length s.numer) most_denominator s

-- each value, times d, is whole
abbrev pub MakesWhole : ℕ → Shares → Type 0
MakesWhole d t = (k : ℕ) → t.den ∣ slice_index t.numer k * d

-- the numbers of a move of the numerator a by an entry fit 128 bits, and it doesn't fall below 0
pub record CanMove (a : ℕ) (r : Reach) (e : ℤ) : Type 0 where
  pub small : a ≤ most_denominator
  pub left : r.left ≤ most_denominator
  pub size : r.size ≤ most_entry
  pub entry : unsigned_abs e ≤ most_entry
  pub stays : e <ℤ pos 0 → r.left * unsigned_abs e ≤ a * r.size

-- and so do those of a move of all numerators along a line
abbrev pub CanAdvance : List ℕ → Line → Reach → Type 0
CanAdvance numer line r = (k : ℕ) → CanMove (slice_index numer k) r (entry_of line k)

-- no entry passes its gate
abbrev pub HasSmallEntries : LineOfPlaces → Type 0
HasSmallEntries l = (i : ℕ) → unsigned_abs (entry l.entries i) ≤ most_entry
