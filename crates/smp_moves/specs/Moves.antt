-- A move of values along a line, by its properties: how far the values can follow the line and its opposite before one of them would
-- leave 0 or 1, the states at both ends, and the weights that keep each value in the mean (Deville and Tillé 2004).
use Rattle.std.specs.Prelude.{◌≡◌, ◌≢◌, ℕ, ◌*◌, ◌≤◌, true, Bool, cond, nat_eq, List, [], ◌∷◌, ℤ}
use Rattle.std.specs.Prelude.{pos, neg_ℤ, length, map, slice_index}
use Rattle.std.specs.List.{All, AllPairs}
use Rattle.std.specs.Int.{IsGcd}
use Prim.Native.Nat.{◌∣◌}
use Rattle.smp_frac.specs.Fractions.{Fraction, Same, AtMost, whole, integer, plus, times, over}
use Rattle.smp_kernel.specs.Vectors.{IsZero}
use Rattle.smp_prob.specs.Shares.{Shares}
use Rattle.smp_values.specs.Values.{is_fractional, value_at}
use Rattle.smp_moves.specs.declared.lines.Ratio.{Ratio}

-- ---- lines

-- a vector over the units, by the units at which it may not be 0 and its entries there
pub record Line : Type 0 where
  pub units : List ℕ
  pub entries : List ℤ

-- the entry at unit k, where these units have these entries
abbrev pub entry_at : List ℕ → List ℤ → ℕ → ℤ
entry_at [] entries k = pos 0
entry_at (u ∷ units) [] k = pos 0
entry_at (u ∷ units) (e ∷ entries) k = cond (nat_eq u k) e (entry_at units entries k)

-- the entry at a unit
abbrev pub entry_of : Line → ℕ → ℤ
entry_of line k = entry_at line.units line.entries k

-- the opposite of a line: each entry with the other sign
abbrev pub turned : Line → Line
turned line = record { units = line.units; entries = map neg_ℤ line.entries }

-- ---- along a line

-- a ratio as a fraction
abbrev pub fraction_of : Ratio → Fraction
fraction_of r = over r.num r.den

-- the value of unit k so far along a line: its value in s, and t times its entry
abbrev pub along : Shares → Line → Fraction → ℕ → Fraction
along s line t k = plus (value_at s k) (times t (integer (entry_of line k)))

-- so far along a line no value is below 0 or past 1
pub record StaysWithin (s : Shares) (line : Line) (t : Fraction) : Type 0 where
  pub low : (k : ℕ) → AtMost (whole 0) (along s line t k)
  pub high : (k : ℕ) → AtMost (along s line t k) (whole 1)

-- how far a line can be followed: the greatest fraction, in lowest terms, for which the values so far along it lie from 0 to 1
pub record IsGreatest (s : Shares) (line : Line) (r : Ratio) : Type 0 where
  pub some : 1 ≤ r.den
  pub reduced : IsGcd r.num r.den 1
  pub stays : StaysWithin s line (fraction_of r)
  pub greatest : (t : Fraction) → StaysWithin s line t → AtMost t (fraction_of r)

-- the values r along the line, over the requested denominator times the least number that makes all of them whole
pub record IsMoved (requested_den : ℕ) (s : Shares) (line : Line) (r : Ratio) (t : Shares) : Type 0 where
  pub same_length : length t.numer ≡ length s.numer
  pub values : (k : ℕ) → Same (value_at t k) (along s line (fraction_of r) k)
  pub positive : 1 ≤ t.den
  pub times : ℕ
  pub multiple : t.den ≡ requested_den * times
  pub least :
      (m : ℕ) → 1 ≤ m → ((k : ℕ) → t.den ∣ slice_index t.numer k * (requested_den * m)) → times ≤ m

-- ---- the move

-- the weights of the two ends, how far the direction is followed to the first and its opposite to the second, and the direction
pub record Move : Type 0 where
  pub plus_weight : ℕ
  pub minus_weight : ℕ
  pub up : Ratio
  pub down : Ratio
  pub direction : Line

-- ---- what a search goes through

-- some fractional units, none of them twice
pub record IsOrder (s : Shares) (order : List ℕ) : Type 0 where
  pub going : All (λ k. is_fractional s k ≡ true) order
  pub distinct : AllPairs (λ k l. k ≢ l) order

-- a line over some fractional units, none of them twice, that isn't 0
pub record IsLine (s : Shares) (line : Line) : Type 0 where
  pub lengths : length line.entries ≡ length line.units
  pub order : IsOrder s line.units
  pub some : IsZero line.entries → ⊥

-- what a step is: a move, or none, where no direction is left, or none, where a number passes its gate
pub data Next : Type 0 where
  move : Move → Next
  independent : Next
  wide : Next

-- the line of the end that is chosen, the first where `plus` is true
abbrev pub chosen_line : Move → Bool → Line
chosen_line m plus = cond plus m.direction (turned m.direction)

-- how far the line of the end that is chosen is followed
abbrev pub chosen_extent : Move → Bool → Ratio
chosen_extent m plus = cond plus m.up m.down

-- ---- what a step goes by

-- What a step goes by: of each unit its column, and its share, to which its change is in proportion; the values as numerators over a
-- common denominator, which a line through these units needs; the common denominator that the values need by themselves; and which values
-- are so far along a line.
pub record Setting (Values : Type 0) : Type 1 where
  pub column : ℕ → List ℤ
  pub share : ℕ → Ratio
  pub over : Values → List ℕ → Shares
  pub common : Values → ℕ
  pub IsEnd : Values → Line → Ratio → Values → Type 0
