-- A step of the flight phase (Deville and Tillé 2004) by its properties is that of a cube whose values have a common denominator, and whose
-- search goes through any fractional units.
use Rattle.smp_prob.specs.Shares.{Shares}
use Rattle.smp_moves.specs.Moves.{Setting, IsMoved}
use Rattle.smp_flight.specs.States.{Units, column, size}

-- what a step goes by: the share of a unit is its size, and at an end the denominator is the least multiple of the requested one
abbrev pub setting_of : Units → Setting Shares
setting_of units = record {
  column = column units;
  share = λ k. record { num = size units k; den = 1 };
  over = λ s prefix. s;
  common = λ s. s.den;
  IsEnd = IsMoved units.requested.den;
}
