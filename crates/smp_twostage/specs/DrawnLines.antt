-- What the report tells of the units that were drawn: `left H L`, and then `balance H J E T` for each balancing column.
use Rattle.std.specs.Prelude.{◌≡◌, ℕ, ◌+◌, ◌-◌, ◌≤◌, ◌++◌, nat_eq, cond, if◌then◌else◌}
use Rattle.std.specs.Prelude.{Bool, All, List, ◌∷◌, ℤ, pos, ◌+ℤ◌, length, map}
use Rattle.std.specs.Prelude.{codes, Result, Ok, Err}
use Rattle.std.specs.List.{flat_map, range_with_len}
use Rattle.std.specs.Fmt.{decimal, signed_decimal}
use Rattle.smp_frac.specs.Limits.{most_rows, number_limit}
use Rattle.smp_frac.specs.declared.fractions.Frac.{Frac}
use Rattle.smp_frac.specs.declared.fractions.Wide.{Wide}
use Rattle.smp_frac.specs.declared.signed.Signed.{Signed}
use Rattle.smp_kernel.specs.Vectors.{Within, entry}
use Rattle.smp_weights.specs.Chosen.{ChosenArePositive, chosen_units}
use Rattle.smp_weights.specs.Totals.{estimate_of}
use Rattle.smp_twostage.specs.declared.drawn.DrawnUnits as code

-- What was drawn of a stratum, or of all strata together: the number that is told; how many units were undecided where the landing began;
-- how many balancing columns there are; and of each unit, in frame order, its balancing values, its probability, and whether it was drawn.
pub record Drawn : Type 0 where
  pub number : ℕ
  pub left : ℕ
  pub columns : ℕ
  pub values : List (List ℤ)
  pub asked : List Frac
  pub chosen : List Bool

abbrev pub drawn_view : code.DrawnUnits → Drawn
drawn_view drawn = record {
  number = drawn.number;
  left = drawn.left;
  columns = drawn.columns;
  values = map (λ v. v.now) drawn.values.now;
  asked = drawn.asked.now;
  chosen = drawn.chosen.now;
}

-- the values of the units in a column
abbrev pub column_of : Drawn → ℕ → List ℤ
column_of drawn column = map (λ v. entry v column) drawn.values

-- the sum of some numbers over the units whose probability isn't 0
abbrev pub known_sum : List Frac → List ℤ → ℤ
known_sum (p ∷ asked) (x ∷ xs) = cond (nat_eq p.num 0) (pos 0) x +ℤ known_sum asked xs
known_sum asked xs = pos 0

-- the sum of a column over them
abbrev pub known_total : Drawn → ℕ → ℤ
known_total drawn column = known_sum drawn.asked (column_of drawn column)

-- the estimate of a column's sum, by exact arithmetic in frame order
abbrev pub column_estimate : Drawn → ℕ → Result Signed Wide
column_estimate drawn column = estimate_of (chosen_units (column_of drawn column) drawn.asked drawn.chosen)

-- ---- the lines

-- an estimate, with a minus where it is negative, or `wide`
abbrev pub size_text : Frac → List ℕ
size_text f = decimal f.num ++ (codes "/" ++ decimal f.den)

-- an estimate, with a minus where it is negative, or `wide`
abbrev pub estimate_text : Result Signed Wide → List ℕ
estimate_text (Ok a) = if a.minus then codes "-" ++ size_text a.size else size_text a.size
estimate_text (Err wide) = codes "wide"

-- the line `left`: the number, and how many units were undecided where the landing began
abbrev pub left_line : Drawn → List ℕ
left_line drawn =
    codes "left " ++ (decimal drawn.number ++ (codes " " ++ (decimal drawn.left ++ codes "\n")))

-- the line `balance` of a column: the number, that of the column, the estimate of its sum, and the known sum
abbrev pub balance_line : Drawn → ℕ → List ℕ
balance_line drawn column =
    codes "balance " ++ (decimal drawn.number ++ (codes " " ++ (decimal (column + 1)
    ++ (codes " " ++ (estimate_text (column_estimate drawn column)
    ++ (codes " " ++ (signed_decimal (known_total drawn column) ++ codes "\n")))))))

-- all lines
abbrev pub drawn_lines : Drawn → List ℕ
drawn_lines drawn =
    left_line drawn ++ flat_map (balance_line drawn) (range_with_len 0 drawn.columns)

-- What is told can be told: there are 15 columns at most, each unit has a value in each of them, below 2^31 without its sign, and those
-- that are drawn have a probability.
pub record AreTold (drawn : Drawn) : Type 0 where
  pub few : length drawn.values ≤ most_rows
  pub narrow : drawn.columns ≤ 15
  pub asked : length drawn.asked ≡ length drawn.values
  pub chosen : length drawn.chosen ≡ length drawn.values
  pub counted : All (λ v. drawn.columns ≤ length v) drawn.values
  pub small : All (Within (number_limit - 1)) drawn.values
  pub positive : ChosenArePositive drawn.asked drawn.chosen
