-- One step of a cube's flight (Deville and Tillé 2004) by its properties, in whatever the values are kept: the direction of a circuit,
-- which the columns take to 0, the move along it, and where a number passes its gate.
use Rattle.std.specs.Prelude.{◌≡◌, ◌⊎◌, ℕ, ◌*◌, ◌/◌, ◌≤◌, List, [], ◌∷◌, ℤ, pos, negsuc, neg_ℤ, length, map, take, fold}
use Rattle.std.specs.Int.RustNames.{unsigned_abs}
use Rattle.std.specs.Int.{IsGcd}
use Rattle.smp_frac.specs.Fractions.{Same, whole, times}
use Rattle.smp_frac.specs.Limits.{most_denominator, most_entry}
use Rattle.smp_kernel.specs.Vectors.{Within}
use Rattle.smp_kernel.specs.RowReduction.{cut}
use Rattle.smp_kernel.specs.Reduced.{IsReduced}
use Rattle.smp_kernel.specs.Searches.{Search, found, none, too_wide, IsSearch}
use Rattle.smp_prob.specs.Given.{least_multiple}
use Rattle.smp_moves.specs.declared.lines.Ratio.{Ratio}
use Rattle.smp_moves.specs.Moves.{Line, Move, Setting, IsGreatest, fraction_of, turned, Next, move, independent, wide}
use Rattle.smp_moves.specs.Ends.{lowest}
use Rattle.smp_moves.specs.Cubes.{Balancing, Cube, Flight, flying, pairing, HasIndependentColumns}

-- ---- the numbers of a direction

-- the least common multiple of some numbers, 1 where there are none
abbrev pub common_multiple : List ℕ → ℕ
common_multiple numbers = fold least_multiple 1 numbers

-- a share times the size of a factor
abbrev pub product : Ratio → ℤ → Ratio
product r w = lowest (r.num * unsigned_abs w) r.den

-- the products at these units, each with its factor
abbrev pub products : (ℕ → Ratio) → List ℕ → List ℤ → List Ratio
products share [] w = []
products share (k ∷ order) [] = []
products share (k ∷ order) (f ∷ w) = product (share k) f ∷ products share order w

-- the least common denominator of the products of share and factor
abbrev pub scale_of : (ℕ → Ratio) → List ℕ → List ℤ → ℕ
scale_of share order w = common_multiple (map (λ (r : Ratio). r.den) (products share order w))

-- a number with the sign of a factor
abbrev pub signed : ℤ → ℕ → ℤ
signed (pos n) m = pos m
signed (negsuc n) m = neg_ℤ (pos m)

-- the products as numerators over a common denominator, each with the sign of its factor
abbrev pub scaled : (ℕ → Ratio) → ℕ → List ℕ → List ℤ → List ℤ
scaled share den [] w = []
scaled share den (k ∷ order) [] = []
scaled share den (k ∷ order) (f ∷ w) =
    signed f ((product (share k) f).num * (den / (product (share k) f).den)) ∷ scaled share den order w

-- the direction of the circuit w of the first of these units: share times factor at each of them, without common divisor
pub record IsDirection (share : ℕ → Ratio) (order : List ℕ) (w : List ℤ) (line : Line) : Type 0 where
  pub prefix : line.units ≡ take (length w) order
  pub lengths : length line.entries ≡ length line.units
  pub entries : IsReduced (scaled share (scale_of share line.units w) line.units w) line.entries

-- ---- the move and its gates

-- The move along the circuit w of the first of these units, with the values at both ends. The weights are as `down` to `up`, in whole
-- numbers without common divisor.
pub record IsMove {Values : Type 0} (setting : Setting Values) (values : Values) (order : List ℕ) (w : List ℤ) (m : Move)
    (plus_end minus_end : Values) : Type 0 where
  pub direction : IsDirection setting.share order w m.direction
  pub up : IsGreatest (setting.over values m.direction.units) m.direction m.up
  pub down : IsGreatest (setting.over values m.direction.units) (turned m.direction) m.down
  pub plus_moved : setting.IsEnd values m.direction m.up plus_end
  pub minus_moved : setting.IsEnd values (turned m.direction) m.down minus_end
  pub weights : Same (times (whole m.plus_weight) (fraction_of m.up)) (times (whole m.minus_weight) (fraction_of m.down))
  pub coprime : IsGcd m.plus_weight m.minus_weight 1

-- no number that a direction needs passes its gate: the common denominator of the products of share and factor, an entry, and the
-- common denominator that its line needs
pub record FitsOnLine {Values : Type 0} (setting : Setting Values) (values : Values) (w : List ℤ) (line : Line) : Type 0 where
  pub scale : scale_of setting.share line.units w ≤ most_denominator
  pub entries : Within most_entry line.entries
  pub denominator : (setting.over values line.units).den ≤ most_denominator

-- the common denominators of both ends fit
pub record FitsAtEnds {Values : Type 0} (setting : Setting Values) (plus_end minus_end : Values) : Type 0 where
  pub plus : setting.common plus_end ≤ most_denominator
  pub minus : setting.common minus_end ≤ most_denominator

-- ---- the step

-- what a search through the columns of these units, cut to the rows in force, answers
abbrev pub Finds : {Values Fixed : Type 0} → Setting Values → Flight Values Fixed → List ℕ → Search → Type 0
Finds setting f order answer = IsSearch f.rows (cut f.rows (map setting.column order)) answer

-- the move of the circuit that the search found, of which all numbers fit
pub record IsFlown {Values Fixed : Type 0} (setting : Setting Values) (f : Flight Values Fixed) (order : List ℕ) (m : Move) : Type 0 where
  pub circuit : List ℤ
  pub finds : Finds setting f order (found circuit)
  pub fits_on_line : FitsOnLine setting f.values circuit m.direction
  pub plus_end : Values
  pub minus_end : Values
  pub is : IsMove setting f.values order circuit m plus_end minus_end
  pub fits_at_ends : FitsAtEnds setting plus_end minus_end

-- a number of the search, of the direction, or of an end passes its gate
pub data IsWide {Values Fixed : Type 0} (setting : Setting Values) (f : Flight Values Fixed) (order : List ℕ) : Type 0 where
  search_wide : Finds setting f order too_wide → IsWide setting f order
  direction_wide :
      (w : List ℤ) (line : Line) → Finds setting f order (found w) → IsDirection setting.share order w line →
      (FitsOnLine setting f.values w line → ⊥) → IsWide setting f order
  move_wide :
      (w : List ℤ) (m : Move) (plus_end minus_end : Values) → Finds setting f order (found w) →
      IsMove setting f.values order w m plus_end minus_end → (FitsAtEnds setting plus_end minus_end → ⊥) → IsWide setting f order

-- what holds of the step of a state whose search goes through the columns of these units
abbrev pub IsNext : {Values Fixed : Type 0} → Setting Values → Flight Values Fixed → List ℕ → Next → Type 0
IsNext setting f order (move m) = IsFlown setting f order m
IsNext setting f order independent = Finds setting f order none
IsNext setting f order wide = IsWide setting f order

-- The step of a state whose search goes through the columns of these units, and the values at the end of a line: any functions with these
-- properties. They leave no choice at a state and an order that are allowed.
pub record Stepping {Units Values Fixed : Type 0} (setting : Units → Setting Values)
    (IsAllowed : Units → Flight Values Fixed → List ℕ → Type 0) : Type 0 where
  pub next_on : Units → List ℕ → Flight Values Fixed → Next
  pub end_at : Units → Values → Line → Values
  pub is_next :
      (units : Units) (f : Flight Values Fixed) (order : List ℕ) → IsAllowed units f order →
      IsNext (setting units) f order (next_on units order f)
  pub is_moved :
      (units : Units) (f : Flight Values Fixed) (order : List ℕ) → IsAllowed units f order →
      (m : Move) → next_on units order f ≡ move m →
      (setting units).IsEnd f.values m.direction m.up (end_at units f.values m.direction)
      × (setting units).IsEnd f.values (turned m.direction) m.down (end_at units f.values (turned m.direction))

-- ---- where the landing may begin

-- in flight, no direction is left, as no move keeps the totals of the rows in force, or the next step doesn't fit: a number of the search
-- through these units, or of the move that it found, passes its gate
abbrev pub IsStuck : {Values Fixed : Type 0} → Cube Values → List ℕ → Balancing Values Fixed → Type 0
IsStuck cube order (flying f left) = HasIndependentColumns cube (flying f left) ⊎ IsWide cube.setting f order
IsStuck cube order (pairing values left) = ⊥
