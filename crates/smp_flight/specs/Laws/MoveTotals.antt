-- A move keeps the totals of all rows in force, whichever fractional units its search goes through.
use Rattle.std.proofs.Common.{◌≡◌, ℕ, zero, suc, ◌*◌, ◌<◌, ◌≤◌, Bool, ℤ, pos, ◌*ℤ◌, List}
use Rattle.std.proofs.Common.{map, take, length, get_or, arith, sym, ap, ◌∙◌, subst, mul-pos}
use Rattle.std.proofs.lemmas.Int.{ints}
use Rattle.std.specs.Int.RustNames.{unsigned_abs}
use Rattle.std.proofs.{lemmas.List.{take-map, length-take-le, length-map}, lemmas.Simd.{map-map}}
use Rattle.smp_frac.specs.Fractions.{Fraction, Same, whole, integer, plus, times, over, sum_below}
use Rattle.smp_frac.proofs.Arithmetic.{same_trans, times-zero}
use Rattle.smp_kernel.specs.Vectors.{entry, dot}
use Rattle.smp_kernel.specs.Searches.{found}
use Rattle.smp_kernel.proofs.FoundCircuits.{circuit_row, cut_circuit_short, in_row}
use Rattle.smp_values.specs.Values.{value_at}
use Rattle.smp_flight.specs.States.{Units, Flight, IsFlight, size, column, columns_of}
use Rattle.smp_moves.specs.Moves.{Line, IsLine, Move, entry_of}
use Rattle.smp_moves.specs.Steps.{Finds, IsDirection}
use Rattle.smp_flight.specs.Moves.{setting_of}
use Rattle.smp_flight.specs.Steps.{chosen}
use Rattle.smp_flight.specs.Statements.{EachKeepsTotals}
use Rattle.smp_flight.specs.Laws.Entries.{entry_sized}
use Rattle.smp_flight.specs.Totals.{expanded, row_total}
use Rattle.smp_flight.specs.Laws.NextProperties.{known}
use Rattle.smp_flight.specs.Laws.Nexts.{IsKnown, order_inside}
use Rattle.smp_flight.specs.Laws.Moved.{chosen_there}
use Rattle.smp_moves.proofs.LineSums.{sum_line, line_dot}
use Rattle.smp_moves.proofs.Proportions.{as_positive, as_product, entry_by, stratum_row, variable_row}
use Rattle.smp_moves.proofs.Totals.{ends_stay}

-- the number of a unit in a row
abbrev pub number_in : Units → ℕ → ℕ → ℤ
number_in units row k = entry (column units k) row

pub numbers_are : (units : Units) (row : ℕ) (order : List ℕ) → in_row row (columns_of units order) ≡ map (number_in units row) order
numbers_are units row order = map-map (λ column. entry column row) (column units) order

-- ---- the units of a circuit

module _ (units : Units) (f : Flight) (order : List ℕ) (w : List ℤ) (finds : Finds (setting_of units) f order (found w)) (us : List ℕ)
    (prefix : us ≡ take (length w) order) where
  pub circuit_count : length us ≡ length w
  circuit_count = ap length prefix ∙ length-take-le (length w) order
      (omega (arith, cut_circuit_short f.rows (columns_of units order) w finds, length-map order (column units)))

  pub none_in : (row : ℕ) → row < f.rows → dot w (map (number_in units row) us) ≡ pos 0
  none_in row l =
      ap (λ ks. dot w (map (number_in units row) ks)) prefix
      ∙ ap (dot w) (sym (numbers_are units row (take (length w) order)))
      ∙ ap (λ cs. dot w (in_row row cs)) (sym (take-map (column units) (length w) order))
      ∙ circuit_row f.rows (columns_of units order) w finds row l

-- ---- the total of a direction is 0

module _ (units : Units) (f : Flight) (is_flight : IsFlight units f) (order : List ℕ) (w : List ℤ)
    (finds : Finds (setting_of units) f order (found w)) (line : Line) (ok : IsLine f.values line)
    (d : IsDirection (setting_of units).share order w line) where
  units_count : length line.units ≡ length w
  units_count = circuit_count units f order w finds line.units d.prefix

  inside : (j : ℕ) → j < length line.units → get_or line.units j 0 < length units.sizes
  inside = order_inside units f is_flight line.units ok.order

  product : (j : ℕ) → j < length line.units
      → d.entries.divisor *ℤ entry line.entries j ≡ pos (size units (get_or line.units j 0)) *ℤ entry w j
  product j l = d.entries.product j ∙ entry_sized units line.units w j l (omega (arith, l, units_count))

  abbrev A : Fraction
  A = over units.requested.den (unsigned_abs d.entries.divisor * is_flight.are.factor)

  -- the entry of a unit is in proportion to its probability times its factor
  entry_is : (j : ℕ) → j < length line.units → Same (integer (entry line.entries j))
      (times A (times (value_at units.requested (get_or line.units j 0)) (integer (entry w j))))
  entry_is j l =
      let g : ℕ = unsigned_abs d.entries.divisor in
      let k : ℕ = get_or line.units j 0 in
      let numer : get_or units.requested.numer k 0 ≡ size units k * is_flight.are.factor = is_flight.are.proportional k (inside j l) in
      entry_by g (size units k) (is_flight.are.factor * units.requested.den) (g * is_flight.are.factor) units.requested.den
      (get_or units.requested.numer k 0) units.requested.den (entry line.entries j) (entry w j)
      (mul-pos (omega (arith, ints, d.entries.positive)) is_flight.are.some_factor) is_flight.are.requested.positive (omega arith)
      (omega (arith, ap (λ t. units.requested.den * t) numer))
      (ap (λ (z : ℤ). z *ℤ entry line.entries j) (sym (as_positive d.entries.divisor d.entries.positive)) ∙ product j l)

  -- the factor of the proportion
  factor : ℕ → Fraction
  factor zero = times A (over is_flight.are.factor units.requested.den)
  factor (suc row) = A

  in_proportion : (row j : ℕ) → j < length line.units →
      Same (times (expanded units row (get_or line.units j 0)) (integer (entry line.entries j)))
      (times (factor row) (integer (entry w j *ℤ number_in units row (get_or line.units j 0))))
  unfolding factor
  in_proportion zero j l =
      let k : ℕ = get_or line.units j 0 in
      subst (λ (z : ℤ). Same (times (whole 1) (integer (entry line.entries j)))
      (times (times A (over is_flight.are.factor units.requested.den)) (integer (entry w j *ℤ z))))
      (sym (is_flight.are.first k (inside j l)))
      (stratum_row A (integer (entry line.entries j)) (over is_flight.are.factor units.requested.den) (entry w j)
      (get_or units.requested.numer k 0) units.requested.den (size units k) (entry_is j l)
      (subst (λ (n : ℕ). Same (over n units.requested.den)
      (times (over is_flight.are.factor units.requested.den) (whole (size units k))))
      (sym (is_flight.are.proportional k (inside j l)))
      (as_product (size units k) is_flight.are.factor units.requested.den is_flight.are.requested.positive)))
  in_proportion (suc row) j l =
      let k : ℕ = get_or line.units j 0 in
      let some : 1 ≤ size units k * is_flight.are.factor = mul-pos (is_flight.are.some_size k (inside j l)) is_flight.are.some_factor in
      variable_row A (integer (entry line.entries j)) (number_in units (suc row) k) (entry w j)
      (get_or units.requested.numer k 0) units.requested.den
      (omega (arith, some, is_flight.are.proportional k (inside j l))) is_flight.are.requested.positive (entry_is j l)

  pub direction_total : (row : ℕ) → row < f.rows
      → Same (sum_below (length units.sizes) (λ k. times (expanded units row k) (integer (entry_of line k))))
      (whole 0)
  direction_total row l =
      same_trans (sum_line (length units.sizes) (expanded units row) line.units line.entries inside ok.order.distinct)
      (same_trans (line_dot (expanded units row) (factor row) (number_in units row) line.units line.entries w
      d.lengths (sym units_count) (in_proportion row))
      (subst (λ (z : ℤ). Same (times (factor row) (integer z)) (whole 0))
      (sym (none_in units f order w finds line.units d.prefix row l)) (times-zero (factor row))))

-- ---- the ends of a move

module _ (units : Units) (f : Flight) (order : List ℕ) (ok : IsFlight units f) (m : Move) (k : IsKnown units f order m) where
  pub end_total : (plus : Bool) (row : ℕ) → row < f.rows
      → Same (row_total units (chosen units f m plus).values row) (row_total units f.values row)
  end_total plus row l =
      ends_stay (length units.sizes) (expanded units row) (value_at f.values) (λ p. value_at (chosen units f m p).values) m
      (λ p. (chosen_there units f ok order m p k).moved.values)
      (direction_total units f ok order k.circuit k.finds m.direction k.line k.is.direction row l) plus

pub move_keeps : EachKeepsTotals
move_keeps units f order ok ordered m is = end_total units f order ok m (known units f order ok ordered m is)
