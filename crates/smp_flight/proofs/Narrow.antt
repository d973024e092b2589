-- Where the numbers of the units are small, no search is too wide and no entry of a direction passes its gate.
use Rattle.std.proofs.Common.{◌≡◌, ℕ, zero, suc, ◌*◌, ◌<◌, ◌≤◌, List, [], ◌∷◌, ℤ, pos, ◌*ℤ◌, ◌<ℤ◌, length, length-take, take, get_or, get_or-take, arith, sym, ap, ◌∙◌, subst, inl, inr, suc-le-suc, zero-lt-suc, mul-le-mul}
use Rattle.std.proofs.{lemmas.Bool.{cases_lt}, lemmas.Int.{ints, unsigned_abs-mul}, lemmas.List.{get_or_past}}
use Rattle.std.specs.Int.RustNames.{unsigned_abs}
use Rattle.smp_frac.specs.Limits.{most_entry}
use Rattle.smp_kernel.specs.{Vectors.{entry, Within}, RowReduction.{cut}, Searches.{found}, Minors.{IsFrom, AreFrom, minor_limit}}
use Rattle.smp_kernel.proofs.{Limits.{entry_within, Within-from_entries}, TableSizes.{limit_upto}, SearchSizes.{found_within, not_too_wide}}
use Rattle.smp_moves.specs.{Moves.{Line, IsOrder}, Steps.{Finds, IsDirection, IsWide}}
use Rattle.smp_flight.specs.{States.{Units, Flight, IsFlight, IsUnits, column, columns_of, row_count, size}, Moves.{setting_of}}
use Rattle.smp_flight.specs.{Laws.Entries.{entry_sized}, Laws.Nexts.{narrow_line, order_inside}, Narrow.{IsNarrow, IsWideByDenominator}}

-- ---- the direction
reduced_at : (g x : ℤ) (s : ℕ) (y : ℤ) (z b : ℕ) → pos 0 <ℤ g → g *ℤ x ≡ pos s *ℤ y → s ≤ z → unsigned_abs y ≤ b → unsigned_abs x ≤ z * b
reduced_at g x s y z b p e h k =
    let one : 1 ≤ unsigned_abs g = omega (arith, ints) in
    let f : unsigned_abs g * unsigned_abs x ≡ s * unsigned_abs y = sym (unsigned_abs-mul g x) ∙ ap unsigned_abs e ∙ unsigned_abs-mul (pos s) y in
    let m : s * unsigned_abs y ≤ z * b = mul-le-mul h k in
    let same : unsigned_abs x ≤ unsigned_abs x = omega arith in
    let n : 1 * unsigned_abs x ≤ unsigned_abs g * unsigned_abs x = mul-le-mul one same in
    omega (arith, f, m, n)

pub direction_within : (units : Units) (order : List ℕ) (w : List ℤ) (line : Line) → IsDirection (setting_of units).share order w line → (z b : ℕ) → ((k : ℕ) → size units k ≤ z) → Within b w → Within (z * b) line.entries
direction_within units order w line d z b sizes within =
    Within-from_entries (z * b) line.entries (λ j l.
    let lu : j < length line.units = omega (arith, l, d.lengths) in
    let lw : j < length w = omega (arith, lu, ap length d.prefix, length-take (length w) order) in
    reduced_at d.entries.divisor (entry line.entries j) (size units (get_or line.units j 0)) (entry w j) z b d.entries.positive
    (d.entries.product j ∙ entry_sized units line.units w j lu lw) (sizes (get_or line.units j 0)) (entry_within b w within j))

-- ---- the columns
module _ (units : Units) (bound : ℕ → ℕ) (from : (k : ℕ) → k < length units.sizes → IsFrom bound (column units k)) where
  cut_from : (q : ℕ) (c : List ℤ) → IsFrom bound c → IsFrom bound (take q c)
  cut_from q c f r =
      elim (cases_lt r q) [
        | inl l ↦ ((f r).0, get_or-take q c r (pos 0) l ∙ (f r).1, (f r).2)
        | inr m ↦ (0, get_or_past (take q c) r (pos 0) (omega (arith, length-take q c)), omega arith)
      ]

  pub order_from : (q : ℕ) (order : List ℕ) → ((j : ℕ) → j < length order → get_or order j 0 < length units.sizes) → AreFrom bound (cut q (columns_of units order))
  order_from q [] h = tt
  order_from q (k ∷ order) h = (cut_from q (column units k) (from k (h zero (zero-lt-suc (length order)))), order_from q order (λ j l. h (suc j) (suc-le-suc l)))

  from_size : (z a n : ℕ) → pos a ≡ pos z → a ≤ n → z ≤ n
  from_size z a n e l = omega (arith, ints)

  size_bound : IsUnits units → (k : ℕ) → size units k ≤ bound 0
  size_bound are k =
      elim (cases_lt k (length units.sizes)) [
        | inl l ↦ let f = from k l 0 in from_size (size units k) f.0 (bound 0) (sym f.1 ∙ are.first k l) f.2
        | inr m ↦ let P : ℕ → Type 0 = λ x. x ≤ bound 0 in subst P (sym (get_or_past units.sizes k 0 m)) (omega arith)
      ]

-- ---- a step
at_most : (a b c : ℕ) → a ≤ b → b ≤ c → a ≤ c
at_most a b c h l = omega arith

pub times_more : (a p : ℕ) → 1 ≤ a → p ≤ a * p
times_more a p h = let same : p ≤ p = omega arith in let t : 1 * p ≤ a * p = mul-le-mul h same in omega arith

module _ (units : Units) (n : IsNarrow units) (s : Flight) (order : List ℕ) (is_flight : IsFlight units s) (ok : IsOrder s.values order) where
  columns_from : AreFrom n.bound (cut s.rows (columns_of units order))
  columns_from = order_from units n.bound n.from s.rows order (order_inside units s is_flight order ok)

  rows_limit : minor_limit n.bound s.rows ≤ minor_limit n.bound (row_count units)
  rows_limit = limit_upto n.bound n.some_bound s.rows (row_count units) is_flight.rows_in

  all_fit : minor_limit n.bound (row_count units) ≤ most_entry
  all_fit =
      let t : minor_limit n.bound (row_count units) ≤ n.bound 0 * minor_limit n.bound (row_count units) = times_more (n.bound 0) (minor_limit n.bound (row_count units)) (n.some_bound 0) in
      at_most (minor_limit n.bound (row_count units)) (n.bound 0 * minor_limit n.bound (row_count units)) most_entry t n.entries

  fit : minor_limit n.bound s.rows ≤ most_entry
  fit = at_most (minor_limit n.bound s.rows) (minor_limit n.bound (row_count units)) most_entry rows_limit all_fit

  entries_fit : (w : List ℤ) → Finds (setting_of units) s order (found w) → (line : Line) → IsDirection (setting_of units).share order w line → Within most_entry line.entries
  entries_fit w f line d =
      let c : Within (minor_limit n.bound s.rows) w = found_within n.bound n.some_bound s.rows (columns_of units order) columns_from fit w f in
      let r : Within (n.bound 0 * minor_limit n.bound s.rows) line.entries =
      direction_within units order w line d (n.bound 0) (minor_limit n.bound s.rows) (size_bound units n.bound n.from is_flight.are) c in
      let same : n.bound 0 ≤ n.bound 0 = omega arith in
      let t : n.bound 0 * minor_limit n.bound s.rows ≤ n.bound 0 * minor_limit n.bound (row_count units) = mul-le-mul same rows_limit in
      Within-from_entries most_entry line.entries (λ i l.
      at_most (unsigned_abs (entry line.entries i)) (n.bound 0 * minor_limit n.bound s.rows) most_entry
      (entry_within (n.bound 0 * minor_limit n.bound s.rows) line.entries r i)
      (at_most (n.bound 0 * minor_limit n.bound s.rows) (n.bound 0 * minor_limit n.bound (row_count units)) most_entry t n.entries))

  pub by_denominator : IsWide (setting_of units) s order → IsWideByDenominator units s order
  by_denominator (IsWide.search_wide f) = absurd (not_too_wide n.bound n.some_bound s.rows (columns_of units order) columns_from fit f)
  by_denominator (IsWide.direction_wide w line f d never) = absurd (never (narrow_line units s is_flight w line (entries_fit w f line d)))
  by_denominator (IsWide.move_wide w m p q f is out) = record {
    circuit = w;
    finds = f;
    m = m;
    plus_end = p;
    minus_end = q;
    is = is;
    wide = λ a b. out (record { plus = a; minus = b });
  }
