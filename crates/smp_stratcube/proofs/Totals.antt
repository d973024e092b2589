-- A move keeps the total of each row in force: the size of a stratum, or the total of a variable over all strata.
use Rattle.std.proofs.Common.{◌≡◌, ℕ, suc, ◌+◌, ◌*◌, ◌/◌, ◌<◌, ◌≤◌, nat_lt, cond, Bool, ℤ, pos, negsuc, neg_ℤ, ◌*ℤ◌, List, map, take, length, get_or, arith, sym, ap, ◌∙◌, subst, inl, inr}
use Rattle.std.specs.Int.RustNames.{unsigned_abs}
use Rattle.std.proofs.{lemmas.Bool.{cases_Bool, cases_eq, eq-eqb, ltb-true, ne_eqb}, lemmas.Int.{ints}, lemmas.List.{take-map}, lemmas.Simd.{map-map}}
use Rattle.std.proofs.Math.Nat.{mul-div_cancel'}
use Prim.Native.Nat.{◌∣◌}
use lib.IntN.{*ℤ-zero}
use Rattle.smp_frac.specs.Fractions.{Fraction, Same, whole, integer, times, over, sum_below}
use Rattle.smp_frac.proofs.Arithmetic.{same_sym, same_trans, times-zero, zero-times}
use Rattle.smp_frac.proofs.{Integers.{diff, diff-neg, same-diff, by_diff, diffs, pos-diff}, Signs.{neg-diff}}
use Rattle.smp_kernel.specs.{Vectors.{entry, dot}, Searches.{found}}
use Rattle.smp_kernel.proofs.FoundCircuits.{circuit_row, in_row}
use Rattle.smp_moves.specs.{declared.lines.Ratio.{Ratio}, Moves.{Line, Move, chosen_line, entry_of, fraction_of}}
use Rattle.smp_moves.proofs.{LineEnds.{lowest_is}, LineSums.{sum_line, line_dot}, Totals.{ends_stay}}
use Rattle.smp_stratcube.specs.{Units.{Units, column, columns_of, share, stratum}, States.{Flight, IsFlying}, Kept.Computed.{moved_values}}
use Rattle.smp_stratcube.specs.{Values.{fractional_units, value_at}, Moves.{setting_of}, Balances.{expanded}}
use Rattle.smp_stratcube.specs.Laws.Nexts.{end_is, is_direction, line_ok, prefix_in, some_shares}
use Rattle.smp_moves.specs.{Steps.{Finds, IsDirection, product, scale_of, signed}, Kept.Computed.{direction, IsKnown}}
use Rattle.smp_moves.proofs.{Computed.{front_some, prefix_length}, Products.{entry-scaled, scale_divides}, Proportions.{as_positive, entry_at, stratum_row, variable_row}}

-- ---- an entry of a direction is in proportion to probability times factor

-- over ℕ: the number N of a product, times the denominator of the probability
number_is : (fn fd wn pn pd L : ℕ) → pd ∣ L → fn * wn * pd ≡ pn * fd → pn * (L / pd) * fd ≡ fn * wn * L
number_is fn fd wn pn pd L d h =
    let q : ℕ = L / pd in
    let whole_is : pd * q ≡ L = mul-div_cancel' pd d in
    let a : pn * q * fd ≡ q * (pn * fd) = omega arith in
    let b : q * (fn * wn * pd) ≡ fn * wn * (pd * q) = omega arith in
    a ∙ ap (λ x. q * x) (sym h) ∙ b ∙ ap (λ x. fn * wn * x) whole_is

module _ (D L fn fd : ℕ) (pD : 1 ≤ D) (pf : 1 ≤ fd) where
  -- where the factor is a difference, and so is the product
  in_differences : (e : ℤ) (u v N M : ℕ) → pos D *ℤ e ≡ diff N M → N * fd ≡ fn * u * L → M * fd ≡ fn * v * L → Same (integer e) (times (over L D) (times (over fn fd) (integer (diff u v))))
  in_differences e u v N M h p q =
      by_diff (λ e. pos D *ℤ e ≡ diff N M → Same (integer e) (times (over L D) (times (over fn fd) (integer (diff u v)))))
      (λ a b r. entry_at D L fn fd a b u v pD pf (let s = ap (λ x. x * fd) (sums D N M a b r) in omega (arith, s, p, q))) e h
    where
      sums : (D N M a b : ℕ) → pos D *ℤ diff a b ≡ diff N M → D * a + M ≡ D * b + N
      sums D N M a b r = (let k : diff (D * a + 0 * b) (D * b + 0 * a) ≡ diff N M = simp diffs at r in omega (arith, same-diff _ _ _ _ k))

  entry_in_proportion : (e w : ℤ) (N : ℕ) → pos D *ℤ e ≡ signed w N → N * fd ≡ fn * unsigned_abs w * L → Same (integer e) (times (over L D) (times (over fn fd) (integer w)))
  entry_in_proportion e (pos n) N h k =
      subst (λ (z : ℤ). Same (integer e) (times (over L D) (times (over fn fd) (integer z)))) (sym (pos-diff n))
      (in_differences e n 0 N 0 (h ∙ pos-diff N) k (omega arith))
  entry_in_proportion e (negsuc n) N h k =
      subst (λ (z : ℤ). Same (integer e) (times (over L D) (times (over fn fd) (integer z)))) (sym (neg-diff n))
      (in_differences e 0 (suc n) 0 N (h ∙ ap neg_ℤ (pos-diff N) ∙ diff-neg N 0) (omega arith) k)

-- ---- a row

other_row : (E B : Fraction) (w : ℤ) → Same (times (whole 0) E) (times B (integer (w *ℤ pos 0)))
other_row E B w = same_trans (zero-times E) (same_sym (subst (λ (z : ℤ). Same (times B (integer z)) (whole 0)) (sym (*ℤ-zero w)) (times-zero B)))

-- ---- the total of a direction is 0

abbrev pub number_in : Units → ℕ → ℕ → ℤ
number_in units row k = entry (column units k) row

module _ (units : Units) (f : Flight) (ok : IsFlying units f) (w : List ℤ) (finds : Finds (setting_of units) f (fractional_units f.values) (found w)) where
  abbrev line : Line
  line = direction (share units) (fractional_units f.values) w

  abbrev prefix : List ℕ
  prefix = take (length w) (fractional_units f.values)

  is : IsDirection (share units) (fractional_units f.values) w line
  is = is_direction units f ok w finds

  abbrev D : ℕ
  D = unsigned_abs is.entries.divisor

  abbrev L : ℕ
  L = scale_of (share units) (take (length w) (fractional_units f.values)) w

  abbrev A : Fraction
  A = over L D

  some_D : 1 ≤ D
  some_D = omega (arith, ints, is.entries.positive)

  -- the entry of a unit
  entry_is : (j : ℕ) → j < length line.units → Same (integer (entry line.entries j)) (times A (times (fraction_of (share units (get_or line.units j 0))) (integer (entry w j))))
  entry_is j l =
      let k : ℕ = get_or line.units j 0 in
      let below = ok.are.below_one k (prefix_in units f ok w finds j l) in
      let m : j < length w = omega (arith, l, prefix_length (setting_of units) f (fractional_units f.values) w finds) in
      let low = lowest_is ((share units k).num * unsigned_abs (entry w j)) (share units k).den (omega (arith, below)) in
      let p : Ratio = product (share units k) (entry w j) in
      let d : p.den ∣ L = scale_divides (share units) prefix w (front_some (setting_of units) f (fractional_units f.values) w finds (some_shares units f ok)) j l m in
      let num : p.num * (L / p.den) * (share units k).den ≡ (share units k).num * unsigned_abs (entry w j) * L = number_is (share units k).num (share units k).den (unsigned_abs (entry w j)) p.num p.den L d low.same in
      let prod : pos D *ℤ entry line.entries j ≡ signed (entry w j) (p.num * (L / p.den)) =
      ap (λ (z : ℤ). z *ℤ entry line.entries j) (sym (as_positive is.entries.divisor is.entries.positive)) ∙ is.entries.product j ∙ entry-scaled (share units) L prefix w j l m in
      entry_in_proportion D L (share units k).num (share units k).den some_D (omega (arith, below)) (entry line.entries j) (entry w j) (p.num * (L / p.den)) prod num

  factor : ℕ → Fraction
  factor row = cond (nat_lt row (length units.firsts)) (times (over L D) (ok.are.scale row)) (over L D)

  in_proportion : (row j : ℕ) → j < length line.units →
      Same (times (expanded units row (get_or line.units j 0)) (integer (entry line.entries j))) (times (factor row) (integer (entry w j *ℤ number_in units row (get_or line.units j 0))))
  unfolding factor
  in_proportion row j l =
      let k : ℕ = get_or line.units j 0 in
      let inside : k < length units.members = prefix_in units f ok w finds j l in
      elim (cases_Bool (nat_lt row (length units.firsts))) [
        | inr v ↦ rw v (variable_row A (integer (entry line.entries j)) (number_in units row k) (entry w j) (share units k).num (share units k).den (ok.are.drawn k inside) (omega (arith, ok.are.below_one k inside)) (entry_is j l))
        | inl t ↦ elim (cases_eq (stratum units k) row) [
          | inl same ↦
              (let own : number_in units row k ≡ pos (ok.are.size k) = subst (λ (r : ℕ). entry (column units k) r ≡ pos (ok.are.size k)) same (ok.are.own_row k inside) in
              let scaled_is : Same (fraction_of (share units k)) (times (ok.are.scale row) (whole (ok.are.size k))) = subst (λ (r : ℕ). Same (fraction_of (share units k)) (times (ok.are.scale r) (whole (ok.are.size k)))) same (ok.are.proportional k inside) in
              rw (t, eq-eqb (stratum units k) row same, own) (stratum_row A (integer (entry line.entries j)) (ok.are.scale row) (entry w j) (share units k).num (share units k).den (ok.are.size k) (entry_is j l) scaled_is))
          | inr ne ↦
              (let none : number_in units row k ≡ pos 0 = ok.are.other_rows k row inside (ltb-true row (length units.firsts) t) (λ e. ne (sym e)) in
              rw (t, ne_eqb (stratum units k) row ne, none) (other_row (integer (entry line.entries j)) (times A (ok.are.scale row)) (entry w j)))
        ]
      ]

  none_in : (row : ℕ) → row < f.rows → dot w (map (number_in units row) line.units) ≡ pos 0
  none_in row l =
      ap (dot w) (sym (map-map (λ (c : List ℤ). entry c row) (column units) prefix)) ∙ ap (λ cs. dot w (in_row row cs)) (sym (take-map (column units) (length w) (fractional_units f.values)))
      ∙ circuit_row f.rows (columns_of units (fractional_units f.values)) w finds row l

  pub direction_total : (row : ℕ) → row < f.rows → Same (sum_below (length units.members) (λ k. times (expanded units row k) (integer (entry_of (direction (share units) (fractional_units f.values) w) k)))) (whole 0)
  direction_total row l =
      let lok = line_ok units f ok w finds in
      same_trans (sum_line (length units.members) (expanded units row) line.units line.entries (prefix_in units f ok w finds) lok.order.distinct)
      (same_trans (line_dot (expanded units row) (factor row) (number_in units row) line.units line.entries w is.lengths (sym (prefix_length (setting_of units) f (fractional_units f.values) w finds)) (in_proportion row))
      (subst (λ (z : ℤ). Same (times (factor row) (integer z)) (whole 0)) (sym (none_in row l)) (times-zero (factor row))))

-- ---- both ends of a move

module _ (units : Units) (f : Flight) (ok : IsFlying units f) (m : Move) (k : IsKnown (setting_of units) (moved_values units) f (fractional_units f.values) m) where
  pub end_total : (plus_way : Bool) (row : ℕ) → row < f.rows → Same (sum_below (length units.members) (λ u. times (expanded units row u) (value_at (moved_values units f.values (chosen_line m plus_way)) u)))
      (sum_below (length units.members) (λ u. times (expanded units row u) (value_at f.values u)))
  end_total plus_way row l =
      ends_stay (length units.members) (expanded units row) (value_at f.values) (λ p. value_at (moved_values units f.values (chosen_line m p))) m (λ p. (end_is units f ok m k p).moved.at)
      (subst (λ (x : Move). Same (sum_below (length units.members) (λ u. times (expanded units row u) (integer (entry_of x.direction u)))) (whole 0)) (sym k.same) (direction_total units f ok k.circuit k.finds row l)) plus_way
