-- The report on strata that are drawn together tells the totals of the statement: each unit is a row, so the sums over the rows are those
-- over the units of each stratum.
use Rattle.std.proofs.Common.{◌≡◌, ℕ, suc, ◌+◌, ◌-◌, ◌<◌, Bool, false, cond, ℤ, pos, List, [], ◌∷◌, map, length, All, arith, refl, sym, ap, ◌∙◌, subst}
use Rattle.std.specs.{Prelude.{if◌then◌else◌, nat_eq, nat_lt}, List.{range_with_len}}
use Rattle.std.proofs.{lemmas.Bool.{le-ltb}, lemmas.Result.{IfOk-weaker}, lemmas.Simd.{map-map}, lemmas.List.Elements.{All-get_or}}
use Rattle.smp_frac.specs.{Fractions.{Fraction, Same, whole, integer, sum_below}, declared.fractions.Frac.{Frac}}
use Rattle.smp_frac.proofs.Arithmetic.{plus_same, same_refl, same_trans, sum_same}
use Rattle.smp_frac.specs.LowestTerms.{lowest_terms}
use Rattle.smp_kernel.specs.Vectors.{entry}
use Rattle.smp_prob.specs.{Inclusions.{asked_fraction, inclusion, is_taken}, Requests.{IsRequest}}
use Rattle.smp_weights.specs.{Chosen.{chosen_units}, Values.{weighted_total}}
use Rattle.smp_weights.proofs.Values.{estimate_value}
use Rattle.smp_twostage.specs.{Strata.{StratumUnits, value_in, values_of}, DrawnLines.{Drawn, column_estimate, column_of, known_sum}}
use Rattle.smp_twostage.specs.Totals.{counted, estimate, known, known_value, over_frame, size_of, variable_of}
use Rattle.smp_twostage.specs.Reports.{AreUnitRows, EachRowTells, TellsColumn, TellsRows, UnitRows, free_before, no_stratum, stratum_at}
use Rattle.smp_twostage.proofs.{Balances.{estimate_in, known_in}, RowSums.{over_places}, BalanceSums.{chosen_sum, known_all, sum_first}}
use Rattle.smp_twostage.proofs.ToldLines.{known_is, taken_is}

-- ---- a variable over all strata, each by its number

module _ (part : ℕ → ℕ → StratumUnits → Fraction) (column : ℕ) where
  strata_sum : (frame : List StratumUnits) (before : ℕ)
      → Same (sum_below (length frame) (λ h. part (before + free_before frame h) (suc column) (stratum_at frame h))) (variable_of part before column frame)
  strata_sum [] before = same_refl (whole 0)
  strata_sum (s ∷ frame) before =
      let own : ℕ → Fraction = λ h. part (before + free_before (s ∷ frame) h) (suc column) (stratum_at (s ∷ frame) h) in
      let behind : ℕ → Fraction = λ h. part (before + length s.request.free + free_before frame h) (suc column) (stratum_at frame h) in
      let first : before + 0 ≡ before = omega arith in
      let here : Same (own 0) (part before (suc column) s) = subst (λ (n : ℕ). Same (own 0) (part n (suc column) s)) first (same_refl (own 0)) in
      let same : (h : ℕ) → Same (own (suc h)) (behind h) =
      λ h. (let moved : before + (length s.request.free + free_before frame h) ≡ before + length s.request.free + free_before frame h = omega arith in
      subst (λ (n : ℕ). Same (own (suc h)) (part n (suc column) (stratum_at frame h))) moved (same_refl (own (suc h)))) in
      same_trans (sum_first (length frame) own)
      (plus_same here
      (same_trans (sum_same (length frame) (λ h. own (suc h)) behind (λ h l. same h)) (strata_sum frame (before + length s.request.free))))

  -- a row behind those of the sizes
  variable_row : (frame : List StratumUnits) → over_frame part frame (length frame + column) ≡ variable_of part 0 column frame
  variable_row frame =
      let row : ℕ = length frame + column in
      let behind : nat_lt row (length frame) ≡ false = le-ltb row (length frame) (omega arith) in
      let place : row - length frame ≡ column = omega arith in
      ap (λ (b : Bool). if b then size_of part 0 row frame else variable_of part 0 (row - length frame) frame) behind
      ∙ ap (λ (n : ℕ). variable_of part 0 n frame) place

  frame_sum : (frame : List StratumUnits)
      → Same (sum_below (length frame) (λ h. part (free_before frame h) (suc column) (stratum_at frame h))) (over_frame part frame (length frame + column))
  frame_sum frame =
      let from : (h : ℕ) → 0 + free_before frame h ≡ free_before frame h = λ h. omega arith in
      subst (Same (sum_below (length frame) (λ h. part (free_before frame h) (suc column) (stratum_at frame h)))) (sym (variable_row frame))
      (same_trans
      (sum_same (length frame) (λ h. part (free_before frame h) (suc column) (stratum_at frame h)) (λ h. part (0 + free_before frame h) (suc column) (stratum_at frame h))
      (λ h l. subst (λ (n : ℕ). Same (part n (suc column) (stratum_at frame h)) (part (0 + free_before frame h) (suc column) (stratum_at frame h))) (from h)
      (same_refl (part (0 + free_before frame h) (suc column) (stratum_at frame h)))))
      (strata_sum frame 0))

module _ (frame : List StratumUnits) (requests : All (λ s. IsRequest s.request) frame) (rows : UnitRows) (are : AreUnitRows frame rows) (selected : ℕ → Bool) (column : ℕ) where
  abbrev own : ℕ → StratumUnits
  own k = stratum_at frame (rows.stratum k)

  abbrev value : ℕ → ℤ
  value k = value_in (own k) column (rows.unit k)

  abbrev asked : ℕ → Frac
  asked k = lowest_terms (asked_fraction (own k).request (rows.unit k))

  abbrev chosen_in : ℕ → ℕ → Bool
  chosen_in h u = selected (free_before frame h + u)

  abbrev chosen : ℕ → Bool
  chosen k = is_taken (chosen_in (rows.stratum k)) (inclusion (own k).request (rows.unit k))

  abbrev all : {A : Type 0} → (ℕ → A) → List A
  all f = map f (range_with_len 0 rows.count)

  ok : (k : ℕ) → k < rows.count → IsRequest (own k).request
  ok k l = All-get_or (λ (s : StratumUnits). IsRequest s.request) frame (rows.stratum k) no_stratum (are.stratum k l) requests

  over_rows : (f : ℕ → ℕ → Fraction)
      → Same (sum_below rows.count (λ k. f (rows.stratum k) (rows.unit k))) (sum_below (length frame) (λ h. sum_below (length (stratum_at frame h).values) (λ u. f h u)))
  over_rows f =
      over_places rows.count (length frame) (λ h. length (stratum_at frame h).values) rows.stratum rows.unit rows.row
      (λ k l. (are.stratum k l, are.unit k l)) (λ h u l m. (are.row h u l m, are.row_stratum h u l m, are.row_unit h u l m)) are.back f

  -- what a unit adds to the estimate of the column
  abbrev drawn_part : ℕ → ℕ → Fraction
  drawn_part h u = cond (is_taken (chosen_in h) (inclusion (stratum_at frame h).request u)) (counted (stratum_at frame h) (suc column) u) (whole 0)

  estimated : Same (weighted_total (chosen_units (all value) (all asked) (all chosen))) (estimate frame selected (length frame + column))
  estimated =
      same_trans
      (chosen_sum value asked chosen rows.count (λ k. drawn_part (rows.stratum k) (rows.unit k))
      (λ k l. taken_is (own k).request (ok k l) (rows.unit k) (chosen_in (rows.stratum k)) (value k) (chosen k) refl))
      (same_trans (over_rows drawn_part) (frame_sum (λ before row s. estimate_in s (λ u. selected (before + u)) row) column frame))

  known_so : (k : ℕ) → k < rows.count → Same (integer (cond (nat_eq (asked k).num 0) (pos 0) (value k))) (integer (known_value (own k) column (rows.unit k)))
  known_so k l =
      subst (λ (z : ℤ). Same (integer (cond (nat_eq (asked k).num 0) (pos 0) (value k))) (integer z)) (known_is (own k).request (ok k l) (rows.unit k) (value k))
      (same_refl (integer (cond (nat_eq (asked k).num 0) (pos 0) (value k))))

  known_total_is : Same (integer (known_sum (all asked) (all value))) (known frame (length frame + column))
  known_total_is =
      same_trans (known_all value asked rows.count (λ k. integer (known_value (own k) column (rows.unit k))) known_so)
      (same_trans (over_rows (λ h u. integer (known_value (stratum_at frame h) column u))) (frame_sum (λ before row s. known_in s row) column frame))

  tells : (drawn : Drawn) → TellsRows frame rows selected drawn → TellsColumn drawn frame selected column
  tells drawn of =
      let values : column_of drawn column ≡ all value =
      ap (map (λ (v : List ℤ). entry v column)) of.values
      ∙ map-map (λ (v : List ℤ). entry v column) (λ k. values_of (own k) (rows.unit k)) (range_with_len 0 rows.count) in
      let units : chosen_units (column_of drawn column) drawn.asked drawn.chosen ≡ chosen_units (all value) (all asked) (all chosen) = rw (values, of.asked, of.chosen) refl in
      record {
        estimate = IfOk-weaker (column_estimate drawn column) _ _
            (λ a same. same_trans same (subst (λ us. Same (weighted_total us) (estimate frame selected (length frame + column))) (sym units) estimated))
            (estimate_value (chosen_units (column_of drawn column) drawn.asked drawn.chosen));
        known = rw (of.asked, values) known_total_is;
      }

pub each_row_tells : EachRowTells
each_row_tells frame requests rows are selected drawn of column = tells frame requests rows are selected column drawn of
