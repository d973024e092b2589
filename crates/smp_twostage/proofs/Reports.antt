-- The lines of the report on a stratum tell the totals of the statement.
use Rattle.std.proofs.Common.{◌≡◌, ℕ, suc, ◌+◌, ◌<◌, Bool, cond, ℤ, pos, List, [], ◌∷◌, map, length, arith, refl, sym, ap, ◌∙◌, subst}
use Rattle.std.specs.{Prelude.{nat_eq}, List.{range_with_len}}
use Rattle.std.proofs.{lemmas.List.{get_or-map, length-map}, lemmas.List.FromFn.{fill_by_all}, lemmas.Result.{IfOk-weaker}}
use Rattle.smp_frac.specs.{Fractions.{Same, whole, integer}, declared.fractions.Frac.{Frac}, LowestTerms.{lowest_terms}}
use Rattle.smp_frac.proofs.Arithmetic.{same_refl, same_sym, same_trans}
use Rattle.smp_kernel.specs.Vectors.{entry}
use Rattle.smp_prob.specs.Inclusions.{asked_fraction, inclusion, is_taken}
use Rattle.smp_weights.specs.{Chosen.{chosen_units}, Values.{weighted_total}}
use Rattle.smp_weights.proofs.Values.{estimate_value}
use Rattle.smp_twostage.specs.{Strata.{StratumUnits, AreStratumUnits, value_in}, Totals.{counted, estimate, known, known_value}}
use Rattle.smp_twostage.specs.{DrawnLines.{Drawn, column_estimate, column_of, known_sum}, Reports.{EachLineTells, TellsColumn, TellsOf}}
use Rattle.smp_twostage.proofs.{Balances.{estimate_alone, known_alone}, BalanceSums.{chosen_sum, known_all}, ToldLines.{known_is, taken_is}}

module _ (s : StratumUnits) (ok : AreStratumUnits s) (selected : ℕ → Bool) (column : ℕ) where
  abbrev count : ℕ
  count = length s.values

  abbrev value : ℕ → ℤ
  value k = value_in s column k

  abbrev asked : ℕ → Frac
  asked k = lowest_terms (asked_fraction s.request k)

  abbrev chosen : ℕ → Bool
  chosen k = is_taken selected (inclusion s.request k)

  abbrev all : {A : Type 0} → (ℕ → A) → List A
  all f = map f (range_with_len 0 count)

  column_is : map (λ (v : List ℤ). entry v column) s.values ≡ all value
  column_is = fill_by_all value (map (λ (v : List ℤ). entry v column) s.values) count (pos 0) (length-map s.values (λ (v : List ℤ). entry v column))
      (λ k l. get_or-map (λ (v : List ℤ). entry v column) s.values k [] (pos 0) l)

  estimated : Same (weighted_total (chosen_units (all value) (all asked) (all chosen))) (estimate (s ∷ []) selected (suc column))
  estimated =
      same_trans
      (chosen_sum value asked chosen count (λ k. cond (chosen k) (counted s (suc column) k) (whole 0))
      (λ k l. taken_is s.request ok.request k selected (value k) (chosen k) refl))
      (same_sym (estimate_alone s (suc column) selected))

  known_so : (k : ℕ) → k < count → Same (integer (cond (nat_eq (asked k).num 0) (pos 0) (value k))) (integer (known_value s column k))
  known_so k l =
      subst (λ (z : ℤ). Same (integer (cond (nat_eq (asked k).num 0) (pos 0) (value k))) (integer z)) (known_is s.request ok.request k (value k))
      (same_refl (integer (cond (nat_eq (asked k).num 0) (pos 0) (value k))))

  known_total_is : Same (integer (known_sum (all asked) (all value))) (known (s ∷ []) (suc column))
  known_total_is =
      same_trans (known_all value asked count (λ k. integer (known_value s column k)) known_so)
      (same_sym (known_alone s (suc column)))

  tells : (drawn : Drawn) → TellsOf s selected drawn → TellsColumn drawn (s ∷ []) selected column
  tells drawn of =
      let values : column_of drawn column ≡ all value = ap (map (λ (v : List ℤ). entry v column)) of.values ∙ column_is in
      let row : suc column ≡ length (s ∷ []) + column = omega arith in
      let units : chosen_units (column_of drawn column) drawn.asked drawn.chosen ≡ chosen_units (all value) (all asked) (all chosen) = rw (values, of.asked, of.chosen) refl in
      record {
        estimate = IfOk-weaker (column_estimate drawn column) _ _
            (λ a same. same_trans same
            (subst (λ us. Same (weighted_total us) (estimate (s ∷ []) selected (length (s ∷ []) + column))) (sym units) (subst (λ j. Same (weighted_total (chosen_units (all value) (all asked) (all chosen))) (estimate (s ∷ []) selected j)) row estimated)))
            (estimate_value (chosen_units (column_of drawn column) drawn.asked drawn.chosen));
        known = rw (of.asked, values) (subst (λ j. Same (integer (known_sum (all asked) (all value))) (known (s ∷ []) j)) row known_total_is);
      }

pub each_line_tells : EachLineTells
each_line_tells s ok selected drawn of column = tells s ok selected column drawn of
