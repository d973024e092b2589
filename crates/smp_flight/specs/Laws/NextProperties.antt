-- The step has the properties of a search and of a move.
use Rattle.std.proofs.Common.{◌≡◌, ℕ, ◌+◌, ◌≤◌, List, ℤ, take, length, arith, refl, sym, ap, ◌∙◌, subst}
use Rattle.std.proofs.lemmas.List.{take-map, take-take}
use Rattle.std.proofs.lemmas.Nat.Gcd.{dvd_refl}
use Rattle.smp_kernel.specs.RowReduction.{cut, AreIndependent}
use Rattle.smp_kernel.specs.Searches.{Search, found, none, too_wide, IsSearch}
use Rattle.smp_moves.specs.Kept.Searches.{search, search_is}
use Rattle.smp_kernel.proofs.SearchLaw.{one_answer, first_decide, few_enter}
use Rattle.smp_kernel.proofs.Existence.{cut_short}
use Rattle.smp_kernel.proofs.FoundCircuits.{circuit_length}
use Rattle.smp_flight.specs.States.{Units, Flight, IsUnits, IsFlight, column, columns_of, tracked_start}
use Rattle.smp_moves.specs.Moves.{independent, Move, IsOrder, move}
use Rattle.smp_moves.specs.Steps.{Finds, IsNext}
use Rattle.smp_flight.specs.Moves.{setting_of}
use Rattle.smp_moves.specs.Ends.{end_of}
use Rattle.smp_flight.specs.Steps.{next_on, next_on_is}
use Rattle.smp_moves.specs.Kept.Computed.{next_by, next_of, next_through}
use Rattle.smp_moves.proofs.Computed.{independent_by, next_is as next_is_by}
use Rattle.smp_flight.specs.Laws.Nexts.{IsKnown, known_by, owes}

-- ---- the first state

-- the state before the first step
pub started_flight : (units : Units) → IsUnits units → IsFlight units (tracked_start units).flight
started_flight units are = record {
  are = are;
  values = are.requested;
  fixed_is = refl;
  multiple = dvd_refl units.requested.den;
  rows_in = omega arith;
}

-- ---- the first units of an order decide, one more than there are rows in force

module _ (units : Units) (s : Flight) (order : List ℕ) where
  same_search : search s.rows (columns_of units (take (s.rows + 1) order)) ≡ search s.rows (columns_of units order)
  same_search =
      let front = search_is s.rows (columns_of units (take (s.rows + 1) order)) in
      let fewer : IsSearch s.rows (cut s.rows (take (s.rows + 1) (columns_of units order)))
      (search s.rows (columns_of units (take (s.rows + 1) order))) =
      subst (λ (cs : List (List ℤ)). IsSearch s.rows (cut s.rows cs)
      (search s.rows (columns_of units (take (s.rows + 1) order))))
      (sym (take-map (column units) (s.rows + 1) order)) front in
      one_answer s.rows (cut s.rows (columns_of units order))
      (search s.rows (columns_of units (take (s.rows + 1) order))) (search s.rows (columns_of units order))
      (first_decide s.rows (columns_of units order) (search s.rows (columns_of units (take (s.rows + 1) order)))
      fewer) (search_is s.rows (columns_of units order))

  circuit_few : (w : List ℤ) → Finds (setting_of units) s order (found w) → length w ≤ s.rows + 1
  circuit_few w f = omega (
    arith,
    circuit_length s.rows (cut s.rows (columns_of units order)) w f,
    few_enter s.rows (cut s.rows (columns_of units order)) (cut_short s.rows (columns_of units order)) f.number
        f.enter,
  )

  same_next : (answer : Search) → Finds (setting_of units) s order answer →
      next_of (setting_of units) (end_of units.requested.den) s.values (take (s.rows + 1) order) answer
      ≡ next_of (setting_of units) (end_of units.requested.den) s.values order answer
  same_next none f = refl
  same_next too_wide f = refl
  same_next (found w) f = (let same : take (length w) (take (s.rows + 1) order) ≡ take (length w) order =
      take-take (length w) (s.rows + 1) order (circuit_few w f) in
      ap (λ (ks : List ℕ). next_through (setting_of units) (end_of units.requested.den) s.values ks w) same)

  pub next_by_front : next_by (setting_of units) (end_of units.requested.den) (take (s.rows + 1) order) s
      ≡ next_by (setting_of units) (end_of units.requested.den) order s
  next_by_front =
      ap (next_of (setting_of units) (end_of units.requested.den) s.values (take (s.rows + 1) order)) same_search
      ∙ same_next (search s.rows (columns_of units order)) (search_is s.rows (columns_of units order))

-- ---- of the step itself

module _ (units : Units) (s : Flight) (order : List ℕ) where
  pub next_is : IsFlight units s → IsOrder s.values order → IsNext (setting_of units) s order (next_on units order s)
  next_is is_flight ok = subst (IsNext (setting_of units) s order) (sym (next_on_is units order s))
      (next_is_by (setting_of units) (end_of units.requested.den) s order (owes units s order is_flight ok))

  pub known : IsFlight units s → IsOrder s.values order → (m : Move) → next_on units order s ≡ move m → IsKnown units s order m
  known is_flight ok m e = known_by units s order is_flight ok m (sym (next_on_is units order s) ∙ e)

  pub independent_columns : next_on units order s ≡ independent → AreIndependent s.rows (cut s.rows (columns_of units order))
  independent_columns e = independent_by (setting_of units) (end_of units.requested.den) s order (sym (next_on_is units order s) ∙ e)

  pub next_on_front : next_on units (take (s.rows + 1) order) s ≡ next_on units order s
  next_on_front = next_on_is units (take (s.rows + 1) order) s ∙ next_by_front units s order ∙ sym (next_on_is units order s)
