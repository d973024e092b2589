-- Every selection from a stratum is balanced where that from its free units is.
use Rattle.std.proofs.Common.{◌≡◌, ℕ, zero, suc, ◌+◌, ◌-◌, ◌^◌, ◌<◌, ◌≤◌, Bool, cond, ℤ, List, [], ◌∷◌, length, get_or, arith, refl, sym, ap, ◌∙◌, subst, inl, inr, ◌⊎◌}
use Rattle.std.specs.Prelude.{slice_index}
use Rattle.std.proofs.{lemmas.Bool.{cases_eq}, lemmas.List.{get_or-map, length-map}}
use Rattle.smp_frac.specs.{Fractions.{Fraction, Same, whole, plus, times, sum_below}, Bounds.{absolute}}
use Rattle.smp_frac.proofs.Arithmetic.{same_refl, same_sym, same_trans, plus_same, plus-zero, sum-zero}
use Rattle.smp_kernel.specs.Vectors.{Within}
use Rattle.smp_prob.specs.Inclusions.{inclusion, is_taken}
use Rattle.smp_split.specs.{Rows.{row_value}, Trees.{Tree}, Paths.{Entry, Leads}, Laws.Steps.{leads_belong}}
use Rattle.smp_values.specs.Values.{is_fractional, is_one, value_at, fractional_units}
use Rattle.smp_moves.specs.{Cubes.{values_in, flying}, Steps.{IsNext}, Moves.{IsOrder}, Balances.{IsBalanced}}
use Rattle.smp_flight.specs.States as flights
use Rattle.smp_flight.specs.{States.{Flight}, Moves.{setting_of}, Steps.{next, stepping}, Cube.{cube_tree}, Laws.CubeSplits.{cube_lawful}}
use Rattle.smp_flight.specs.{Requests.{AreValues}, Totals.{expanded, addend, row_total, target}, Laws.NextProperties.{started_flight}}
use Rattle.smp_flight.specs.Totals as free
use Rattle.smp_flight.proofs.{Making.{rows_are, units_are}, Seen.{total_is as seen_total}, CubeStarts.{cube_balances}}
use Rattle.smp_flight.specs.{Selections.{Balancing, IsBalancing, IsSelection, Selection, starting}, Landings.{weighed_of}, Cube.{cube_of}}
use Rattle.smp_moves.specs.Owed.{balance_of as weighed_balance, weighed_bound, weighed_estimate, weighed_total}
use Rattle.smp_flight.specs.Landings as landings
use Rattle.smp_flight.specs.Laws.CubeSplits.{is_cube}
use Rattle.smp_localcube.specs.{Local.{IsLocal, local_of}, Method.{LocalUnits, started}, Laws.Splits.{is_local_cube}}
use Rattle.smp_localcube.proofs.Starts.{local_balances, started_local}
use Rattle.smp_twostage.specs.Strata.{StratumUnits, AreStratumUnits, values_of, column_count, free_values, free_units}
use Rattle.smp_twostage.specs.Totals.{AreBalanced, EachIsBalanced, balance_of, counted, error_bound, estimate, is_undecided, known, known_of, row_count, total}
use Rattle.smp_split.proofs.RowSums.{at_free, sum_apart}
use Rattle.smp_twostage.proofs.{AddedTotals.{is_added}, OneStratum.{alone, from_first}}
use Rattle.smp_twostage.proofs.BalanceTerms.{fixed_at, known_at, total_term, estimate_term, known_term, error_term}

-- what the certain units of a stratum add to a row
abbrev pub fixed : StratumUnits → ℕ → Fraction
fixed s row = sum_below (length s.values) (λ k. fixed_at s row k (inclusion s.request k))

-- the total of a row, of free units of these values
abbrev pub total_in : StratumUnits → (ℕ → Fraction) → ℕ → Fraction
total_in s value row = sum_below (length s.values) (λ k. times (counted s row k) (row_value value (inclusion s.request k)))

-- what is estimated of it, where these free units are selected
abbrev pub estimate_in : StratumUnits → (ℕ → Bool) → ℕ → Fraction
estimate_in s selected row = sum_below (length s.values) (λ k. cond (is_taken selected (inclusion s.request k)) (counted s row k) (whole 0))

-- what is known of it
abbrev pub known_in : StratumUnits → ℕ → Fraction
known_in s row = sum_below (length s.values) (known_of s row)

-- what bounds its error, where these free units are undecided
abbrev pub bound_in : StratumUnits → (ℕ → Bool) → ℕ → Fraction
bound_in s open_ row = sum_below (length s.values) (λ k. cond (is_undecided open_ (inclusion s.request k)) (absolute (counted s row k)) (whole 0))

-- these are those over the stratum alone
module _ (s : StratumUnits) (row : ℕ) where
  pub total_alone : (value : ℕ → Fraction) → Same (total (s ∷ []) value row) (total_in s value row)
  total_alone value =
      subst (λ (f : ℕ → Fraction). Same (total (s ∷ []) value row) (total_in s f row)) (from_first value)
      (alone (λ before r u. total_in u (λ k. value (before + k)) r) s row)

  pub estimate_alone : (selected : ℕ → Bool) → Same (estimate (s ∷ []) selected row) (estimate_in s selected row)
  estimate_alone selected =
      subst (λ (f : ℕ → Bool). Same (estimate (s ∷ []) selected row) (estimate_in s f row)) (from_first selected)
      (alone (λ before r u. estimate_in u (λ k. selected (before + k)) r) s row)

  pub known_alone : Same (known (s ∷ []) row) (known_in s row)
  known_alone = alone (λ before r u. known_in u r) s row

  pub bound_alone : (open_ : ℕ → Bool) → Same (error_bound (s ∷ []) open_ row) (bound_in s open_ row)
  bound_alone open_ =
      subst (λ (f : ℕ → Bool). Same (error_bound (s ∷ []) open_ row) (bound_in s f row)) (from_first open_)
      (alone (λ before r u. bound_in u (λ k. open_ (before + k)) r) s row)

module _ (s : StratumUnits) (ok : AreStratumUnits s) where
  -- ---- the sums over all units, by those over the free ones

  pub apart : (f g h : ℕ → Fraction) → ((k : ℕ) → k < length s.values → Same (f k) (plus (at_free g (inclusion s.request k)) (h k))) → Same (sum_below (length s.values) f) (plus (sum_below (length s.request.shape) g) (sum_below (length s.values) h))
  apart f g h each =
      subst (λ (m : ℕ). Same (sum_below (length s.values) f) (plus (sum_below m g) (sum_below (length s.values) h))) (sym ok.request.paired)
      (sum_apart s.request (length s.values) ok.inside ok.stands g f h each)

  pub total_apart : (value : ℕ → Fraction) (row : ℕ)
      → Same (total_in s value row) (plus (sum_below (length s.request.shape) (λ u. times (expanded (free_units s) row u) (value u))) (fixed s row))
  total_apart value row =
      apart (λ k. times (counted s row k) (row_value value (inclusion s.request k))) (λ u. times (expanded (free_units s) row u) (value u)) (λ k. fixed_at s row k (inclusion s.request k))
      (λ k _. total_term s ok value row k (inclusion s.request k) refl)

  pub estimate_apart : (selected : ℕ → Bool) (row : ℕ)
      → Same (estimate_in s selected row) (plus (sum_below (length s.request.shape) (λ u. cond (selected u) (expanded (free_units s) row u) (whole 0))) (fixed s row))
  estimate_apart selected row =
      apart (λ k. cond (is_taken selected (inclusion s.request k)) (counted s row k) (whole 0)) (λ u. cond (selected u) (expanded (free_units s) row u) (whole 0)) (λ k. fixed_at s row k (inclusion s.request k))
      (λ k _. estimate_term s ok selected row k (inclusion s.request k) refl)

  known_of_is : (row k : ℕ) → known_of s row k ≡ known_at s row k (inclusion s.request k)
  known_of_is zero k = refl
  known_of_is (suc j) k = refl

  pub known_apart : (row : ℕ) → Same (known_in s row) (plus (target (free_units s) row) (fixed s row))
  known_apart row =
      apart (known_of s row) (addend (free_units s) row) (λ k. fixed_at s row k (inclusion s.request k))
      (λ k _. rw (known_of_is row k) (known_term s ok row k (inclusion s.request k) refl))

  pub bound_apart : (open_ : ℕ → Bool) (row : ℕ)
      → Same (bound_in s open_ row) (sum_below (length s.request.shape) (λ u. cond (open_ u) (absolute (expanded (free_units s) row u)) (whole 0)))
  bound_apart open_ row =
      let free_part : Fraction = sum_below (length s.request.shape) (λ u. cond (open_ u) (absolute (expanded (free_units s) row u)) (whole 0)) in
      same_trans
      (apart (λ k. cond (is_undecided open_ (inclusion s.request k)) (absolute (counted s row k)) (whole 0)) (λ u. cond (open_ u) (absolute (expanded (free_units s) row u)) (whole 0)) (λ k. whole 0)
      (λ k _. error_term s ok open_ row k (inclusion s.request k) refl))
      (same_trans (plus_same (same_refl free_part) (sum-zero (length s.values) (λ k. whole 0) (λ k _. same_refl (whole 0)))) (plus-zero free_part))

  -- ---- the free units

  pub one_each : length (free_values s) ≡ length s.request.free
  one_each = length-map s.request.free (values_of s)

  pub free_at : (u : ℕ) → u < length s.request.free → get_or (free_values s) u [] ≡ values_of s (slice_index s.request.free u)
  free_at u l = get_or-map (values_of s) s.request.free u 0 [] l

  pub same_length : (u : ℕ) → u < length s.request.free → length (get_or (free_values s) u []) ≡ column_count s
  same_length u l = ap length (free_at u l) ∙ ok.values.same (slice_index s.request.free u) (ok.inside u l)

  few_values : (n : ℕ) → length s.request.free ≡ n → length (get_or (free_values s) 0 []) ≤ 15
  few_values zero none = subst (λ (xs : List (List ℤ)). length (get_or xs 0 []) ≤ 15) (sym (no_values (free_values s) (one_each ∙ none))) (omega arith)
    where
      no_values : (xs : List (List ℤ)) → length xs ≡ 0 → xs ≡ []
      no_values [] h = refl
      no_values (x ∷ xs) h = absurd (omega arith)
  few_values (suc n) some = let few = ok.values.few in omega (arith, few, same_length 0 (omega (arith, some)))

  pub free_are_values : AreValues (free_values s)
  free_are_values = record {
    same = λ u l. let m : u < length s.request.free = omega (arith, l, one_each) in same_length u m ∙ sym (same_length 0 (omega (arith, m)));
    few = few_values (length s.request.free) refl;
    within = λ u l. let m : u < length s.request.free = omega (arith, l, one_each) in subst (Within (2 ^ 31 - 1)) (sym (free_at u m)) (ok.values.within (slice_index s.request.free u) (ok.inside u m));
  }

  first_flight : flights.IsFlight (free_units s) (flights.tracked_start (free_units s)).flight
  first_flight = started_flight (free_units s) (units_are s.request ok.request (free_values s) one_each free_are_values)

  -- a row of the stratum is a row of the free units, where there are any
  free_row : (row : ℕ) → row < row_count (s ∷ []) → 1 ≤ length s.request.free → row < flights.row_count (free_units s)
  free_row row l some = omega (arith, l, rows_are s.request ok.request (free_values s) one_each free_are_values, same_length 0 (omega (arith, some)))

  -- and where none is, its sums are 0
  none_free : (f g : ℕ → Fraction) → length s.request.free ≡ 0 → Same (sum_below (length s.request.shape) f) (sum_below (length s.request.shape) g)
  none_free f g none = subst (λ (n : ℕ). Same (sum_below n f) (sum_below n g)) (sym (ok.request.paired ∙ none)) (same_refl (whole 0))

  no_bound : (at : Balancing) (row : ℕ) → length s.request.free ≡ 0 → Same (whole 0) (free.error_bound (free_units s) (values_in at) row)
  no_bound at row none =
      subst (λ (n : ℕ). Same (whole 0) (sum_below n (λ u. cond (is_fractional (values_in at) u) (absolute (expanded (free_units s) row u)) (whole 0)))) (sym (ok.request.paired ∙ none)) (same_refl (whole 0))

  some_or_none : (1 ≤ length s.request.free) ⊎ (length s.request.free ≡ 0)
  some_or_none = elim (cases_eq (length s.request.free) 0) [ inl none ↦ inr none | inr some ↦ inl (omega (arith, some)) ]

  fewer_rows : flights.row_count (free_units s) ≤ row_count (s ∷ [])
  fewer_rows =
      let rows = rows_are s.request ok.request (free_values s) one_each free_are_values in
      elim some_or_none [
        | inl some ↦ omega (arith, rows, same_length 0 (omega (arith, some)))
        | inr none ↦ (let no : length (get_or (free_values s) 0 []) ≡ 0 = first_none (free_values s) (one_each ∙ none) in omega (arith, rows, no))
      ]
    where
      first_none : (xs : List (List ℤ)) → length xs ≡ 0 → length (get_or xs 0 []) ≡ 0
      first_none [] h = refl
      first_none (x ∷ xs) h = absurd (omega arith)

  -- a row past those of the free units is one where there are none
  past_free : (row : ℕ) → flights.row_count (free_units s) ≤ row → row < row_count (s ∷ []) → length s.request.free ≡ 0
  past_free row past l = elim some_or_none [ inl some ↦ absurd (let within = free_row row l some in omega (arith, within, past)) | inr none ↦ none ]

  -- ---- a selection from the free units that is balanced

  module _ {State : Type 0} (tree : Tree State) (seen : State → Balancing) (order : State → List ℕ) where
    abbrev draws : Selection State
    draws = record { units = free_units s; tree = tree; seen = seen; order = order }

    module _ (belongs : State → Type 0) (is : IsSelection draws belongs) (from : State) (of_free : landings.IsBalanced draws from) where
      -- what is said of the free units, by their values
      free_total_is : (t : State) (row : ℕ) → weighed_total (weighed_of draws) t row ≡ row_total (free_units s) (values_in (seen t)) row
      free_total_is t row = seen_total draws belongs is t row

      abbrev free_estimate : Balancing → ℕ → Fraction
      free_estimate leaf row = sum_below (length s.request.shape) (λ u. cond (is_one (values_in leaf) u) (expanded (free_units s) row u) (whole 0))

      free_estimate_is : (leaf : State) (row : ℕ) → weighed_estimate (weighed_of draws) leaf row ≡ free_estimate (seen leaf) row
      free_estimate_is leaf row = rw (is.units, is.selected leaf) refl

      free_bound_is : (t : State) (row : ℕ) → weighed_bound (weighed_of draws) t row ≡ free.error_bound (free_units s) (values_in (seen t)) row
      free_bound_is t row = rw is.units refl

      is_balanced : IsBalanced (balance_of s draws) from
      is_balanced =
          is_added (weighed_balance (weighed_of draws)) (λ t. total (s ∷ []) (value_at (values_in (seen t)))) (known (s ∷ [])) (λ t. estimate (s ∷ []) (is_one (values_in (seen t))))
          (λ t. error_bound (s ∷ []) (is_fractional (values_in (seen t)))) (fixed s) (row_count (s ∷ []))
          (λ t row. rw (free_total_is t row) (same_trans (total_alone s row (value_at (values_in (seen t)))) (total_apart (value_at (values_in (seen t))) row)))
          (λ row. same_trans (known_alone s row) (known_apart row))
          (λ t row. rw (free_estimate_is t row) (same_trans (estimate_alone s row (is_one (values_in (seen t)))) (estimate_apart (is_one (values_in (seen t))) row)))
          (λ t row. rw (free_bound_is t row) (same_sym (same_trans (bound_alone s row (is_fractional (values_in (seen t)))) (bound_apart (is_fractional (values_in (seen t))) row))))
          fewer_rows
          (λ t row past l. rw (free_total_is t row) (none_free (λ u. times (expanded (free_units s) row u) (value_at (values_in (seen t)) u)) (addend (free_units s) row) (past_free row past l)))
          (λ t row past l. rw (free_estimate_is t row) (none_free (λ u. cond (is_one (values_in (seen t)) u) (expanded (free_units s) row u) (whole 0)) (addend (free_units s) row) (past_free row past l)))
          (λ t row past l. rw (free_bound_is t row) (no_bound (seen t) row (past_free row past l)))
          from of_free

  -- ---- both methods

  pub are_balanced : AreBalanced s
  are_balanced = record {
    own = first_flight;
    local_own = λ coords. started_local (record { units = free_units s; coords = coords }) first_flight;
    cube =
        (let c = cube_of (free_units s) in
        is_balanced c.tree c.seen c.order (IsBalancing (free_units s)) (is_cube (free_units s)) (starting (free_units s)) (cube_balances (free_units s) first_flight));
    local_cube = λ coords.
        (let c = local_of (free_units s) in
        let design : LocalUnits = record { units = free_units s; coords = coords } in
        is_balanced c.tree c.seen c.order (IsLocal (free_units s)) (is_local_cube (free_units s)) (started design) (local_balances design first_flight));
  }

pub each_is_balanced : EachIsBalanced
each_is_balanced s ok = are_balanced s ok

-- the step of a state to which a path of the cube leads is by its properties: from what is said of a balanced stratum alone
pub step_known : (s : StratumUnits) → AreBalanced s → (path : List Entry) (f : Flight) (left : ℕ) → Leads (cube_tree (free_units s)) (starting (free_units s)) path (flying f left)
    → IsOrder f.values (fractional_units f.values) → IsNext (setting_of (free_units s)) f (fractional_units f.values) (next (free_units s) f)
step_known s b path f left leads order =
    stepping.is_next (free_units s) f (fractional_units f.values)
    (leads_belong (cube_tree (free_units s)) (IsBalancing (free_units s)) (cube_lawful (free_units s)) path (starting (free_units s)) (flying f left) leads b.own, order)
