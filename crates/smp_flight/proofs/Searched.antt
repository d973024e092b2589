-- What a search that found a circuit leads to, and what an answer allows.
use Rattle.std.proofs.Common.{◌≡◌, ℕ, ◌+◌, ◌≤◌, ◌^◌, true, false, List, ℤ, pos, take, length, arith, refl, sym, ◌∙◌, subst, length-take}
use Rattle.std.proofs.{lemmas.Bool.{le-leb}, lemmas.List.{take-take}}
use Rattle.std.specs.Int.RustNames.{unsigned_abs}
use Rattle.smp_frac.specs.Limits.{most_denominator}
use Rattle.smp_kernel.specs.{Vectors.{entry, IsZero}, Searches.{found}}
use Rattle.smp_moves.specs.{Kept.Searches.{search, search_is}, Moves.{IsLine, IsOrder, move, wide}, Ends.{end_of}, Steps.{Finds, scale_of, scaled}}
use Rattle.smp_moves.specs.Kept.Computed.{direction_fits, direction_on, next_by, next_through}
use Rattle.smp_values.specs.Values.{fractional_units}
use Rattle.smp_values.proofs.Units.{fractional_units_length}
use Rattle.smp_flight.specs.{States.{AreFirst, Flight, IsFlight, Tracked, Units, columns_of}, Steps.{next_on, next}, Moves.{setting_of}}
use Rattle.smp_flight.specs.{Kept.Ends.{next_along}, Answers.{Answer}}
use Rattle.smp_flight.specs.{Answers.{Allows, AreSearched, IsFirstMove, IsMoveOf, answer_of, move_of, IsKeptIn}, Laws.Firsts.{from_each}}
use Rattle.smp_moves.specs.declared.steps.Next.TheVariants as answers
use Rattle.smp_moves.proofs.{Entries.{frame_order, order_front}, Computed.{circuit_within, places_prefix, places_small, places_some, places_through, places_wide}}
use Rattle.smp_flight.proofs.Fitting.{moves_within}
use Rattle.smp_flight.specs.{Laws.WholeOrders.{independent_in_frame}, Laws.NextProperties.{independent_columns, known, next_on_front}}
use Rattle.smp_flight.specs.Laws.Nexts.{line_ok, some_sizes}

-- the circuit in the first places of an array, its line, and the step that it leads to
pub record IsCircuitOf (units : Units) (s : Flight) (us : List ℕ) (number : ℕ) (w : List ℤ) (n : ℕ) : Type 0 where
  pub fewer : n ≤ number
  pub small : (j : ℕ) → unsigned_abs (entry w j) ≤ 2 ^ 44
  pub some : IsZero (scaled (setting_of units).share (scale_of (setting_of units).share (take n us) (take n w)) (take n us) (take n w)) → ⊥
  pub line : IsLine s.values (direction_on (setting_of units).share (take n us) (take n w))
  pub wide : direction_fits (setting_of units).share (take n us) (take n w) ≡ false → wide ≡ next_by (setting_of units) (end_of units.requested.den) (take number us) s
  pub along : direction_fits (setting_of units).share (take n us) (take n w) ≡ true →
      next_along units.requested.den s.values (direction_on (setting_of units).share (take n us) (take n w)) ≡ next_by (setting_of units) (end_of units.requested.den) (take number us) s

module _ (units : Units) (s : Flight) (is_flight : IsFlight units s) (us : List ℕ) (number : ℕ) (lu : number ≤ length us) (ok : IsOrder s.values (take number us)) (w : List ℤ) (n : ℕ) (lw : n ≤ length w) (e : found (take n w) ≡ search s.rows (columns_of units (take number us))) (past : (i : ℕ) → n ≤ i → entry w i ≡ pos 0) where
  abbrev first : List ℕ
  first = take number us

  finds : Finds (setting_of units) s (take number us) (found (take n w))
  finds = subst (Finds (setting_of units) s first) (sym e) (search_is s.rows (columns_of units first))

  fewer : n ≤ number
  fewer = omega (arith, lw, length-take n w, circuit_within (setting_of units) s first (take n w) finds, length-take number us)

  same : take n (take number us) ≡ take n us
  same = take-take n number us fewer

  through : next_by (setting_of units) (end_of units.requested.den) (take number us) s ≡ next_through (setting_of units) (end_of units.requested.den) s.values (take n us) (take n w)
  through = places_through (setting_of units) (end_of units.requested.den) s first us w n lw finds same

  pub found_circuit : IsCircuitOf units s us number w n
  found_circuit = record {
    fewer = fewer;
    small = places_small (setting_of units) (end_of units.requested.den) s first us w n lw finds same past;
    some = places_some (setting_of units) (end_of units.requested.den) s first us w n lw finds same (some_sizes units s first is_flight ok);
    line = subst (λ (ks : List ℕ). IsLine s.values (direction_on (setting_of units).share ks (take n w)))
        (places_prefix (setting_of units) (end_of units.requested.den) s first us w n lw finds same) (line_ok units s first is_flight ok (take n w) finds);
    wide = λ d. sym (places_wide (setting_of units) (end_of units.requested.den) s first us w n lw finds same d);
    along = λ d.
        (let h : next_along units.requested.den s.values (direction_on (setting_of units).share (take n us) (take n w)) ≡ next_through (setting_of units) (end_of units.requested.den) s.values (take n us) (take n w) =
        rw (d, le-leb s.values.den most_denominator is_flight.values.narrow) refl in h) ∙ sym through;
  }

-- what an answer of a search through some fractional units allows
module _ (units : Units) (s : Tracked) (order : List ℕ) (a : AreSearched s order) where
  pub allowed : (result : Answer) → answer_of result ≡ next_on units order s.flight → IsKeptIn units.requested.den s.flight.values result → Allows (IsMoveOf units s) units s result
  allowed (answers.Move m) e kept = record { order = order; is_order = a.is_order; is = sym e; kept = kept; few = omega (arith, a.enough); window = a.window }
  allowed answers.Independent e kept = independent_in_frame units s.flight.values s.flight.rows order a.is_order a.enough (independent_columns units s.flight order (sym e))
  allowed answers.Wide e kept = tt

-- and of one through the first fractional units
module _ (s : Tracked) (first : AreFirst s.flight s.window) where
  abbrev front : List ℕ
  front = take (s.flight.rows + 1) (fractional_units s.flight.values)

  pub front_searched : AreSearched s (take (s.flight.rows + 1) (fractional_units s.flight.values))
  front_searched = record {
    is_order = order_front s.flight.values (fractional_units s.flight.values) (frame_order s.flight.values) (s.flight.rows + 1);
    enough = omega (arith, length-take (s.flight.rows + 1) (fractional_units s.flight.values), fractional_units_length s.flight.values);
    window = first;
  }

  pub allowed_first : (units : Units) → IsFlight units s.flight → (result : Answer) → answer_of result ≡ next units s.flight → Allows (IsMoveOf units s) units s result → Allows (IsFirstMove units s) units s result
  allowed_first units is_flight (answers.Move m) e made =
      let is : next_on units front s.flight ≡ move (move_of m) = next_on_front units s.flight (fractional_units s.flight.values) ∙ sym e in
      let k = known units s.flight front is_flight front_searched.is_order (move_of m) is in
      record { is_move = made; first = from_each front (move_of m).direction.units (moves_within units s.flight front (move_of m) k) }
  allowed_first units is_flight answers.Independent e made = made
  allowed_first units is_flight answers.Wide e made = tt
