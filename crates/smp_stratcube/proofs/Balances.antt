-- The cube over all strata owes what a balanced selection owes, and its start is one.
use Rattle.std.proofs.Common.{◌≡◌, ◌≢◌, ℕ, ◌<◌, ◌≤◌, ◌^◌, nat_eq, nat_lt, Bool, true, false, cond, List, [], map, length, get_or, arith, refl, sym, ap, ◌∙◌, subst, inl, inr}
use Rattle.std.proofs.{lemmas.Bool.{cases_Bool, cases_lt, eqb-false, false_from_ne_true, true≢false}, lemmas.List.{length-map, get_or-map, get_or_past}}
use Rattle.std.proofs.lemmas.Nat.Gcd.{IsGcd-from_zero, IsGcd-swap}
use Rattle.smp_frac.specs.Fractions.{Fraction, Same, whole, times}
use Rattle.smp_frac.proofs.Arithmetic.{same_refl, sum_same}
use Rattle.smp_kernel.specs.{RowReduction.{cut, AreIndependent}, Vectors.{entry}}
use Rattle.smp_split.specs.{Trees.{EachPart}, Parts.{moved}}
use Rattle.smp_split.specs.declared.kind.Kind.TheVariants as kind
use Rattle.smp_values.specs.Values.{fractional}
use Rattle.smp_moves.specs.{Moves.{Line, Move, chosen_line, fraction_of, Next, move, independent, wide}, Balances.{Begins}}
use Rattle.smp_moves.specs.Balances as moves
use Rattle.smp_moves.specs.{Owed.{HasKept, HasStayed, IsStart, Owes, balance_of}, Cubes.{flying, pairing, rows_in, values_in, flight_kind}}
use Rattle.smp_moves.proofs.{Filtered.{filter_none}, Proportions.{weight_cancels}, Entries.{entry_at_none, place_or}, Owed.{is_balanced}, Computed.{independent_by, known}}
use Rattle.smp_stratcube.specs.{declared.units.Member.{Member}, declared.values.Value.{Value}, Kept.States.{requested_value}}
use Rattle.smp_stratcube.specs.{Units.{Units, IsUnits, column, columns_of, member, nobody, share, stratum}, Moves.{Stepping, setting_of}, Pairs.{step_units}}
use Rattle.smp_stratcube.specs.Values.{AreValues, IsValue, common_of, fractional_count, fractional_units, is_fractional, is_settled, nothing, taken_over, value, value_at}
use Rattle.smp_stratcube.specs.{States.{Balancing, Flight, IsBalancing, IsFlying, started}, Kept.Computed.{chosen, moved_values, next, flight_of}}
use Rattle.smp_stratcube.specs.{Kept.Pairs.{is_one_of, parts_of}, Laws.Nexts.{each_step, end_is, next_is}, Steps.{of_steps}}
use Rattle.smp_stratcube.specs.{Balances.{IsBalanced, addend, expanded}, Laws.Pairs.{IsStep, each_paired, step_at, step_is}}
use Rattle.smp_stratcube.specs.Kept.Trees.{cube_by, weighed_by, flight_parts, strat_kind, strat_parts, weighed_of}
use Rattle.smp_stratcube.specs.{Laws.Splits.{few_fractional, strat_lawful, values_ok}, Laws.Taken.{taken_kept}, Laws.Units.{front_going, touched_units}}
use Rattle.smp_stratcube.proofs.Totals.{end_total}
use Rattle.smp_moves.specs.{Kept.Computed.{IsKnown}, Steps.{IsNext, IsStuck}}
use Rattle.smp_moves.proofs.Flights.{IsInFlight, flies_at, is_independent, is_wide, lands_at, later_at, no_flight, no_landing}

-- ---- the pivotal steps

-- a settled unit that stands as it did
kept_same : (units : Units) (s t : Balancing) (k : ℕ) → is_fractional (values_in s) k ≡ false → value (values_in t) k ≡ value (values_in s) k → HasKept (weighed_of units) s t k
kept_same units s t k still same = record {
  still = ap (λ (v : Value). fractional v.at.den v.at.num) same ∙ still;
  same = subst (λ (v : Value). Same (fraction_of v.at) (value_at (values_in s) k)) (sym same) (same_refl (value_at (values_in s) k));
}

pub paired_kept : (units : Units) (values : List Value) (left k : ℕ) → is_fractional values k ≡ false → (ks : List ℕ) → IsStep units values ks →
    EachPart (λ q. HasKept (weighed_of units) (pairing values left) q.state k) (moved (λ v. pairing v left) (parts_of units values ks))
paired_kept units values left k still ks step =
    let out : is_one_of ks k ≡ false = false_from_ne_true (is_one_of ks k) (λ t. true≢false (sym (step_at units values ks step k t).0 ∙ still)) in
    each_paired units values ks left (λ t. HasKept (weighed_of units) (pairing values left) t k)
    (λ t. kept_same units (pairing values left) (pairing (taken_over (is_one_of ks) values t) left) k still (taken_kept (is_one_of ks) values t k out))

-- ---- each step, by what it is

module _ (units : Units) (f : Flight) (ok : IsFlying units f) (left : ℕ) where
  pub knows : (m : Move) → next units f ≡ move m → IsKnown (setting_of units) (moved_values units) f (fractional_units f.values) m
  knows m is = known (setting_of units) (moved_values units) f (fractional_units f.values) m is

  -- a settled unit isn't on the line of a move
  pub end_kept : (m : Move) → next units f ≡ move m → (plus_way : Bool) (k : ℕ) → is_fractional f.values k ≡ false → HasKept (weighed_of units) (flying f left) (flying (chosen units f m plus_way) left) k
  end_kept m is plus_way k still =
      let e = end_is units f ok m (knows m is) plus_way in
      let line : Line = chosen_line m plus_way in
      let going = subst (λ (us : List ℕ). (j : ℕ) → j < length us → is_fractional f.values (get_or us j 0) ≡ true) (sym e.through) (front_going f.values (length (knows m is).circuit)) in
      kept_same units (flying f left) (flying (chosen units f m plus_way) left) k still (e.moved.kept k (elim (place_or line.units k) [
        | inl h ↦ absurd (true≢false (sym (subst (λ (x : ℕ). is_fractional f.values x ≡ true) h.2 (going h.0 h.1)) ∙ still))
        | inr out ↦ entry_at_none line.units line.entries k out
      ]))

  kept_by : (a : Next) → next units f ≡ a → (k : ℕ) → is_fractional f.values k ≡ false → EachPart (λ p. HasKept (weighed_of units) (flying f left) p.state k) (flight_parts units f left a)
  kept_by (move m) is k still = (end_kept m is true k still, (end_kept m is false k still, tt))
  kept_by independent is k still = (record { still = still; same = same_refl (value_at f.values k) }, tt)
  kept_by wide is k still = (record { still = still; same = same_refl (value_at f.values k) }, tt)

  stays_by : (a : Next) → next units f ≡ a → (Begins (flight_kind a) → ⊥) → EachPart (λ p. HasStayed (weighed_of units) IsInFlight (flying f left) p.state) (flight_parts units f left a)
  stays_by independent is calm = absurd (calm (inl refl))
  stays_by wide is calm = absurd (calm (inr refl))
  stays_by (move m) is calm = (
    record { flies = tt; rows = refl; left = refl; totals = end_total units f ok m (knows m is) true },
    (record { flies = tt; rows = refl; left = refl; totals = end_total units f ok m (knows m is) false }, tt),
  )

-- ---- where the landing begins

-- where a row is dropped, the columns are independent
pub drop_at : (units : Units) (s : Balancing) → strat_kind units s ≡ kind.Drop → AreIndependent (rows_in s) (cut (rows_in s) (columns_of units (fractional_units (values_in s)))) × (fractional_count (values_in s) ≤ rows_in s)
drop_at units (flying f left) k = (
  independent_by (setting_of units) (moved_values units) f (fractional_units f.values) (is_independent (next units f) k),
  few_fractional units f (is_independent (next units f) k),
)
drop_at units (pairing values left) k = absurd (no_landing (step_units units values) (inl k))

begins_stuck : (units : Units) (s : Balancing) → IsBalancing units s → Begins (strat_kind units s) → IsStuck (cube_by each_step units) (fractional_units (values_in s)) s
begins_stuck units (flying f left) ok (inl drops) = inl (drop_at units (flying f left) drops).0
begins_stuck units (flying f left) ok (inr wides) = inr (subst (IsNext (setting_of units) f (fractional_units f.values)) (is_wide (next units f) wides) (next_is units f ok))
begins_stuck units (pairing values left) ok begins = absurd (no_landing (step_units units values) begins)

-- ---- what is owed

module _ (units : Units) where
  settled_at : (s : Balancing) → IsBalancing units s → is_settled (values_in s) ≡ false → (k : ℕ) → is_fractional (values_in s) k ≡ false → EachPart (λ p. HasKept (weighed_of units) s p.state k) (strat_parts units s)
  settled_at (flying f left) ok going k still = kept_by units f ok left (next units f) refl k still
  settled_at (pairing values left) ok going k still = paired_kept units values left k still (step_units units values) (step_is units values going)

  stays_at : (s : Balancing) → IsBalancing units s → IsInFlight s → (Begins (strat_kind units s) → ⊥) → EachPart (λ p. HasStayed (weighed_of units) IsInFlight s p.state) (strat_parts units s)
  stays_at (flying f left) ok flies calm = stays_by units f ok left (next units f) refl calm
  stays_at (pairing values left) ok flies calm = absurd flies

  pub strat_owes : Owes (weighed_of units) (IsBalancing units) IsInFlight
  strat_owes = record {
    lawful = strat_lawful units;
    value = λ s ok k l. same_refl (value_at (values_in s) k);
    within = λ s ok k. (let is = (values_ok units s ok).each k in (is.positive, is.most));
    settled = λ s ok going k still. settled_at s ok going k still;
    some = λ s ok going. (let some : fractional_count (values_in s) ≢ 0 = eqb-false (fractional_count (values_in s)) 0 going in omega (arith, some));
    flies = λ s ok going e. flies_at (cube_by each_step units) (next units) (λ values. no_flight (step_units units values)) s e;
    stays = λ s ok going flies calm. stays_at s ok flies calm;
    lands = λ s ok going flies none begins. lands_at (cube_by each_step units) (next units) s flies none begins;
    later = λ n some s ok going e. later_at (cube_by each_step units) (next units) n some s e;
    stuck = λ s ok begins. begins_stuck units s ok begins;
    drops = λ s ok k. (drop_at units s k).0;
    few = λ s ok k. (drop_at units s k).1;
  }

  -- ---- the start

  module _ (are : IsUnits units) where
    abbrev first : List Value
    first = map requested_value units.members

    pub first_at : (k : ℕ) → value (map requested_value units.members) k ≡ requested_value (member units k)
    first_at k =
        elim (cases_lt k (length units.members)) [
          | inl l ↦ get_or-map requested_value units.members k nobody nothing l
          | inr past ↦
              get_or_past first k nothing (omega (arith, past, length-map units.members requested_value))
              ∙ sym (ap requested_value (get_or_past units.members k nobody past))
        ]

    first_ok : AreValues (length units.members) (map requested_value units.members)
    first_ok = record {
      count = length-map units.members requested_value;
      each = λ k. subst IsValue (sym (first_at k))
          (elim (cases_lt k (length units.members)) [
            | inl l ↦ record { positive = omega (arith, are.below_one k l); most = omega (arith, are.below_one k l); reduced = are.reduced k l }
            | inr past ↦ subst (λ (m : Member). IsValue (requested_value m)) (sym (get_or_past units.members k nobody past))
                (record { positive = omega arith; most = omega arith; reduced = IsGcd-swap 1 0 1 (IsGcd-from_zero 1 0 refl) })
          ]);
    }

    first_narrow : common_of units first [] ≤ 2 ^ 80
    first_narrow =
        let e : touched_units first ≡ [] = filter_none (λ k. (value first k).touched) (fractional_units first) (λ i l. ap (λ (v : Value). v.touched) (first_at (get_or (fractional_units first) i 0))) in
        rw e (omega arith)

    pub started_flying : IsFlying units (flight_of units (map requested_value units.members) units.rows)
    started_flying = record {
      are = are;
      values = first_ok;
      fresh = λ k l t. ap (λ (v : Value). v.at) (first_at k);
      narrow = first_narrow;
      rows_in = omega arith;
      fixed_is = refl;
    }

    start_term : (row k : ℕ) → k < length units.members → Same (times (expanded units row k) (value_at (map requested_value units.members) k)) (addend units row k)
    start_term row k l =
        subst (λ (x : Fraction). Same (times (expanded units row k) x) (addend units row k)) (sym (ap (λ (v : Value). fraction_of v.at) (first_at k)))
        (elim (cases_Bool (nat_lt row (length units.firsts))) [
          | inl t ↦ rw t (same_refl (times (whole (cond (nat_eq (stratum units k) row) 1 0)) (fraction_of (share units k))))
          | inr n ↦ rw n (weight_cancels (entry (column units k) row) (share units k).num (share units k).den (are.drawn k l) (omega (arith, are.below_one k l)))
        ])

    pub strat_start : IsStart (weighed_of units) (IsBalancing units) IsInFlight (started units)
    strat_start = record {
      member = started_flying;
      flies = tt;
      rows = refl;
      left = refl;
      totals = λ row l. sum_same (length units.members) (λ k. times (expanded units row k) (value_at first k)) (addend units row) (start_term row);
    }

    -- what holds by the steps that the code finds holds of the cube
    pub strat_balanced : IsBalanced units (started units)
    strat_balanced =
        of_steps (λ (steps : Stepping). moves.IsBalanced (balance_of (weighed_by steps units)) (started units))
        (is_balanced (weighed_of units) (IsBalancing units) IsInFlight strat_owes (started units) strat_start (λ none. absurd none))
