-- Orders of all fractional units: how many they are, and that the order doesn't decide whether their columns are independent.
use Rattle.std.proofs.Common.{◌≡◌, ℕ, ◌≤◌, true, List, length, arith, subst, ◌≢◌, ◌+◌, min, ◌∷◌, sym}
use Rattle.std.proofs.Common.{◌∙◌, inl, inr}
use Rattle.smp_kernel.specs.RowReduction.{AreIndependent, cut}
use Rattle.smp_prob.specs.Shares.{Shares}
use Rattle.smp_values.specs.Values.{fractional_count, fractional_units}
use Rattle.smp_values.proofs.Units.{fractional_units_length}
use Rattle.smp_flight.specs.Kept.Windows.{is_in}
use Rattle.smp_moves.specs.Moves.{IsOrder}
use Rattle.smp_flight.specs.Selections.{IsWholeOrder}
use Rattle.smp_flight.specs.States.{Units, columns_of}
use Rattle.smp_moves.proofs.Entries.{frame_order}
use Rattle.smp_flight.specs.Laws.Firsts.{contains_in, in_contains, fractional_in, independent_few, in_order_going}
use Rattle.smp_flight.specs.Laws.Reordered.{independent_as}
use Rattle.smp_flight.specs.Laws.Windowed.{few_in, not_in}
use Rattle.std.proofs.lemmas.Bool.{cases_Bool, cases_eq, ne_eqb}
use Rattle.std.proofs.lemmas.List.{get_or_default}
use Rattle.std.proofs.lemmas.List.Kept.{AllPairs-cons}
pub use Rattle.smp_flight.specs.Laws.Firsts.{in_order_going}

pub frame_whole : (s : Shares) → IsWholeOrder s (fractional_units s)
frame_whole s = record {
  is_order = frame_order s;
  all = λ k h. in_contains (fractional_units s) k (fractional_in s k h);
}

module _ (s : Shares) (order : List ℕ) (whole_order : IsWholeOrder s order) where
  -- a fractional unit is in the order
  pub whole_has : (k : ℕ) → is_in (fractional_units s) k ≡ true → is_in order k ≡ true
  whole_has k h = contains_in order k (whole_order.all k (in_order_going s (fractional_units s) (frame_order s) k h))

  pub whole_length : length order ≡ fractional_count s
  whole_length =
      let most : length order ≤ length (fractional_units s) =
      few_in (fractional_units s) order (λ k h. fractional_in s k
      (in_order_going s order whole_order.is_order k h)) whole_order.is_order.distinct in
      let least : length (fractional_units s) ≤ length order = few_in order (fractional_units s) whole_has (frame_order s).distinct in
      omega (arith, fractional_units_length s)

pub independent_in_frame_order : (units : Units) (rows : ℕ) (s : Shares) (order : List ℕ) → IsWholeOrder s order
    → AreIndependent rows (cut rows (columns_of units order))
    → AreIndependent rows (cut rows (columns_of units (fractional_units s)))
independent_in_frame_order units rows s order w free =
    independent_as units rows s (fractional_units s) order (frame_order s) w.is_order (whole_has s order w) free

-- ---- independent columns of units that a search goes through are those of all fractional units

-- different fractional units, as many as there are, are all of them
enough_whole : (s : Shares) (order : List ℕ) → IsOrder s order → fractional_count s ≤ length order → IsWholeOrder s order
enough_whole s order ok many = record {
  is_order = ok;
  all = λ k f. elim (cases_Bool (is_in order k)) [
    | inl t ↦ in_contains order k t
    | inr out ↦ absurd (let few = few_in (fractional_units s) (k ∷ order)
        (λ m t. elim (cases_eq k m) [
          | inl e ↦ subst (λ (x : ℕ). is_in (fractional_units s) x ≡ true) e (fractional_in s k f)
          | inr ne ↦ fractional_in s m (in_order_going s order ok m (rw (ne_eqb k m ne) at t))
        ])
        (AllPairs-cons (λ a b. a ≢ b) k order (λ j d l e. not_in order k out j l (get_or_default order j 0 d l ∙ sym e)) ok.distinct) in
        omega (arith, few, many, fractional_units_length s))
  ];
}

pub independent_in_frame : (units : Units) (s : Shares) (rows : ℕ) (order : List ℕ) → IsOrder s order
    → length order ≡ min (rows + 1) (fractional_count s) → AreIndependent rows (cut rows (columns_of units order)) →
    AreIndependent rows (cut rows (columns_of units (fractional_units s)))
independent_in_frame units s rows order ok enough ind =
    let few = independent_few units rows order ind in
    independent_in_frame_order units rows s order (enough_whole s order ok (omega (arith, few, enough))) ind
