-- Where the values add up to a whole number, each leaf selects that many units.
use Rattle.std.proofs.Common.{◌≡◌, ◌≢◌, ℕ, ◌^◌, ◌≤◌, true, false, List, length, arith, refl, inl, inr, sym, subst, ◌∙◌}
use Rattle.std.proofs.lemmas.Bool.{cases_eq, eqb-false}
use Rattle.smp_frac.specs.Fractions.{Fraction, Same, whole}
use Rattle.smp_frac.proofs.Arithmetic.{same_refl, same_trans}
use Rattle.smp_split.specs.{Counts.{AddsUp, LeavesSelect, selected_count}, Trees.{EachPart}, Laws.Parts.{each_moved}}
use Rattle.smp_split.proofs.{Counts.{leaves_select}, Sums.{list_adds}}
use Rattle.smp_values.specs.{Steps.{pivotal_parts, steps_tree}, Values.{AddTo, fractional_at, fractional_count, is_settled, value_at}}
use Rattle.smp_values.proofs.{Pivotal.{steps_count}, Sums.{lone_never}, Units.{fractional_at_is}}
use Rattle.smp_moves.specs.{Cubes.{flying, pairing, values_in, rows_in, flight_parts}, Moves.{Next, move, independent, wide}}
use Rattle.smp_flight.specs.{States.{Units, Flight, IsFlight}, Steps.{next_on}, Totals.{row_total}}
use Rattle.smp_flight.specs.Selections.{Balancing, IsBalancing, IsSelection, IsWholeOrder, Selection, parts_by, shares_cube}
use Rattle.smp_flight.specs.Laws.ByOrder.{both_totals, few_fractional, values_ok}
use Rattle.smp_flight.proofs.Seen.{each_seen, total_is}

-- the values add up to n: their total in the first row
abbrev pub IsSum : Units → ℕ → Balancing → Type 0
IsSum units n s = Same (row_total units (values_in s) 0) (whole n)

-- the numerators add up where the values do
adds_to : (units : Units) (n : ℕ) (s : Balancing) → IsBalancing units s → IsSum units n s → AddTo n (values_in s)
adds_to units n s ok adds =
    let values = values_ok units s ok in
    list_adds (steps_tree (length units.sizes)) (values_in s) (values_in s).numer (values_in s).den values.positive values.count (λ k _. same_refl (value_at (values_in s) k)) n adds

-- the values add up to n, and the row of the sizes is in force as long as the flight goes on
pub record IsWholeFlight (units : Units) (n : ℕ) (f : Flight) (left : ℕ) : Type 0 where
  pub adds : IsSum units n (flying f left)
  pub row : 1 ≤ f.rows

abbrev pub IsWholeState : Units → ℕ → Balancing → Type 0
IsWholeState units n (flying f left) = IsWholeFlight units n f left
IsWholeState units n (pairing s left) = AddTo n s

module _ (units : Units) (n : ℕ) (order : List ℕ) where
  module _ (f : Flight) (left : ℕ) (ok : IsFlight units f) (w : IsWholeOrder f.values order) (going : is_settled f.values ≡ false) (keeps : IsWholeFlight units n f left) where
    -- the last row is dropped from no whole sum
    two_rows : next_on units order f ≡ independent → 2 ≤ f.rows
    two_rows is =
        elim (cases_eq f.rows 1) [
          | inr ne ↦ omega (arith, keeps.row, ne)
          | inl one ↦
              absurd (let few = few_fractional units f left order ok w is in
              let some : fractional_count f.values ≢ 0 = eqb-false (fractional_count f.values) 0 going in
              lone_never (length units.sizes) (2 ^ 80) n f.values ok.values (fractional_at f.values 0) (fractional_at_is f.values 0 (omega (arith, some))) (omega (arith, few, one)) (adds_to units n (flying f left) ok keeps.adds))
        ]

    parts_keep : (a : Next) → next_on units order f ≡ a → EachPart (λ p. IsWholeState units n p.state) (flight_parts (shares_cube units) f left a)
    parts_keep (move m) is =
        let t = both_totals units f left order ok w.is_order m is 0 keeps.row in
        (record { adds = same_trans t.0 keeps.adds; row = keeps.row }, (record { adds = same_trans t.1.0 keeps.adds; row = keeps.row }, tt))
    parts_keep independent is = (let two = two_rows is in (record { adds = keeps.adds; row = omega (arith, two) }, tt))
    parts_keep wide is = (adds_to units n (flying f left) ok keeps.adds, tt)

  step_keeps : (s : Balancing) → IsBalancing units s → IsWholeOrder (values_in s) order → is_settled (values_in s) ≡ false → IsWholeState units n s → EachPart (λ p. IsWholeState units n p.state) (parts_by units order s)
  step_keeps (flying f left) ok w going keeps = parts_keep f left ok w going keeps (next_on units order f) refl
  step_keeps (pairing s left) ok w going keeps =
      each_moved (λ t. pairing t left) (λ p. AddTo n p.state) (λ p. IsWholeState units n p.state) (λ p h. h) (pivotal_parts s)
      ((steps_count (length units.sizes) n).kept s ok going keeps)

whole_adds : (units : Units) (n : ℕ) (s : Balancing) → IsBalancing units s → IsWholeState units n s → AddTo n (values_in s)
whole_adds units n (flying f left) ok keeps = adds_to units n (flying f left) ok keeps.adds
whole_adds units n (pairing s left) ok keeps = keeps

whole_from : (units : Units) (n : ℕ) (s : Balancing) → IsBalancing units s → 1 ≤ rows_in s → IsSum units n s → IsWholeState units n s
whole_from units n (flying f left) ok row adds = record { adds = adds; row = row }
whole_from units n (pairing s left) ok row adds = adds_to units n (pairing s left) ok adds

module _ {State : Type 0} (c : Selection State) (belongs : State → Type 0) (is : IsSelection c belongs) where
  count_at : (n : ℕ) (s : State) → belongs s → c.tree.done s ≡ true → IsWholeState c.units n (c.seen s) → selected_count c.tree s ≡ n
  count_at n s here done keeps =
      rw (is.units, is.selected s)
      ((steps_count (length c.units.sizes) n).leaf (values_in (c.seen s)) (values_ok c.units (c.seen s) (is.member s here)) (sym (is.done s) ∙ done) (whole_adds c.units n (c.seen s) (is.member s here) keeps))

  pub leaves_count : (n : ℕ) (s : State) → belongs s → 1 ≤ rows_in (c.seen s) → AddsUp c.tree n s → LeavesSelect c.tree n s
  leaves_count n s here row adds =
      leaves_select c.tree belongs is.lawful n (λ t. IsWholeState c.units n (c.seen t))
      (record {
        kept = λ t b going keeps. each_seen c (IsWholeState c.units n) t (is.step t b) keeps
            (λ f. step_keeps c.units n (c.order t) (c.seen t) (is.member t b) f.whole_order (sym (is.done t) ∙ going) keeps);
        leaf = λ t b done keeps. count_at n t b done keeps;
      }) s here (whole_from c.units n (c.seen s) (is.member s here) row (subst (λ (a : Fraction). Same a (whole n)) (total_is c belongs is s 0) adds))
