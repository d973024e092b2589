-- Each leaf selects one of the whole numbers of units around the sum of the values.
use Rattle.std.proofs.Common.{◌≡◌, ◌≢◌, ℕ, ◌^◌, false, nat_eq, nat_lt, Option, Some, None, get_or, arith, refl, inl, inr}
use Rattle.std.specs.List.{sum}
use Rattle.std.proofs.lemmas.Bool.{cases_Bool, eqb-false, ltb-false}
use Rattle.smp_frac.specs.{Bounds.{IsAround}, Fractions.{over}}
use Rattle.smp_frac.proofs.Arithmetic.{same_refl}
use Rattle.smp_split.specs.{Counts.{LeavesSelectAround}, Trees.{EachPart}, Laws.Parts.{each_equal, each_moved}}
use Rattle.smp_split.proofs.{Counts.{KeepsCount, leaves_around, count_by-indices}, Sums.{list_sum}}
use Rattle.smp_values.specs.{Steps.{lone_parts, pair_parts}, Values.{fractional_at, fractional_count, is_settled, value_at}}
use Rattle.smp_values.proofs.{Designs.{each_settled}, LawfulSteps.{pair_near}, Fractional.{fractional_is}}
use Rattle.smp_values.proofs.{Near.{IsNear, lone_near, near_count, near_same}, Units.{fractional_at_is, fractional_within}}
use Rattle.smp_localpiv.specs.Local.{Local, IsChosen, IsLocal, choosing, local_tree, neighbour, parts_from, located_values}
use Rattle.smp_localpiv.specs.{Laws.Neighbours.{met}, Laws.Splits.{local_lawful}}

module _ (units total den : ℕ) where
  -- each step keeps the sum of the values, but for the last one on a unit alone
  near_at : (s : Local) → IsLocal units s → (chosen : Option ℕ) → IsChosen s.state chosen → is_settled s.state ≡ false → IsNear total den s.state → EachPart (λ p. IsNear total den p.state.state) (parts_from s chosen)
  near_at s ok None meets going near =
      let some : fractional_count s.state ≢ 0 = eqb-false (fractional_count s.state) 0 going in
      elim (cases_Bool (nat_lt 1 (fractional_count s.state))) [
        | inl e ↦ rw e (each_equal (λ place. choosing s (fractional_at s.state place)) (λ p. IsNear total den p.state.state) (fractional_count s.state) (λ place h. near))
        | inr e ↦
            (let first : ℕ = fractional_at s.state 0 in
            let open_at = fractional_at_is s.state 0 (omega arith) in
            rw e
            (each_moved (located_values s.coords) (λ p. IsNear total den p.state) (λ p. IsNear total den p.state.state) (λ p is. is) (lone_parts s.state first)
            (lone_near total den s.state near going (ltb-false 1 (fractional_count s.state) e) first (fractional_within s.state first open_at) open_at (fractional_is s.state.den (get_or s.state.numer first 0) open_at))))
      ]
  near_at s ok (Some unit) meets going near =
      let at = met s unit meets in
      each_moved (located_values s.coords) (λ p. IsNear total den p.state) (λ p. IsNear total den p.state.state) (λ p is. is) (pair_parts s.state unit (neighbour s unit))
      (pair_near units s.state ok.values unit (neighbour s unit) at.apart at.unit_in at.other_in at.unit_open at.other_open total den near.den_is (near.going going))

  local_near : KeepsCount (local_tree units) (IsLocal units) (λ count. IsAround count (over total den)) (λ s. IsNear total den s.state)
  local_near = record {
    kept = λ s ok going near. near_at s ok s.chosen ok.meets going near;
    leaf = λ s ok done near.
        rw (count_by-indices (λ a. nat_eq a s.state.den) s.state.numer 0 units ok.values.count)
        (near_count total den s.state ok.values.positive (λ k _. each_settled units (2 ^ 80) s.state ok.values done k) near);
  }

-- each leaf selects one of the whole numbers of units around the sum of the values
pub leaf_around : (units : ℕ) (s : Local) → IsLocal units s → LeavesSelectAround (local_tree units) s
leaf_around units s ok =
    let total : ℕ = sum s.state.numer in
    let den : ℕ = s.state.den in
    leaves_around (local_tree units) (IsLocal units) (local_lawful units) (over total den) (λ t. IsNear total den t.state) (local_near units total den) s ok
    (near_same total den s.state ok.values.positive refl refl)
    (list_sum (local_tree units) s s.state.numer s.state.den ok.values.positive ok.values.count (λ k h. same_refl (value_at s.state k)))
