-- What the code keeps of a state, and the steps of a state in which no unit is chosen.
use Rattle.std.specs.Prelude.{ℤ}
use Rattle.std.proofs.Common.{◌≡◌, ℕ, ◌<◌, ◌≤◌, Bool, true, false, nat_lt, List, Option, Some, None, length, map, get_or, set, refl, sym, ap, ◌∙◌, subst, arith}
use Rattle.std.proofs.{Math.Seq.{map-set_same}, lemmas.Bool.{and_parts, lt-ltb, ltb-true, le-ltb}, lemmas.List.{get_or-set_same, map-set}}
use Rattle.smp_near.specs.Nearest.{LivingPoints, nearest}
use Rattle.smp_prob.specs.Shares.{Shares}
use Rattle.smp_split.specs.{Trees.{Part, weight_sum, picked}, Laws.Parts.{weight_sum-equal, picked-equal}}
use Rattle.smp_values.specs.{Pairs.{pair_bound}, Values.{fractional, fractional_at, fractional_count, is_fractional, with_one}}
use Rattle.smp_values.proofs.Units.{fractional_within}
use Rattle.smp_localpiv.specs.Local.{IsChosen, IsLocal, Local, MayMeet, located_values, choice, choosing, neighbour, parts_from, points_of, settling}
use Rattle.smp_localpiv.specs.{Kept.States.{IsPaired, IsWeighed, chosen_unit}, Laws.Neighbours.{IsMet, met}}
use Rattle.smp_localpiv.proofs.Weights.{weights_open, weights_settled}

-- ---- the points

-- the points that the code keeps are those of the state
pub points_kept : (points : LivingPoints) (values : Shares) (chosen : Option ℕ) (now : Local)
    → record { coords = points.coords; state = values; chosen = chosen } ≡ now → points.living ≡ map (fractional values.den) values.numer → points ≡ points_of now
points_kept points values chosen now view living =
    subst (λ (s : Local). points ≡ points_of s) view (ap (λ (alive : List Bool). record { coords = points.coords; living = alive }) living)

-- so a unit that may meet another isn't alone
pub never_alone : (points : LivingPoints) (s : Local) (unit : ℕ) → points ≡ points_of s → MayMeet s.state unit → None ≡ nearest points unit → ⊥
never_alone points s unit same may none =
    let given : nearest (points_of s) unit ≡ Some (neighbour s unit) = (met s unit may).given in
    let absent : None ≡ nearest (points_of s) unit = none ∙ ap (λ p. nearest p unit) same in
    cc

-- ---- a chosen unit and its neighbour

-- a unit that is chosen, and its neighbour
pub record AreReady (s : Local) (unit other : ℕ) : Type 0 where
  pub chosen_is : s.chosen ≡ Some unit
  pub met : IsMet s unit
  pub other_is : other ≡ neighbour s unit
  pub other_in : other < length s.state.numer
  pub other_open : is_fractional s.state other ≡ true

pub ready : (units : ℕ) (now : Local) (coords : List (List ℤ)) (values : Shares) (chosen : Option (ℕ × ℕ)) (unit other : ℕ) → record { coords = coords; state = values; chosen = chosen_unit chosen } ≡ now → chosen ≡ Some (unit, other) → IsPaired coords values chosen → IsLocal units now → AreReady now unit other
ready units now coords values chosen unit other view is paired ok =
    let chosen_is : now.chosen ≡ Some unit = ap (λ (s : Local). s.chosen) (sym view) ∙ ap chosen_unit is in
    let may : MayMeet now.state unit = subst (IsChosen now.state) chosen_is ok.meets in
    let is_met = met now unit may in
    let inside : other ≡ neighbour (located_values coords values) unit = subst (IsPaired coords values) is paired in
    let same : other ≡ neighbour now unit = subst (λ (s : Local). other ≡ neighbour s unit) view inside in
    record { chosen_is = chosen_is; met = is_met; other_is = same; other_in = rw same is_met.other_in; other_open = rw same is_met.other_open }

-- the bound of their step
pub meeting_bound : (s : Local) (unit other : ℕ) → AreReady s unit other → pair_bound (get_or s.state.numer unit 0) (get_or s.state.numer other 0) s.state.den ≡ weight_sum (parts_from s s.chosen)
meeting_bound s unit other is = rw (is.chosen_is, ← is.other_is) (omega arith)

pub between : (den a : ℕ) → fractional den a ≡ true → (1 ≤ a) × (a < den)
between den a h = let parts = and_parts (nat_lt 0 a) (nat_lt a den) h in (ltb-true 0 a parts.0, ltb-true a den parts.1)

-- ---- another value of a unit

module _ (s : Shares) (unit x : ℕ) (living : List Bool) (weights : List ℕ) (was : is_fractional s unit ≡ true) (kept : IsWeighed living s weights) where
  now_at : is_fractional (with_one s unit x) unit ≡ fractional s.den x
  now_at = ap (fractional s.den) (get_or-set_same s.numer unit x 0 (fractional_within s unit was))

  -- a unit that is settled
  pub weighed_settled : is_fractional (with_one s unit x) unit ≡ false → IsWeighed (set living unit false) (with_one s unit x) (set weights unit 0)
  weighed_settled settled =
      let answer : fractional s.den x ≡ false = sym now_at ∙ settled in
      record {
        alive =
            ap (λ (alive : List Bool). set alive unit false) kept.alive
            ∙ ap (λ (b : Bool). set (map (fractional s.den) s.numer) unit b) (sym answer) ∙ sym (map-set (fractional s.den) s.numer unit x);
        weights_are = ap (λ (ws : List ℕ). set ws unit 0) kept.weights_are ∙ weights_settled s unit x answer;
      }

  -- a unit that stays fractional
  pub weighed_open : is_fractional (with_one s unit x) unit ≡ true → IsWeighed living (with_one s unit x) weights
  weighed_open stays =
      let answer : fractional s.den x ≡ true = sym now_at ∙ stays in
      record {
        alive = kept.alive ∙ sym (map-set_same (fractional s.den) s.numer unit x 0 (answer ∙ sym was));
        weights_are = kept.weights_are ∙ weights_open s unit x was answer;
      }

-- no unit stands with its neighbour where none is chosen
pub none_paired : (coords : List (List ℤ)) (values : Shares) (chosen : Option (ℕ × ℕ)) → chosen_unit chosen ≡ None → IsPaired coords values chosen
none_paired coords values None none = tt
none_paired coords values (Some pair) none = absurd (cc none)

-- ---- the steps where no unit is chosen

module _ (s : Local) (none : s.chosen ≡ None) where
  choice_parts : 1 < fractional_count s.state → parts_from s s.chosen ≡ choice s
  choice_parts several = ap (parts_from s) none ∙ rw (lt-ltb 1 (fractional_count s.state) several) refl

  pub choice_bound : 1 < fractional_count s.state → weight_sum (parts_from s s.chosen) ≡ fractional_count s.state
  choice_bound several = ap weight_sum (choice_parts several) ∙ weight_sum-equal (λ place. choosing s (fractional_at s.state place)) (fractional_count s.state)

  -- a draw of the choice is a place among the fractional units
  pub choice_within : 1 < fractional_count s.state → (draw : ℕ) → draw < weight_sum (parts_from s s.chosen) → draw < fractional_count s.state
  choice_within several draw below = omega (arith, choice_bound several)

  pub choice_picked : 1 < fractional_count s.state → (draw : ℕ) → draw < fractional_count s.state → picked s (parts_from s s.chosen) draw ≡ choosing s (fractional_at s.state draw)
  choice_picked several draw within = ap (λ (ps : List (Part Local)). picked s ps draw) (choice_parts several) ∙ picked-equal (λ place. choosing s (fractional_at s.state place)) s (fractional_count s.state) draw within

  pub settling_picked : fractional_count s.state ≤ 1 → (draw : ℕ) → picked s (settling s) draw ≡ picked s (parts_from s s.chosen) draw
  settling_picked alone draw =
      let parts : parts_from s s.chosen ≡ settling s = ap (parts_from s) none ∙ rw (le-ltb 1 (fractional_count s.state) alone) refl in
      ap (λ (ps : List (Part Local)). picked s ps draw) (sym parts)
