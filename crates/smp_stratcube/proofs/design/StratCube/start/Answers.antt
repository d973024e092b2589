use Rattle.std.proofs.{Common.{ℕ, List, length, arith, refl, sym, ap, ap₂, ◌∙◌, subst}, lemmas.List.{length-map}}
use Rattle.smp_moves.specs.Cubes.{flying}
use Rattle.smp_stratcube.specs.{declared.values.Value.{Value}, Units.{IsUnits, Units}, States.{started}, Kept.States.{requested_value}}
use Rattle.smp_stratcube.specs.{Balances.{IsBalanced}, Counts.{HasCounts}, Method.{method_of}, Kept.Computed.{flight_of}}
use Rattle.smp_split.specs.Methods.{HasMeans}
use Rattle.smp_stratcube.specs.Kept.Fronts.{IsFront}
use Rattle.smp_stratcube.proofs.{Balances.{started_flying, strat_balanced}, Keeping.{step_there}, WholeStrata.{has_counts}}
use Rattle.smp_stratcube.proofs.Starting.{start_ahead, strat_means}
use Rattle.smp_stratcube.proofs.design.StratCube.start.Goals as goal

pub front_of-front-requires : goal.front_of-front-requires
front_of-front-requires c = rw (c.as_slice-slice.ensures.value, c.in_ok-values.ensures) (start_ahead c.self.inside.units c.self.invariant _ refl refl)

pub step-next-requires-clause-flying : goal.step-next-requires-clause-flying
step-next-requires-clause-flying c = rw (c.as_slice-slice.ensures.value, c.in_ok-values.ensures, c.rows-all.ensures) (started_flying c.self.inside.units c.self.invariant)

pub invariant_of-result : goal.invariant_of-result
invariant_of-result c = record {
  few = omega (arith, ap (λ (vs : List Value). length vs) c.in_ok-values.ensures, length-map c.self.inside.units.members requested_value, c.self.invariant.few);
  first = subst (λ (vs : List Value). IsFront vs c.front_of-front.result) c.as_slice-slice.ensures.value c.front_of-front.ensures;
  step = rw c.in_ok-new.ensures.ok (step_there c.self.inside.units c.of.result.value c.in_ok-values.values.items c.as_slice-slice.result.now c.rows-all.result c.step-next.result (sym c.of.ensures) c.as_slice-slice.ensures.value c.step-next.ensures);
}

pub returns-clause-state : goal.returns-clause-state
returns-clause-state c =
    ap (λ (u : Units). flying (flight_of u c.in_ok-values.values.items c.rows-all.result) 0) c.of.ensures
    ∙ ap₂ (λ (vs : List Value) (n : ℕ). flying (flight_of c.self.inside.units vs n) 0) c.in_ok-values.ensures c.rows-all.ensures ∙ ap started c.self.view_is

pub returns-clause-means : goal.returns-clause-means
returns-clause-means c =
    subst (HasMeans (method_of c.args.self.now)) (sym (returns-clause-state c)) (strat_means c.args.self.now (subst IsUnits c.self.view_is c.self.invariant))

pub returns-clause-counts : goal.returns-clause-counts
returns-clause-counts c =
    subst (HasCounts c.args.self.now) (sym (returns-clause-state c)) (has_counts c.args.self.now (subst IsUnits c.self.view_is c.self.invariant))

pub returns-clause-balanced : goal.returns-clause-balanced
returns-clause-balanced c =
    subst (IsBalanced c.args.self.now) (sym (returns-clause-state c)) (strat_balanced c.args.self.now (subst IsUnits c.self.view_is c.self.invariant))
