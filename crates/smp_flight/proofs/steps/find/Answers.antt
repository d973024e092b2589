use Rattle.std.proofs.Common.{◌≡◌, ℕ, ◌+◌, List, min, take, sym, ap, ◌∙◌, subst}
use Rattle.smp_values.specs.Values.{fractional_units}
use Rattle.smp_flight.specs.{States.{Tracked, Units}, Steps.{next, next_on}, Answers.{AreSearched, IsKeptIn}}
use Rattle.smp_flight.proofs.{Known.{kept_of}, Searched.{front_searched}}
use Rattle.smp_flight.specs.Laws.NextProperties.{next_on_front}
use Rattle.smp_flight.proofs.steps.find.Goals as goal

pub step_on-requires-clause-units : goal.step_on-requires-clause-units
step_on-requires-clause-units c =
    let s = c.args.state.now.flight.values in
    let units = c.args.front.now.units in
    let first : take c.min-number.result units ≡ take (c.args.state.now.flight.rows + 1) (fractional_units s) =
    ap (λ k. take k units) (c.min-number.ensures ∙ ap (λ (f : Tracked). min c.args.front.now.number (f.flight.rows + 1)) c.state.view_is) ∙ c.requires.front in
    subst (AreSearched c.args.state.now) (sym first) (front_searched c.args.state.now c.requires.first)

pub returns : goal.returns
returns c =
    let f = c.args.state.now.flight in
    let units = c.args.front.now.units in
    let first : take c.min-number.result units ≡ take (c.args.state.now.flight.rows + 1) (fractional_units c.args.state.now.flight.values) =
    ap (λ k. take k units) (c.min-number.ensures ∙ ap (λ (f : Tracked). min c.args.front.now.number (f.flight.rows + 1)) c.state.view_is) ∙ c.requires.front in
    record {
      is =
          c.step_on.ensures.is ∙ ap (λ (order : List ℕ). next_on c.args.shape.now order f) first
          ∙ next_on_front c.args.shape.now f (fractional_units f.values) ∙ ap (λ (u : Units). next u f) (sym c.requires.flight.fixed_is);
      kept = subst (λ (u : Units). IsKeptIn u.requested.den f.values c.step_on.result) (sym c.requires.flight.fixed_is) (kept_of c.args.shape.now c.args.state.now c.step_on.result c.step_on.ensures.allows);
    }
