use Rattle.std.proofs.Common.{◌<◌, length, arith}
use Rattle.smp_twostage.specs.Selections.{covered_stages, first_place}
use Rattle.smp_twostage.proofs.{Columns.{is_planned}, Inside.{IsPlaced, first_is, inside_units, member, placed, stratum_there}}
use Rattle.smp_twostage.proofs.whole.Whole.first.Goals as goal

pub first_place-requires-clause-unit : goal.first_place-requires-clause-unit
first_place-requires-clause-unit c =
    let s = stratum_there c.args.self.now c.args.stratum c.requires.stratum in
    let unit : c.args.unit < length s.0.units = rw s.1 at c.requires.unit in
    let few = (is_planned c.args.self.now.plan c.requires.state.drawable c.args.stratum s.0 s.1).stratum.few in
    omega (arith, unit, few)

pub is_selected_in-requires-clause-state : goal.is_selected_in-requires-clause-state
is_selected_in-requires-clause-state c = member c.args.self.now (record { plan = c.self.inside.plan.now; only = c.self.inside.only }) c.self.view_is c.self.inside.stages.stages.items c.self.invariant.0 c.args.state.now c.requires.state.member

pub is_selected_in-requires-clause-unit : goal.is_selected_in-requires-clause-unit
is_selected_in-requires-clause-unit c =
    let s = stratum_there c.args.self.now c.args.stratum c.requires.stratum in
    let at : IsPlaced (covered_stages c.args.self.now) (first_place c.args.self.now c.args.stratum c.args.unit) =
    placed c.args.self.now c.args.stratum s.0 s.1 c.args.unit (rw s.1 at c.requires.unit) c.requires.stratum in
    inside_units c.args.self.now (record { plan = c.self.inside.plan.now; only = c.self.inside.only }) c.self.view_is c.self.inside.stages.stages.items c.self.invariant.0
    c.first_place.result (first_place c.args.self.now c.args.stratum c.args.unit) c.first_place.ensures at

pub returns : goal.returns
returns c =
    let s = stratum_there c.args.self.now c.args.stratum c.requires.stratum in
    let at : IsPlaced (covered_stages c.args.self.now) (first_place c.args.self.now c.args.stratum c.args.unit) =
    placed c.args.self.now c.args.stratum s.0 s.1 c.args.unit (rw s.1 at c.requires.unit) c.requires.stratum in
    first_is c.args.self.now (record { plan = c.self.inside.plan.now; only = c.self.inside.only }) c.self.view_is c.self.inside.stages.stages.items c.self.invariant.0
    c.first_place.result (first_place c.args.self.now c.args.stratum c.args.unit) c.first_place.ensures at c.is_selected_in.result c.args.state.now.states c.is_selected_in.ensures
