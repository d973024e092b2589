use Rattle.std.proofs.Common.{◌≡◌, length, arith, rules}
use Rattle.std.specs.Vec.{vec_len}
use Rattle.smp_twostage.specs.Selections.{covered_stages, first_place}
use Rattle.smp_twostage.proofs.Inside.{IsPlaced, inside_stages, inside_states, left_is, placed, some_unit, stratum_there}
use Rattle.smp_twostage.proofs.whole.Whole.left.Goals as goal

pub index-requires : goal.index-requires
index-requires c =
    let len : length c.self.inside.stages.stages.items ≡ vec_len c.self.inside.stages.stages = search rules in
    let s = stratum_there c.args.self.now c.args.stratum c.requires.stratum in
    let at : IsPlaced (covered_stages c.args.self.now) (first_place c.args.self.now c.args.stratum 0) =
    placed c.args.self.now c.args.stratum s.0 s.1 0 (some_unit c.args.self.now c.requires.state.drawable c.args.stratum s.0 s.1) c.requires.stratum in
    let within = inside_stages c.args.self.now (record { plan = c.self.inside.plan.now; only = c.self.inside.only }) c.self.view_is c.self.inside.stages.stages.items c.self.invariant.0
    c.first_place-stage.result (first_place c.args.self.now c.args.stratum 0) c.first_place-stage.ensures at in
    omega (arith, len, within)

pub stage_state-requires : goal.stage_state-requires
stage_state-requires c =
    let s = stratum_there c.args.self.now c.args.stratum c.requires.stratum in
    let at : IsPlaced (covered_stages c.args.self.now) (first_place c.args.self.now c.args.stratum 0) =
    placed c.args.self.now c.args.stratum s.0 s.1 0 (some_unit c.args.self.now c.requires.state.drawable c.args.stratum s.0 s.1) c.requires.stratum in
    inside_states c.args.self.now (record { plan = c.self.inside.plan.now; only = c.self.inside.only }) c.self.view_is c.self.inside.stages.stages.items c.self.invariant.0
    c.first_place-stage.result (first_place c.args.self.now c.args.stratum 0) c.first_place-stage.ensures at c.args.state.now c.requires.state.member

pub returns : goal.returns
returns c =
    let s = stratum_there c.args.self.now c.args.stratum c.requires.stratum in
    let at : IsPlaced (covered_stages c.args.self.now) (first_place c.args.self.now c.args.stratum 0) =
    placed c.args.self.now c.args.stratum s.0 s.1 0 (some_unit c.args.self.now c.requires.state.drawable c.args.stratum s.0 s.1) c.requires.stratum in
    left_is c.args.self.now (record { plan = c.self.inside.plan.now; only = c.self.inside.only }) c.self.view_is c.self.inside.stages.stages.items c.self.invariant.0
    c.first_place-stage.result (first_place c.args.self.now c.args.stratum 0) c.first_place-stage.ensures at
    c.left.result c.index.result.now c.stage_state.result.now c.args.state.now.states c.index.ensures c.stage_state.ensures c.left.ensures
