use Rattle.std.proofs.{Common.{◌≡◌, ◌<◌, Some, length, arith, refl}, lemmas.Option.{slice_get_read}}
use Rattle.std.specs.List.{slice_get}
use Rattle.smp_twostage.proofs.Built.{next_within}
use Rattle.smp_twostage.proofs.made.Made.push_seconds.Goals as goal

pub loop-unit-preserved : goal.loop-unit-preserved
loop-unit-preserved c =
    let within : c.loop-unit.unit < length c.args.units.now = omega (arith, c.loop-unit-test.true) in
    let there : slice_get c.args.units.now c.loop-unit.unit ≡ Some c.index-units-unit.result = slice_get_read c.args.units.now (length c.args.units.now) c.loop-unit.unit c.index-units-unit.result refl within c.index-units-unit.is in
    record {
      stages = next_within c.args.method c.args.stage c.args.units.now c.loop-unit.unit c.index-units-unit.result c.args.self.now.stages.items c.loop-unit.self.stages.items _ there c.loop-unit.invariant.stages c.in_ok-push_second.ensures.stages;
      each = c.in_ok-push_second.ensures.each;
    }
