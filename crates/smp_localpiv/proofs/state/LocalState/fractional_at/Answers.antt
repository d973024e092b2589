use Rattle.std.proofs.Common.{◌≡◌, ◌<◌, ap, ◌∙◌, arith}
use Rattle.std.specs.List.{sum}
use Rattle.smp_values.specs.Values.{fractional_count}
use Rattle.smp_localpiv.proofs.Weights.{found_is, found_open, weights_sum}
use Rattle.smp_localpiv.proofs.state.LocalState.fractional_at.Goals as goal

pub find-requires : goal.find-requires
find-requires g c =
    let within : c.args.place < fractional_count c.self.inside.values = rw (← c.self.view_is) at c.requires in
    let total : sum c.self.inside.weights ≡ fractional_count c.self.inside.values = ap sum c.self.invariant.weighed.weights_are ∙ weights_sum c.self.inside.values in
    omega arith

pub returns : goal.returns
returns g c =
    let weights_are = c.self.invariant.weighed.weights_are in
    let place = rw weights_are at c.find.ensures.place in
    let from = rw weights_are at c.find.ensures.from in
    let passes = rw weights_are at c.find.ensures.passes in
    rw (← c.self.view_is) (record {
      unit = found_is c.self.inside.values c.args.place c.find.result place from passes;
      open_at = found_open c.self.inside.values c.args.place c.find.result place from passes;
    })
