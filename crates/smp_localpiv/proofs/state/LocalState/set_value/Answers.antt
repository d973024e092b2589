use Rattle.std.proofs.Common.{◌≡◌, ◌∙◌, true, sym}
use Rattle.smp_values.specs.Values.{is_fractional}
use Rattle.smp_localpiv.proofs.Steps.{weighed_settled, weighed_open, none_paired}
use Rattle.smp_localpiv.proofs.state.LocalState.set_value.Goals as goal

pub invariant_of-self : goal.invariant_of-self
invariant_of-self g c =
    let was : is_fractional c.self.inside.values c.args.unit ≡ true = rw (← c.self.view_is) at c.requires.fractional in
    rw (c.set.ensures, c.remove.ensures, c.take_out.ensures) (record {
      weighed = weighed_settled c.self.inside.values c.args.unit c.args.numer c.self.inside.points.living c.self.inside.weights was c.self.invariant.weighed
          (rw c.set.ensures at (sym c.is_fractional.ensures ∙ c.if-not-is_fractional.true));
      paired = none_paired _ _ c.self.inside.chosen (rw (← c.self.view_is) at c.requires.none);
    })

pub invariant_of-self-else-not-is_fractional : goal.invariant_of-self-else-not-is_fractional
invariant_of-self-else-not-is_fractional g c =
    let was : is_fractional c.self.inside.values c.args.unit ≡ true = rw (← c.self.view_is) at c.requires.fractional in
    rw c.set.ensures (record {
      weighed = weighed_open c.self.inside.values c.args.unit c.args.numer c.self.inside.points.living c.self.inside.weights was c.self.invariant.weighed
          (rw c.set.ensures at (sym c.is_fractional.ensures ∙ c.if-not-is_fractional.false));
      paired = none_paired _ _ c.self.inside.chosen (rw (← c.self.view_is) at c.requires.none);
    })
