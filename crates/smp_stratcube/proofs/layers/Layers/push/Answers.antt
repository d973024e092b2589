use Rattle.std.proofs.Common.{sym, subst}
use Rattle.smp_stratcube.specs.{Layers.{IsLayer}, Kept.Layers.{EachIsLayer}}
use Rattle.smp_stratcube.proofs.Stored.{layer_is, push_each}
use Rattle.smp_stratcube.proofs.layers.Layers.push.Goals as goal

pub invariant_of-self-2 : goal.invariant_of-self-2
invariant_of-self-2 c =
    let is : IsLayer c.in_ok-layer.layer = subst IsLayer (sym c.in_ok-layer.ensures) (layer_is c.args.request.now c.requires.request c.args.xs.now c.requires.one_each c.requires.values) in
    subst EachIsLayer (sym c.in_ok-push.ensures.items) (push_each c.self.inside.layers.items c.in_ok-layer.layer c.self.invariant is)
