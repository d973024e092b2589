use Rattle.std.proofs.{Common.{SFits, rules, arith, ◌≡◌, ℤ, pos, refl, ◌∙◌, length-set}, lemmas.Int.{to_z-of_z}}
use mir.Syntax.{w32}
use Rattle.std.proofs.lemmas.List.{get_or-set_other}
use Rattle.smp_kernel.specs.Vectors.{entry}
use Rattle.smp_kernel.proofs.Lists.{each_more}
use Rattle.smp_stratcube.proofs.layers.filled_up.Goals as goal

pub loop-place-preserved : goal.loop-place-preserved
loop-place-preserved c =
    let i = c.loop-place.invariant in
    let at = c.loop-place.place in
    let places = c.loop-place.places in
    let x = entry c.args.values.now c.loop-place.place in
    let narrow : SFits w32 (entry c.args.values.now c.loop-place.place) = search rules in
    simp to_z-of_z (record {
      long = omega (arith, length-set {A = ℤ}, i.long);
      same = each_more (λ k y. y ≡ entry c.args.values.now k) places (pos 0) at x (omega (arith, i.long, c.loop-place-test.true, c.requires)) i.same refl;
      past = λ k l. get_or-set_other places at k x (pos 0) (omega (arith, l)) ∙ i.past k (omega (arith, l));
    })
