use Rattle.std.proofs.Common.{arith, ◌-◌, ◌^◌, [], get_or-take, length-take, take, get_or, sym, subst, ◌∙◌}
use Rattle.std.proofs.lemmas.List.Elements.{All-from_get_or}
use Rattle.smp_kernel.specs.Vectors.{Within}
use Rattle.smp_stratcube.proofs.Directed.{columns_are}
use Rattle.smp_stratcube.proofs.directions.columns_of.Goals as goal

pub returns : goal.returns
returns c =
    let n = c.args.front.now.number in
    let us = c.args.front.now.units in
    let cols = c.loop-place.columns in
    record {
      are = columns_are c.args.units.now us cols n (omega (arith, c.requires.inside.short)) (omega (arith, c.loop-place.invariant.size, c.requires.inside.short)) (λ k l. c.loop-place.invariant.each k (omega arith));
      within = All-from_get_or (Within (2 ^ 31 - 1)) (take n cols) []
          (λ k l. subst (Within (2 ^ 31 - 1)) (sym (get_or-take n cols k [] (omega (arith, l, length-take n cols)) ∙ c.loop-place.invariant.each k (omega (arith, l, length-take n cols))))
          (c.requires.are.small (get_or us k 0) (c.requires.inside.inside k (omega (arith, l, length-take n cols)))));
    }
