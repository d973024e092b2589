use Rattle.std.proofs.{Common.{◌+◌, ◌++◌, ◌∷◌, [], take, arith, length-set, sym, ap, ◌∙◌, append_assoc}, lemmas.List.{take_more_set}}
use Rattle.smp_stratcube.specs.Kept.Fronts.{units_on}
use Rattle.smp_stratcube.proofs.Ahead.{units_here}
use Rattle.smp_stratcube.proofs.fronts.filled.Goals as goal

pub loop-unit-preserved : goal.loop-unit-preserved
loop-unit-preserved c =
    let i = c.loop-unit.invariant in
    let l = c.loop-unit in
    record {
      size = simp length-set i.size;
      few = omega (arith, i.few);
      all = rw (take_more_set l.array l.number l.unit (omega (arith, i.size, i.few)))
          (append_assoc (take l.number l.array) (l.unit ∷ []) (units_on (l.unit + 1) c.args.units)
          ∙ ap (λ us. take l.number l.array ++ us) (sym (units_here l.unit c.args.units (omega arith))) ∙ i.all);
    }
