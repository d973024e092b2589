use Rattle.std.proofs.Common.{◌<◌, ℕ, List, length, get_or, arith, ap, ◌∙◌}
use Rattle.smp_strata.specs.declared.strata.FirstUnit.{FirstUnit}
use Rattle.smp_twostage.specs.Kept.Stages.{list_of}
use Rattle.smp_twostage.proofs.Columns.{next_free}
use Rattle.smp_twostage.proofs.made.free_lists.Goals as goal

pub loop-unit-preserved : goal.loop-unit-preserved
loop-unit-preserved c =
    let s = c.args.stratum.now in
    let i : ℕ = c.loop-unit.unit-index in
    let u : FirstUnit = c.index-units-unit.result in
    let l : i < length s.request.free = omega (arith, c.loop-unit-test.true, ap length c.as_slice-free.ensures) in
    rw c.in_ok-push.ensures.items
    (next_free (list_of c.args.columns) s i u c.loop-unit.lists.items c.in_ok-from_slice.field-0 _ l (c.requires.free i 0 l)
    (c.index-units-unit.is ∙ ap (λ (us : List FirstUnit). get_or us (get_or c.as_slice-free.result.now i 0) u) c.as_slice-units.ensures ∙ ap (λ (f : List ℕ). get_or s.units (get_or f i 0) u) c.as_slice-free.ensures)
    (c.in_ok-from_slice.ensures ∙ c.list_of.ensures) c.loop-unit.invariant)
