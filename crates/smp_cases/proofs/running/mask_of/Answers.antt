use Rattle.std.proofs.{Common.{◌≡◌, ◌<◌, ◌+◌, ◌^◌, arith, ap, ◌∙◌}, lemmas.Nat.{one_shl}}
use Rattle.smp_cases.specs.Cases.{mask}
use Rattle.smp_split.specs.Counts.{selected_units}
use Rattle.smp_cases.proofs.{Masks.{bits_with, bits_without, mask_with, mask_without}, running.mask_of.Goals.{then-selected, else-selected}}
use Rattle.smp_cases.proofs.running.mask_of.Goals as goal

pub loop-unit-preserved : goal.loop-unit-preserved
loop-unit-preserved g c =
    let tree = (g.S.Splitting.method c.args.design.now).tree in
    let unit = c.loop-unit.unit in
    let whole = mask (selected_units tree c.args.state.now) in
    let here : unit < tree.units = omega (arith, c.units-unit-end.ensures, c.loop-unit-test.true) in
    elim c.if-selected.branch [
      | then-selected w ↦
          (let sum : c.if-selected.mask ≡ c.loop-unit.mask + 2 ^ unit =
          w.mask-is ∙ ap (λ bit. c.loop-unit.mask + bit) (one_shl unit 64 (omega (arith, here, c.requires.few))) in
          rw sum (
            bits_with unit c.loop-unit.mask c.loop-unit.invariant.0,
            mask_with (tree.selected c.args.state.now) tree.units unit c.loop-unit.mask whole here c.loop-unit.invariant.1 c.selected.result c.selected.ensures w.if-selected.true,
          ))
      | else-selected w ↦
          rw w.mask-is (
            bits_without unit c.loop-unit.mask c.loop-unit.invariant.0,
            mask_without (tree.selected c.args.state.now) tree.units unit c.loop-unit.mask whole here c.loop-unit.invariant.1 c.selected.result c.selected.ensures w.if-selected.false,
          )
    ]
