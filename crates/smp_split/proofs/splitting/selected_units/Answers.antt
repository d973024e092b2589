use Rattle.std.proofs.Common.{◌≡◌, ◌<◌, true, false, ℕ, ◌+◌, ◌-◌, ◌++◌, List, arith, sym, ap, ◌∙◌}
use Rattle.std.specs.List.{filter, range_with_len}
use Rattle.smp_split.proofs.{Filters.{filter_moved, filter_next}, splitting.selected_units.Goals.{then-selected+in_ok-push, else-selected}}
use Rattle.smp_split.proofs.splitting.selected_units.Goals as goal

pub loop-unit-preserved : goal.loop-unit-preserved
loop-unit-preserved g c =
    let tree = (g.S.Splitting.method c.args.design.now).tree in
    let test = tree.selected c.args.state.now in
    let here : c.loop-unit.unit < tree.units = omega (arith, c.units-unit-end.ensures, c.loop-unit-test.true) in
    elim c.if-selected.branch [
      | then-selected+in_ok-push w ↦
          (let passes : test c.loop-unit.unit ≡ true = sym c.selected.ensures ∙ w.if-selected.true in
          ap (λ (units : List ℕ). units ++ filter test (range_with_len (c.loop-unit.unit + 1) (tree.units - (c.loop-unit.unit + 1)))) (ap (λ v. v.items) w.units-is ∙ w.in_ok-push.ensures.items)
          ∙ filter_moved test tree.units c.loop-unit.unit here c.loop-unit.units.items passes ∙ c.loop-unit.invariant)
      | else-selected w ↦
          (let fails : test c.loop-unit.unit ≡ false = sym c.selected.ensures ∙ w.if-selected.false in
          ap (λ v. v.items ++ filter test (range_with_len (c.loop-unit.unit + 1) (tree.units - (c.loop-unit.unit + 1)))) w.units-is
          ∙ ap (λ (rest : List ℕ). c.loop-unit.units.items ++ rest) (sym (filter_next test tree.units c.loop-unit.unit here fails)) ∙ c.loop-unit.invariant)
    ]
