use Rattle.std.proofs.{Common.{◌≡◌, ◌++◌, ◌+◌, ◌<◌, [], drop, get_or, map, length, arith, ap, ◌∙◌, to_z, of_z, w64}, lemmas.Int.{to_z-of_z}}
use Rattle.std.proofs.lemmas.List.{length-map}
use Rattle.smp_kernel.specs.Vectors.{entry}
use Rattle.smp_twostage.specs.DrawnLines.{column_of, drawn_view}
use Rattle.smp_twostage.proofs.{ColumnSums.{entry_fits}, ToldLines.{last_mapped, next_mapped}}
use Rattle.smp_twostage.proofs.drawn.column_of.Goals as goal

pub loop-unit-preserved : goal.loop-unit-preserved
loop-unit-preserved c =
    let drawn = drawn_view c.args.drawn.now in
    let column = c.args.column in
    let i = c.loop-unit.unit in
    let l : i < length drawn.values = omega (arith, c.loop-unit-test.true, length-map c.args.drawn.now.values.now (λ v. v.now)) in
    let is : to_z w64 (of_z w64 c.value_in.result) ≡ entry (get_or drawn.values i []) column =
    ap (λ z. to_z w64 (of_z w64 z)) c.value_in.ensures ∙ to_z-of_z w64 (entry (get_or drawn.values i []) column) (entry_fits drawn c.requires.told column i l) in
    ap (λ items. items ++ map (λ v. entry v column) (drop (i + 1) drawn.values)) c.in_ok-push.ensures.items
    ∙ next_mapped (λ v. entry v column) drawn.values [] i c.loop-unit.values.items (to_z w64 (of_z w64 c.value_in.result)) (column_of drawn column)
    l is c.loop-unit.invariant

pub returns : goal.returns
returns c =
    let drawn = drawn_view c.args.drawn.now in
    last_mapped (λ v. entry v c.args.column) drawn.values c.loop-unit.unit c.loop-unit.values.items (column_of drawn c.args.column)
    (omega (arith, c.loop-unit-test.false, length-map c.args.drawn.now.values.now (λ v. v.now))) c.loop-unit.invariant
