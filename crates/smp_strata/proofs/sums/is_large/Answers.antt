use Rattle.std.proofs.{Common.{rules, SFits, w64, sym, ◌∙◌}, lemmas.Int.{to_z-of_z}}
use Rattle.smp_strata.proofs.Columns.{large_by_column, none_more}
use Rattle.smp_strata.proofs.sums.is_large.Goals as goal

pub returns-then-is_above : goal.returns-then-is_above
returns-then-is_above c =
    let fits : SFits w64 c.value_of.result = search rules in
    let above = simp to_z-of_z at c.is_above.ensures in
    sym (large_by_column c.args.units.now c.args.columns c.args.rows.now c.loop-column.column c.loop-column-test.true
    (rw (← c.value_of.ensures) (sym above ∙ c.if-is_above.true)))

pub loop-column-preserved : goal.loop-column-preserved
loop-column-preserved c =
    let fits : SFits w64 c.value_of.result = search rules in
    let above = simp to_z-of_z at c.is_above.ensures in
    none_more c.args.units.now c.args.columns c.args.rows.now c.loop-column.column c.loop-column.invariant
    (rw (← c.value_of.ensures) (sym above ∙ c.if-is_above.false))
