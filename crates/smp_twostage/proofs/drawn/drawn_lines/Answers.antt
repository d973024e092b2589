use Rattle.std.proofs.{Common.{◌++◌, length, arith, ap, ◌∙◌}, lemmas.List.{length-map}}
use Rattle.std.specs.List.{flat_map, range_with_len}
use Rattle.smp_kernel.specs.Vectors.{entry}
use Rattle.smp_weights.specs.{Chosen.{chosen_units}, Totals.{estimate_of}}
use Rattle.smp_twostage.specs.DrawnLines.{balance_line, drawn_view}
use Rattle.smp_twostage.proofs.ToldLines.{next_line, last_line}
use Rattle.smp_twostage.proofs.drawn.drawn_lines.Goals as goal

pub loop-column-init : goal.loop-column-init
loop-column-init c =
    let drawn = drawn_view c.args.drawn.now in
    ap (λ text. text ++ flat_map (balance_line drawn) (range_with_len 0 drawn.columns)) c.in_ok-text.ensures

pub estimate-estimate-requires-clause-asked : goal.estimate-estimate-requires-clause-asked
estimate-estimate-requires-clause-asked c =
    let drawn = drawn_view c.args.drawn.now in
    c.requires.asked ∙ omega (arith, ap length (c.as_slice.ensures.value ∙ c.in_ok-values.ensures), length-map drawn.values (λ v. entry v c.loop-column.column))

pub estimate-estimate-requires-clause-chosen : goal.estimate-estimate-requires-clause-chosen
estimate-estimate-requires-clause-chosen c =
    let drawn = drawn_view c.args.drawn.now in
    c.requires.chosen ∙ omega (arith, ap length (c.as_slice.ensures.value ∙ c.in_ok-values.ensures), length-map drawn.values (λ v. entry v c.loop-column.column))

pub estimate-estimate-requires-clause-positive : goal.estimate-estimate-requires-clause-positive
estimate-estimate-requires-clause-positive c = c.requires.positive

pub push_balance_line-requires-clause-estimate : goal.push_balance_line-requires-clause-estimate
push_balance_line-requires-clause-estimate c =
    let drawn = drawn_view c.args.drawn.now in
    c.estimate-estimate.ensures.answer
    ∙ ap (λ xs. estimate_of (chosen_units xs drawn.asked drawn.chosen)) (c.as_slice.ensures.value ∙ c.in_ok-values.ensures)

pub loop-column-preserved : goal.loop-column-preserved
loop-column-preserved c = next_line (balance_line (drawn_view c.args.drawn.now)) c.args.drawn.now.columns c.loop-column.column _ _ _ c.loop-column-test.true c.in_ok-push_balance_line.ensures c.loop-column.invariant

pub returns : goal.returns
returns c = last_line (balance_line (drawn_view c.args.drawn.now)) c.args.drawn.now.columns c.loop-column.column _ _ (omega (arith, c.loop-column-test.false)) c.loop-column.invariant
