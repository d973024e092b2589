use Rattle.std.proofs.Common.{Some, sym, ap, ◌∙◌, arith, eqb}
use Rattle.std.specs.Option.{option_eq}
use Rattle.smp_log.proofs.NumberedLines.{other_word, no_blank, other_first, same_first}
use Rattle.smp_log.proofs.lines.is_numbered.Goals as goal

pub returns-in_default : goal.returns-in_default
returns-in_default c = sym (other_word c.args.word.now c.args.line.now _ (sym c.in_default.ensures))

pub returns-in_default-cut_before : goal.returns-in_default-cut_before
returns-in_default-cut_before c = sym (no_blank c.args.word.now c.args.line.now c.in-Some.numbers.now c.args.first c.args.second (sym c.in-Some.ensures) (sym c.in_default-cut_before.ensures))

pub returns-then-eq : goal.returns-then-eq
returns-then-eq c =
    same_first c.args.word.now c.args.line.now c.in-Some.numbers.now c.in-Some-cut_before.left.now c.in-Some-cut_before.right.now c.args.first c.args.second (sym c.in-Some.ensures) (sym c.in-Some-cut_before.ensures) (omega arith) (omega arith)
    c.eq.result c.eq-then-eq.result (c.eq.ensures ∙ ap (λ o. option_eq eqb o (Some c.args.first)) c.written.ensures) c.if-eq.true (c.eq-then-eq.ensures ∙ ap (λ o. option_eq eqb o (Some c.args.second)) c.written-then-eq.ensures)

pub returns-else-eq : goal.returns-else-eq
returns-else-eq c =
    c.if-eq.false ∙ sym (other_first c.args.word.now c.args.line.now c.in-Some.numbers.now c.in-Some-cut_before.left.now c.in-Some-cut_before.right.now c.args.first c.args.second (sym c.in-Some.ensures) (sym c.in-Some-cut_before.ensures) (omega arith) (omega arith)
    c.eq.result (c.eq.ensures ∙ ap (λ o. option_eq eqb o (Some c.args.first)) c.written.ensures) c.if-eq.false)
