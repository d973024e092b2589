use Rattle.std.proofs.Common.{Some, sym, ap, ◌∙◌, arith, eqb}
use Rattle.std.specs.Option.{option_eq}
use Rattle.smp_log.proofs.OpeningLines.{other_word, no_blank, the_number, other_number}
use Rattle.smp_log.proofs.lone_section.behind_opening.Goals as goal

pub returns-in_default : goal.returns-in_default
returns-in_default c = other_word c.args.number c.args.line.now (sym c.in_default.ensures)

pub returns-in_default-cut_before : goal.returns-in_default-cut_before
returns-in_default-cut_before c = no_blank c.args.number c.args.line.now c.in-Some.numbers.now (sym c.in-Some.ensures) (sym c.in_default-cut_before.ensures)

pub returns-then-eq : goal.returns-then-eq
returns-then-eq c =
    the_number c.args.number c.args.line.now c.in-Some.numbers.now (sym c.in-Some.ensures) c.in-Some-cut_before.first.now c.in-Some-cut_before.rest.now (sym c.in-Some-cut_before.ensures) c.eq.result
    (c.eq.ensures ∙ ap (λ o. option_eq eqb o (Some c.args.number)) c.written.ensures) c.if-eq.true

pub returns-else-eq : goal.returns-else-eq
returns-else-eq c =
    other_number c.args.number c.args.line.now c.in-Some.numbers.now (sym c.in-Some.ensures) c.in-Some-cut_before.first.now c.in-Some-cut_before.rest.now (sym c.in-Some-cut_before.ensures) c.eq.result
    (c.eq.ensures ∙ ap (λ o. option_eq eqb o (Some c.args.number)) c.written.ensures) (omega arith) c.if-eq.false
