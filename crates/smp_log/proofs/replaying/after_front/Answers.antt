use Rattle.std.proofs.{Common.{◌≡◌, true, false, sym, ◌∙◌, inl, inr}, lemmas.Bool.{not-true, not-false}, lemmas.Slice.Eq.{bytes_eq-Decides}}
use Rattle.std.specs.Str.{bytes_eq}
use Rattle.smp_frac.proofs.Shorter.{shorter}
use Rattle.smp_log.proofs.Fronts.{agrees_more, agrees_all, agrees_none}
use Rattle.smp_log.proofs.replaying.after_front.Goals as goal

pub returns-in_default-cut_before-clause-stops : goal.returns-in_default-cut_before-clause-stops
returns-in_default-cut_before-clause-stops c =
    (agrees_none c.args.front.now c.args.text.now c.loop-wanted_line.wanted.now c.loop-wanted_line.rest.now c.in-Some.wanted_line.now c.in-Some.wanted_after.now c.loop-wanted_line.line c.loop-wanted_line.invariant (sym c.in-Some.ensures) (inl (sym c.in_default-cut_before.ensures)))

pub returns-then-ne-clause-stops : goal.returns-then-ne-clause-stops
returns-then-ne-clause-stops c =
    let other : bytes_eq c.in-Some-cut_before.next.now c.in-Some.wanted_line.now ≡ false = not-true _ (sym c.ne.ensures ∙ c.if-ne.true) in
    (agrees_none c.args.front.now c.args.text.now c.loop-wanted_line.wanted.now c.loop-wanted_line.rest.now c.in-Some.wanted_line.now c.in-Some.wanted_after.now c.loop-wanted_line.line c.loop-wanted_line.invariant (sym c.in-Some.ensures)
    (inr ((c.in-Some-cut_before.next.now, c.in-Some-cut_before.after.now), sym c.in-Some-cut_before.ensures, other)))

pub loop-wanted_line-smaller : goal.loop-wanted_line-smaller
loop-wanted_line-smaller c = shorter 10 c.loop-wanted_line.wanted.now c.in-Some.wanted_line.now c.in-Some.wanted_after.now (sym c.in-Some.ensures)

pub loop-wanted_line-preserved : goal.loop-wanted_line-preserved
loop-wanted_line-preserved c =
    let same : bytes_eq c.in-Some-cut_before.next.now c.in-Some.wanted_line.now ≡ true = not-false _ (sym c.ne.ensures ∙ c.if-ne.false) in
    agrees_more c.args.front.now c.args.text.now c.loop-wanted_line.wanted.now c.loop-wanted_line.rest.now c.in-Some-cut_before.next.now c.in-Some.wanted_line.now c.in-Some-cut_before.after.now c.in-Some.wanted_after.now c.loop-wanted_line.line
    c.loop-wanted_line.invariant (sym c.in-Some.ensures) (sym c.in-Some-cut_before.ensures) ((bytes_eq-Decides c.in-Some-cut_before.next.now c.in-Some.wanted_line.now).0 same)

pub returns-clause-front : goal.returns-clause-front
returns-clause-front c = agrees_all c.args.front.now c.args.text.now c.loop-wanted_line.wanted.now c.loop-wanted_line.rest.now c.loop-wanted_line.line c.requires c.loop-wanted_line.invariant (sym c.in_default.ensures)
