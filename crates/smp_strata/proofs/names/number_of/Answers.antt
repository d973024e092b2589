use Rattle.std.proofs.Common.{◌∙◌, ap, sym}
use Rattle.smp_strata.proofs.Texts.{texts, keys_as_texts, place_of_text, first_of_seen}
use Rattle.smp_strata.proofs.names.number_of.Goals as goal

pub returns-then-eq-clause-seen : goal.returns-then-eq-clause-seen
returns-then-eq-clause-seen c = sym (first_of_seen c.args.seen.now.keys c.args.text.now c.in-Some.first.now c.in-Some.ensures.key (sym c.if-eq.ensures)).seen

pub returns-then-eq-clause-number : goal.returns-then-eq-clause-number
returns-then-eq-clause-number c = sym (first_of_seen c.args.seen.now.keys c.args.text.now c.in-Some.first.now c.in-Some.ensures.key (sym c.if-eq.ensures)).place

pub returns-clause-seen : goal.returns-clause-seen
returns-clause-seen c = ap texts c.in_ok-number.ensures.keys ∙ keys_as_texts c.args.seen.now.keys c.args.text

pub returns-clause-number : goal.returns-clause-number
returns-clause-number c = c.in_ok-number.ensures.index ∙ place_of_text c.args.text c.args.seen.now.keys
