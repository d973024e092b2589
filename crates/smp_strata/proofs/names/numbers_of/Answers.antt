use Rattle.smp_strata.proofs.{Appearances.{none_seen}, Texts.{taken, numbered}}
use Rattle.smp_strata.proofs.names.numbers_of.Goals as goal

pub loop-text-init : goal.loop-text-init
loop-text-init c = record { seen = rw c.requires (none_seen _); numbers = c.in_ok-numbers.ensures.items }

pub loop-text-preserved : goal.loop-text-preserved
loop-text-preserved c =
    record {
      seen = taken c.args.texts.now c.loop-text.text-index _ c.loop-text-test.true _ _ _ c.in_ok-number_of.ensures.seen c.loop-text.invariant.seen;
      numbers = rw c.in_ok-push.ensures.items
          (numbered c.args.texts.now c.loop-text.text-index _ c.loop-text-test.true _ _ _ c.in_ok-number_of.ensures.seen c.loop-text.invariant.seen _ _ c.loop-text.invariant.numbers c.in_ok-number_of.ensures.number);
    }
