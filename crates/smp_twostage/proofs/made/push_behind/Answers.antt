use Rattle.std.proofs.Common.{◌+◌, ◌<◌, length, arith, refl}
use Rattle.smp_twostage.proofs.ToldLines.{next_mapped}
use Rattle.smp_twostage.proofs.made.push_behind.Goals as goal

pub loop-number-preserved : goal.loop-number-preserved
loop-number-preserved c =
    let within : c.loop-number.number-index < length c.args.more.now = omega (arith, c.loop-number-test.true) in
    rw c.in_ok-push.ensures.items (next_mapped (λ number. c.args.before + number) c.args.more.now 0 c.loop-number.number-index c.loop-number.numbers.items _ _ within refl c.loop-number.invariant)
