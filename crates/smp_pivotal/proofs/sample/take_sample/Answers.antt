use Rattle.std.proofs.Common.{◌≡◌, ◌<◌, length, arith}
use Rattle.smp_pivotal.proofs.Sampling.{sampling_taken, sampling_left, sampling_last}
use Rattle.smp_pivotal.proofs.sample.take_sample.Goals.{then-gap-size, else-gap-size}
use Rattle.smp_pivotal.proofs.sample.take_sample.Goals as goal

pub loop-place-preserved : goal.loop-place-preserved
loop-place-preserved c =
    let here : c.loop-place.place < length c.args.values.now.numer = omega (arith, c.loop-place.invariant.count) in
    elim c.if-gap-size.branch [
      | then-gap-size w ↦
          (let den : c.denominator-den.result ≡ c.args.values.now.den = c.denominator-den.ensures in
          let taken = sampling_taken c.args.values.now c.args.draw c.requires.values.each c.loop-place.values c.loop-place.gap c.loop-place.place c.loop-place.invariant here c.numerator-size.result c.numerator-size.ensures w.if-gap-size.true in
          rw (w.values-is, w.gap-is, w.set.ensures, c.denominator-den.ensures) taken)
      | else-gap-size w ↦
          (let left = sampling_left c.args.values.now c.args.draw c.requires.values.each c.loop-place.values c.loop-place.gap c.loop-place.place c.loop-place.invariant here c.numerator-size.result c.numerator-size.ensures w.if-gap-size.false in
          rw (w.values-is, w.gap-is, w.set-else-gap-size.ensures) left)
    ]

pub returns : goal.returns
returns c =
    sampling_last c.args.values.now c.args.draw c.requires.values.each c.loop-place.values c.loop-place.gap c.loop-place.place c.loop-place.invariant (omega (arith, c.loop-place.invariant.count))
