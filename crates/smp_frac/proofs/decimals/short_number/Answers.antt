use Rattle.std.proofs.Common.{arith}
use Rattle.smp_frac.proofs.Digits.{next_digit, next_fits}
use Rattle.smp_frac.proofs.decimals.short_number.Goals as goal

pub overflow_mul-value : goal.overflow_mul-value
overflow_mul-value c =
    let fits = next_fits c.args.text.now c.requires.decimal c.requires.short c.loop-byte.byte-index c.loop-byte-test.true in
    omega (arith, fits, c.loop-byte.invariant)

pub overflow_add-value : goal.overflow_add-value
overflow_add-value c =
    let fits = next_fits c.args.text.now c.requires.decimal c.requires.short c.loop-byte.byte-index c.loop-byte-test.true in
    omega (arith, fits, c.loop-byte.invariant)

pub loop-byte-preserved : goal.loop-byte-preserved
loop-byte-preserved c =
    let next = next_digit c.args.text.now c.requires.decimal c.requires.short c.loop-byte.byte-index c.loop-byte-test.true in
    omega (arith, next, c.loop-byte.invariant)
