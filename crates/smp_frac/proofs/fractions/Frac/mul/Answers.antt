use Rattle.std.proofs.{Common.{arith, pos, ap}, lemmas.Result.{err_from_is_err_and}}
use Rattle.smp_frac.specs.Laws.Coprime.{divisor_positive}
use Rattle.smp_frac.proofs.Products.{reduced_product}
use Rattle.smp_frac.proofs.fractions.Frac.mul.Goals as goal

pub nonzero_div-self-2 : goal.nonzero_div-self-2
nonzero_div-self-2 c = divisor_positive _ _ _ c.args.self.positive c.gcd-rising.ensures.divides

pub nonzero_div-other-2 : goal.nonzero_div-other-2
nonzero_div-other-2 c = divisor_positive _ _ _ c.args.other.positive c.gcd-falling.ensures.divides

pub returns-in_err-num-clause-wide : goal.returns-in_err-num-clause-wide
returns-in_err-num-clause-wide c =
    let is = reduced_product c.args.self c.args.other _ _ c.gcd-falling.ensures.divides c.gcd-rising.ensures.divides in
    let p = err_from_is_err_and c.from_residual.result c.from_residual.ensures.1 in
    rw p.1 (omega (arith, is.num, c.in_err-num.ensures))

pub returns-in_err-den-clause-wide : goal.returns-in_err-den-clause-wide
returns-in_err-den-clause-wide c =
    let is = reduced_product c.args.self c.args.other _ _ c.gcd-falling.ensures.divides c.gcd-rising.ensures.divides in
    let p = err_from_is_err_and c.from_residual-in_err-den.result c.from_residual-in_err-den.ensures.1 in
    rw p.1 (omega (arith, is.den, c.in_err-den.ensures))

pub invariant_of-result : goal.invariant_of-result
invariant_of-result c =
    rw (c.in_ok-num.ensures.1, c.in_ok-den.ensures.1)
    (let is = reduced_product c.args.self c.args.other _ _ c.gcd-falling.ensures.divides c.gcd-rising.ensures.divides in
    record { positive = is.positive; lowest = is.lowest })

pub returns-clause-value : goal.returns-clause-value
returns-clause-value c =
    let is = reduced_product c.args.self c.args.other _ _ c.gcd-falling.ensures.divides c.gcd-rising.ensures.divides in
    record { cross = ap pos (rw (c.in_ok-num.ensures.1, c.in_ok-den.ensures.1) is.value) }

pub returns-clause-fits : goal.returns-clause-fits
returns-clause-fits c =
    let is = reduced_product c.args.self c.args.other _ _ c.gcd-falling.ensures.divides c.gcd-rising.ensures.divides in
    omega (arith, is.num, is.den, c.in_ok-num.ensures, c.in_ok-den.ensures)
