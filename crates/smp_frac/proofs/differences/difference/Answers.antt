use Rattle.std.proofs.{Common.{◌≤◌, ◌<◌, nat_lt, pos, inl, inr, arith, sym, ap}, lemmas.Bool.{cases_Bool, ltb-true, ltb-false}}
use Rattle.smp_frac.specs.{Fractions.{positive_product}, Exact.{fraction}, Laws.Coprime.{part_positive}}
use Rattle.smp_frac.proofs.{Arithmetic.{numerator_positive, minus_from_sum, part_minus_sum}, Over.{cross_from_over}}
use Rattle.smp_frac.proofs.Sums.{terms_difference_apart, terms_difference_rest_apart, difference_value, difference_value_below}
use Rattle.smp_frac.proofs.differences.difference.Goals as goal

pub reduced-requires-clause-some_part : goal.reduced-requires-clause-some_part
reduced-requires-clause-some_part c = part_positive _ _ c.args.left.positive c.gcd-common.ensures.divides.0

pub reduced-requires-clause-apart : goal.reduced-requires-clause-apart
reduced-requires-clause-apart c =
    rw (c.abs_diff-apart.ensures, c.in_ok-first.ensures.1, c.in_ok-second.ensures.1) (terms_difference_apart c.args.left c.args.right c.gcd-common.ensures.divides)

pub reduced-requires-clause-rest_apart : goal.reduced-requires-clause-rest_apart
reduced-requires-clause-rest_apart c =
    rw (c.abs_diff-apart.ensures, c.in_ok-first.ensures.1, c.in_ok-second.ensures.1) (terms_difference_rest_apart c.args.left c.args.right c.gcd-common.ensures.divides)

pub invariant_of-result : goal.invariant_of-result
invariant_of-result c = record {
  sign = λ below.
      let p = c.args.left in
      let q = c.args.right in
      let f = c.in_ok-size.size in
      let some = positive_product _ _ (part_positive _ _ p.positive c.gcd-common.ensures.divides.0) q.positive in
      let less : c.in_ok-first.first < c.in_ok-second.second = ltb-true _ _ below in
      numerator_positive _ f.den f.num _ (omega (arith, c.abs_diff-apart.ensures, less)) f.positive
      (sym (cross_from_over f.num _ _ f.den f.positive some c.in_ok-size.ensures.value));
}

pub returns-clause-value : goal.returns-clause-value
returns-clause-value c =
    let p = c.args.left in
    let q = c.args.right in
    let f = c.in_ok-size.size in
    let r = c.gcd-common.ensures.divides in
    let some = positive_product _ _ (part_positive _ _ p.positive r.0) q.positive in
    let size = cross_from_over f.num _ _ f.den f.positive some c.in_ok-size.ensures.value in
    elim (cases_Bool (nat_lt c.in_ok-first.first c.in_ok-second.second)) [
      | inl below ↦
          (let less : c.in_ok-first.first < c.in_ok-second.second = ltb-true _ _ below in
          let sum = difference_value_below p.num p.den q.num q.den _ f.num f.den c.abs_diff-apart.result r.0 r.1 size
          (omega (arith, c.in_ok-first.ensures, c.in_ok-second.ensures, c.abs_diff-apart.ensures)) in
          rw below (part_minus_sum (fraction p) (fraction q) (fraction f) (record { cross = ap pos sum })))
      | inr above ↦
          (let le : c.in_ok-second.second ≤ c.in_ok-first.first = ltb-false _ _ above in
          let sum = difference_value p.num p.den q.num q.den _ f.num f.den c.abs_diff-apart.result r.0 r.1 size
          (omega (arith, c.in_ok-first.ensures, c.in_ok-second.ensures, c.abs_diff-apart.ensures)) in
          rw above (minus_from_sum (fraction p) (fraction q) (fraction f) (record { cross = ap pos sum })))
    ]
