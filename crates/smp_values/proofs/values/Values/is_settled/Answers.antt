use Rattle.std.proofs.{Common.{◌≡◌, ◌≢◌, ◌≤◌, cond, arith, sym, ◌∙◌}, lemmas.Bool.{eq-eqb, ne_eqb}}
use Rattle.smp_split.proofs.NumberSums.{sums-none, sum_by-list, weight_false}
use Rattle.smp_values.specs.Values.{fractional, fractional_count}
use Rattle.smp_values.proofs.Units.{some_fractional}
use Rattle.smp_values.proofs.values.Values.is_settled.Goals as goal

pub returns-then-is_fractional : goal.returns-then-is_fractional
returns-then-is_fractional c =
    let some : 1 ≤ fractional_count c.args.self.now = some_fractional c.args.self.now c.loop-unit.unit (sym c.is_fractional.ensures ∙ c.if-is_fractional.true) in
    let not_none : fractional_count c.args.self.now ≢ 0 = omega arith in
    sym (ne_eqb (fractional_count c.args.self.now) 0 not_none)

pub returns : goal.returns
returns c =
    let none : fractional_count c.args.self.now ≡ 0 =
    sum_by-list (λ a. cond (fractional c.args.self.now.den a) 1 0) c.args.self.now.numer 0
    ∙ sums-none _ _ (λ k h. weight_false (c.loop-unit.invariant k (omega arith))) in
    sym (eq-eqb (fractional_count c.args.self.now) 0 none)
