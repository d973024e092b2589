use Rattle.std.proofs.Common.{◌≡◌, ◌+◌, ◌∙◌, length, sym, ap, arith}
use Rattle.smp_values.specs.Values.{fractional_at, fractional_count}
use Rattle.smp_values.proofs.Units.{count_before, count_before_more, count_before_all, fractional_at-before}
use Rattle.smp_values.proofs.values.Values.fractional_at.Goals as goal
use Rattle.smp_values.proofs.values.Values.fractional_at.Goals.{then-is_fractional+else-before-place, else-is_fractional}

pub returns-then-before-place-clause-unit : goal.returns-then-before-place-clause-unit
returns-then-before-place-clause-unit c =
    sym (fractional_at-before c.args.self.now c.loop-unit.unit (sym c.is_fractional.ensures ∙ c.if-is_fractional.true))
    ∙ ap (fractional_at c.args.self.now) (sym c.loop-unit.invariant.counted ∙ c.if-before-place.true)

pub loop-unit-preserved : goal.loop-unit-preserved
loop-unit-preserved c =
    let more = count_before_more c.args.self.now c.loop-unit.unit (omega arith) in
    elim c.if-is_fractional.branch [
      | then-is_fractional+else-before-place w ↦
          (let one : count_before c.args.self.now (c.loop-unit.unit + 1) ≡ count_before c.args.self.now c.loop-unit.unit + 1 = rw (sym c.is_fractional.ensures ∙ w.if-is_fractional.true) at more in
          record { counted = omega (arith, c.loop-unit.invariant.counted); within = omega (arith, c.loop-unit.invariant.within) })
      | else-is_fractional w ↦
          (let none : count_before c.args.self.now (c.loop-unit.unit + 1) ≡ count_before c.args.self.now c.loop-unit.unit + 0 = rw (sym c.is_fractional.ensures ∙ w.if-is_fractional.false) at more in
          record { counted = omega (arith, c.loop-unit.invariant.counted); within = omega (arith, c.loop-unit.invariant.within) })
    ]

pub unreachable-requires : goal.unreachable-requires
unreachable-requires c =
    let end : c.loop-unit.unit ≡ length c.args.self.now.numer = omega arith in
    let all : count_before c.args.self.now c.loop-unit.unit ≡ fractional_count c.args.self.now = ap (count_before c.args.self.now) end ∙ count_before_all c.args.self.now in
    omega (arith, all, c.requires, c.loop-unit.invariant.counted, c.loop-unit.invariant.within)
