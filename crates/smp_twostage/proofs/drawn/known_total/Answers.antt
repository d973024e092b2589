use Rattle.std.proofs.Common.{◌≡◌, ◌+◌, ◌≤◌, ◌+ℤ◌, ◌^◌, ℕ, List, ℤ, pos, get_or, length, arith, ap, sym, subst, ◌∙◌, to_z, of_z, w64, SFits}
use Rattle.std.specs.Int.RustNames.{unsigned_abs}
use Rattle.std.proofs.{lemmas.Int.{to_z-of_z}, lemmas.List.{length-map}}
use Rattle.smp_twostage.specs.DrawnLines.{Drawn, column_of, known_sum, drawn_view}
use Rattle.smp_twostage.proofs.ColumnSums.{IsSum, adds_none, adds_value, next_sum, no_sum, small_in, sum_fits, whole_sum}
use Rattle.smp_kernel.specs.Vectors.{entry}
use Rattle.smp_twostage.proofs.drawn.known_total.Goals as goal
use Rattle.smp_twostage.proofs.drawn.known_total.Goals.{then-num-ne0, else-num-ne0}

-- how many values there are
count_is : (drawn : Drawn) (values : List ℤ) (column : ℕ) → values ≡ column_of drawn column → length values ≡ length drawn.values
count_is drawn values column is = ap length is ∙ length-map drawn.values (λ v. entry v column)

pub bounds-drawn-unit : goal.bounds-drawn-unit
bounds-drawn-unit c =
    let drawn = drawn_view c.args.drawn.now in
    omega (arith, c.loop-unit-test.true, count_is drawn c.args.values.now c.args.column c.requires.values, c.requires.told.asked)

pub overflow_add-total : goal.overflow_add-total
overflow_add-total c =
    let drawn = drawn_view c.args.drawn.now in
    let values = c.args.values.now in
    let count = count_is drawn values c.args.column c.requires.values in
    let x : ℤ = get_or values c.loop-unit.unit (pos 0) in
    let small : unsigned_abs x ≤ 2 ^ 31 = small_in drawn c.requires.told c.args.column c.loop-unit.unit (omega (arith, c.loop-unit-test.true, count)) values c.requires.values in
    let fits = sum_fits c.args.drawn.now.asked.now values c.loop-unit.unit (to_z w64 c.loop-unit.total-bits) x c.loop-unit-test.true (omega (arith, count, c.requires.told.few)) small c.loop-unit.invariant in
    subst (λ (z : ℤ). SFits w64 (to_z w64 c.loop-unit.total-bits +ℤ z)) (sym (to_z-of_z w64 x fits.1)) fits.0

pub loop-unit-init : goal.loop-unit-init
loop-unit-init c = no_sum c.args.drawn.now.asked.now c.args.values.now

pub loop-unit-preserved : goal.loop-unit-preserved
loop-unit-preserved c =
    let drawn = drawn_view c.args.drawn.now in
    let values = c.args.values.now in
    let asked = c.args.drawn.now.asked.now in
    let count = count_is drawn values c.args.column c.requires.values in
    let x : ℤ = get_or values c.loop-unit.unit (pos 0) in
    let small : unsigned_abs x ≤ 2 ^ 31 = small_in drawn c.requires.told c.args.column c.loop-unit.unit (omega (arith, c.loop-unit-test.true, count)) values c.requires.values in
    let next = next_sum asked values c.index-drawn-unit.result c.loop-unit.unit (to_z w64 c.loop-unit.total-bits) c.loop-unit-test.true (omega (arith, count, c.requires.told.asked)) small c.loop-unit.invariant in
    let fits = sum_fits asked values c.loop-unit.unit (to_z w64 c.loop-unit.total-bits) x c.loop-unit-test.true (omega (arith, count, c.requires.told.few)) small c.loop-unit.invariant in
    let total : ℤ = to_z w64 c.loop-unit.total-bits in
    let sum : to_z w64 (of_z w64 (total +ℤ to_z w64 (of_z w64 x))) ≡ total +ℤ x =
    ap (λ z. to_z w64 (of_z w64 (total +ℤ z))) (to_z-of_z w64 x fits.1) ∙ to_z-of_z w64 (total +ℤ x) fits.0 in
    let p = get_or asked c.loop-unit.unit c.index-drawn-unit.result in
    elim c.if-num-ne0.branch [
      | then-num-ne0 w ↦
          subst (IsSum asked values (c.loop-unit.unit + 1)) (sym (w.total-is ∙ sum ∙ ap (λ z. total +ℤ z) (adds_value p x c.num.result c.num.ensures w.if-num-ne0.true))) next
      | else-num-ne0 w ↦
          subst (IsSum asked values (c.loop-unit.unit + 1)) (sym (w.total-is ∙ adds_none p total x c.num.result c.num.ensures w.if-num-ne0.false)) next
    ]

pub returns : goal.returns
returns c =
    let drawn = drawn_view c.args.drawn.now in
    let values = c.args.values.now in
    let asked = c.args.drawn.now.asked.now in
    let count = count_is drawn values c.args.column c.requires.values in
    whole_sum asked values c.loop-unit.unit (to_z w64 c.loop-unit.total-bits) c.loop-unit-test.false (omega (arith, count, c.requires.told.asked)) c.loop-unit.invariant
    ∙ ap (known_sum asked) c.requires.values
