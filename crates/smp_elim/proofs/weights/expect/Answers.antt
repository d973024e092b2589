use Rattle.std.proofs.{Common.{◌≡◌, ◌-◌, ◌*◌, ℕ, length, get_or, length-set, arith, rules, refl, ◌∙◌, inl, inr}, lemmas.Bool.{cases_Bool}}
use Rattle.smp_prob.specs.Requested.{is_certain}
use Rattle.smp_prob.proofs.Certain.{certain_within}
use Rattle.smp_split.proofs.Units.{sum_by-without}
use Rattle.smp_elim.specs.Kept.Weights.{fresh_amount}
use Rattle.smp_elim.proofs.{Cutting.{enough_of}, Expecting.{is_due, sum_most, past_more, most_more}, Orders.{stands_between}}
use Rattle.smp_elim.proofs.weights.expect.Goals as goal

pub overflow_sub-left-2 : goal.overflow_sub-left-2
overflow_sub-left-2 c =
    let enough = enough_of c.args.sizes.now c.requires.positive c.args.draws c.requires.enough in
    omega (arith, c.requires.next.count_is, certain_within (c.args.draws - 1) c.args.sizes.now (omega (arith, enough)))

pub bounds-order-place : goal.bounds-order-place
bounds-order-place c =
    let due = is_due c.args.sizes.now c.args.order.now c.requires.order c.requires.positive c.args.draws c.args.now c.args.next c.requires.enough c.requires.now c.requires.next c.loop-place.place (omega arith) (omega arith) in
    due.in_order

pub bounds-sizes-unit : goal.bounds-sizes-unit
bounds-sizes-unit c =
    let due = is_due c.args.sizes.now c.args.order.now c.requires.order c.requires.positive c.args.draws c.args.now c.args.next c.requires.enough c.requires.now c.requires.next c.loop-place.place (omega arith) (omega arith) in
    due.unit

pub offset_bounds-sizes-unit : goal.offset_bounds-sizes-unit
offset_bounds-sizes-unit c =
    let due = is_due c.args.sizes.now c.args.order.now c.requires.order c.requires.positive c.args.draws c.args.now c.args.next c.requires.enough c.requires.now c.requires.next c.loop-place.place (omega arith) (omega arith) in
    search (rules, due.unit)

pub overflow_sub-next : goal.overflow_sub-next
overflow_sub-next c =
    let due = is_due c.args.sizes.now c.args.order.now c.requires.order c.requires.positive c.args.draws c.args.now c.args.next c.requires.enough c.requires.now c.requires.next c.loop-place.place (omega arith) (omega arith) in
    due.share

pub set-requires-clause-place : goal.set-requires-clause-place
set-requires-clause-place c =
    let due = is_due c.args.sizes.now c.args.order.now c.requires.order c.requires.positive c.args.draws c.args.now c.args.next c.requires.enough c.requires.now c.requires.next c.loop-place.place (omega arith) (omega arith) in
    omega (arith, due.unit, c.loop-place.invariant.same)

pub set-requires-clause-narrow : goal.set-requires-clause-narrow
set-requires-clause-narrow c =
    let due = is_due c.args.sizes.now c.args.order.now c.requires.order c.requires.positive c.args.draws c.args.now c.args.next c.requires.enough c.requires.now c.requires.next c.loop-place.place (omega arith) (omega arith) in
    let sizes = c.args.sizes.now in
    let most = sum_most (fresh_amount sizes c.args.draws) c.loop-place.fresh (length sizes) c.loop-place.invariant.same c.loop-place.invariant.most in
    let own = sum_by-without (fresh_amount sizes c.args.draws) (get_or c.args.order.now c.loop-place.place 0) (length sizes) due.unit in
    omega (arith, most, own, due.amount, c.requires.narrow)

pub loop-place-preserved : goal.loop-place-preserved
loop-place-preserved c =
    let due = is_due c.args.sizes.now c.args.order.now c.requires.order c.requires.positive c.args.draws c.args.now c.args.next c.requires.enough c.requires.now c.requires.next c.loop-place.place (omega arith) (omega arith) in
    let sizes = c.args.sizes.now in
    let order = c.args.order.now in
    let same = c.loop-place.invariant.same in
    let enough = enough_of sizes c.requires.positive c.args.draws c.requires.enough in
    let value : ℕ = c.args.next.rest - get_or sizes (get_or order c.loop-place.place 0) 0 * (c.args.draws - 1 - c.args.next.count) in
    rw (c.set.ensures) (record {
      same = length-set c.loop-place.fresh (get_or order c.loop-place.place 0) value ∙ same;
      past = past_more sizes order c.requires.order c.requires.positive c.args.draws enough c.loop-place.fresh c.args.next.count c.loop-place.place value same due.here due.amount c.loop-place.invariant.past;
      most = most_more sizes order c.requires.order c.requires.positive c.args.draws enough c.loop-place.fresh c.args.next.count c.loop-place.place value same due.here due.amount c.loop-place.invariant.most;
    })

pub returns-clause-amounts : goal.returns-clause-amounts
returns-clause-amounts c unit unit_here =
    let sizes = c.args.sizes.now in
    let enough = enough_of sizes c.requires.positive c.args.draws c.requires.enough in
    let most = c.loop-place.invariant.most unit unit_here in
    elim (cases_Bool (is_certain c.args.draws sizes (get_or sizes unit 0))) [
      | inr n ↦ (let none : fresh_amount sizes c.args.draws unit ≡ 0 = rw n refl in omega (arith, most, none))
      | inl n ↦ elim (cases_Bool (is_certain (c.args.draws - 1) sizes (get_or sizes unit 0))) [
        | inl p ↦ (let none : fresh_amount sizes c.args.draws unit ≡ 0 = rw (n, p) refl in omega (arith, most, none))
        | inr p ↦
            (let between = stands_between sizes c.args.order.now c.requires.order c.args.draws enough unit unit_here n p in
            let done = c.loop-place.invariant.past between.place (omega (arith, c.requires.next.count_is, between.from)) (omega (arith, c.requires.now.count_is, between.to)) in
            rw between.at at done)
      ]
    ]
