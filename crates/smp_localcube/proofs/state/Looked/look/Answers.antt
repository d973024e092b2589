use Rattle.std.proofs.Common.{◌≡◌, ◌+◌, ◌≤◌, length, lit<, arith, sym, ap, ◌∙◌, subst, length-take}
use Rattle.std.specs.Prelude.{option_map}
use Rattle.smp_flight.specs.{States.{Units}, Answers.{Allows, IsMoveOf}}
use Rattle.smp_localcube.specs.Kept.States.{next_around, order_units, touched_in}
use Rattle.smp_localcube.proofs.Around.{found_next, head_is, head_within, searched, window_within}
use Rattle.smp_localcube.proofs.state.Looked.look.Goals as goal

pub rising-touched-requires-clause-within : goal.rising-touched-requires-clause-within
rising-touched-requires-clause-within g c k h =
    let here = window_within c.args.flight.now c.window.ensures.order k (rw c.window.ensures.is at h) in
    omega (arith, here, c.units.ensures)

pub with_more-order-requires : goal.with_more-order-requires
with_more-order-requires g c =
    let number = c.front-first.ensures.few (c.rows-most.result + 1) (omega arith) (omega (arith, c.rising-touched.ensures.number, c.window.ensures.few, ap length c.window.ensures.is, c.rows-most.ensures)) in
    let here = head_within c.requires c.window.ensures.order (rw (c.window.ensures.is, c.units.ensures) at c.rising-touched.ensures.are) (sym c.head.ensures ∙ c.in-Some.is) in
    (lit< tt, (here, omega (arith, number, c.rows-most.ensures, c.requires.flight.rows_in, c.requires.flight.are.few_rows)))

pub step_on-requires-clause-units : goal.step_on-requires-clause-units
step_on-requires-clause-units g c =
    let few : length (order_units c.rising-touched.result) ≤ c.rows-most.result + 1 = omega (arith, length-take c.rising-touched.result.number c.rising-touched.result.units, c.rising-touched.ensures.number, c.window.ensures.few, ap length c.window.ensures.is, c.rows-most.ensures) in
    let number : c.front-first.result.number ≤ c.rows-most.result + 1 = c.front-first.ensures.few (c.rows-most.result + 1) (omega arith) (omega (arith, c.rising-touched.ensures.number, c.window.ensures.few, ap length c.window.ensures.is, c.rows-most.ensures)) in
    let size : length (order_units c.front-first.result) ≡ c.front-first.result.number = omega (arith, length-take c.front-first.result.number c.front-first.result.units, number, c.rows-most.ensures, c.requires.flight.rows_in, c.requires.flight.are.few_rows) in
    let rises = rw (c.window.ensures.is, c.units.ensures) at c.rising-touched.ensures.are in
    searched c.requires c.window.ensures.order rises (sym c.head.ensures ∙ c.in-Some.is) few c.front-first.ensures.are c.rows-most.ensures size number c.with_more-order.ensures.are

pub returns-in-None : goal.returns-in-None
returns-in-None g c =
    let e = head_is c.requires c.window.ensures.order (rw (c.window.ensures.is, c.units.ensures) at c.rising-touched.ensures.are) in
    record { is = ap (option_map (next_around c.args.flight.now.flight.fixed c.args.points.now.coords c.args.flight.now.flight (touched_in c.args.flight.now))) (sym (e ∙ sym c.head.ensures ∙ c.in-None.is)); allows = tt }

pub returns-in-Some : goal.returns-in-Some
returns-in-Some g c =
    let few : length (order_units c.rising-touched.result) ≤ c.rows-most.result + 1 = omega (arith, length-take c.rising-touched.result.number c.rising-touched.result.units, c.rising-touched.ensures.number, c.window.ensures.few, ap length c.window.ensures.is, c.rows-most.ensures) in
    let number : c.front-first.result.number ≤ c.rows-most.result + 1 = c.front-first.ensures.few (c.rows-most.result + 1) (omega arith) (omega (arith, c.rising-touched.ensures.number, c.window.ensures.few, ap length c.window.ensures.is, c.rows-most.ensures)) in
    let size : length (order_units c.front-first.result) ≡ c.front-first.result.number = omega (arith, length-take c.front-first.result.number c.front-first.result.units, number, c.rows-most.ensures, c.requires.flight.rows_in, c.requires.flight.are.few_rows) in
    let rises = rw (c.window.ensures.is, c.units.ensures) at c.rising-touched.ensures.are in
    record {
      is = found_next c.requires c.window.ensures.order rises (sym c.head.ensures ∙ c.in-Some.is) few c.front-first.ensures.are c.rows-most.ensures size number c.with_more-order.ensures.are c.requires.flight.fixed_is c.step_on.ensures.is;
      allows = subst (λ (u : Units). Allows (IsMoveOf u c.args.flight.now) u c.args.flight.now c.step_on.result) (sym c.requires.flight.fixed_is) c.step_on.ensures.allows;
    }
