use Rattle.std.proofs.Common.{◌≡◌, Err, rules, ap}
use Rattle.library_example.specs.Faults.{of_walk}
use Rattle.library_example.specs.declared.fault.Fault.TheVariants as Fault
use Rattle.library_example.proofs.Draws.{probability_is, is_done, is_drawn, is_refused, of_walk_draw}
use Rattle.library_example.proofs.drawing.draw.Goals as goal

pub selected_units-requires-clause-done : goal.selected_units-requires-clause-done
selected_units-requires-clause-done c =
    let arrived = c.in_ok-walk.ensures.arrived in
    let request = c.in_ok-request in
    let tape = c.in_ok-tape in
    is_done c.args.sizes.now c.args.n request.request request.ensures.value c.in_ok-design.design c.in_ok-state.state c.in_ok-design.ensures.design c.in_ok-state.ensures.state c.args.tape.now tape.tape tape.ensures.0 tape.ensures.1 c.walk.new.state arrived.path c.walk.new.draws arrived.ran
    c.in_ok-state.ensures.starts.means.member request.ensures.ordered c.in_ok-design.ensures.requested.units

pub returns-clause-probability : goal.returns-clause-probability
returns-clause-probability c =
    let request = c.in_ok-request in
    probability_is c.args.sizes.now c.args.n request.request request.ensures.value c.in_ok-design.design c.in_ok-state.state c.in_ok-design.ensures.design c.in_ok-state.ensures.state
    c.select_as_asked.ensures.probability request.ensures.probabilities

pub returns-clause-drawn : goal.returns-clause-drawn
returns-clause-drawn c =
    let arrived = c.in_ok-walk.ensures.arrived in
    let request = c.in_ok-request in
    let tape = c.in_ok-tape in
    is_drawn c.args.sizes.now c.args.n request.request request.ensures.value c.in_ok-design.design c.in_ok-state.state c.in_ok-design.ensures.design c.in_ok-state.ensures.state c.args.tape.now tape.tape tape.ensures.0 tape.ensures.1 c.walk.new.state arrived.path c.walk.new.draws arrived.ran
    c.in_ok-selected_units.field-0.items c.in_ok-selected_units.ensures

pub returns-in_err-walk-clause-refused : goal.returns-in_err-walk-clause-refused
returns-in_err-walk-clause-refused c fault is =
    let found = c.in_err-walk.field-0.0 in
    let gives : c.from_residual-in_err-walk.result ≡ Err (of_walk found) = search (rules, c.from_residual-in_err-walk.ensures) in
    let told : of_walk found ≡ Fault.Draw fault = cc in
    let refused = c.in_err-walk.ensures.refused fault (ap Err (of_walk_draw found fault told)) in
    let request = c.in_ok-request in
    let tape = c.in_ok-tape in
    is_refused c.args.sizes.now c.args.n request.request request.ensures.value c.in_ok-design.design c.in_ok-state.state c.in_ok-design.ensures.design c.in_ok-state.ensures.state c.args.tape.now tape.tape tape.ensures.0 tape.ensures.1 c.walk.new.state refused.path c.walk.new.draws fault refused.ran
