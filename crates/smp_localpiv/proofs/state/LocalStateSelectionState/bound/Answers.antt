use Rattle.std.proofs.Common.{◌≡◌, ◌∙◌, true, None, sym, ap, refl, arith}
use Rattle.smp_values.specs.Values.{is_fractional}
use Rattle.smp_localpiv.specs.{Local.{Local}, Kept.States.{chosen_unit}}
use Rattle.smp_localpiv.proofs.Steps.{between, choice_bound, meeting_bound, ready}
use Rattle.smp_localpiv.proofs.state.LocalStateSelectionState.bound.Goals as goal

pub numerator-requires-in-Some : goal.numerator-requires-in-Some
numerator-requires-in-Some g c =
    let is = ready _ c.args.self.now c.self.inside.points.coords c.self.inside.values c.self.inside.chosen c.in-Some.unit c.in-Some.other c.self.view_is c.in-Some.is c.self.invariant.paired c.requires.state in
    rw (← c.self.view_is) at is.other_in

pub pair_bound-requires-clause-b_in : goal.pair_bound-requires-clause-b_in
pair_bound-requires-clause-b_in g c =
    let is = ready _ c.args.self.now c.self.inside.points.coords c.self.inside.values c.self.inside.chosen c.in-Some.unit c.in-Some.other c.self.view_is c.in-Some.is c.self.invariant.paired c.requires.state in
    let opened : is_fractional c.self.inside.values c.in-Some.other ≡ true = rw (← c.self.view_is) at is.other_open in
    rw (c.numerator-in-Some.ensures, c.denominator.ensures) (between _ _ opened)

pub returns-in-Some : goal.returns-in-Some
returns-in-Some g c =
    let is = ready _ c.args.self.now c.self.inside.points.coords c.self.inside.values c.self.inside.chosen c.in-Some.unit c.in-Some.other c.self.view_is c.in-Some.is c.self.invariant.paired c.requires.state in
    rw (← meeting_bound c.args.self.now c.in-Some.unit c.in-Some.other is, ← c.self.view_is, c.pair_bound.ensures, c.numerator.ensures, c.numerator-in-Some.ensures, c.denominator.ensures) refl

pub returns-in-None : goal.returns-in-None
returns-in-None g c =
    let none : c.args.self.now.chosen ≡ None = ap (λ (s : Local). s.chosen) (sym c.self.view_is) ∙ ap chosen_unit c.in-None.is in
    c.left-in-None.ensures ∙ sym (choice_bound c.args.self.now none (omega (arith, c.left.ensures)))
