use Rattle.std.proofs.Common.{◌≡◌, ◌<◌, ◌∙◌, List, None, lit<, sym, ap, arith}
use Rattle.smp_split.specs.Trees.{Part, picked}
use Rattle.smp_values.specs.Values.{fractional_count}
use Rattle.smp_localpiv.specs.{Local.{Local, choosing, neighbour, parts_from}, Kept.States.{chosen_unit}}
use Rattle.smp_localpiv.proofs.Steps.{choice_within, choice_picked, ready, settling_picked}
use Rattle.smp_localpiv.proofs.state.LocalStateSelectionState.advance.Goals as goal

pub meet-requires : goal.meet-requires
meet-requires g c =
    let is = ready _ c.args.self.now c.self.inside.points.coords c.self.inside.values c.self.inside.chosen c.in-Some.unit c.in-Some.other c.self.view_is c.in-Some.is c.self.invariant.paired c.requires.state in
    (lit< tt, (is.met, (is.other_is, (c.requires.state.values.narrow, rw is.chosen_is at c.requires.within))))

pub returns-in-Some : goal.returns-in-Some
returns-in-Some g c =
    let is = ready _ c.args.self.now c.self.inside.points.coords c.self.inside.values c.self.inside.chosen c.in-Some.unit c.in-Some.other c.self.view_is c.in-Some.is c.self.invariant.paired c.requires.state in
    c.meet.ensures ∙ ap (λ (ps : List (Part Local)). picked c.args.self.now ps c.args.draw) (ap (parts_from c.args.self.now) (sym is.chosen_is))

pub fractional_at-unit-requires : goal.fractional_at-unit-requires
fractional_at-unit-requires g c =
    let none : c.args.self.now.chosen ≡ None = ap (λ (s : Local). s.chosen) (sym c.self.view_is) ∙ ap chosen_unit c.in-None.is in
    (lit< tt, choice_within c.args.self.now none (omega (arith, c.left.ensures)) c.args.draw c.requires.within)

pub returns-in-None : goal.returns-in-None
returns-in-None g c =
    let none : c.args.self.now.chosen ≡ None = ap (λ (s : Local). s.chosen) (sym c.self.view_is) ∙ ap chosen_unit c.in-None.is in
    let several : 1 < fractional_count c.args.self.now.state = omega (arith, c.left.ensures) in
    ap (λ (s : Local). choosing s c.fractional_at-unit.result) c.self.view_is
    ∙ ap (choosing c.args.self.now) c.fractional_at-unit.ensures.unit
    ∙ sym (choice_picked c.args.self.now none several c.args.draw (choice_within c.args.self.now none several c.args.draw c.requires.within))

pub returns-in-None-2 : goal.returns-in-None-2
returns-in-None-2 g c =
    let none : c.args.self.now.chosen ≡ None = ap (λ (s : Local). s.chosen) (sym c.self.view_is) ∙ ap chosen_unit c.in-None-2.is in
    c.settle_alone.ensures ∙ settling_picked c.args.self.now none (omega (arith, c.left.ensures)) c.args.draw

pub invariant_of-self : goal.invariant_of-self
invariant_of-self g c = record {
  weighed = c.self.invariant.weighed;
  paired = c.neighbour-other.ensures ∙ ap (λ (s : Local). neighbour s c.fractional_at-unit.result) (sym c.self.view_is);
}
