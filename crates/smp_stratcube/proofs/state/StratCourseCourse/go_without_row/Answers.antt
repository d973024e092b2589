use Rattle.std.proofs.Common.{◌≡◌, ◌-◌, false, List, ap, ◌∙◌, sym, subst, true}
use Rattle.smp_moves.specs.{Courses.{end_of}, Cubes.{flying, landed, values_in}, Moves.{independent}}
use Rattle.smp_stratcube.specs.{declared.values.Value.{Value}, States.{Balancing}, Values.{fractional_count, is_settled}}
use Rattle.smp_stratcube.specs.{Kept.Computed.{flight_of}, Kept.Trees.{strat_parts}, Laws.Splits.{some_row}}
use Rattle.smp_stratcube.proofs.Keeping.{aloft, end_there}
use Rattle.smp_stratcube.proofs.state.StratCourseCourse.go_without_row.Goals as goal

pub overflow_sub-self : goal.overflow_sub-self
overflow_sub-self c =
    some_row c.args.units.now (flight_of c.args.units.now c.args.self.now.values.items c.args.self.now.rows) c.requires.finds.flight c.requires.finds.step
    (subst (λ (s : Balancing). is_settled (values_in s) ≡ false) (sym (aloft c.args.self.now.phase c.args.units.now c.args.self.now.of.value c.args.self.now.values.items c.args.self.now.rows c.args.self.now.left c.requires.finds.flying c.requires.finds.own)) c.requires.going)

pub returns-clause-is : goal.returns-clause-is
returns-clause-is c =
    sym (aloft c.args.self.now.phase c.args.units.now c.args.self.now.of.value c.args.self.now.values.items (c.args.self.now.rows - 1) c.landed-self.result c.requires.finds.flying c.requires.finds.own)
    ∙ ap (λ l. flying (flight_of c.args.units.now c.args.self.now.values.items (c.args.self.now.rows - 1)) l) (c.landed-self.ensures ∙ ap (λ (vs : List Value). landed (fractional_count vs) c.args.self.now.left) c.as_slice-values.ensures.value)
    ∙ end_there c.args.units.now (flight_of c.args.units.now c.args.self.now.values.items c.args.self.now.rows) c.args.self.now.left independent c.requires.finds.step true
    ∙ ap (λ s. end_of s (strat_parts c.args.units.now s) true) (aloft c.args.self.now.phase c.args.units.now c.args.self.now.of.value c.args.self.now.values.items c.args.self.now.rows c.args.self.now.left c.requires.finds.flying c.requires.finds.own)
