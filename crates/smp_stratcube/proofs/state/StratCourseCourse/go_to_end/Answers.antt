use Rattle.std.proofs.Common.{List, arith, length, ap, ◌∙◌, sym, subst}
use Rattle.smp_moves.specs.{Answers.{line_of}, Courses.{end_of}, Cubes.{flying}, Kept.Computed.{next_along}}
use Rattle.smp_stratcube.specs.{declared.values.Value.{Value}, States.{IsFlying}, Kept.Computed.{flight_of}, Kept.Fronts.{IsAhead, IsFront}}
use Rattle.smp_stratcube.specs.{Kept.Trees.{strat_parts}, Moves.{setting_of}}
use Rattle.smp_stratcube.proofs.Keeping.{aloft, move_ahead, move_count, move_end, move_flight, step_there}
use Rattle.smp_stratcube.proofs.state.StratCourseCourse.go_to_end.Goals as goal

pub front_of-self-requires : goal.front_of-self-requires
front_of-self-requires c =
    subst (λ (vs : List Value). IsAhead vs c.args.self.now.front) (sym (c.as_slice-values.ensures.value ∙ c.fly.ensures.is)) (move_ahead c.args.units.now (flight_of c.args.units.now c.args.self.now.values.items c.args.self.now.rows) c.requires.finds.flight c.args.self.now.front c.requires.finds.first (omega (arith, c.requires.finds.first.short)) (next_along (setting_of c.args.units.now) c.args.self.now.values.items (line_of c.args.mv.now.line)) c.requires.finds.step.next c.args.plus)

pub step-next-requires-clause-flying : goal.step-next-requires-clause-flying
step-next-requires-clause-flying c =
    subst (λ (vs : List Value). IsFlying c.args.units.now (flight_of c.args.units.now vs c.args.self.now.rows)) (sym (c.as_slice-values.ensures.value ∙ c.fly.ensures.is))
    (move_flight c.args.units.now (flight_of c.args.units.now c.args.self.now.values.items c.args.self.now.rows) c.requires.finds.flight c.args.self.now.front c.requires.finds.first (omega (arith, c.requires.finds.first.short)) (next_along (setting_of c.args.units.now) c.args.self.now.values.items (line_of c.args.mv.now.line)) c.requires.finds.step.next c.args.plus)

pub returns-clause-kept : goal.returns-clause-kept
returns-clause-kept c = record {
  few = omega (arith, ap length c.fly.ensures.is, move_count c.args.units.now (flight_of c.args.units.now c.args.self.now.values.items c.args.self.now.rows) c.requires.finds.flight c.args.self.now.front c.requires.finds.first (omega (arith, c.requires.finds.first.short)) (next_along (setting_of c.args.units.now) c.args.self.now.values.items (line_of c.args.mv.now.line)) c.requires.finds.step.next c.args.plus, c.requires.finds.few);
  first = subst (λ (vs : List Value). IsFront vs c.front_of-self.result) c.as_slice-values.ensures.value c.front_of-self.ensures;
  step = rw (c.requires.finds.flying, c.keep.ensures) (step_there c.args.units.now c.args.self.now.of.value c.fly.new.values.items c.as_slice-values.result.now c.args.self.now.rows c.step-next.result (sym c.requires.finds.own) c.as_slice-values.ensures.value c.step-next.ensures);
}

pub returns-clause-is : goal.returns-clause-is
returns-clause-is c =
    sym (aloft c.args.self.now.phase c.args.units.now c.args.self.now.of.value c.fly.new.values.items c.args.self.now.rows c.args.self.now.left c.requires.finds.flying c.requires.finds.own)
    ∙ ap (λ (vs : List Value). flying (flight_of c.args.units.now vs c.args.self.now.rows) c.args.self.now.left) c.fly.ensures.is
    ∙ move_end c.args.units.now (flight_of c.args.units.now c.args.self.now.values.items c.args.self.now.rows) c.args.self.now.left (next_along (setting_of c.args.units.now) c.args.self.now.values.items (line_of c.args.mv.now.line)) c.requires.finds.step.next c.args.plus
    ∙ ap (λ s. end_of s (strat_parts c.args.units.now s) c.args.plus) (aloft c.args.self.now.phase c.args.units.now c.args.self.now.of.value c.args.self.now.values.items c.args.self.now.rows c.args.self.now.left c.requires.finds.flying c.requires.finds.own)
