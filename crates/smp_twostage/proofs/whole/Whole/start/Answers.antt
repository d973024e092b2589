use Rattle.std.proofs.Common.{◌≡◌, false, sym, ap, ◌∙◌}
use Rattle.smp_design.specs.{declared.procedure.Procedure.{Procedure}, Words.{draws_together}}
use Rattle.smp_twostage.specs.{Kept.Stages.{EachStarts}, Selections.{all_of, stages_of}, Kept.Sides.{states_of}}
use Rattle.smp_twostage.proofs.CoveredSo.{each_made, firsts_so, seats_so, stages_in, start_so, starts_at}
use Rattle.smp_twostage.proofs.Starts.{each_first, starts_whole}
use Rattle.smp_twostage.proofs.whole.Whole.start.Goals as goal

pub started-requires-clause-stages : goal.started-requires-clause-stages
started-requires-clause-stages c =
    let apart : draws_together c.args.plan.now.procedure.method ≡ false = sym (c.draws_together.ensures ∙ ap (λ (way : Procedure). draws_together way.method) c.procedure.ensures) ∙ c.if-draws_together.false in
    c.in_ok-firsts.ensures.stages ∙ stages_in false (all_of c.args.plan.now) apart

pub started-requires-clause-each : goal.started-requires-clause-each
started-requires-clause-each c = each_first c.push_strata.new.self.stages.items c.push_strata.new.self.states.items c.in_ok-firsts.ensures.each

pub started-requires-clause-firsts : goal.started-requires-clause-firsts
started-requires-clause-firsts c =
    let apart : draws_together c.args.plan.now.procedure.method ≡ false = sym (c.draws_together.ensures ∙ ap (λ (way : Procedure). draws_together way.method) c.procedure.ensures) ∙ c.if-draws_together.false in
    c.in_ok-firsts.ensures.firsts ∙ firsts_so false (all_of c.args.plan.now) apart

pub started-requires-clause-seats : goal.started-requires-clause-seats
started-requires-clause-seats c =
    let apart : draws_together c.args.plan.now.procedure.method ≡ false = sym (c.draws_together.ensures ∙ ap (λ (way : Procedure). draws_together way.method) c.procedure.ensures) ∙ c.if-draws_together.false in
    c.in_ok-seats.ensures ∙ seats_so false (all_of c.args.plan.now) apart

pub returns-clause-starts : goal.returns-clause-starts
returns-clause-starts c =
    let plan = c.args.plan.now in
    let apart : draws_together plan.procedure.method ≡ false = sym (c.draws_together.ensures ∙ ap (λ (way : Procedure). draws_together way.method) c.procedure.ensures) ∙ c.if-draws_together.false in
    let each : EachStarts (stages_of plan) (states_of plan) = each_made c.push_strata.new.self.stages.items (stages_of plan) c.push_strata.new.self.states.items c.in_ok-firsts.ensures.stages c.in_ok-firsts.ensures.each in
    starts_whole plan c.requires (states_of plan) each c.started.result.state (c.started.ensures.state ∙ start_so false (all_of plan) apart) (starts_at false (all_of plan) apart c.started.result.state c.started.ensures.starts) apart
