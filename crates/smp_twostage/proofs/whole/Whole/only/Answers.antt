use Rattle.std.proofs.Common.{◌≡◌, true, false, length, Some, arith, sym, ap, subst, ◌∙◌}
use Rattle.std.specs.Prelude.{IfOk}
use Rattle.smp_design.specs.{declared.procedure.Procedure.{Procedure}, Words.{draws_together}}
use Rattle.smp_split.specs.Laws.Reads.{some_within}
use Rattle.smp_twostage.specs.{Covered.{StartsAlone}, Kept.Stages.{EachStarts}, Kept.Sides.{states_of, section_count_by}}
use Rattle.smp_twostage.specs.Selections.{all_of, one_of, parts_by, section_count, stages_of}
use Rattle.smp_twostage.proofs.{Alone.{starts_alone}, CoveredSo.{each_made, firsts_so, seats_so, stages_in, start_so, starts_at}}
use Rattle.smp_twostage.proofs.Starts.{each_first}
use Rattle.smp_twostage.proofs.whole.Whole.only.Goals as goal

pub returns-then-draws_together-clause-starts : goal.returns-then-draws_together-clause-starts
returns-then-draws_together-clause-starts c =
    let plan = c.args.plan.now in
    let together : draws_together plan.procedure.method ≡ true = sym (c.draws_together.ensures ∙ ap (λ (way : Procedure). draws_together way.method) c.procedure.ensures) ∙ c.if-draws_together.true in
    let count : section_count (all_of plan) ≡ 1 = ap (λ b. section_count_by b (all_of plan)) together in
    let first : 0 ≡ c.args.stratum = omega (arith, c.requires.stratum, count) in
    subst (λ n. IfOk c.together.result (λ started. StartsAlone plan n started.state)) first c.together.ensures.alone

pub push_alone-requires-clause-stratum : goal.push_alone-requires-clause-stratum
push_alone-requires-clause-stratum c =
    let plan = c.args.plan.now in
    let apart : draws_together plan.procedure.method ≡ false = sym (c.draws_together.ensures ∙ ap (λ (way : Procedure). draws_together way.method) c.procedure.ensures) ∙ c.if-draws_together.false in
    let count : section_count (all_of plan) ≡ length plan.strata = ap (λ b. section_count_by b (all_of plan)) apart in
    omega (arith, c.requires.stratum, count)

pub started-requires-clause-stages : goal.started-requires-clause-stages
started-requires-clause-stages c =
    let apart : draws_together c.args.plan.now.procedure.method ≡ false = sym (c.draws_together.ensures ∙ ap (λ (way : Procedure). draws_together way.method) c.procedure.ensures) ∙ c.if-draws_together.false in
    c.in_ok-firsts.ensures.stages ∙ stages_in false (one_of c.args.plan.now c.args.stratum) apart

pub started-requires-clause-each : goal.started-requires-clause-each
started-requires-clause-each c = each_first c.push_alone.new.self.stages.items c.push_alone.new.self.states.items c.in_ok-firsts.ensures.each

pub started-requires-clause-firsts : goal.started-requires-clause-firsts
started-requires-clause-firsts c =
    let apart : draws_together c.args.plan.now.procedure.method ≡ false = sym (c.draws_together.ensures ∙ ap (λ (way : Procedure). draws_together way.method) c.procedure.ensures) ∙ c.if-draws_together.false in
    c.in_ok-firsts.ensures.firsts ∙ firsts_so false (one_of c.args.plan.now c.args.stratum) apart

pub started-requires-clause-seats : goal.started-requires-clause-seats
started-requires-clause-seats c =
    let apart : draws_together c.args.plan.now.procedure.method ≡ false = sym (c.draws_together.ensures ∙ ap (λ (way : Procedure). draws_together way.method) c.procedure.ensures) ∙ c.if-draws_together.false in
    c.in_ok-seats.ensures ∙ seats_so false (one_of c.args.plan.now c.args.stratum) apart

pub returns-clause-starts : goal.returns-clause-starts
returns-clause-starts c =
    let plan = c.args.plan.now in
    let apart : draws_together plan.procedure.method ≡ false = sym (c.draws_together.ensures ∙ ap (λ (way : Procedure). draws_together way.method) c.procedure.ensures) ∙ c.if-draws_together.false in
    let count : section_count (all_of plan) ≡ length plan.strata = ap (λ b. section_count_by b (all_of plan)) apart in
    let stratum = some_within plan.strata c.args.stratum (omega (arith, c.requires.stratum, count)) in
    let own = parts_by plan (Some c.args.stratum) in
    let each : EachStarts (stages_of own) (states_of own) = each_made c.push_alone.new.self.stages.items (stages_of own) c.push_alone.new.self.states.items c.in_ok-firsts.ensures.stages c.in_ok-firsts.ensures.each in
    starts_alone plan c.requires.plan c.args.stratum stratum.0 stratum.1 each c.started.result.state (c.started.ensures.state ∙ start_so false (one_of plan c.args.stratum) apart)
    (starts_at false (one_of plan c.args.stratum) apart c.started.result.state c.started.ensures.starts) apart
