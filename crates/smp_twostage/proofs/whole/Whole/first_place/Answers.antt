use Rattle.std.proofs.Common.{◌≡◌, true, false, length, arith, rules, sym, ap, ◌∙◌}
use Rattle.std.specs.Vec.{vec_len}
use Rattle.smp_design.specs.{declared.procedure.Procedure.{Procedure}, Words.{draws_together}}
use Rattle.smp_twostage.specs.Plans.{CanBeDrawn}
use Rattle.smp_twostage.proofs.Inside.{number_alone, number_kept, own_plan, own_within, place_all, place_one, within_firsts}
use Rattle.smp_twostage.proofs.Layers.{few_before, few_strata}
use Rattle.smp_twostage.proofs.whole.Whole.first_place.Goals as goal

pub units_before-requires-clause-plan : goal.units_before-requires-clause-plan
units_before-requires-clause-plan c = own_plan c.args.self.now (record { plan = c.self.inside.plan.now; only = c.self.inside.only }) c.self.view_is c.args.stratum c.requires.plan

pub units_before-requires-clause-few : goal.units_before-requires-clause-few
units_before-requires-clause-few c =
    let own : CanBeDrawn c.self.inside.plan.now = own_plan c.args.self.now (record { plan = c.self.inside.plan.now; only = c.self.inside.only }) c.self.view_is c.args.stratum c.requires.plan in
    let together : draws_together c.self.inside.plan.now.procedure.method ≡ true = sym (c.draws_together.ensures ∙ ap (λ (way : Procedure). draws_together way.method) c.procedure.ensures) ∙ c.if-draws_together.true in
    omega (arith, few_strata c.self.inside.plan.now own together)

pub units_before-requires-clause-stratum : goal.units_before-requires-clause-stratum
units_before-requires-clause-stratum c =
    let within = own_within c.args.self.now (record { plan = c.self.inside.plan.now; only = c.self.inside.only }) c.self.view_is c.args.stratum c.requires.stratum in
    omega (arith, within)

pub overflow_add-unit : goal.overflow_add-unit
overflow_add-unit c =
    let own : CanBeDrawn c.self.inside.plan.now = own_plan c.args.self.now (record { plan = c.self.inside.plan.now; only = c.self.inside.only }) c.self.view_is c.args.stratum c.requires.plan in
    let together : draws_together c.self.inside.plan.now.procedure.method ≡ true = sym (c.draws_together.ensures ∙ ap (λ (way : Procedure). draws_together way.method) c.procedure.ensures) ∙ c.if-draws_together.true in
    let few = few_strata c.self.inside.plan.now own together in
    let within = own_within c.args.self.now (record { plan = c.self.inside.plan.now; only = c.self.inside.only }) c.self.view_is c.args.stratum c.requires.stratum in
    let before = few_before c.self.inside.plan.now own (omega (arith, few)) c.args.stratum (omega (arith, within)) in
    omega (arith, before, c.units_before.ensures, c.requires.unit)

pub returns-then-draws_together : goal.returns-then-draws_together
returns-then-draws_together c =
    let together : draws_together c.self.inside.plan.now.procedure.method ≡ true = sym (c.draws_together.ensures ∙ ap (λ (way : Procedure). draws_together way.method) c.procedure.ensures) ∙ c.if-draws_together.true in
    place_all c.args.self.now (record { plan = c.self.inside.plan.now; only = c.self.inside.only }) c.self.view_is c.args.stratum together c.units_before.result c.args.unit c.units_before.ensures

pub index-requires : goal.index-requires
index-requires c =
    let len : length c.self.inside.firsts.items ≡ vec_len c.self.inside.firsts = search rules in
    let apart : draws_together c.self.inside.plan.now.procedure.method ≡ false = sym (c.draws_together.ensures ∙ ap (λ (way : Procedure). draws_together way.method) c.procedure.ensures) ∙ c.if-draws_together.false in
    let within = within_firsts c.args.self.now (record { plan = c.self.inside.plan.now; only = c.self.inside.only }) c.self.view_is c.args.stratum apart c.in-None.is c.self.inside.firsts.items c.self.invariant.2 c.requires.stratum in
    omega (arith, len, within)

pub returns-in-Some : goal.returns-in-Some
returns-in-Some c =
    let apart : draws_together c.self.inside.plan.now.procedure.method ≡ false = sym (c.draws_together.ensures ∙ ap (λ (way : Procedure). draws_together way.method) c.procedure.ensures) ∙ c.if-draws_together.false in
    place_one c.args.self.now (record { plan = c.self.inside.plan.now; only = c.self.inside.only }) c.self.view_is c.args.stratum apart 0 c.args.unit
    (number_alone c.args.self.now (record { plan = c.self.inside.plan.now; only = c.self.inside.only }) c.self.view_is c.args.stratum apart _ c.in-Some.is)

pub returns-in-None : goal.returns-in-None
returns-in-None c =
    let apart : draws_together c.self.inside.plan.now.procedure.method ≡ false = sym (c.draws_together.ensures ∙ ap (λ (way : Procedure). draws_together way.method) c.procedure.ensures) ∙ c.if-draws_together.false in
    place_one c.args.self.now (record { plan = c.self.inside.plan.now; only = c.self.inside.only }) c.self.view_is c.args.stratum apart c.index.result.now c.args.unit
    (c.index.ensures ∙ number_kept c.args.self.now (record { plan = c.self.inside.plan.now; only = c.self.inside.only }) c.self.view_is c.args.stratum apart c.in-None.is c.self.inside.firsts.items c.self.invariant.2 c.requires.stratum c.index.result.now)
