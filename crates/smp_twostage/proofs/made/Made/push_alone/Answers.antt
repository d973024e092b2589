use Rattle.std.proofs.Common.{◌≡◌, ◌∷◌, [], ◌++◌, Some, length, rules, sym, ap, ◌∙◌}
use Rattle.std.specs.{List.{slice_get}, Vec.{vec_len}}
use Rattle.smp_twostage.specs.{Laws.Covered.{strata_are}, Selections.{parts_by, stages_of}}
use Rattle.smp_twostage.proofs.{Columns.{stratum_at}, Alone.{alone_made}}
use Rattle.smp_twostage.proofs.made.Made.push_alone.Goals as goal

pub returns-clause-stages : goal.returns-clause-stages
returns-clause-stages c =
    let plan = c.args.plan.now in
    let there : slice_get plan.strata c.args.stratum ≡ Some c.stratum.result.now = stratum_at plan.strata c.args.stratum c.stratum.result.now c.requires.stratum c.stratum.ensures.value in
    alone_made plan c.requires.plan c.args.stratum c.stratum.result.now there c.args.self.now.stages.items c.push_stratum.new.self.stages.items c.requires.none c.in_ok-push_stratum.ensures.stages

pub returns-clause-firsts : goal.returns-clause-firsts
returns-clause-firsts c =
    let plan = c.args.plan.now in
    let there : slice_get plan.strata c.args.stratum ≡ Some c.stratum.result.now = stratum_at plan.strata c.args.stratum c.stratum.result.now c.requires.stratum c.stratum.ensures.value in
    let made : c.push_stratum.new.self.stages.items ≡ stages_of (parts_by plan (Some c.args.stratum)) =
    alone_made plan c.requires.plan c.args.stratum c.stratum.result.now there c.args.self.now.stages.items c.push_stratum.new.self.stages.items c.requires.none c.in_ok-push_stratum.ensures.stages in
    let len : length c.push_stratum.new.self.stages.items ≡ vec_len c.push_stratum.new.self.stages = search rules in
    c.in_ok-push-2.ensures.items
    ∙ ap (λ xs. xs ++ c.len.result ∷ []) (c.in_ok-push.ensures.items ∙ ap (λ xs. xs ++ 0 ∷ []) c.new-firsts.ensures.items)
    ∙ ap (λ n. 0 ∷ n ∷ []) (c.len.ensures ∙ sym len ∙ ap length made ∙ sym (strata_are plan (Some c.args.stratum)).last)
