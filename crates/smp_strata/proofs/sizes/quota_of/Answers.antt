use Rattle.std.proofs.{Common.{rules}, lemmas.Fn.{always_returns_same}}
use Rattle.smp_strata.proofs.QuotaSearch.{order, rises, found, not_at}
use Rattle.smp_strata.proofs.sizes.quota_of.Goals as goal

pub returns-in-Ok : goal.returns-in-Ok
returns-in-Ok c =
    let place = c.in-Ok.ensures.position (order c.args.name.now) (always_returns_same _ _ _ (λ a r g called. (search rules, search rules))) in
    found c.args.name.now c.args.quotas.now c.requires c.in-Ok.place c.index-quotas-place.result c.in-Ok.ensures.bound (place c.index-quotas-place.result)

pub returns-in-Err : goal.returns-in-Err
returns-in-Err c =
    let gap = c.in-Err.ensures.position (order c.args.name.now) (always_returns_same _ _ _ (λ a r g called. (search rules, search rules))) (rises c.args.name.now c.args.quotas.now c.requires) in
    not_at c.args.name.now c.args.quotas.now _ gap.0 gap.1
