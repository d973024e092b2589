use Rattle.std.proofs.{Common.{get_or, rules}, lemmas.List.Sorted.{IsNonDecreasingBy-from_sort_by_key}}
use Rattle.smp_places.proofs.rising.rank.Goals as goal

pub returns-clause-rises : goal.returns-clause-rises
returns-clause-rises c a b before here =
    IsNonDecreasingBy-from_sort_by_key (λ place. get_or c.args.amounts.now place 0) _ c.sort_unstable_by_key.ensures.sorted (λ a r q k. search rules) a b 0 before here
