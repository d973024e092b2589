use Rattle.std.proofs.{Common.{◌<◌, ◌^◌, get_or}, lemmas.List.Elements.{All-map}}
use Rattle.smp_strata.proofs.requests.sized_stratum.Goals as goal

pub sized_request-requires-clause-small : goal.sized_request-requires-clause-small
sized_request-requires-clause-small c =
    let sizes = c.args.cluster_sizes.now in
    rw (c.deref.ensures.value, c.in_ok-sizes.ensures)
    (λ i l. All-map (λ z. z < 2 ^ 31) (λ member. get_or sizes member 0) c.args.members.now
    (λ j d m. c.requires.small (get_or c.args.members.now j d) (c.requires.within j d m)) i 0 l)
