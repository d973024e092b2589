use Rattle.std.proofs.Common.{◌≡◌, ℕ, ◌+◌, ◌≤◌, List, [], ◌∷◌, ◌++◌, map, take, drop, length, get_or, arith, sym, ap, ap₂, ◌∙◌, subst, append_assoc, take_all}
use Rattle.std.specs.List.{range_with_len}
use Rattle.std.proofs.lemmas.List.{append-nil, drop_all, get_or_read, take_more}
use Rattle.smp_kernel.proofs.Lists.{map_last}
use Rattle.smp_stratcube.specs.{declared.units.Member.{Member}, Layers.{Layer, no_layer, variables}, Kept.Layers.{width, first_of}}
use Rattle.smp_stratcube.specs.Units.{member_of, members_from}
use Rattle.smp_stratcube.proofs.Stored.{members_step}
use Rattle.smp_stratcube.proofs.making.members_of.Goals as goal

pub push_members-requires-clause-rows : goal.push_members-requires-clause-rows
push_members-requires-clause-rows c some =
    let layers = c.args.layers.now in
    let i = c.loop-stratum.stratum in
    let at : c.index-layers-stratum.result ≡ get_or layers i no_layer = get_or_read layers i c.index-layers-stratum.result c.loop-stratum-test.true c.index-layers-stratum.is no_layer in
    let same : width (get_or layers i no_layer) ≡ variables layers = c.requires.are.same i c.loop-stratum-test.true (subst (λ (y : Layer). 1 ≤ length y.request.shape) at some) in
    omega (arith, ap width at, same, c.requires.are.rows)

pub loop-stratum-preserved : goal.loop-stratum-preserved
loop-stratum-preserved c =
    let layers = c.args.layers.now in
    let strata = length c.args.layers.now in
    let i = c.loop-stratum.stratum in
    let layer = c.index-layers-stratum.result in
    let inside = c.loop-stratum-test.true in
    let own = map (member_of strata i layer) (range_with_len 0 (length layer.request.shape)) in
    let first_is : c.layer.inside.first ≡ first_of (get_or layers i no_layer) =
    c.layer.invariant.first_is ∙ ap first_of (c.layer.view_is ∙ get_or_read layers i layer inside c.index-layers-stratum.is no_layer) in
    record {
      all = ap (λ (ms : List Member). ms ++ members_from strata (i + 1) (drop (i + 1) layers)) c.in_ok-push_members.ensures
          ∙ append_assoc c.loop-stratum.members.items own (members_from strata (i + 1) (drop (i + 1) layers))
          ∙ ap (λ ms. c.loop-stratum.members.items ++ ms) (sym (members_step strata layers i layer inside c.index-layers-stratum.is))
          ∙ c.loop-stratum.invariant.all;
      firsts = c.in_ok-push.ensures.items
          ∙ ap₂ (λ (fs : List ℕ) (f : ℕ). fs ++ f ∷ []) c.loop-stratum.invariant.firsts first_is
          ∙ sym (ap (map first_of) (take_more layers i no_layer inside) ∙ map_last first_of (take i layers) (get_or layers i no_layer));
    }

pub returns : goal.returns
returns c =
    let layers = c.args.layers.now in
    let i = c.loop-stratum.stratum in
    let items = c.loop-stratum.members.items in (
      sym (append-nil items) ∙ sym (ap (λ ls. items ++ members_from (length layers) i ls) (drop_all i layers c.loop-stratum-test.false)) ∙ c.loop-stratum.invariant.all,
      c.loop-stratum.invariant.firsts ∙ ap (map first_of) (take_all i layers c.loop-stratum-test.false),
    )
