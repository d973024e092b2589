use Rattle.std.proofs.{Common.{◌≡◌, ◌+◌, ◌≤◌, drop, take, length, arith, sym, ap, ◌∙◌}, lemmas.List.{drop_all, length-map}}
use Rattle.smp_stratcube.specs.{Layers.{Layer, variables}, Kept.Layers.{width}}
use Rattle.smp_stratcube.proofs.{Stored.{first_has, first_none, here_of}, making.variables_of.Goals.{After-len}}
use Rattle.smp_stratcube.proofs.making.variables_of.Goals as goal

-- how many values a layer has
count : (c : After-len) → length c.layer.inside.values.items ≡ length c.index-layers-stratum.result.values
count c =
    let l = c.layer.inside in
    sym (length-map l.values.items (take l.variables)) ∙ ap (λ (y : Layer). length y.values) c.layer.view_is

pub returns-then-len-gt0 : goal.returns-then-len-gt0
returns-then-len-gt0 c =
    let layers = c.args.layers.now in
    let i = c.loop-stratum.stratum in
    let layer = c.index-layers-stratum.result in
    let some : 1 ≤ length c.index-layers-stratum.result.values = omega (arith, c.if-len-gt0.true, c.len.ensures, c.layer.inside.values.ok.0, count (goal.at.returns-then-len-gt0 c).After-len) in
    c.layer.invariant.variables_is ∙ ap width c.layer.view_is
    ∙ sym (c.loop-stratum.invariant ∙ ap variables (here_of layers i layer c.loop-stratum-test.true c.index-layers-stratum.is) ∙ first_has layer (drop (i + 1) layers) some)

pub loop-stratum-preserved : goal.loop-stratum-preserved
loop-stratum-preserved c =
    let layers = c.args.layers.now in
    let i = c.loop-stratum.stratum in
    let layer = c.index-layers-stratum.result in
    let empty : length c.index-layers-stratum.result.values ≡ 0 = omega (arith, c.if-len-gt0.false, c.len.ensures, c.layer.inside.values.ok.0, count (goal.at.loop-stratum-preserved c).After-len) in
    c.loop-stratum.invariant ∙ ap variables (here_of layers i layer c.loop-stratum-test.true c.index-layers-stratum.is) ∙ first_none layer (drop (i + 1) layers) empty

pub returns : goal.returns
returns c = sym (c.loop-stratum.invariant ∙ ap variables (drop_all c.loop-stratum.stratum c.args.layers.now c.loop-stratum-test.false))
