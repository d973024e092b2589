use Rattle.std.proofs.Common.{◌≡◌, List, [], ◌∷◌, ◌++◌, sym, ap, subst, ◌∙◌}
use Rattle.smp_values.specs.Starts.{IsRequested}
use Rattle.smp_stratcube.specs.{States.{started}, Cube.{strat_tree}, Layers.{AreLayers, Layer}, Kept.Layers.{layer_of}}
use Rattle.smp_stratcube.specs.{Requests.{AreRequested}, Units.{Units, units_of}}
use Rattle.smp_methods.proofs.OneStratum.{are_layers, are_numbers, one_requested}
use Rattle.smp_methods.proofs.stratified.stratified_cube.Goals as goal

module _ (layer : Layer) (layers : List Layer) (is : layers ≡ layer ∷ []) where
  design_is : (design : Units) → design ≡ units_of layers → design ≡ units_of (layer ∷ [])
  design_is design made = made ∙ ap units_of is

pub push-requires-clause-values : goal.push-requires-clause-values
push-requires-clause-values c = are_numbers c.args.values.now c.requires.values

pub new-requires : goal.new-requires
new-requires c =
    let layer : Layer = layer_of c.args.request.now c.args.values.now in
    let one : c.push.new.self ≡ layer ∷ [] = c.in_ok-push.ensures.appended ∙ ap (λ (ls : List Layer). ls ++ layer ∷ []) c.new-layers.ensures in
    subst AreLayers (sym one) (are_layers c.args.request.now c.args.values.now c.requires.request c.requires.paired c.requires.values)

pub returns-clause-design : goal.returns-clause-design
returns-clause-design c =
    let layer : Layer = layer_of c.args.request.now c.args.values.now in
    let one : c.push.new.self ≡ layer ∷ [] = c.in_ok-push.ensures.appended ∙ ap (λ (ls : List Layer). ls ++ layer ∷ []) c.new-layers.ensures in
    design_is layer c.push.new.self one c.in_ok-design.design c.in_ok-design.ensures.design

pub returns-clause-requested : goal.returns-clause-requested
returns-clause-requested c =
    let layer : Layer = layer_of c.args.request.now c.args.values.now in
    let one : c.push.new.self ≡ layer ∷ [] = c.in_ok-push.ensures.appended ∙ ap (λ (ls : List Layer). ls ++ layer ∷ []) c.new-layers.ensures in
    let made : c.in_ok-design.design ≡ units_of (layer ∷ []) = design_is layer c.push.new.self one c.in_ok-design.design c.in_ok-design.ensures.design in
    let asked : AreRequested (layer ∷ []) (started (units_of (layer ∷ []))) =
    subst (λ (ls : List Layer). AreRequested ls (started (units_of (layer ∷ [])))) one
    (subst (λ (u : Units). AreRequested c.push.new.self (started u)) made c.in_ok-design.ensures.requested) in
    subst (λ (u : Units). IsRequested (strat_tree u) c.args.request.now (started u)) (sym made)
    (one_requested c.args.request.now c.args.values.now c.requires.request asked)
