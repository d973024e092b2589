use Rattle.std.proofs.Common.{◌≡◌, List, map, length, arith, sym, ap, ◌∙◌, subst}
use Rattle.smp_stratcube.specs.{Layers.{AreLayers, Layer, variables}, Units.{IsUnits, Units, members_from, units_of}, States.{started}}
use Rattle.smp_stratcube.specs.{Requests.{AreRequested}, Kept.Behind.{HaveCommon}, Kept.Layers.{EachIsLayer, first_of}}
use Rattle.smp_stratcube.proofs.{Behinds.{have_common}, Layered.{units_are}, Starting.{are_requested}, Stored.{units_view}}
use Rattle.smp_stratcube.proofs.making.units_of.Goals as goal

pub behind_of-requires : goal.behind_of-requires
behind_of-requires c =
    let layers = c.layers.inside.layers.items in
    let are : AreLayers c.layers.inside.layers.items = subst AreLayers (sym c.layers.view_is) c.requires in
    let members : c.as_slice-2.result.now ≡ members_from (length layers) 0 layers =
    c.as_slice-2.ensures.value ∙ c.in_ok-members.ensures.0 ∙ ap (λ (ls : List Layer). members_from (length ls) 0 ls) c.as_slice.ensures.value in
    subst HaveCommon (sym members) (have_common (units_of layers) (units_are layers are c.layers.invariant))

pub returns-clause-is : goal.returns-clause-is
returns-clause-is c =
    let layers = c.args.layers.now in
    let all : c.as_slice.result.now ≡ c.args.layers.now = c.as_slice.ensures.value ∙ c.layers.view_is in
    units_view layers c.in_ok-members.members.items c.in_ok-members.firsts.items c.len.result c.variables_of.result
    (c.in_ok-members.ensures.0 ∙ ap (λ (ls : List Layer). members_from (length ls) 0 ls) all) (c.in_ok-members.ensures.1 ∙ ap (map first_of) all)
    (omega (arith, c.len.ensures, c.layers.inside.layers.ok.0, ap (λ (ls : List Layer). length ls) c.layers.view_is)) (c.variables_of.ensures ∙ ap variables (c.as_slice-3.ensures.value ∙ c.layers.view_is))

pub returns-clause-are : goal.returns-clause-are
returns-clause-are c = subst IsUnits (sym (returns-clause-is c)) (units_are c.args.layers.now c.requires (subst EachIsLayer c.layers.view_is c.layers.invariant))

pub returns-clause-requested : goal.returns-clause-requested
returns-clause-requested c =
    subst (λ (units : Units). AreRequested c.args.layers.now (started units)) (sym (returns-clause-is c))
    (are_requested c.args.layers.now c.requires (subst EachIsLayer c.layers.view_is c.layers.invariant))
