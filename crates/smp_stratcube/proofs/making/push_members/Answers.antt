use Rattle.std.proofs.{Common.{List, [], ◌∷◌, ◌++◌, map, arith, sym, ap, ap₂, ◌∙◌, append_assoc}, lemmas.List.{append-nil}}
use Rattle.std.specs.List.{range_with_len}
use Rattle.std.proofs.lemmas.List.FromFn.{map-range_with_len_more}
use Rattle.smp_stratcube.specs.{declared.units.Member.{Member}, Units.{member_of}}
use Rattle.smp_stratcube.proofs.making.push_members.Goals as goal

pub loop-unit-init : goal.loop-unit-init
loop-unit-init c = sym (append-nil c.args.members.now.items)

pub loop-unit-preserved : goal.loop-unit-preserved
loop-unit-preserved c =
    let unit = c.loop-unit.unit in
    let of = member_of c.args.strata c.args.stratum c.args.layer.now in
    let before = c.args.members.now.items in
    c.in_ok-push.ensures.items
    ∙ ap₂ (λ (ms : List Member) (m : Member). ms ++ m ∷ []) c.loop-unit.invariant c.member_of.ensures
    ∙ append_assoc before (map of (range_with_len 0 unit)) (of unit ∷ [])
    ∙ ap (λ ms. before ++ ms) (sym (map-range_with_len_more of 0 unit unit (omega arith)))
