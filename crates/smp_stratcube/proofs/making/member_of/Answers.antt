use Rattle.std.proofs.Common.{rules, arith, ◌≡◌, ◌*◌, ◌<◌, ◌^◌, ℕ, List, ℤ, [], map, take, length, get_or, sym, ap, ap₂, ◌∙◌}
use Rattle.std.proofs.lemmas.List.{get_or-map, get_or_read, length-map}
use Rattle.smp_moves.specs.{declared.lines.Ratio.{Ratio}, Ends.{lowest}}
use Rattle.smp_stratcube.specs.{Layers.{Layer}, Units.{column_of, member_of}}
use Rattle.smp_stratcube.proofs.making.member_of.Goals as goal

pub column_of-requires-clause-size : goal.column_of-requires-clause-size
column_of-requires-clause-size c =
    let shape = c.layer.inside.shape.items in
    let inside : c.args.unit < length c.layer.inside.shape.items = rw (← c.layer.view_is, ← c.layer.invariant.shape_is) at c.requires.unit in
    let at : c.index-size.result.now ≡ get_or shape c.args.unit 0 = get_or_read shape c.args.unit c.index-size.result.now inside c.index-size.ensures 0 in
    omega (arith, at, ap (λ us. get_or us c.args.unit 0) c.layer.invariant.shape_is, c.layer.invariant.is.request.small c.args.unit (rw (← c.layer.view_is) at c.requires.unit))

pub overflow_mul-size : goal.overflow_mul-size
overflow_mul-size c =
    let shape = c.layer.inside.shape.items in
    let inside : c.args.unit < length c.layer.inside.shape.items = rw (← c.layer.view_is, ← c.layer.invariant.shape_is) at c.requires.unit in
    let at : c.index-size.result.now ≡ get_or shape c.args.unit 0 = get_or_read shape c.args.unit c.index-size.result.now inside c.index-size.ensures 0 in
    let below : c.index-size.result.now * c.layer.inside.r < 2 ^ 49 = rw (at, c.layer.invariant.shape_is, c.layer.invariant.r_is) (omega (arith, c.layer.invariant.is.request.below_one c.args.unit (rw (← c.layer.view_is) at c.requires.unit), c.layer.invariant.is.request.narrow)) in
    search rules

pub returns : goal.returns
returns c =
    let l = c.layer.inside in
    let unit = c.args.unit in
    let inside : c.args.unit < length c.layer.inside.shape.items = rw (← c.layer.view_is, ← c.layer.invariant.shape_is) at c.requires.unit in
    let size : c.index-size.result.now ≡ get_or l.shape.items unit 0 = get_or_read l.shape.items unit c.index-size.result.now inside c.index-size.ensures 0 in
    let also : unit < length l.values.items = omega (arith, inside, ap (λ us. length us) c.layer.invariant.shape_is, c.layer.invariant.is.request.paired, c.layer.invariant.is.one_each, length-map l.values.items (take l.variables)) in
    let places : c.index.result.now ≡ get_or l.values.items unit [] = get_or_read l.values.items unit c.index.result.now also c.index.ensures [] in
    let values : take l.variables c.index.result.now ≡ get_or (map (take l.variables) l.values.items) unit [] =
    ap (take l.variables) places ∙ sym (get_or-map (take l.variables) l.values.items unit [] [] also) in
    let asked : c.index-size.result.now ≡ get_or l.request.value.shape unit 0 = size ∙ ap (λ us. get_or us unit 0) c.layer.invariant.shape_is in
    let column : c.column_of.result ≡ column_of c.args.strata c.args.stratum (get_or l.request.value.shape unit 0) (get_or (map (take l.variables) l.values.items) unit []) =
    c.column_of.ensures ∙ ap₂ (λ (n : ℕ) (xs : List ℤ). column_of c.args.strata c.args.stratum n xs) asked values in
    let share : c.lowest.result ≡ lowest (get_or l.request.value.shape unit 0 * l.request.value.r) l.request.value.total =
    c.lowest.ensures ∙ ap (λ n. lowest (n * l.r) l.total) asked ∙ ap₂ (λ r total. lowest (get_or l.request.value.shape unit 0 * r) total) c.layer.invariant.r_is c.layer.invariant.total_is in
    ap₂ (λ (xs : List ℤ) (r : Ratio). record { column = xs; stratum = c.args.stratum; share = r }) column share
    ∙ ap (λ (y : Layer). member_of c.args.strata c.args.stratum y unit) c.layer.view_is
