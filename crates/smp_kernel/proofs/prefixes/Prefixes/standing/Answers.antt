use Rattle.std.proofs.{Common.{◌≡◌, ◌+◌, ◌-◌, ◌<◌, List, [], ℤ, take, length, get_or, arith, sym, ◌∙◌, subst}, lemmas.List.{get_or_default}}
use Rattle.smp_kernel.specs.RowReduction.{cut}
use Rattle.smp_kernel.proofs.KeptTables.{one_more}
use Rattle.smp_kernel.proofs.prefixes.Prefixes.standing.Goals as goal

pub loop-place-preserved : goal.loop-place-preserved
loop-place-preserved g c =
    let columns = c.args.columns.now in
    let place = c.loop-place.place in
    let few : place < length c.self.inside.tables.items = omega (arith, c.min-most.ensures, c.loop-place-test.true, c.len.ensures) in
    let table : c.index.result.now ≡ get_or c.self.inside.tables.items place [] = c.index.ensures ∙ get_or_default c.self.inside.tables.items place c.index.result.now [] few in
    subst (λ (cs : List (List ℤ)). take (place + 1) cs ≡ take (place + 1) (cut g.row.Q columns)) c.self.view_is
    (one_more c.self.invariant columns place few (omega (arith, c.min-most.ensures, c.loop-place-test.true, c.told-columns))
    (subst (λ (cs : List (List ℤ)). take place cs ≡ take place (cut g.row.Q columns)) (sym c.self.view_is) c.loop-place.invariant)
    (subst (λ (cs : List (List ℤ)). get_or cs (length cs - 1) [] ≡ take g.row.Q (get_or columns place [])) table (c.ends_with.ensures.last c.if-not-ends_with.false ∙ c.front.ensures.is)))
