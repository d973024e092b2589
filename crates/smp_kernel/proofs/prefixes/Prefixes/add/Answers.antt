use Rattle.std.proofs.Common.{◌≡◌, List, [], ◌∷◌, ◌++◌, ℤ, sym, ap, ◌∙◌, subst}
use Rattle.smp_kernel.specs.{Answers.{Enters}, Kept.Searched.{last_of}}
use Rattle.smp_kernel.proofs.KeptTables.{pushed}
use Rattle.smp_kernel.proofs.prefixes.Prefixes.add.Goals as goal

pub invariant_of-self : goal.invariant_of-self
invariant_of-self g c =
    let a = rw c.in-Basis.is at c.add-added.ensures in
    let was : c.table-table.result ≡ last_of c.self.inside.tables.items = c.table-table.ensures ∙ sym c.self.view_is in
    rw c.in_ok-push-in-Basis.ensures.items
    (pushed c.self.invariant c.args.column.now (subst (λ (cs : List (List ℤ)). Enters g.row.Q cs c.args.column.now) was a.0) c.add-added.new.self
    (a.1 ∙ ap (λ (cs : List (List ℤ)). cs ++ c.args.column.now ∷ []) was))
