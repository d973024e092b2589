use Rattle.std.proofs.Common.{◌≡◌, ◌≤◌, List, ℤ, take, arith, sym, ap, length, subst}
use Rattle.smp_kernel.specs.RowReduction.{cut}
use Rattle.smp_kernel.proofs.KeptTables.{taken, taken_searching}
use Rattle.smp_kernel.proofs.prefixes.Prefixes.keep.Goals as goal

pub invariant_of-self : goal.invariant_of-self
invariant_of-self g c =
    let few : c.standing-standing.result ≤ length c.self.inside.tables.items = omega (arith, c.standing-standing.ensures.few, ap length c.self.view_is, c.self.invariant.one_each) in
    rw c.truncate.ensures.items (taken c.self.invariant c.standing-standing.result few)

pub returns : goal.returns
returns g c =
    let few : c.standing-standing.result ≤ length c.self.inside.tables.items = omega (arith, c.standing-standing.ensures.few, ap length c.self.view_is, c.self.invariant.one_each) in
    let same = subst (λ (cs : List (List ℤ)). take c.standing-standing.result cs ≡ take c.standing-standing.result (cut g.row.Q c.args.columns.now)) (sym c.self.view_is) c.standing-standing.ensures.same in
    rw c.truncate.ensures.items (taken_searching c.self.invariant c.standing-standing.result few c.args.columns.now c.standing-standing.ensures.fewer same)
