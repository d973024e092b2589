use Rattle.std.proofs.Common.{◌≡◌, ◌≢◌, ◌*◌, ◌/◌, ◌%◌, arith, ap₂, ◌∙◌}
use Rattle.std.specs.Ordering.{nat_cmp, ordering_then}
use Rattle.smp_frac.proofs.{Orders.{nat_cmp_inverses, nat_cmp_parts, at_most_is, at_least_is}, Unique.{equal_is_same}}
use Rattle.smp_frac.proofs.fractions.Frac.order.Goals as goal
use Rattle.smp_frac.proofs.fractions.Frac.order.Goals.{then-loop-a-test+then-a-b-ne0+else-c-d-ne0, then-loop-a-test+else-a-b-ne0, else-loop-a-test}

pub loop-a-preserved : goal.loop-a-preserved
loop-a-preserved c =
    let l = c.loop-a in
    let same = nat_cmp_inverses l.a l.b l.c l.d l.invariant.first l.invariant.second c.loop-a-test.true in
    record { first = omega arith; second = omega arith; same = same ∙ l.invariant.same }

-- the order of the cross products
exact : (c : goal.After-then) → c.then.result ≡ nat_cmp (c.args.self.num * c.args.other.den) (c.args.other.num * c.args.self.den)
exact c =
    let l = c.loop-a in
    let last : l.a / l.b ≡ l.c / l.d → l.a % l.b ≢ 0 → l.c % l.d ≡ 0 =
    (λ e n. elim c.loop-a-test.branch [
      | then-loop-a-test+then-a-b-ne0+else-c-d-ne0 w ↦ omega arith
      | then-loop-a-test+else-a-b-ne0 w ↦ omega arith
      | else-loop-a-test w ↦ omega arith
    ]) in
    c.then.ensures ∙ ap₂ ordering_then c.cmp.ensures c.cmp-2.ensures
    ∙ nat_cmp_parts l.a l.b l.c l.d l.invariant.first l.invariant.second last ∙ l.invariant.same

pub returns-clause-at_most : goal.returns-clause-at_most
returns-clause-at_most c = at_most_is c.args.self c.args.other c.then.result (exact c)

pub returns-clause-at_least : goal.returns-clause-at_least
returns-clause-at_least c = at_least_is c.args.self c.args.other c.then.result (exact c)

pub returns-clause-same : goal.returns-clause-same
returns-clause-same c = equal_is_same c.args.self c.args.other c.then.result (exact c)
