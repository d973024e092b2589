use Rattle.std.proofs.Common.{◌≡◌, ◌+◌, ◌-◌, ℕ, [], ◌∷◌, ◌++◌, length, arith, subst, length-append}
use Rattle.smp_stratcube.specs.Kept.Behind.{IsBehind}
use Rattle.smp_stratcube.proofs.Stored.{more_each}
use Rattle.smp_stratcube.proofs.making.behind_of.Goals as goal

pub loop-back-preserved : goal.loop-back-preserved
loop-back-preserved c =
    let members = c.args.members.now in
    let n = length c.args.members.now in
    let back = c.loop-back.back in
    let all = c.loop-back.all.items in
    let i = c.loop-back.invariant in
    let items : c.push.new.self.items ≡ all ++ c.behind-last.result ∷ [] = c.in_ok-push.ensures.items in
    rw items (record {
      count = omega (arith, length-append all (c.behind-last.result ∷ []), i.count);
      each = λ k l. more_each (λ k x. IsBehind members (n - 1 - k) x) all 0 c.behind-last.result back i.count i.each c.behind-last.ensures k l;
      again = λ l. (let at : n - 1 - back ≡ n - (back + 1) = omega (arith, c.loop-back-test.true) in subst (λ (k : ℕ). IsBehind members k c.behind-last.result) at c.behind-last.ensures);
    })
