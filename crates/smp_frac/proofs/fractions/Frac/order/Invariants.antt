use Rattle.std.proofs.Common.{◌≡◌, ◌+◌, ◌*◌, ◌≤◌}
use Rattle.std.specs.Ordering.{nat_cmp}
use Rattle.smp_frac.proofs.fractions.Frac.order.Given as goal

abbrev pub invariant-loop-a : goal.invariant-loop-a
invariant-loop-a l = record {
  first : 1 ≤ l.b;
  second : 1 ≤ l.d;
  same : nat_cmp (l.a * l.d) (l.c * l.b) ≡ nat_cmp (l.fn.self.num * l.fn.other.den) (l.fn.other.num * l.fn.self.den);
}

abbrev pub decreases-loop-a : goal.decreases-loop-a
decreases-loop-a l = l.b + l.d
