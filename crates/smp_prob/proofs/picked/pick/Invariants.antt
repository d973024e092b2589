use Rattle.std.proofs.Common.{◌≡◌, ◌++◌, drop, not, nat_lt, ◌&&◌}
use Rattle.std.specs.Prelude.{filter}
use Rattle.smp_prob.specs.Requested.{places}
use Rattle.smp_prob.proofs.picked.pick.Given as goal

abbrev pub invariant-loop-place : goal.invariant-loop-place
invariant-loop-place l = record {
  certain : l.certain.items ++ places (λ z. not (nat_lt z l.border)) l.place (drop l.place l.sizes) ≡ places (λ z. not (nat_lt z l.border)) 0 l.sizes;
  free : l.free.items ++ places (λ z. nat_lt 0 z && nat_lt z l.border) l.place (drop l.place l.sizes) ≡ places (λ z. nat_lt 0 z && nat_lt z l.border) 0 l.sizes;
  free_sizes : l.free_sizes.items ++ filter (λ z. nat_lt 0 z && nat_lt z l.border) (drop l.place l.sizes) ≡ filter (λ z. nat_lt 0 z && nat_lt z l.border) l.sizes;
}
