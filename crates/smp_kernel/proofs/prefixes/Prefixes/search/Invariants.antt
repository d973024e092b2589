use Rattle.smp_kernel.specs.Kept.Searched.{IsSearching}
use Rattle.smp_kernel.proofs.prefixes.Prefixes.search.Given as goal

abbrev pub invariant-loop-place : goal.invariant-loop-place
invariant-loop-place g l = IsSearching g.row.Q l.columns l.place l.self
