use Rattle.std.proofs.Common.{◌≡◌, ℕ, ◌+◌, ◌<◌, ◌≤◌, pos, set, length}
use Rattle.std.specs.Prelude.{replicate}
use Rattle.smp_kernel.specs.Vectors.{entry}
use Rattle.smp_stratcube.proofs.making.column_of.Given as goal

-- the numbers of the strata, those of the variables so far, and 0 past them
abbrev pub invariant-loop-place : goal.invariant-loop-place
invariant-loop-place l = record {
  long : length l.column ≡ 16;
  front : (k : ℕ) → k < l.strata → entry l.column k ≡ entry (set (replicate l.strata (pos 0)) l.stratum (pos l.size)) k;
  rest : (j : ℕ) → j < l.place → entry l.column (l.strata + j) ≡ entry l.values j;
  past : (k : ℕ) → l.strata + l.place ≤ k → entry l.column k ≡ pos 0;
}
