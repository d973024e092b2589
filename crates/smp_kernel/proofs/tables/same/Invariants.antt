use Rattle.std.proofs.Common.{◌≡◌, ◌<◌, ℕ, get_or, pos}
use Rattle.smp_kernel.proofs.tables.same.Given as goal

-- the entries so far are the same
abbrev pub invariant-loop-i : goal.invariant-loop-i
invariant-loop-i g l = (k : ℕ) → k < l.i → get_or l.a k (pos 0) ≡ get_or l.b k (pos 0)
