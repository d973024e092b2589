-- How the code finds the unit that a draw offers, and what it leaves a unit where the offers end.
use Rattle.std.proofs.Common.{ℕ, suc, ◌-◌, ◌*◌, cond, nat_lt, List, [], ◌∷◌}
use Rattle.std.specs.Prelude.{if◌then◌else◌}
use Rattle.smp_brewer.specs.Sizes.{marks_taken}

-- the first place at which the cumulated sizes pass the draw
abbrev pub passing : List ℕ → ℕ → ℕ
passing [] draw = 0
passing (size ∷ sizes) draw = cond (nat_lt draw size) 0 (suc (passing sizes (draw - size)))

-- what a unit of this size has where the offers end: all of a taken unit, the draws times its size of any other
abbrev pub share_of : ℕ → ℕ → ℕ → ℕ
share_of all draws size = if marks_taken size then all else size * draws
