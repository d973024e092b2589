use Rattle.std.proofs.Common.{◌≡◌, ◌<◌, ℕ, get_or, length}
use Rattle.smp_brewer.specs.Kept.Sizes.{share_of}
use Rattle.smp_brewer.proofs.offers.Offers.fill.Given as goal

-- the values of the units so far
abbrev pub invariant-loop-unit : goal.invariant-loop-unit
invariant-loop-unit l = (length l.values.numer ≡ length l.self.sizes) × ((k : ℕ) → k < l.unit → get_or l.values.numer k 0 ≡ share_of l.total l.self.draws (get_or l.self.sizes k 0))
