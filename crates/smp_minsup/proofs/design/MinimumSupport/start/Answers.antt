use Rattle.std.proofs.Common.{◌≡◌, length, arith, refl, ap, ◌∙◌}
use Rattle.smp_minsup.specs.Laws.Splits.{draws_within}
use Rattle.smp_minsup.proofs.FewLeaves.{support_starts, leaves_few}
use Rattle.smp_minsup.proofs.design.MinimumSupport.start.Goals as goal

pub take_largest-requires-clause-within : goal.take_largest-requires-clause-within
take_largest-requires-clause-within c =
    omega (arith, draws_within (length c.self.inside.values.numer) c.self.inside.values c.self.invariant.state, c.self.invariant.draws_are, ap length (c.in_ok-ranked.ensures.numer ∙ c.numerators.ensures))

-- the state is the design's own
started_is : (c : goal.After-new) → c.new.result ≡ c.self.inside.values
started_is c = rw (c.new.ensures, c.take_largest.ensures.numer, c.in_ok-ranked.ensures.numer, c.numerators.ensures, c.denominator.ensures) refl

pub returns-clause-starts : goal.returns-clause-starts
returns-clause-starts c = rw (started_is c, ← c.self.view_is) (support_starts c.self.inside.values c.self.invariant.state)

pub returns-clause-support : goal.returns-clause-support
returns-clause-support c = rw (started_is c, ← c.self.view_is) (leaves_few c.self.inside.values c.self.invariant.state)
