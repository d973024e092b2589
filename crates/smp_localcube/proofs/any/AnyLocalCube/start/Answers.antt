use Rattle.std.proofs.Common.{◌≡◌, sym, ap, subst, ◌∙◌}
use Rattle.smp_near.specs.Dimensions.{in_any}
use Rattle.smp_flight.specs.Landings.{IsBalanced}
use Rattle.smp_localcube.specs.{Local.{Local, local_of}, Method.{LocalUnits}}
use Rattle.smp_localcube.proofs.any.AnyLocalCube.start.Goals as goal

-- the design of one of the four numbers of coordinates is the one that is seen
same_design : (one any : LocalUnits) (state : Local) → one ≡ any → IsBalanced (local_of one.units) state → IsBalanced (local_of any.units) state
same_design one any state e = subst (λ (d : LocalUnits). IsBalanced (local_of d.units) state) e

pub returns-in_ok-start-in-One-clause-balanced : goal.returns-in_ok-start-in-One-clause-balanced
returns-in_ok-start-in-One-clause-balanced c = same_design _ _ _ (sym (ap in_any c.in-One.is) ∙ c.self.view_is) c.in_ok-start-in-One.ensures.balanced

pub returns-in_ok-start-in-Two-clause-balanced : goal.returns-in_ok-start-in-Two-clause-balanced
returns-in_ok-start-in-Two-clause-balanced c = same_design _ _ _ (sym (ap in_any c.in-Two.is) ∙ c.self.view_is) c.in_ok-start-in-Two.ensures.balanced

pub returns-in_ok-start-in-Three-clause-balanced : goal.returns-in_ok-start-in-Three-clause-balanced
returns-in_ok-start-in-Three-clause-balanced c = same_design _ _ _ (sym (ap in_any c.in-Three.is) ∙ c.self.view_is) c.in_ok-start-in-Three.ensures.balanced

pub returns-in_ok-start-in-Four-clause-balanced : goal.returns-in_ok-start-in-Four-clause-balanced
returns-in_ok-start-in-Four-clause-balanced c = same_design _ _ _ (sym (ap in_any c.in-Four.is) ∙ c.self.view_is) c.in_ok-start-in-Four.ensures.balanced
