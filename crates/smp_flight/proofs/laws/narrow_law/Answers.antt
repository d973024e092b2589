use Rattle.smp_flight.proofs.{EqualSizes.{equal_narrow}, Narrow.{by_denominator}}
use Rattle.smp_flight.proofs.laws.narrow_law.Goals as goal

pub returns-clause-wide : goal.returns-clause-wide
returns-clause-wide c = λ units n s order is_flight ok w. by_denominator units n s order is_flight ok w

pub returns-clause-equal : goal.returns-clause-equal
returns-clause-equal c = equal_narrow
