use Rattle.std.proofs.Common.{arith}
use Rattle.smp_frac.proofs.{Over.{over_from_cross}, LowestTerms.{same-lowest_terms}}
use Rattle.smp_frac.specs.{Laws.Coprime.{part_positive}, Laws.Lowest.{lowest_parts, same_value}}
use Rattle.smp_frac.proofs.fractions.Frac.over.Goals as goal

pub invariant_of-result : goal.invariant_of-result
invariant_of-result c = record {
  positive = part_positive _ _ (omega arith) c.gcd-divisor.ensures.divides.1;
  lowest = lowest_parts _ _ _ (omega arith) c.gcd-divisor.ensures.divides;
}

pub returns : goal.returns
returns c =
    let value = over_from_cross _ _ _ _ _ (omega arith) (same_value _ _ _ c.gcd-divisor.ensures.divides.0 c.gcd-divisor.ensures.divides.1) in
    record { lowest = same-lowest_terms _ _ value; value = value }
