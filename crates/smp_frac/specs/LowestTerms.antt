-- Fractions in lowest terms.
use Rattle.std.specs.Prelude.{◌/◌, unsigned_abs}
use Rattle.smp_frac.specs.Fractions.{Fraction}
use Rattle.smp_frac.specs.declared.fractions.Frac.{Frac}
use Rattle.smp_frac.specs.Divisors.{greatest_common_divisor}
use Rattle.smp_frac.specs.Laws.Coprime.{part_positive}
use Rattle.smp_frac.specs.Laws.Gcds.{IsGcd-greatest_common_divisor}
use Rattle.smp_frac.specs.Laws.Lowest.{lowest_parts}

-- a fraction in lowest terms, without its sign
unfoldable pub lowest_terms : Fraction → Frac
lowest_terms a =
    let size = unsigned_abs a.num in
    let divisor = greatest_common_divisor size a.den in
    let divides = IsGcd-greatest_common_divisor size a.den in
    record {
      num = size / divisor;
      den = a.den / divisor;
      positive = part_positive a.den divisor a.positive divides.1;
      lowest = lowest_parts size a.den divisor a.positive divides;
    }
