-- The requested probabilities as fractions with one denominator.
use Rattle.std.specs.Prelude.{ℕ, ◌*◌, ◌/◌, ◌==◌, List, length, map, if◌then◌else◌}
use Rattle.smp_frac.specs.Divisors.{greatest_common_divisor}
use Rattle.smp_prob.specs.declared.requests.Request.{Request}

-- values of units, as numerators over one denominator
-- = (numer)/den
-- e.g. (1,2,3,4)/5
pub record Shares : Type 0 where
  pub numer : List ℕ
  pub den : ℕ

-- what brings r / total to lowest terms
-- = gcd(total, r)
-- e.g. of total 10 and r 2: 2
abbrev pub common_divisor : Request → ℕ
common_divisor request = greatest_common_divisor request.total request.r

-- the common denominator of the probabilities of the free units, 1 where no unit is free
-- = total / gcd
-- e.g. 5
abbrev pub common_denominator : Request → ℕ
common_denominator request = if length request.free == 0 then 1 else request.total / common_divisor request

-- the numerators of the probabilities of the free units over their common denominator, in order
-- = shape·r / gcd
-- e.g. 1 2 3 4
abbrev pub numerators : Request → List ℕ
numerators request = map (λ shape. shape * (request.r / common_divisor request)) request.shape

-- the requested probabilities of the free units, as such values
-- e.g. (1,2,3,4)/5
abbrev pub shares_of : Request → Shares
shares_of request = record { numer = numerators request; den = common_denominator request }

-- how many free units are drawn: none where none is free
abbrev pub draws_of : Request → ℕ
draws_of request = if length request.free == 0 then 0 else request.r
