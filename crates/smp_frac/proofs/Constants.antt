-- The constants of the code are the limits of contracts.
use Rattle.std.proofs.Common.{◌≡◌, refl}
use Rattle.smp_frac.specs.{Limits.{most_rows, number_limit, wide_limit}, declared.limits.TheConstants.{MOST_ROWS, NUMBER_LIMIT, WIDE_LIMIT}}

pub rows_are_limited : MOST_ROWS ≡ most_rows
rows_are_limited = refl

pub numbers_are_limited : NUMBER_LIMIT ≡ number_limit
numbers_are_limited = refl

pub wide_numbers_are_limited : WIDE_LIMIT ≡ wide_limit
wide_numbers_are_limited = refl
