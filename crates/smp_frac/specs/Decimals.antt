-- Numbers written in decimal digits.
use Rattle.std.specs.Prelude.{ℕ, List, Bool, ◌&&◌, nat_lt, length, Option, Some, None, if◌then◌else◌}
use Rattle.std.specs.List.{list_all}
use Rattle.std.specs.Str.Parse.{digits_value}
use Rattle.std.specs.Char.{is_ascii_digit}

-- one or more decimal digits
abbrev pub is_decimal : List ℕ → Bool
is_decimal text = nat_lt 0 (length text) && list_all is_ascii_digit text

-- the number that decimal digits write, where it is below a bound
abbrev pub number_below : ℕ → List ℕ → Option ℕ
number_below bound text = if is_decimal text && nat_lt (digits_value 10 text) bound then Some (digits_value 10 text) else None
