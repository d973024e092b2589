-- What the values of a design's keys mean.
use Rattle.std.specs.Prelude.{ℕ, ℤ, pos, negsuc, List, [], ◌∷◌, ◌&&◌, nat_le, length, Option, Some, None, option_map}
use Rattle.std.specs.Prelude.{option_and_then, if◌then◌else◌}
use Rattle.smp_frac.specs.Limits.{most_rows}
use Rattle.toml.specs.Data.{Data, Items, no_items, item, Members, no_members, member, as_integer, as_str, as_array, as_table}
use Rattle.smp_prob.specs.declared.orders.Order.{Order}
use Rattle.smp_design.specs.declared.method.Method.{Method}
use Rattle.smp_design.specs.declared.design.Quota as quota
use Rattle.smp_design.specs.Words.{in_second, method_named, order_of, row}

-- the versions of a design go from 1 to this one
abbrev pub last_version : ℕ
last_version = 2

-- a whole number from 1 to `most`
abbrev pub from_1_to : ℕ → ℤ → Option ℕ
from_1_to most (pos n) = if nat_le 1 n && nat_le n most then Some n else None
from_1_to most (negsuc n) = None

-- an integer from 1 to `most`
abbrev pub integer_to : ℕ → Data → Option ℕ
integer_to most value = option_and_then (from_1_to most) (as_integer value)

-- a version
abbrev pub version : Data → Option ℕ
version value = integer_to last_version value

-- a number of units
abbrev pub number : Data → Option ℕ
number value = integer_to most_rows value

-- the word of a method that designs of this version have
abbrev pub method : ℕ → Data → Option Method
method version value =
    option_and_then (λ m. if nat_le (row m).since version then Some m else None) (option_and_then method_named (as_str value))

-- the word of a method that a second stage may have
abbrev pub second_method : ℕ → Data → Option Method
second_method version value = option_and_then (λ m. if in_second m then Some m else None) (method version value)

-- the word of an order
abbrev pub order : Data → Option Order
order value = option_and_then order_of (as_str value)

-- values that are all strings
abbrev pub strings : Items → Option (List (List ℕ))
strings no_items = Some []
strings (item value rest) = option_and_then (λ name. option_map (λ more. name ∷ more) (strings rest)) (as_str value)

-- an array of 1 to `most` strings
abbrev pub names : ℕ → Data → Option (List (List ℕ))
names most value =
    option_and_then (λ them. if nat_le 1 (length them) && nat_le (length them) most then Some them else None)
    (option_and_then strings (as_array value))

-- the quotas of a table's entries, in their order
abbrev pub quotas_of : Members → Option (List quota.Quota)
quotas_of no_members = Some []
quotas_of (member stratum value rest) =
    option_and_then (λ n. option_map (λ more. record { stratum = stratum; n = n } ∷ more) (quotas_of rest))
    (number value)

-- a table of strata's names and numbers of units
abbrev pub quotas : Data → Option (List quota.Quota)
quotas value = option_and_then quotas_of (as_table value)

-- a value that may be left out: nothing where it is, and what it means where it isn't
abbrev pub optional : {A : Type 0} → (Data → Option A) → Option Data → Option (Option A)
optional read None = Some None
optional read (Some value) = option_map Some (read value)
