-- The minimum support design (Deville and Tillé 1998). The values of the units are numerators over one denominator, and they
-- add up to a whole number r. In a step the r largest units are selected and the design ends, or it goes on without what
-- this took of their values.
use Rattle.std.specs.Prelude.{ℕ, ◌-◌, ◌/◌, min, Bool, nat_lt, nat_eq, ◌&&◌, ◌||◌, if◌then◌else◌, List, []}
use Rattle.std.specs.Prelude.{◌∷◌, length, map, slice_index}
use Rattle.std.specs.List.{sum, count_by, range_with_len}
use Rattle.smp_frac.specs.Limits.{wide_limit}
use Rattle.smp_prob.specs.Shares.{Shares}
use Rattle.smp_split.specs.Trees.{Part, Tree}
use Rattle.smp_split.specs.declared.kind.Kind.TheVariants.{Support}
use Rattle.smp_values.specs.Largest.{largest_of}
use Rattle.smp_values.specs.Values.{AddTo, IsValues, values_tree}

-- whether unit j counts as larger than unit k: its numerator is larger, or it is as large and comes later in the frame
abbrev pub is_larger : List ℕ → ℕ → ℕ → Bool
is_larger numer j k =
    nat_lt (slice_index numer k) (slice_index numer j)
    || (nat_eq (slice_index numer k) (slice_index numer j) && nat_lt k j)

-- how many units count as larger than unit k
abbrev pub larger_units : List ℕ → ℕ → ℕ
larger_units numer k = count_by (λ j. is_larger numer j k) (range_with_len 0 (length numer))

-- r, the number of units to select: what the values add up to
abbrev pub draws_of : Shares → ℕ
draws_of s = sum s.numer / s.den

-- Whether unit k is one of the r largest. The units of value 1 are, and those of value 0 aren't, so what is said of the r
-- largest and of the others says the same of the fractional units alone.
abbrev pub is_large : Shares → ℕ → Bool
is_large s k = nat_lt (larger_units s.numer k) (draws_of s)

-- a number for each unit
abbrev pub for_units : Shares → (ℕ → ℕ) → List ℕ
for_units s f = map f (range_with_len 0 (length s.numer))

-- the least of some numbers and a bound
abbrev pub least : ℕ → List ℕ → ℕ
least bound [] = bound
least bound (a ∷ rest) = min a (least bound rest)

-- the largest numerator of the units that aren't among the r largest
abbrev pub most_small : Shares → ℕ
most_small s = largest_of (for_units s (λ k. if is_large s k then 0 else slice_index s.numer k))

-- the least numerator of the r largest
abbrev pub least_large : Shares → ℕ
least_large s =
    least s.den (for_units s (λ k. if is_large s k then slice_index s.numer k else s.den))

-- lambda, the weight of the part in which the r largest are taken (Deville and Tillé 1998)
abbrev pub lambda : Shares → ℕ
lambda s = min (s.den - most_small s) (least_large s)

-- the r largest are 1, the others 0
abbrev pub settled : Shares → Shares
settled s = record { numer = for_units s (λ k. if is_large s k then s.den else 0); den = s.den }

-- over the denominator less lambda: the r largest have their numerators less lambda, the others keep theirs
abbrev pub lowered : Shares → Shares
lowered s = record {
  numer = for_units s
      (λ k. if is_large s k then slice_index s.numer k - lambda s else slice_index s.numer k);
  den = s.den - lambda s;
}

-- the two parts of a step: the r largest are taken, or their values are lowered
abbrev pub support_parts : Shares → List (Part Shares)
support_parts s =
    record { weight = lambda s; state = settled s }
    ∷ record { weight = s.den - lambda s; state = lowered s } ∷ []

-- the draw tree of minimum support, which is done where no unit is fractional
abbrev pub support_tree : ℕ → Tree Shares
support_tree units = values_tree units (λ _. Support) support_parts (λ fractional. fractional)

-- values of so many units, which add up to a whole number
pub record IsSupport (units : ℕ) (s : Shares) : Type 0 where
  pub values : IsValues units (wide_limit - 1) s
  pub whole : AddTo (draws_of s) s
