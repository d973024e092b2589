-- Weighted totals in exact arithmetic.
use Rattle.std.specs.Prelude.{Bool, if◌then◌else◌, List, [], ◌∷◌, filter, ℤ, Result, Ok}
use Rattle.std.specs.Int.{is_negative, is_positive}
use Rattle.smp_frac.specs.Faults.{◌>>=◌}
use Rattle.smp_frac.specs.declared.fractions.Frac.{Frac}
use Rattle.smp_frac.specs.declared.fractions.Wide.{Wide}
use Rattle.smp_frac.specs.declared.signed.Signed.{Signed}
use Rattle.smp_frac.specs.Fractions.{whole, integer}
use Rattle.smp_frac.specs.LowestTerms.{lowest_terms}
use Rattle.smp_weights.specs.Arithmetic.{product_of, sum_of, difference_of}
use Rattle.smp_weights.specs.Chosen.{Chosen, weight}

-- the term of a unit: its value, without the sign, times its weight
abbrev pub term_of : Chosen ℤ → Result Frac Wide
term_of u = product_of (lowest_terms (integer u.value)) (lowest_terms (weight u.asked))

-- a total and the term of one more unit added to it
abbrev pub with_term : Frac → Chosen ℤ → Result Frac Wide
with_term total u = term_of u >>= sum_of total

-- a total and the terms of the units added to it in order
abbrev pub with_terms : Frac → List (Chosen ℤ) → Result Frac Wide
with_terms total [] = Ok total
with_terms total (u ∷ us) = with_term total u >>= (λ next. with_terms next us)

-- the total of no terms, 0/1
abbrev pub zero : Frac
zero = lowest_terms (whole 0)

-- the terms of the units, added in order from 0/1 on
abbrev pub total_of : List (Chosen ℤ) → Result Frac Wide
total_of us = with_terms zero us

-- whether a value is below zero, or above it
abbrev pub has_sign : Bool → ℤ → Bool
has_sign minus z = if minus then is_negative z else is_positive z

-- the units whose values are above zero
abbrev pub gains : List (Chosen ℤ) → List (Chosen ℤ)
gains us = filter (λ u. is_positive u.value) us

-- the units whose values are below zero
abbrev pub losses : List (Chosen ℤ) → List (Chosen ℤ)
losses us = filter (λ u. is_negative u.value) us

-- the terms above zero are added up, then those below it, and the second sum is taken from
-- the first
abbrev pub estimate_of : List (Chosen ℤ) → Result Signed Wide
estimate_of us =
    total_of (gains us) >>= (λ above. total_of (losses us) >>= (λ below. difference_of above below))
