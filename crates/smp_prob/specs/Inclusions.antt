-- Where the units stand in a request, and the probability that it gives each of them.
use Rattle.std.specs.Prelude.{◌≡◌, ℕ, ◌*◌, ◌<◌, Bool, true, false, nat_eq, List, length, slice_index, position, is_some}
use Rattle.std.specs.Prelude.{Option, Some, None, if◌then◌else◌, All}
use Rattle.std.specs.List.{count_by, range_with_len}
use Rattle.smp_prob.specs.declared.requests.Request.{Request}
use Rattle.smp_prob.specs.declared.inclusions.Inclusion.{Inclusion}
use Rattle.smp_prob.specs.declared.inclusions.Inclusion.TheVariants.{Certain, Free, Never}
use Rattle.smp_frac.specs.Fractions.{Fraction, whole, over}

-- each number is below the later ones
abbrev pub Rises : List ℕ → Type 0
Rises units = (i j : ℕ) → i < j → j < length units → slice_index units i < slice_index units j

-- the certain units and the free ones stand in their order
pub record IsRising (request : Request) : Type 0 where
  pub certain : Rises request.certain
  pub free : Rises request.free

-- the certain units and the free ones are among so many units
pub record AreBelow (units : ℕ) (request : Request) : Type 0 where
  pub certain : All (λ unit. unit < units) request.certain
  pub free : All (λ unit. unit < units) request.free

-- a unit that isn't certain is one of the free units, or is never selected
abbrev pub free_or_never : Option ℕ → Inclusion
free_or_never (Some place) = Free place
free_or_never None = Never

-- where a unit stands: it is certain, or the free unit at a place, or never selected
abbrev pub inclusion : Request → ℕ → Inclusion
inclusion request unit =
    if is_some (position (nat_eq unit) request.certain) then Certain else free_or_never (position (nat_eq unit) request.free)

-- whether a unit is selected, where `drawn` says which of the free units are
abbrev pub is_taken : (ℕ → Bool) → Inclusion → Bool
is_taken drawn Certain = true
is_taken drawn (Free place) = drawn place
is_taken drawn Never = false

-- how many of the units below a number are selected
abbrev pub count_taken : Request → (ℕ → Bool) → ℕ → ℕ
count_taken request drawn units = count_by (λ unit. is_taken drawn (inclusion request unit)) (range_with_len 0 units)

-- each free unit stands as such: none is certain too
abbrev pub AreApart : Request → Type 0
AreApart request = (place : ℕ) → place < length request.free
    → inclusion request (slice_index request.free place) ≡ Free place

-- the probability of the free unit at a place: shape * r / total
abbrev pub free_fraction : Request → ℕ → Fraction
free_fraction request place = over (slice_index request.shape place * request.r) request.total

-- the probability of a unit that stands so
abbrev pub fraction_at : Request → Inclusion → Fraction
fraction_at request Certain = whole 1
fraction_at request (Free place) = free_fraction request place
fraction_at request Never = whole 0

-- the probability that the request gives a unit
abbrev pub asked_fraction : Request → ℕ → Fraction
asked_fraction request unit = fraction_at request (inclusion request unit)
