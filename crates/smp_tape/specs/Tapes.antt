-- What a tape is, and what it answers to a bound.
use Rattle.std.specs.Prelude.{ℕ, ◌+◌, nat_lt, if◌then◌else◌, List, [], ◌∷◌, ◌++◌, length, Ok, Err}
use Rattle.smp_tape.specs.Sources.{Drawn}
use Rattle.smp_tape.specs.declared.draws.DrawFault.TheVariants.{Short, TooBig}

-- the values that were taken, and those that are left, in order
pub record Values : Type 0 where
  pub taken : List ℕ
  pub left : List ℕ

abbrev pub tape_of_values : List ℕ → List ℕ → Values
tape_of_values taken left = record { taken = taken; left = left }

-- The next value is taken where it is below a bound of 2 or more, and a value that is refused stays. Places are counted from 1.
abbrev pub drawn_from : List ℕ → List ℕ → ℕ → Drawn Values
drawn_from taken [] bound = record {
  answer = if nat_lt 1 bound then Err Short else Ok 0;
  rest = tape_of_values taken [];
}
drawn_from taken (v ∷ left) bound =
    if nat_lt 1 bound
    then (if nat_lt v bound
    then record { answer = Ok v; rest = tape_of_values (taken ++ v ∷ []) left }
    else record { answer = Err (TooBig (length taken + 1) v); rest = tape_of_values taken (v ∷ left) })
    else record { answer = Ok 0; rest = tape_of_values taken (v ∷ left) }

abbrev pub tape_next : Values → ℕ → Drawn Values
tape_next tape bound = drawn_from tape.taken tape.left bound
