-- Calls that are counted from 1, some of which are to fail.
use Rattle.std.specs.Prelude.{ℕ, List, Contains}
use Rattle.smp_io.specs.Counts.{one_more}

-- the numbers of the calls that are to fail, and how many calls were made
pub record Calls : Type 0 where
  pub failing : List ℕ
  pub made : ℕ

abbrev pub calls_from_first : List ℕ → Calls
calls_from_first numbers = record { failing = numbers; made = 0 }

-- the calls, once one more was made
abbrev pub after_call : Calls → Calls
after_call calls = record calls { made = one_more calls.made }

-- The next call is to fail.
abbrev pub IsDueToFail : Calls → Type 0
IsDueToFail calls = Contains calls.failing (one_more calls.made)
