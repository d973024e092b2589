-- Sources of draws. A source is a pure step: to a bound it answers a value or a fault, and something is left of it.
use Rattle.std.specs.Prelude.{◌≡◌, ℕ, ◌≤◌, ◌<◌, Result, Ok}
use Rattle.smp_tape.specs.declared.draws.DrawFault.{DrawFault}

-- what a source answers to a bound, and what is left of it then
pub record Drawn (Rest : Type 0) : Type 0 where
  pub answer : Result ℕ DrawFault
  pub rest : Rest

-- A source of draws: what it answers to a bound. A value that it answers is below the bound. To a bound of 1 it answers 0, and it stays as
-- it is.
pub record Source (Rest : Type 0) : Type 0 where
  pub next : Rest → ℕ → Drawn Rest
  pub below : (rest : Rest) (bound value : ℕ) → 1 ≤ bound → (next rest bound).answer ≡ Ok value → value < bound
  pub idle : (rest : Rest) → next rest 1 ≡ record { answer = Ok 0; rest = rest }
