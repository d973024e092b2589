-- Numbers, and how often one of them was written.
use Rattle.std.specs.Prelude.{ℕ, List}

pub record Written : Type 0 where
  pub values : List ℕ
  pub writes : ℕ
