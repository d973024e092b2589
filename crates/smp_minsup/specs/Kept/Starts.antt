-- What the code keeps of a design.
use Rattle.std.specs.Prelude.{◌≡◌, ℕ, length}
use Rattle.smp_prob.specs.Shares.{Shares}
use Rattle.smp_minsup.specs.Support.{IsSupport, draws_of}

-- a state, and how many units are to be selected
pub record IsStart (draws : ℕ) (s : Shares) : Type 0 where
  pub state : IsSupport (length s.numer) s
  pub draws_are : draws ≡ draws_of s
