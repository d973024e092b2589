-- What the code keeps of the weights.
use Rattle.std.specs.Prelude.{◌≡◌, ℕ, ◌-◌, ◌*◌, ◌<◌, ◌≤◌, Bool, false, not, ◌&&◌, if◌then◌else◌, List}
use Rattle.std.specs.Prelude.{length, slice_index, slice_index_or}
use Rattle.smp_prob.specs.Requested.{is_certain, certain_units, open_total}
use Rattle.smp_elim.specs.declared.cuts.Cut.{Cut}
use Rattle.smp_elim.specs.Kept.Cuts.{IsCutAt}

-- 1 for a unit that is left and isn't certain
abbrev pub common_amount : List ℕ → List Bool → ℕ → ℕ → ℕ
common_amount sizes left n unit =
    if slice_index_or left unit false && not (is_certain n sizes (slice_index sizes unit)) then 1 else 0

-- the weight, but for the factor of all, of a unit that is certain where n units are drawn, and isn't where one fewer is
abbrev pub fresh_amount : List ℕ → ℕ → ℕ → ℕ
fresh_amount sizes n unit =
    if is_certain n sizes (slice_index sizes unit) && not (is_certain (n - 1) sizes (slice_index sizes unit))
    then open_total (n - 1) sizes - slice_index sizes unit * (n - 1 - certain_units (n - 1) sizes) else 0

-- what a step needs
pub record IsReady (sizes : List ℕ) (n : ℕ) (now next : Cut) (fresh : List ℕ) : Type 0 where
  pub next_cut : IsCutAt (n - 1) sizes next
  pub fewer : next.count ≤ now.count
  pub amounts : (unit : ℕ) → unit < length sizes → slice_index fresh unit ≡ fresh_amount sizes n unit
