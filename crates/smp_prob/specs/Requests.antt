-- Requested inclusion probabilities: in proportion to size (Tillé 2006), or given.
use Rattle.std.specs.Prelude.{◌≡◌, ℕ, ◌*◌, ◌^◌, ◌<◌, ◌≤◌, List, [], length, slice_index, EachIndex}
use Rattle.std.specs.List.{range_with_len}
use Rattle.smp_frac.specs.Limits.{most_rows, number_limit}
use Rattle.smp_prob.specs.declared.requests.Request.{Request}

-- What every selection method needs: each free unit has a shape, and a probability strictly between 0 and 1.
pub record IsRequest (request : Request) : Type 0 where
  pub few : length request.free ≤ most_rows
  pub paired : length request.shape ≡ length request.free
  pub positive : EachIndex request.shape (λ i. 1 ≤ slice_index request.shape i)
  pub small : EachIndex request.shape (λ i. slice_index request.shape i < number_limit)
  pub narrow : request.total < 2 ^ 49
  pub drawn : 1 ≤ length request.free → 1 ≤ request.r
  pub below_one : EachIndex request.shape (λ i. slice_index request.shape i * request.r < request.total)

-- the request in which every unit is free, with these shapes
abbrev pub all_free : List ℕ → ℕ → ℕ → Request
all_free shapes r total = record {
  certain = [];
  free = range_with_len 0 (length shapes);
  shape = shapes;
  r = r;
  total = total;
}
