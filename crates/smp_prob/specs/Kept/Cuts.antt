-- How the request is found: one cut through the sizes in falling order.
use Rattle.std.specs.Prelude.{◌≡◌, ℕ, zero, suc, ◌+◌, ◌-◌, ◌*◌, ◌≤◌, ◌<◌, true, List, length, slice_index}
use Rattle.std.specs.Prelude.{sum}
use Rattle.smp_prob.specs.declared.requests.Request.{Request}
use Rattle.smp_prob.specs.Shapes.{shape_of}
use Rattle.smp_prob.specs.Requested.{is_free, certain_units, open_total}

-- the least size before the cut
abbrev pub border : ℕ → List ℕ → ℕ
border zero zs = slice_index zs 0 + 1
border (suc d) zs = slice_index zs d

-- the certain units are at most n, and each free unit has a probability between 0 and 1
pub record IsFeasible (n : ℕ) (sizes : List ℕ) : Type 0 where
  pub within : certain_units n sizes ≤ n
  pub drawn : (k : ℕ) → is_free n sizes (slice_index sizes k) ≡ true → 1 ≤ n - certain_units n sizes
  pub below_one : (k : ℕ) → is_free n sizes (slice_index sizes k) ≡ true
      → (n - certain_units n sizes) * slice_index sizes k < open_total n sizes

-- the request for n units with the certain units, the free units and the sizes of those
abbrev pub request_of : List ℕ → List ℕ → List ℕ → ℕ → Request
request_of certain free sizes n = record {
  certain = certain;
  free = free;
  shape = shape_of sizes;
  r = n - length certain;
  total = sum (shape_of sizes);
}
