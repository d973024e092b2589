-- A design over the free units of a request, seen as one over all rows of its frame: the certain rows are selected at every leaf, the free
-- ones where the design selects them, and the others never.
use Rattle.std.specs.Prelude.{◌≡◌, ℕ, ◌<◌, Bool, length}
use Rattle.std.specs.List.{count_by, range_with_len}
use Rattle.smp_prob.specs.declared.requests.Request.{Request}
use Rattle.smp_prob.specs.declared.inclusions.Inclusion.{Inclusion}
use Rattle.smp_prob.specs.declared.inclusions.Inclusion.TheVariants.{Certain, Free, Never}
use Rattle.smp_prob.specs.Inclusions.{IsRising, inclusion, is_taken, count_taken, free_fraction}
use Rattle.smp_frac.specs.Fractions.{Fraction, Same, whole}
use Rattle.smp_split.specs.Counts.{AddsUp, LeavesSelect}
use Rattle.smp_split.specs.Trees.{Tree}

-- the value of a row that stands so, where the free units have these values
abbrev pub row_value : (ℕ → Fraction) → Inclusion → Fraction
row_value value Certain = whole 1
row_value value (Free unit) = value unit
row_value value Never = whole 0

-- the tree of the design, with all units of a stage as its units
abbrev pub rows_tree : {State : Type 0} → ℕ → Request → Tree State → Tree State
rows_tree rows request tree = record {
  units = rows;
  done = tree.done;
  kind = tree.kind;
  parts = tree.parts;
  rank = tree.rank;
  value = λ state row. row_value (tree.value state) (inclusion request row);
  selected = λ state row. is_taken (tree.selected state) (inclusion request row);
}

-- the state is one of the design, whose units are the free units of the request
pub record BelongsToRows {State : Type 0} (request : Request) (tree : Tree State) (belongs : State → Type 0)
    (state : State) : Type 0 where
  pub member : belongs state
  pub ordered : IsRising request
  pub paired : length request.free ≡ tree.units

-- The design serves its request from this state on: each free unit has the probability that is requested of it, and where the values add up
-- to n, each leaf selects n of them.
pub record SelectsAsRequested {State : Type 0} (request : Request) (tree : Tree State) (state : State) : Type 0 where
  pub values : (unit : ℕ) → unit < length request.free → Same (tree.value state unit) (free_fraction request unit)
  pub count : (n : ℕ) → AddsUp tree n state → LeavesSelect tree n state

-- where r of the free units are drawn, n rows are selected
abbrev pub AddsUpTo : Request → ℕ → ℕ → Type 0
AddsUpTo request rows n = (drawn : ℕ → Bool) → count_by drawn (range_with_len 0 (length request.free)) ≡ request.r
    → count_taken request drawn rows ≡ n
