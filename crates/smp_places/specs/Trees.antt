-- Trees of places that lie in lists. The places from `low` to `high` are a tree: its root is at their middle, and its halves
-- are the places before and behind the root.
use Rattle.std.specs.Prelude.{ℕ, zero, suc, ◌+◌, ◌-◌, ◌/◌, ◌<◌}

-- the place of the root
abbrev pub middle : ℕ → ℕ → ℕ
middle low high = low + (high - low) / 2

-- a fact of each root of a tree and of its halves: of the first place of its own tree, of its own place, and of the end; the
-- number tells how many places the tree may have
unfoldable pub each_root : (ℕ → ℕ → ℕ → Type 0) → ℕ → ℕ → ℕ → Type 0
each_root fact zero low high = Unit {0}
each_root fact (suc room) low high =
    low < high → fact low (middle low high) high
    × each_root fact room low (middle low high)
    × each_root fact room (middle low high + 1) high

pub record EachRoot (fact : ℕ → ℕ → ℕ → Type 0) (low high : ℕ) : Type 0 where
  pub roots : each_root fact (high - low) low high
