-- What the code keeps of the order of sizes.
use Rattle.std.specs.Prelude.{◌≡◌, ℕ, ◌≤◌, ◌<◌, List, length, slice_index}
use Rattle.smp_values.specs.Largest.{largest_of}

-- the size of the unit at a place of an order
abbrev pub ranked_size : List ℕ → List ℕ → ℕ → ℕ
ranked_size sizes order place = slice_index sizes (slice_index order place)

-- The units stand in rising order of their sizes, apart from those that are taken since. Each open
-- unit is among the first `left` of them.
pub record IsRanked (sizes order : List ℕ) (left : ℕ) : Type 0 where
  pub end : left ≤ length order
  pub unit : (place : ℕ) → place < length order → slice_index order place < length sizes
  pub rises : (a b : ℕ) → a ≤ b → b < length order → 1 ≤ ranked_size sizes order b
      → ranked_size sizes order a ≤ ranked_size sizes order b
  pub reached : (unit : ℕ) → 1 ≤ slice_index sizes unit
      → (place : ℕ) × (place < left) × (slice_index order place ≡ unit)

-- and the largest size is known
pub record IsOrdered (sizes order : List ℕ) (left largest : ℕ) : Type 0 where
  pub ranked : IsRanked sizes order left
  pub largest_is : largest ≡ largest_of sizes
