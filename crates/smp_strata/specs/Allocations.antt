-- Proportional allocation by largest remainders: how many first stage units each stratum gets.
use Rattle.std.specs.Prelude.{◌≡◌, ◌⊎◌, ℕ, ◌+◌, ◌-◌, ◌*◌, ◌/◌, ◌%◌, ◌<◌, Bool, nat_lt, ◌==◌}
use Rattle.std.specs.Prelude.{◌&&◌, ◌||◌, if◌then◌else◌, List, length, map, slice_index, sum, sum_by, count_by}
use Rattle.std.specs.List.{range_with_len}

-- the whole part of n * N_h / N, for a stratum of `count` of the `all` first stage units
abbrev pub whole : ℕ → ℕ → ℕ → ℕ
whole n all count = n * count / all

-- the remainder of n * N_h / N, for a stratum of `count` of the `all` first stage units
abbrev pub remainder : ℕ → ℕ → ℕ → ℕ
remainder n all count = n * count % all

-- how many units are left over after the whole parts
abbrev pub left_over : ℕ → List ℕ → ℕ
left_over n counts = n - sum_by (whole n (sum counts)) counts

-- whether stratum k comes before stratum h among those that get one more: its remainder is larger, or as large and k is earlier
abbrev pub comes_before : ℕ → List ℕ → ℕ → ℕ → Bool
comes_before n counts h k =
    let mine = remainder n (sum counts) (slice_index counts h) in
    let other = remainder n (sum counts) (slice_index counts k) in
    nat_lt mine other || other == mine && nat_lt k h

-- how many strata come before stratum h
abbrev pub rank : ℕ → List ℕ → ℕ → ℕ
rank n counts h = count_by (comes_before n counts h) (range_with_len 0 (length counts))

-- what stratum h gets: its whole part, and one more where fewer strata come before it than units are left over
abbrev pub share : ℕ → List ℕ → ℕ → ℕ
share n counts h =
    whole n (sum counts) (slice_index counts h)
    + (if nat_lt (rank n counts h) (left_over n counts) then 1 else 0)

-- what each stratum gets
-- = largest remainders of n·N_h/N
-- e.g. 2 of one stratum
abbrev pub allocation : ℕ → List ℕ → List ℕ
allocation n counts = map (share n counts) (range_with_len 0 (length counts))

-- ---- the rule by what it does

-- stratum h gets one more than its whole part
abbrev pub GetsMore : ℕ → List ℕ → List ℕ → ℕ → Type 0
GetsMore n counts sizes h = slice_index sizes h ≡ whole n (sum counts) (slice_index counts h) + 1

-- stratum h gets its whole part
abbrev pub GetsWhole : ℕ → List ℕ → List ℕ → ℕ → Type 0
GetsWhole n counts sizes h = slice_index sizes h ≡ whole n (sum counts) (slice_index counts h)

-- stratum h has a larger remainder than stratum k, or an equal one and is earlier
abbrev pub GoesBefore : ℕ → List ℕ → ℕ → ℕ → Type 0
GoesBefore n counts h k =
    let mine = remainder n (sum counts) (slice_index counts h) in
    let other = remainder n (sum counts) (slice_index counts k) in
    (other < mine) ⊎ ((mine ≡ other) × (h < k))

-- each stratum gets its whole part or one more, those with the largest remainders get one more, of equal ones the earlier, and all n units
-- are given
pub record IsAllocation (n : ℕ) (counts sizes : List ℕ) : Type 0 where
  pub paired : length sizes ≡ length counts
  pub near : (h : ℕ) → h < length counts → GetsWhole n counts sizes h ⊎ GetsMore n counts sizes h
  pub largest : (h k : ℕ) → h < length counts → k < length counts
      → GetsMore n counts sizes h → GetsWhole n counts sizes k → GoesBefore n counts h k
  pub given : sum sizes ≡ n
