-- Units in two groups, the large ones and the small ones.
use Rattle.std.specs.Prelude.{◌≡◌, ℕ, ◌+◌, ◌-◌, ◌<◌, ◌≤◌, Bool, true, false, not, nat_eq}
use Rattle.std.specs.Prelude.{if◌then◌else◌, List, length, map, slice_index, slice_index_or, slice_set}
use Rattle.std.specs.List.{All, count_by, range_with_len}
use Rattle.std.specs.BinaryHeap.{IsHeap}
use Rattle.std.specs.Ordering.{nat_cmp, ordering_then}
use Rattle.std.specs.declared.cmp.Ordering.{Ordering}
use Rattle.std.specs.declared.cmp.Reverse.{Reverse}
use Rattle.smp_frac.specs.Limits.{wide_limit}
use Rattle.smp_prob.specs.Shares.{Shares}
use Rattle.smp_values.specs.Largest.{largest_of}
use Rattle.smp_minsup.specs.Support.{is_larger, least, draws_of}

-- the numerators of the units, which of them are large, and by how much the large ones were lowered so far
pub record RankedUnits : Type 0 where
  pub numer : List ℕ
  pub large : List Bool
  pub lowered : ℕ

-- a unit is large
abbrev pub is_in : List Bool → ℕ → Bool
is_in large unit = slice_index_or large unit false

-- how many are
abbrev pub large_count : RankedUnits → ℕ
large_count v = count_by (λ b. b) v.large

-- a small unit than which no small one counts as larger
pub record IsMostSmall (v : RankedUnits) (unit : ℕ) : Type 0 where
  pub within : unit < length v.numer
  pub small : is_in v.large unit ≡ false
  pub most : (other : ℕ) → other < length v.numer → is_in v.large other ≡ false
      → is_larger v.numer other unit ≡ false

-- a large unit which counts as larger than no large one
pub record IsLeastLarge (v : RankedUnits) (unit : ℕ) : Type 0 where
  pub within : unit < length v.numer
  pub large : is_in v.large unit ≡ true
  pub least : (other : ℕ) → other < length v.numer → is_in v.large other ≡ true
      → is_larger v.numer unit other ≡ false

-- each large unit counts as larger than each small one
abbrev pub IsParted : RankedUnits → Type 0
IsParted v =
    (unit other : ℕ) → unit < length v.numer → other < length v.numer → is_in v.large unit ≡ true
    → is_in v.large other ≡ false → is_larger v.numer unit other ≡ true

-- the largest small unit counts as larger than the least large one
pub record IsMixed (v : RankedUnits) : Type 0 where
  pub small : ℕ
  pub large : ℕ
  pub most : IsMostSmall v small
  pub least : IsLeastLarge v large
  pub above : is_larger v.numer small large ≡ true

-- a unit put into the large group, or into the small one
abbrev pub placed : RankedUnits → ℕ → Bool → RankedUnits
placed v unit large =
    record { numer = v.numer; large = slice_set v.large unit large; lowered = v.lowered }

-- the large units lowered by a number
abbrev pub lowered_by : RankedUnits → ℕ → RankedUnits
lowered_by v by = record {
  numer = map
      (λ unit.
      if is_in v.large unit then slice_index v.numer unit - by else slice_index v.numer unit)
      (range_with_len 0 (length v.numer));
  large = v.large;
  lowered = v.lowered + by;
}

-- the largest numerator of the small units, or 0; the least one of the large units, and a bound
abbrev pub largest_small : RankedUnits → ℕ
largest_small v =
    largest_of (map (λ unit. if is_in v.large unit then 0 else slice_index v.numer unit)
    (range_with_len 0 (length v.numer)))

abbrev pub least_large : ℕ → RankedUnits → ℕ
least_large bound v =
    least bound
    (map (λ unit. if is_in v.large unit then slice_index v.numer unit else bound)
    (range_with_len 0 (length v.numer)))

-- the numerators, over a denominator
abbrev pub shares_over : ℕ → RankedUnits → Shares
shares_over den v = record { numer = v.numer; den = den }

-- the large units are as many as the values add up to, and they are the largest
pub record IsCut (den : ℕ) (v : RankedUnits) : Type 0 where
  pub paired : length v.large ≡ length v.numer
  pub parted : IsParted v
  pub count : large_count v ≡ draws_of (shares_over den v)
  pub low : v.lowered + den < wide_limit

-- the state that is kept: after its end, the large units have the value 1 and the small ones 0
abbrev pub shares_kept : Bool → ℕ → RankedUnits → Shares
shares_kept false den v = shares_over den v
shares_kept true den v =
    record { numer = map (λ large. if large then den else 0) v.large; den = den }

-- ---- how the code keeps them: of a large unit with what all large ones were lowered by

abbrev pub ranked_of : List ℕ → List Bool → ℕ → RankedUnits
ranked_of raw large offset = record {
  numer = map
      (λ unit. if is_in large unit then slice_index raw unit - offset else slice_index raw unit)
      (range_with_len 0 (length raw));
  large = large;
  lowered = offset;
}

-- a queue has one entry for each unit of a group, and none besides
pub record IsQueue {Entry : Type 0} (unit : Entry → ℕ) (entry : ℕ → Entry) (group : ℕ → Bool)
    (units : ℕ) (queue : List Entry) : Type 0 where
  pub entries : All (λ e. e ≡ entry (unit e)) queue
  pub known : All (λ e. unit e < units) queue
  pub once : (k : ℕ) → k < units → count_by (λ e. nat_eq (unit e) k) queue
      ≡ if group k then 1 else 0

-- the entries of a unit, and the orders of the queues
abbrev pub small_entry : List ℕ → ℕ → ℕ × ℕ
small_entry raw unit = (slice_index raw unit, unit)

abbrev pub large_entry : List ℕ → ℕ → Reverse (ℕ × ℕ)
large_entry raw unit = record { 0 = (slice_index raw unit, unit) }

abbrev pub by_numer : ℕ × ℕ → ℕ × ℕ → Ordering
by_numer a b = ordering_then (nat_cmp a.0 b.0) (nat_cmp a.1 b.1)

abbrev pub by_numer_reversed : Reverse (ℕ × ℕ) → Reverse (ℕ × ℕ) → Ordering
by_numer_reversed a b = by_numer b.0 a.0

pub record IsKept (raw : List ℕ) (large : List Bool) (offset : ℕ) (smalls : List (ℕ × ℕ))
    (larges : List (Reverse (ℕ × ℕ))) (small_capacity large_capacity : ℕ) : Type 0 where
  pub paired : length large ≡ length raw
  pub low : offset < wide_limit
  pub above : (unit : ℕ) → unit < length raw → is_in large unit ≡ true
      → offset ≤ slice_index raw unit
  pub small_queue : IsQueue (λ e. e.1) (small_entry raw) (λ unit. not (is_in large unit))
      (length raw) smalls
  pub large_queue : IsQueue (λ e. e.0.1) (large_entry raw) (is_in large) (length raw) larges
  pub small_order : IsHeap by_numer smalls
  pub large_order : IsHeap by_numer_reversed larges
  pub all : length smalls + length larges ≡ length raw
  pub small_room : length raw ≤ small_capacity
  pub large_room : length raw ≤ large_capacity
