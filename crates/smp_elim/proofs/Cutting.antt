-- The cut for one draw less.
use Rattle.std.proofs.Common.{◌≡◌, ℕ, ◌+◌, ◌-◌, ◌*◌, ◌^◌, ◌<◌, ◌≤◌, List, length, get_or, drop, arith, ap, inl, inr}
use Rattle.std.specs.Prelude.{sum}
use Rattle.std.proofs.{Math.Nat.{mul-le-mul_left}, lemmas.List.{length-map}, lemmas.List.Sums.{sum_by-drop_more, sum_by-take-drop}}
use Rattle.smp_prob.specs.Requested.{certain_units, positive_units, Stops}
use Rattle.smp_prob.proofs.Certain.{certain_within}
use Rattle.smp_elim.specs.{Kept.Cuts.{InFallingOrder}, Laws.Weights.{all_positive}}
use Rattle.smp_elim.proofs.Orders.{falling, in_range, long, size_there, total, not_before, before}

pub enough_of : (sizes : List ℕ) → ((k : ℕ) → k < length sizes → 1 ≤ get_or sizes k 0) → (n : ℕ) → n ≤ length sizes → n ≤ positive_units sizes
enough_of sizes positive n h = omega (arith, all_positive sizes positive)

pub fits_twice : (a b : ℕ) → a < 2 ^ 32 → b < 2 ^ 32 → a * b < 2 ^ 64
fits_twice a b h k =
    let first : a * b ≤ a * (2 ^ 32) = mul-le-mul_left a (omega arith) in
    omega (arith, first)

-- what a turn of the loop has: there is a unit before the cut
pub record IsTurn (sizes order : List ℕ) (draws count : ℕ) : Type 0 where
  pub enough : draws - 1 ≤ positive_units sizes
  pub here : count ≤ draws
  pub in_sizes : count ≤ length sizes
  pub in_order : count - 1 < length order
  pub unit : get_or order (count - 1) 0 < length sizes

pub is_turn : (sizes order : List ℕ) → InFallingOrder sizes order → ((k : ℕ) → k < length sizes → 1 ≤ get_or sizes k 0) → (draws cut count : ℕ) → draws ≤ length sizes → cut ≡ certain_units draws sizes → count ≤ cut → 1 ≤ count → IsTurn sizes order draws count
is_turn sizes order is positive draws cut count asked cut_is fewer some =
    let enough = enough_of sizes positive draws asked in
    let here : count ≤ draws = omega (arith, certain_within draws sizes enough, cut_is, fewer) in
    record {
      enough = omega (arith, enough);
      here = here;
      in_sizes = omega (arith, here, asked);
      in_order = omega (arith, here, asked, some, long sizes order is);
      unit = in_range sizes order is (count - 1) (omega (arith, here, asked, some));
    }

module _ (sizes order : List ℕ) (is : InFallingOrder sizes order) (count : ℕ) (some : 1 ≤ count) (here : count ≤ length sizes) where
  place : count - 1 < length sizes
  place = omega arith

  -- one more size
  pub rest_more : sum (drop (count - 1) (falling sizes order)) ≡ sum (drop count (falling sizes order)) + get_or sizes (get_or order (count - 1) 0) 0
  rest_more =
      let next = sum_by-drop_more (λ (x : ℕ). x) (falling sizes order) (count - 1) 0 (let same = length-map order (λ unit. get_or sizes unit 0) in omega (arith, same, long sizes order is)) in
      let back : count - 1 + 1 ≡ count = omega arith in
      let at = size_there sizes order is (count - 1) place in
      omega (arith, next, at, ap (λ (c : ℕ). sum (drop c (falling sizes order))) back)

  pub rest_within : sum (drop (count - 1) (falling sizes order)) ≤ sum sizes
  rest_within = omega (arith, sum_by-take-drop (λ (x : ℕ). x) (falling sizes order) (count - 1), total sizes order is)

  module _ (n : ℕ) (asked : 1 ≤ n) (within : count ≤ n) (enough : n - 1 ≤ positive_units sizes) where
    draws : n - 1 - (count - 1) ≡ n - count
    draws = omega arith

    -- where the share of the unit before the cut is below the total from it on, the rule stops there
    pub goes_down : (n - count) * get_or sizes (get_or order (count - 1) 0) 0 < sum (drop count (falling sizes order)) + get_or sizes (get_or order (count - 1) 0) 0 → certain_units (n - 1) sizes ≤ count - 1
    goes_down less = not_before sizes order is (n - 1) enough (count - 1) (inr (rw (draws, size_there sizes order is (count - 1) place, rest_more) less))

    -- and else it doesn't
    pub stays_here : 1 ≤ get_or sizes (get_or order (count - 1) 0) 0 → sum (drop count (falling sizes order)) + get_or sizes (get_or order (count - 1) 0) 0 ≤ (n - count) * get_or sizes (get_or order (count - 1) 0) 0 → count ≤ certain_units (n - 1) sizes
    stays_here size full =
        let after : count - 1 < certain_units (n - 1) sizes = before sizes order is (n - 1) enough (count - 1) (omega arith) (omega arith) goes_on in
        omega arith
      where
        goes_on : Stops (n - 1) (falling sizes order) (count - 1) → ⊥
        goes_on stops = elim stops [
          | inl same ↦ (let none : (n - count) * get_or sizes (get_or order (count - 1) 0) 0 ≡ 0 * get_or sizes (get_or order (count - 1) 0) 0 = ap (λ (x : ℕ). x * get_or sizes (get_or order (count - 1) 0) 0) (omega arith) in absurd (omega (arith, none, full, size)))
          | inr light ↦ (let less = rw (draws, size_there sizes order is (count - 1) place, rest_more) at light in omega (arith, less, full))
        ]
