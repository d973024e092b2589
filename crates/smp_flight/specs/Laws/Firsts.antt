-- The first fractional units: a window among them stays there.
use Rattle.std.proofs.Common.{◌≡◌, ◌≢◌, ℕ, ◌+◌, ◌-◌, ◌<◌, ◌≤◌, Bool, true, nat_eq, List, ◌++◌, pos}
use Rattle.std.proofs.Common.{take, drop, length, get_or, arith, sym, ap, ◌∙◌, subst, ◌&&◌, not, refl, length-take}
use Rattle.std.specs.List.{All, Contains, filter, range_with_len, AllPairs}
use Rattle.std.proofs.lemmas.Bool.{both_ways, true_from_ne_false, and_from, and_parts}
use Rattle.std.proofs.lemmas.List.{get_or_default, take-append-drop, take-append-le, take_all, length-map}
use Rattle.std.proofs.Math.Seq.{take-append-add}
use Rattle.std.proofs.lemmas.List.FromFn.{get_or-range_with_len, length-range_with_len}
use Rattle.smp_kernel.specs.RowReduction.{cut, AreIndependent}
use Rattle.smp_kernel.proofs.Existence.{cut_short, elimination_of}
use Rattle.smp_kernel.proofs.Gate.{few_columns}
use Rattle.smp_kernel.proofs.Lists.{contains_at}
use Rattle.smp_prob.specs.Shares.{Shares}
use Rattle.smp_values.specs.Values.{fractional_count, fractional_units, is_fractional}
use Rattle.smp_values.proofs.Units.{fractional_units_length, fractional_within}
use Rattle.smp_flight.specs.States.{Units, column, columns_of}
use Rattle.smp_flight.specs.Kept.Windows.{is_in}
use Rattle.smp_moves.proofs.Filtered.{filter_twice}
use Rattle.smp_moves.specs.Moves.{Line, entry_of, IsOrder}
use Rattle.smp_moves.proofs.Entries.{entry_at_none, order_going}
use Rattle.smp_flight.specs.Laws.Windowed.{in_append_left, in_at, in_or, StandsAt, few_in, same_unit, unit_laws}
use Rattle.std.proofs.lemmas.Map.Made.{is_member-filter, alike_from_same}
use Rattle.std.proofs.lemmas.List.Filters.{length-filter_both}
use Rattle.std.proofs.lemmas.List.Elements.{filter-append}

-- ---- the units of a list

pub contains_in : (xs : List ℕ) (k : ℕ) → Contains xs k → is_in xs k ≡ true
contains_in xs k c = subst (λ (x : ℕ). is_in xs x ≡ true) (get_or_default xs c.0 0 k c.1 ∙ c.2) (in_at xs c.0 c.1)

pub in_contains : (xs : List ℕ) (k : ℕ) → is_in xs k ≡ true → Contains xs k
in_contains xs k t = (let at = in_or xs k t in contains_at xs at.place k at.here at.is)

-- each of some units is among others
pub each_in : (order units : List ℕ) → All (Contains order) units → (k : ℕ) → is_in units k ≡ true → is_in order k ≡ true
each_in order units h k t = (let at = in_or units k t in contains_in order k (subst (Contains order) at.is (h at.place 0 at.here)))

pub all_in : (P : ℕ → Type 0) (xs : List ℕ) → ((k : ℕ) → is_in xs k ≡ true → P k) → All P xs
all_in P xs h j d l = subst P (get_or_default xs j 0 d l) (h (get_or xs j 0) (in_at xs j l))

pub from_each : (order units : List ℕ) → ((k : ℕ) → is_in units k ≡ true → is_in order k ≡ true)
    → All (Contains order) units
from_each order units h = all_in (Contains order) units (λ k t. in_contains order k (h k t))

pub in_take : (n : ℕ) (xs : List ℕ) (k : ℕ) → is_in (take n xs) k ≡ true → is_in xs k ≡ true
in_take n xs k t = subst (λ (ys : List ℕ). is_in ys k ≡ true) (take-append-drop n xs) (in_append_left (take n xs) (drop n xs) k t)

pub in_front : (n : ℕ) (xs ys : List ℕ) (k : ℕ) → length xs ≤ n → is_in xs k ≡ true → is_in (take n (xs ++ ys)) k ≡ true
in_front n xs ys k l h =
    let total : length xs + (n - length xs) ≡ n = omega (arith, l) in
    subst (λ (zs : List ℕ). is_in zs k ≡ true)
    (sym (take-append-add xs ys (n - length xs)) ∙ ap (λ m. take m (xs ++ ys)) total)
    (in_append_left xs (take (n - length xs) ys) k h)

pub within_front : (n : ℕ) (xs ys : List ℕ) (k : ℕ) → n ≤ length xs → is_in (take n (xs ++ ys)) k ≡ true → is_in xs k ≡ true
within_front n xs ys k l h = in_take n xs k (subst (λ (zs : List ℕ). is_in zs k ≡ true) (take-append-le n xs ys l) h)

-- a line changes its units alone
pub changed_in : (line : Line) (k : ℕ) → entry_of line k ≢ pos 0 → is_in line.units k ≡ true
changed_in line k some =
    true_from_ne_false (is_in line.units k)
    (λ out. some (entry_at_none line.units line.entries k (λ c. both_ways (is_in line.units k) out (contains_in line.units k c))))

-- ---- the units of a list that pass a test

pub filter_in : (p : ℕ → Bool) (us : List ℕ) (k : ℕ) → is_in (filter p us) k ≡ (is_in us k && p k)
filter_in p us k = is_member-filter unit_laws p k (alike_from_same {eq = λ a b. nat_eq b a} same_unit p k) us

pub in_filter : (p : ℕ → Bool) (us : List ℕ) (k : ℕ) → is_in us k ≡ true → p k ≡ true → is_in (filter p us) k ≡ true
in_filter p us k h t = filter_in p us k ∙ and_from (is_in us k) (p k) h t

pub out_filter : (p : ℕ → Bool) (us : List ℕ) (k : ℕ) → is_in (filter p us) k ≡ true → (is_in us k ≡ true) × (p k ≡ true)
out_filter p us k h = and_parts (is_in us k) (p k) (sym (filter_in p us k) ∙ h)

pub filter_few : (p : ℕ → Bool) (us : List ℕ) → length (filter p us) ≤ length us
filter_few p us = (let part = length-filter_both p (λ k. not (p k)) (λ k. refl) us in omega (arith, part))

-- one of the first elements that passes a test is one of the first that do
pub first_passing : (p : ℕ → Bool) (n : ℕ) (xs : List ℕ) (k : ℕ) → is_in (take n xs) k ≡ true → p k ≡ true
    → is_in (take n (filter p xs)) k ≡ true
first_passing p n xs k t h =
    let few = filter_few p (take n xs) in
    subst (λ (zs : List ℕ). is_in (take n zs) k ≡ true)
    (sym (filter-append p (take n xs) (drop n xs)) ∙ ap (filter p) (take-append-drop n xs))
    (in_front n (filter p (take n xs)) (filter p (drop n xs)) k (omega (arith, few, length-take n xs)) (in_filter p (take n xs) k t h))

-- ---- the first fractional units

-- those of other values, where no other unit is fractional than before
pub first_stays : (s t : Shares) (n k : ℕ) → length t.numer ≡ length s.numer
    → ((k : ℕ) → is_fractional t k ≡ true → is_fractional s k ≡ true) → is_in (take n (fractional_units s)) k ≡ true
    → is_fractional t k ≡ true → is_in (take n (fractional_units t)) k ≡ true
first_stays s t n k count fewer h still =
    let units : filter (is_fractional t) (fractional_units s) ≡ fractional_units t =
    filter_twice (is_fractional s) (is_fractional t) fewer (range_with_len 0 (length s.numer))
    ∙ ap (λ m. filter (is_fractional t) (range_with_len 0 m)) (sym count) in
    subst (λ (us : List ℕ). is_in (take n us) k ≡ true) units (first_passing (is_fractional t) n (fractional_units s) k h still)

pub in_range : (n k : ℕ) → k < n → is_in (range_with_len 0 n) k ≡ true
in_range n k l =
    subst (λ (x : ℕ). is_in (range_with_len 0 n) x ≡ true)
    (get_or-range_with_len 0 n k 0 l ∙ (let e : 0 + k ≡ k = omega arith in e))
    (in_at (range_with_len 0 n) k (omega (arith, l, length-range_with_len 0 n)))

-- different units below n are at most n
pub few_units : (n : ℕ) (window : List ℕ) → ((k : ℕ) → is_in window k ≡ true → k < n)
    → AllPairs (λ k l. k ≢ l) window → length window ≤ n
few_units n window within distinct =
    let few = few_in (range_with_len 0 n) window (λ k t. in_range n k (within k t)) distinct in
    omega (arith, few, length-range_with_len 0 n)

pub fractional_in : (s : Shares) (k : ℕ) → is_fractional s k ≡ true → is_in (fractional_units s) k ≡ true
fractional_in s k f =
    in_filter (is_fractional s) (range_with_len 0 (length s.numer)) k (in_range (length s.numer) k (fractional_within s k f)) f

-- a unit of an order is fractional
pub in_order_going : (s : Shares) (order : List ℕ) → IsOrder s order → (k : ℕ) → is_in order k ≡ true
    → is_fractional s k ≡ true
in_order_going s order ok k h =
    let at : StandsAt order k = in_or order k h in
    subst (λ (u : ℕ). is_fractional s u ≡ true) at.is (order_going s order ok at.place at.here)

-- where there are no more of them
pub all_first : (s : Shares) (n k : ℕ) → fractional_count s ≤ n → is_fractional s k ≡ true
    → is_in (take n (fractional_units s)) k ≡ true
all_first s n k few f = rw (take_all n (fractional_units s) (omega (arith, few, fractional_units_length s))) (fractional_in s k f)

-- ---- independent columns are no more than the rows in force

pub independent_few : (units : Units) (rows : ℕ) (order : List ℕ) → AreIndependent rows (cut rows (columns_of units order))
    → length order ≤ rows
independent_few units rows order ind =
    let columns = columns_of units order in
    let few = few_columns (elimination_of rows (cut rows columns) (cut_short rows columns) ind).is in
    omega (arith, few, length-map columns (take rows), length-map order (column units))
