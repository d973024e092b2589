-- How many units the leaves select.
use Rattle.std.proofs.Common.{◌≡◌, ◌≢◌, ℕ, ◌+◌, ◌<◌, ◌≤◌, Bool, true, false, cond, nat_eq, List, [], ◌∷◌, length, map, get_or, arith, refl, sym, ap, subst, ◌∙◌, inl, inr}
use Rattle.std.specs.List.{count_by, sum_by, range_with_len}
use Rattle.std.proofs.{lemmas.Bool.{cases_Bool, and_parts, eqb-false}, lemmas.List.FromFn.{fill_by_all}, lemmas.List.Sums.{sum_by-cons}}
use Rattle.std.proofs.lemmas.List.Sorted.{sum_by-IsPermutation}
use Rattle.smp_frac.specs.{Bounds.{IsAround}, Fractions.{Fraction, Same, whole}}
use Rattle.smp_frac.proofs.{Around.{around_same, around_whole}, Arithmetic.{same_sym}}
use Rattle.smp_split.specs.{Trees.{Tree, EachPart, Lawful}, Counts.{selected_count, AddsUp, LeavesSelect, LeavesSelectAround}}
use Rattle.smp_split.specs.{Means.{value_sum}, Paths.{AtEachLeaf}, Laws.Parts.{each_equal, each_moved}}
use Rattle.smp_split.specs.Orders.{Ordered, IsPlacing, IsInOrder, exchanged_at, next_place, in_order, ordered_tree}
use Rattle.smp_split.proofs.Orders.{length_places, next_in, other_in}
use Rattle.smp_split.specs.Laws.Steps.{leads_keep, leads_belong}

pub sum_by-map : {X Y : Type 0} (f : Y → ℕ) (g : X → Y) (xs : List X) → sum_by f (map g xs) ≡ sum_by (λ x. f (g x)) xs
sum_by-map f g [] = refl
sum_by-map f g (x ∷ xs) = sum_by-cons f (g x) (map g xs) ∙ ap (λ n. f (g x) + n) (sum_by-map f g xs) ∙ sym (sum_by-cons (λ y. f (g y)) x xs)

-- a sum over the indices of elements is one over the elements
pub sum_by-indices : {X : Type 0} (f : X → ℕ) (xs : List X) (d : X) (n : ℕ) → length xs ≡ n → sum_by (λ k. f (get_or xs k d)) (range_with_len 0 n) ≡ sum_by f xs
sum_by-indices f xs d n is =
    sym (sum_by-map f (λ k. get_or xs k d) (range_with_len 0 n)) ∙ ap (sum_by f) (sym (fill_by_all (λ k. get_or xs k d) xs n d is (λ k h. refl)))

-- counting the indices of elements that pass a test
pub count_by-indices : {X : Type 0} (test : X → Bool) (xs : List X) (d : X) (n : ℕ) → length xs ≡ n → count_by (λ k. test (get_or xs k d)) (range_with_len 0 n) ≡ count_by test xs
count_by-indices test xs d n is = sum_by-indices (λ x. cond (test x) 1 0) xs d n is

-- a property that each part keeps, and by which the number of units that a leaf selects is so
pub record KeepsCount {State : Type 0} (tree : Tree State) (belongs : State → Type 0) (IsSo : ℕ → Type 0) (P : State → Type 0) : Type 0 where
  pub kept : (s : State) → belongs s → tree.done s ≡ false → P s → EachPart (λ p. P p.state) (tree.parts s)
  pub leaf : (s : State) → belongs s → tree.done s ≡ true → P s → IsSo (selected_count tree s)

module _ {State : Type 0} (tree : Tree State) (belongs : State → Type 0) (lawful : Lawful tree belongs) where
  pub leaves_count : (IsSo : ℕ → Type 0) (P : State → Type 0) → KeepsCount tree belongs IsSo P → (s : State) → belongs s → P s → AtEachLeaf tree s (λ path leaf. IsSo (selected_count tree leaf))
  leaves_count IsSo P keeps s member holds path leaf leads done =
      keeps.leaf leaf (leads_belong tree belongs lawful path s leaf leads member) done (leads_keep tree belongs lawful P keeps.kept path s leaf leads member holds)

  pub leaves_select : (n : ℕ) (P : State → Type 0) → KeepsCount tree belongs (λ count. count ≡ n) P → (s : State) → belongs s → P s → LeavesSelect tree n s
  leaves_select n P keeps = leaves_count (λ count. count ≡ n) P keeps

  -- around a fraction that the values add up to
  pub leaves_around : (a : Fraction) (P : State → Type 0) → KeepsCount tree belongs (λ count. IsAround count a) P → (s : State) → belongs s → P s → Same (value_sum tree (λ _. whole 1) s) a → LeavesSelectAround tree s
  leaves_around a P keeps s member holds same path leaf leads done =
      around_same (selected_count tree leaf) same (leaves_count (λ count. IsAround count a) P keeps s member holds path leaf leads done)

-- where the values add up to a whole number, that is the only one around their sum
pub around_select : {State : Type 0} (tree : Tree State) (n : ℕ) (s : State) → LeavesSelectAround tree s → AddsUp tree n s → LeavesSelect tree n s
around_select tree n s around adds path leaf leads done =
    around_whole (selected_count tree leaf) n (around_same (selected_count tree leaf) (same_sym adds) (around path leaf leads done))

module _ {State : Type 0} (tree : Tree State) (belongs : State → Type 0) (exchanged : ℕ → ℕ → State → State) where
  -- as many units as places
  pub selected_count-ordered : (s : Ordered State) → IsPlacing tree.units s.order → selected_count (ordered_tree tree exchanged) s ≡ selected_count tree s.state
  selected_count-ordered s is =
      count_by-indices (tree.selected s.state) s.order.places 0 tree.units (length_places tree.units s.order is)
      ∙ sum_by-IsPermutation (λ place. cond (tree.selected s.state place) 1 0) (range_with_len 0 tree.units) s.order.places is.permuted

  -- the property of a state over places is kept in any order
  pub keeps_count : (IsSo : ℕ → Type 0) (P : State → Type 0) → KeepsCount tree belongs IsSo P → ((i j : ℕ) (s : State) → i < tree.units → j < tree.units → belongs s → P s → P (exchanged i j s)) → KeepsCount (ordered_tree tree exchanged) (IsInOrder tree.units belongs) IsSo (λ s. P s.state)
  keeps_count IsSo P keeps moves = record {
    kept = λ s ok going holds.
        elim (cases_Bool (nat_eq s.order.left 0)) [
          | inl e ↦ rw e (each_moved (in_order s.order) (λ p. P p.state) (λ p. P p.state.state) (λ p h. h) (tree.parts s.state) (keeps.kept s.state ok.state (rw e at going) holds))
          | inr e ↦
              (let none : s.order.left ≢ 0 = eqb-false s.order.left 0 e in
              let some : 1 ≤ s.order.left = omega arith in
              rw e (each_equal (λ v. exchanged_at exchanged s (next_place s.order) (next_place s.order + v)) (λ p. P p.state.state) (s.order.left + 1)
              (λ v h. moves (next_place s.order) (next_place s.order + v) s.state (next_in tree.units s.order ok.order some) (other_in tree.units s.order ok.order some v h) ok.state holds)))
        ];
    leaf = λ s ok done holds.
        subst IsSo (sym (selected_count-ordered s ok.order)) (keeps.leaf s.state ok.state (and_parts (nat_eq s.order.left 0) (tree.done s.state) done).1 holds);
  }
