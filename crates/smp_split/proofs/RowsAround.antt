-- The certain rows add as much to the number of rows that a leaf selects as to the sum of their values.
use Rattle.std.proofs.{Common.{◌≡◌, ℕ, ◌+◌, ◌<◌, Bool, cond, length, arith, refl, ap, subst, ◌∙◌}, lemmas.Int.{ints}}
use Rattle.std.specs.{Prelude.{slice_index}, List.{count_by, sum_by, range_with_len}}
use Rattle.smp_frac.specs.{Bounds.{IsAround}, Fractions.{Fraction, Same, whole, plus, times, over, sum_below}}
use Rattle.smp_frac.proofs.Around.{around_same, around_more}
use Rattle.smp_frac.proofs.Arithmetic.{same_refl, same_sym, same_trans, plus_same, plus_left_comm, plus-zero, zero-plus, one-times, sum_same}
use Rattle.smp_prob.specs.{declared.requests.Request.{Request}, declared.inclusions.Inclusion.{Inclusion}}
use Rattle.smp_prob.specs.declared.inclusions.Inclusion.TheVariants.{Certain, Free, Never}
use Rattle.smp_prob.specs.Inclusions.{AreApart, inclusion, is_taken, count_taken}
use Rattle.smp_split.specs.{Counts.{LeavesSelectAround, selected_count}, Means.{value_sum}, Trees.{Tree}, Laws.Lenses.{leaves_through}}
use Rattle.smp_split.proofs.{Sums.{sum-over}, RowSums.{at_free, sum_apart}}
use Rattle.smp_split.specs.{Rows.{row_value, rows_tree}, Laws.Rows.{row_view, rows_lens, rows_close}}

-- ---- sums of whole numbers

sum-whole : (n : ℕ) (f : ℕ → ℕ) → Same (sum_below n (λ k. whole (f k))) (whole (sum_by f (range_with_len 0 n)))
sum-whole n f =
    same_trans (sum_same n (λ k. whole (f k)) (λ k. over (f k) 1) (λ k _. record { cross = refl }))
    (same_trans (sum-over f 1 n) (record { cross = refl }))

whole_sum : (a b c : ℕ) → Same (whole a) (plus (whole b) (whole c)) → a ≡ b + c
whole_sum a b c same = omega (arith, ints, same.cross)

plus_turned : (a b : Fraction) → Same (plus a b) (plus b a)
plus_turned a b =
    same_trans (plus_same (same_refl a) (same_sym (plus-zero b))) (same_trans (plus_left_comm a b (whole 0)) (plus_same (same_refl b) (plus-zero a)))

-- ---- the certain rows

-- 1 for a certain row, and 0 for any other
abbrev certain_of : Inclusion → ℕ
certain_of Certain = 1
certain_of (Free unit) = 0
certain_of Never = 0

module _ (rows : ℕ) (request : Request) (inside : (u : ℕ) → u < length request.free → slice_index request.free u < rows) (apart : AreApart request) where
  abbrev certain_rows : ℕ
  certain_rows = sum_by (λ row. certain_of (inclusion request row)) (range_with_len 0 rows)

  -- 1 for each certain row, and what the free units give
  rows_sum : (f : Inclusion → Fraction) (g : ℕ → Fraction) → Same (f Certain) (whole 1) → ((u : ℕ) → Same (f (Free u)) (g u)) → Same (f Never) (whole 0)
      → Same (sum_below rows (λ row. f (inclusion request row))) (plus (whole certain_rows) (sum_below (length request.free) g))
  rows_sum f g one each none =
      let free : Fraction = sum_below (length request.free) g in
      let certain : Fraction = sum_below rows (λ row. whole (certain_of (inclusion request row))) in
      same_trans (sum_apart request rows inside apart g (λ row. f (inclusion request row)) (λ row. whole (certain_of (inclusion request row))) (λ row _. by_inclusion (inclusion request row)))
      (same_trans (plus_turned free certain) (plus_same (sum-whole rows (λ row. certain_of (inclusion request row))) (same_refl free)))
    where
      by_inclusion : (stands : Inclusion) → Same (f stands) (plus (at_free g stands) (whole (certain_of stands)))
      by_inclusion Certain = same_trans one (same_sym (zero-plus (whole 1)))
      by_inclusion (Free u) = same_trans (each u) (same_sym (plus-zero (g u)))
      by_inclusion Never = same_trans none (same_sym (plus-zero (whole 0)))

  -- as many rows are taken as are certain and as free units are drawn
  pub rows_taken : (drawn : ℕ → Bool) → count_taken request drawn rows ≡ certain_rows + count_by drawn (range_with_len 0 (length request.free))
  rows_taken drawn =
      let one_of : Bool → ℕ = λ b. cond b 1 0 in
      whole_sum (count_taken request drawn rows) certain_rows (count_by drawn (range_with_len 0 (length request.free)))
      (same_trans (same_sym (sum-whole rows (λ row. one_of (is_taken drawn (inclusion request row)))))
      (same_trans (rows_sum (λ stands. whole (one_of (is_taken drawn stands))) (λ u. whole (one_of (drawn u))) (same_refl (whole 1)) (λ u. same_refl (whole (one_of (drawn u)))) (same_refl (whole 0)))
      (plus_same (same_refl (whole certain_rows)) (sum-whole (length request.free) (λ u. one_of (drawn u))))))

  module _ {State : Type 0} (tree : Tree State) (paired : length request.free ≡ tree.units) where
    rows_value : (state : State) → Same (value_sum (rows_tree rows request tree) (λ _. whole 1) state) (plus (whole certain_rows) (value_sum tree (λ _. whole 1) state))
    rows_value state =
        subst (λ n. Same (value_sum (rows_tree rows request tree) (λ _. whole 1) state) (plus (whole certain_rows) (sum_below n (λ u. times (whole 1) (tree.value state u))))) paired
        (rows_sum (λ stands. times (whole 1) (row_value (tree.value state) stands)) (λ u. times (whole 1) (tree.value state u)) (one-times (whole 1)) (λ u. same_refl (times (whole 1) (tree.value state u))) (one-times (whole 0)))

    rows_selected : (leaf : State) → selected_count (rows_tree rows request tree) leaf ≡ certain_rows + selected_count tree leaf
    rows_selected leaf = rows_taken (tree.selected leaf) ∙ ap (λ units. certain_rows + count_by (tree.selected leaf) (range_with_len 0 units)) paired

    -- where the design selects one of the whole numbers around its values' sum, so do the rows
    pub rows_around : (belongs : State → Type 0) (state : State) → LeavesSelectAround tree state → LeavesSelectAround (rows_tree rows request tree) state
    rows_around belongs state around =
        let own : Fraction = value_sum tree (λ _. whole 1) state in
        let all : Fraction = value_sum (rows_tree rows request tree) (λ _. whole 1) state in
        leaves_through tree belongs (rows_tree rows request tree) (λ s. s) (λ row. row_view (inclusion request row)) (rows_lens rows request tree belongs paired) (rows_close rows request tree belongs)
        (λ leaf. IsAround (selected_count tree leaf) own) (λ leaf. IsAround (selected_count (rows_tree rows request tree) leaf) all)
        (λ leaf done is. around_same (selected_count (rows_tree rows request tree) leaf) (rows_value state) (rw (rows_selected leaf) (around_more certain_rows (selected_count tree leaf) own is)))
        state around
