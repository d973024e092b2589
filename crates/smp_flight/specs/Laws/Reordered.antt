-- Columns of units are independent in any order of the units where they are in one.
use Rattle.std.proofs.Common.{◌≡◌, ◌≢◌, ℕ, ◌<◌, true, List, ℤ, pos, ◌*ℤ◌, map, take, length, get_or, arith}
use Rattle.std.proofs.Common.{sym, ap, ◌∙◌, subst, inl, inr}
use Rattle.std.specs.List.{AllPairs, Contains}
use Rattle.std.proofs.lemmas.Bool.{cases_lt}
use Rattle.std.proofs.lemmas.Int.{ints}
use Rattle.std.proofs.lemmas.List.{get_or-map, get_or_default, get_or_past, length-map}
use Rattle.smp_frac.specs.Fractions.{Same, whole, integer, times, sum_below}
use Rattle.smp_frac.proofs.Arithmetic.{same_refl, same_sym, same_trans, sum_same}
use Rattle.smp_kernel.specs.Vectors.{IsZero, entry, dot, combination}
use Rattle.smp_kernel.specs.RowReduction.{cut, AreIndependent, InForce, IsRelationOn}
use Rattle.smp_kernel.proofs.FoundCircuits.{dot_row, in_row_cut}
use Rattle.smp_flight.specs.States.{Units, column, columns_of}
use Rattle.smp_moves.specs.Moves.{entry_at, IsOrder}
use Rattle.smp_flight.specs.Kept.Windows.{is_in}
use Rattle.smp_moves.proofs.Entries.{entry_at_none, entry_at_place, place_or, order_within}
use Rattle.smp_flight.specs.Laws.Firsts.{contains_in}
use Rattle.smp_moves.proofs.LineSums.{line_dot, sum_line}
use Rattle.smp_flight.specs.Laws.MoveTotals.{number_in, numbers_are}
use Rattle.smp_flight.specs.Laws.Windowed.{in_at, in_or}
use Rattle.smp_prob.specs.Shares.{Shares}

-- ---- the factors of units in another order

module _ (n : ℕ) (us vs : List ℕ) (us_inside : (j : ℕ) → j < length us → get_or us j 0 < n)
    (vs_inside : (j : ℕ) → j < length vs → get_or vs j 0 < n) (us_distinct : AllPairs (λ k l. k ≢ l) us)
    (vs_distinct : AllPairs (λ k l. k ≢ l) vs) (has : (k : ℕ) → is_in us k ≡ true → is_in vs k ≡ true) (w : List ℤ)
    (long : length w ≡ length us) where
  -- the factor of each unit in the other order
  abbrev pub moved : List ℤ
  moved = map (entry_at us w) vs

  pub moved_long : length moved ≡ length vs
  moved_long = length-map vs (entry_at us w)

  pub moved_entry : (j : ℕ) → j < length vs → entry moved j ≡ entry_at us w (get_or vs j 0)
  moved_entry j l = get_or-map (entry_at us w) vs j 0 (pos 0) l

  -- each unit has the same factor
  same_factor : (k : ℕ) → entry_at vs moved k ≡ entry_at us w k
  same_factor k =
      elim (place_or vs k) [
        | inl at ↦ subst (λ (x : ℕ). entry_at vs moved x ≡ entry_at us w x) at.2
            (entry_at_place vs moved at.0 at.1 moved_long vs_distinct ∙ moved_entry at.0 at.1)
        | inr out ↦
            (let none : Contains us k → ⊥ = λ c.
            (let r = in_or vs k (has k (contains_in us k c)) in
            out (r.place, r.here, get_or_default vs r.place k 0 r.here ∙ r.is)) in
            entry_at_none vs moved k out ∙ sym (entry_at_none us w k none))
      ]

  -- so they give the same sums
  pub same_dot : (x : ℕ → ℤ) → dot moved (map x vs) ≡ dot w (map x us)
  same_dot x =
      let over_vs = sum_line n (λ k. integer (x k)) vs moved vs_inside vs_distinct in
      let over_us = sum_line n (λ k. integer (x k)) us w us_inside us_distinct in
      let factors : Same (sum_below n (λ k. times (integer (x k)) (integer (entry_at vs moved k))))
      (sum_below n (λ k. times (integer (x k)) (integer (entry_at us w k)))) =
      sum_same n (λ k. times (integer (x k)) (integer (entry_at vs moved k))) (λ k. times (integer (x k)) (integer (entry_at us w k)))
      (λ k _. subst (λ (z : ℤ). Same (times (integer (x k)) (integer (entry_at vs moved k)))
      (times (integer (x k)) (integer z))) (same_factor k)
      (same_refl (times (integer (x k)) (integer (entry_at vs moved k))))) in
      let at_vs = line_dot (λ k. integer (x k)) (whole 1) x vs moved moved moved_long moved_long
      (λ j l. one_product (x (get_or vs j 0)) (entry moved j)) in
      let at_us = line_dot (λ k. integer (x k)) (whole 1) x us w w long long (λ j l. one_product (x (get_or us j 0)) (entry w j)) in
      same_integers (same_trans (same_sym at_vs) (same_trans (same_sym over_vs) (same_trans factors (same_trans over_us at_us))))
    where
      one_product : (a b : ℤ) → Same (times (integer a) (integer b)) (times (whole 1) (integer (b *ℤ a)))
      one_product a b = record { cross = grind (arith, ints) }

      same_integers : {a b : ℤ} → Same (times (whole 1) (integer a)) (times (whole 1) (integer b)) → a ≡ b
      same_integers {a} {b} h = (let e = h.cross in omega (arith, ints, e))

  -- and only zeros give 0
  zero_factors : IsZero moved → IsZero w
  zero_factors zero i =
      elim (cases_lt i (length us)) [
        | inr past ↦ get_or_past w i (pos 0) (omega (arith, past, long))
        | inl here ↦
            (let at = in_or vs (get_or us i 0) (has (get_or us i 0) (in_at us i here)) in
            sym (entry_at_place us w i here long us_distinct) ∙ ap (entry_at us w) (sym at.is)
            ∙ sym (moved_entry at.place at.here) ∙ zero at.place)
      ]

  module _ (units : Units) (q : ℕ) where
    pub sum_at : (w : List ℤ) (order : List ℕ) (row : ℕ) → row < q
        → entry (combination w (cut q (columns_of units order))) row ≡ dot w (map (number_in units row) order)
    sum_at w order row l = sym (dot_row row w (cut q (columns_of units order)))
        ∙ ap (dot w) (in_row_cut q row l (columns_of units order) ∙ numbers_are units row order)

    pub length-cut : (order : List ℕ) → length (cut q (columns_of units order)) ≡ length order
    length-cut order = length-map (columns_of units order) (take q) ∙ length-map order (column units)

    moved_relation : IsRelationOn (InForce q) (cut q (columns_of units us)) w
        → IsRelationOn (InForce q) (cut q (columns_of units vs)) moved
    moved_relation rel = (
      moved_long ∙ sym (length-cut vs),
      λ row l. sum_at moved vs row l
          ∙ same_dot (number_in units row) ∙ sym (sum_at w us row l) ∙ rel.1 row l,
    )

pub independent_as : (units : Units) (q : ℕ) (s : Shares) (us vs : List ℕ) → IsOrder s us → IsOrder s vs
    → ((k : ℕ) → is_in us k ≡ true → is_in vs k ≡ true) → AreIndependent q (cut q (columns_of units vs))
    → AreIndependent q (cut q (columns_of units us))
independent_as units q s us vs u v has ind w rel =
    let n = length s.numer in
    let a = order_within s us u in
    let b = order_within s vs v in
    let long : length w ≡ length us = rel.0 ∙ length-map (columns_of units us) (take q) ∙ length-map us (column units) in
    zero_factors n us vs a b u.distinct v.distinct has w long
    (ind (moved n us vs a b u.distinct v.distinct has w long) (moved_relation n us vs a b u.distinct v.distinct has w long units q rel))
