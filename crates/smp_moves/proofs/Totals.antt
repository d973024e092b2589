-- Values that move along a line of the total 0 keep their total.
use Rattle.std.proofs.Common.{◌≡◌, ℕ, ◌*◌, Bool, true, false, ℤ, pos, neg_ℤ, ◌*ℤ◌, arith, sym, ap, ◌∙◌, subst}
use Rattle.smp_frac.specs.Fractions.{Fraction, Same, whole, integer, plus, times, sum_below}
use Rattle.smp_frac.proofs.Arithmetic.{same_refl, same_trans, plus_same, times_same, times-plus, times-zero, times_left_comm, plus-zero, sum_same, sum-plus, sum-times}
use Rattle.smp_frac.proofs.Integers.{diff, by_diff, diff-neg, diff-same, diffs, pos-diff}
use Rattle.smp_moves.specs.Moves.{Line, Move, chosen_extent, chosen_line, entry_of, fraction_of, turned}
use Rattle.smp_moves.proofs.Evens.{entry_of_turned, times_negative}

module _ (n : ℕ) (c a b : ℕ → Fraction) (t : Fraction) (e : ℕ → ℤ) (moves : (k : ℕ) → Same (b k) (plus (a k) (times t (integer (e k))))) (none : Same (sum_below n (λ k. times (c k) (integer (e k)))) (whole 0)) where
  pub sum_stays : Same (sum_below n (λ k. times (c k) (b k))) (sum_below n (λ k. times (c k) (a k)))
  sum_stays =
      let apart = sum_same n (λ k. times (c k) (b k)) (λ k. plus (times (c k) (a k)) (times t (times (c k) (integer (e k)))))
      (λ k _. same_trans (times_same (same_refl (c k)) (moves k)) (same_trans (times-plus (c k) (a k) (times t (integer (e k)))) (plus_same (same_refl (times (c k) (a k))) (times_left_comm (c k) t (integer (e k)))))) in
      let split = sum-plus n (λ k. times (c k) (a k)) (λ k. times t (times (c k) (integer (e k)))) in
      let rest = same_trans (sum-times n t (λ k. times (c k) (integer (e k)))) (same_trans (times_same (same_refl t) none) (times-zero t)) in
      same_trans apart (same_trans split (same_trans (plus_same (same_refl (sum_below n (λ k. times (c k) (a k)))) rest) (plus-zero (sum_below n (λ k. times (c k) (a k))))))

-- the other way along the line
abbrev back : Fraction
back = integer (neg_ℤ (pos 1))

back_cross : (z : ℤ) (d : ℕ) → neg_ℤ z *ℤ pos (1 * d) ≡ (neg_ℤ (pos 1) *ℤ z) *ℤ pos d
back_cross z d =
    let one : neg_ℤ (pos 1) ≡ diff 0 1 = ap neg_ℤ (pos-diff 1) ∙ diff-neg 1 0 in
    subst (λ x. neg_ℤ z *ℤ pos (1 * d) ≡ (x *ℤ z) *ℤ pos d) (sym one)
    (by_diff (λ z. neg_ℤ z *ℤ pos (1 * d) ≡ (diff 0 1 *ℤ z) *ℤ pos d) (λ p n. simp diffs (diff-same _ _ _ _ (omega arith))) z)

opposite : (c : Fraction) (e : ℤ) → Same (times c (integer (neg_ℤ e))) (times back (times c (integer e)))
opposite c e =
    let a : Fraction = times c (integer e) in
    same_trans (times_negative c e) (record { cross = back_cross (c.num *ℤ e) (c.den * 1) })

pub back_total : (n : ℕ) (c : ℕ → Fraction) (line : Line) → Same (sum_below n (λ k. times (c k) (integer (entry_of line k)))) (whole 0) → Same (sum_below n (λ k. times (c k) (integer (entry_of (turned line) k)))) (whole 0)
back_total n c line none =
    same_trans (sum_same n (λ k. times (c k) (integer (entry_of (turned line) k))) (λ k. times back (times (c k) (integer (entry_of line k))))
    (λ k _. subst (λ (z : ℤ). Same (times (c k) (integer z)) (times back (times (c k) (integer (entry_of line k))))) (sym (entry_of_turned line k)) (opposite (c k) (entry_of line k))))
    (same_trans (sum-times n back (λ k. times (c k) (integer (entry_of line k)))) (same_trans (times_same (same_refl back) none) (times-zero back)))

-- so do both ends of a move along such a line
pub ends_stay : (n : ℕ) (c a : ℕ → Fraction) (b : Bool → ℕ → Fraction) (m : Move) → ((plus_way : Bool) (k : ℕ) → Same (b plus_way k) (plus (a k) (times (fraction_of (chosen_extent m plus_way)) (integer (entry_of (chosen_line m plus_way) k)))))
    → Same (sum_below n (λ k. times (c k) (integer (entry_of m.direction k)))) (whole 0) → (plus_way : Bool) → Same (sum_below n (λ k. times (c k) (b plus_way k))) (sum_below n (λ k. times (c k) (a k)))
ends_stay n c a b m moves none true = sum_stays n c a (b true) (fraction_of m.up) (entry_of m.direction) (moves true) none
ends_stay n c a b m moves none false = sum_stays n c a (b false) (fraction_of m.down) (entry_of (turned m.direction)) (moves false) (back_total n c m.direction none)
