-- The weights of both ends of a line, and entries within a limit.
use Rattle.std.proofs.Common.{◌≡◌, ℕ, ◌*◌, ◌≤◌, max, true, nat_le, List, ℤ, pos, arith, ap, inl, inr, mul-pos, eq-zero-or-pos}
use Rattle.std.specs.{List.{list_all}, Int.RustNames.{unsigned_abs}}
use Rattle.std.proofs.{lemmas.Bool.{leb-true, le-leb}, lemmas.List.Elements.{All-get_or, All-from_get_or}}
use Rattle.std.proofs.lemmas.List.Sums.{AllPass-from_list_all, list_all-from_AllPass}
use Rattle.smp_frac.specs.Fractions.{Same, whole, times}
use Rattle.smp_frac.proofs.Arithmetic.{cancel}
use Rattle.smp_kernel.specs.Vectors.{entry, Within}
use Rattle.smp_moves.specs.{declared.lines.Ratio.{Ratio}, Moves.{Line, IsLine, fraction_of, turned}, Kept.Ends.{IsOver}}
use Rattle.smp_prob.specs.Shares.{Shares}
use Rattle.smp_moves.specs.Ends.{reach, extent, weights, move_along}
use Rattle.smp_moves.proofs.{Entries.{turned_line}, LineEnds.{IsLowest, lowest_is, reached, extent_is}}

pub weights_at : (c p q m n N U M V w x : ℕ) → 1 ≤ c → 1 ≤ U → 1 ≤ V → N * q ≡ p * (c * U) → M * n ≡ m * (c * V) → M * U * x ≡ w * (N * V) → w * (p * n) ≡ x * (m * q)
weights_at c p q m n N U M V w x pc pu pv hp hm hw =
    cancel (w * (p * n)) (x * (m * q)) (c * U * (c * V)) (let a : 1 ≤ c * U = mul-pos pc pu in let b : 1 ≤ c * V = mul-pos pc pv in mul-pos a b)
    (let h1 : N * q * (w * n * (c * V)) ≡ p * (c * U) * (w * n * (c * V)) = ap (λ y. y * (w * n * (c * V))) hp in
    let h2 : M * n * (x * q * (c * U)) ≡ m * (c * V) * (x * q * (c * U)) = ap (λ y. y * (x * q * (c * U))) hm in
    let h3 : M * U * x * (q * n * c) ≡ w * (N * V) * (q * n * c) = ap (λ y. y * (q * n * c)) hw in
    omega arith)

pub weights_same : (w x : ℕ) (r t : Ratio) → 1 ≤ r.den → 1 ≤ t.den → w * (r.num * t.den) ≡ x * (t.num * r.den) → Same (times (whole w) (fraction_of r)) (times (whole x) (fraction_of t))
weights_same w x r t pr pt h =
    let er : max 1 r.den ≡ r.den = omega arith in
    let et : max 1 t.den ≡ t.den = omega arith in
    record { cross = rw (er, et) (ap pos (omega (arith, h))) }

pub within_from : (limit : ℕ) (es : List ℤ) → list_all (λ e. nat_le (unsigned_abs e) limit) es ≡ true → Within limit es
within_from limit es h =
    let all = AllPass-from_list_all (λ e. nat_le (unsigned_abs e) limit) es h in
    All-from_get_or (λ e. unsigned_abs e ≤ limit) es (pos 0) (λ i l. leb-true (unsigned_abs (entry es i)) limit (All-get_or (λ e. nat_le (unsigned_abs e) limit ≡ true) es i (pos 0) l all))

pub within_to : (limit : ℕ) (es : List ℤ) → Within limit es → list_all (λ e. nat_le (unsigned_abs e) limit) es ≡ true
within_to limit es w =
    list_all-from_AllPass (λ e. nat_le (unsigned_abs e) limit) es
    (All-from_get_or (λ e. nat_le (unsigned_abs e) limit ≡ true) es (pos 0) (λ i l. le-leb (unsigned_abs (entry es i)) limit (w i (pos 0) l)))

-- ---- both ends of a line

module _ (first : ℕ) (s : Shares) (is_over : IsOver first s) (line : Line) (ok : IsLine s line) where
  back : IsLine s (turned line)
  back = turned_line s line ok

  pub lowest_weights : IsLowest ((reach s (turned line)).left * (reach s line).size) ((reach s line).left * (reach s (turned line)).size) (weights (reach s line) (reach s (turned line)))
  lowest_weights =
      lowest_is ((reach s (turned line)).left * (reach s line).size) ((reach s line).left * (reach s (turned line)).size)
      (mul-pos (reached first s is_over line ok).some (reached first s is_over (turned line) back).some_size)

  -- the weights are as how far the other end is
  pub ends_weighed : Same (times (whole (move_along s line).plus_weight) (fraction_of (extent s line))) (times (whole (move_along s line).minus_weight) (fraction_of (extent s (turned line))))
  ends_weighed =
      let up = extent_is first s is_over line ok in
      let down = extent_is first s is_over (turned line) back in
      weights_same _ _ (extent s line) (extent s (turned line)) up.some down.some
      (weights_at s.den (extent s line).num (extent s line).den (extent s (turned line)).num (extent s (turned line)).den
      (reach s line).left (reach s line).size (reach s (turned line)).left (reach s (turned line)).size _ _
      is_over.values.positive (reached first s is_over line ok).some_size (reached first s is_over (turned line) back).some_size
      up.same down.same lowest_weights.same)

  -- both ends have a weight
  pub plus_some : 1 ≤ (move_along s line).plus_weight
  plus_some =
      elim (eq-zero-or-pos (move_along s line).plus_weight) [
        | inr p ↦ p
        | inl z ↦ absurd (let a : 1 ≤ (reach s (turned line)).left * (reach s line).size = mul-pos (reached first s is_over (turned line) back).some (reached first s is_over line ok).some_size in
            let b : 1 ≤ (reach s (turned line)).left * (reach s line).size * (move_along s line).minus_weight = mul-pos a lowest_weights.some in
            let none : (move_along s line).plus_weight * ((reach s line).left * (reach s (turned line)).size) ≡ 0 = rw z (omega arith) in
            omega (arith, b, none, lowest_weights.same))
      ]

  pub minus_some : 1 ≤ (move_along s line).minus_weight
  minus_some = lowest_weights.some
