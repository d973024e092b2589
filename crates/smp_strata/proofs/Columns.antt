-- Balancing values in columns: what is read, and sums that are within the limit.
use Rattle.std.proofs.Common.{◌≡◌, ℕ, ◌+◌, ◌<◌, ◌^◌, Bool, true, false, List, [], length, map, get_or, nat_le, nat_abs, ℤ, pos, neg_ℤ, ◌≤ℤ◌, ◌+ℤ◌, ◌*◌, SFits, to_z, of_z, w32, w64, arith, refl, sym, ap, ◌∙◌}
use Rattle.std.specs.List.{list_any, range_with_len}
use Rattle.std.proofs.{lemmas.Bool.{or_parts, or_right, leb-false}, lemmas.Int.{ints, to_z-of_z}, lemmas.List.{get_or-map}}
use Rattle.std.proofs.lemmas.List.Folds.{list_any_at, list_any-append}
use Rattle.std.proofs.lemmas.List.FromFn.{get_or-map-range_with_len, length-map-range_with_len, map-range_with_len_more}
use Rattle.smp_frac.specs.Limits.{most_rows}
use Rattle.smp_frame.specs.Bounds.{AreSmall, IsFrame, HaveBalance}
use Rattle.smp_frame.specs.declared.frame.Unit as unit
use Rattle.smp_strata.specs.Rows.{value_at, value_of, values_of, size_of, is_large}
use Rattle.smp_strata.proofs.Ranges.{none_passes}

module _ (units : List unit.Unit) (row column : ℕ) (values : List ℤ) (u : unit.Unit) (here : row < length units) (is : values ≡ (get_or units row u).balance) where
  pub value_read : get_or values column (pos 0) ≡ value_at units row column
  value_read = ap (λ v. get_or v column (pos 0)) (is ∙ sym (get_or-map (λ (w : unit.Unit). w.balance) units row u [] here))

  pub value_near : (columns : ℕ) → IsFrame units → HaveBalance columns units → column < columns → nat_abs (get_or values column (pos 0)) < 2 ^ 31
  value_near columns frame have within = rw is (frame.balance row u here column (pos 0) (omega (arith, within, have row u here)))

-- one more value is added in the code's numbers
pub added : (s v : ℤ) (i : ℕ) → i < most_rows → nat_abs v < 2 ^ 31 → neg_ℤ (pos (i * 2 ^ 31)) ≤ℤ s → s ≤ℤ pos (i * 2 ^ 31)
    → to_z w64 (of_z w64 (s +ℤ to_z w64 (of_z w64 (to_z w32 (of_z w32 v))))) ≡ s +ℤ v
added s v i few near low high =
    let short : SFits w32 v = omega (arith, ints, near) in
    let long : SFits w64 v = omega (arith, ints, near) in
    let sum : SFits w64 (s +ℤ v) = omega (arith, ints, near, low, high, few) in
    simp to_z-of_z

abbrev sum_bits : ℤ → ℤ → ℤ
sum_bits s v = to_z w64 (of_z w64 (s +ℤ to_z w64 (of_z w64 (to_z w32 (of_z w32 v)))))

pub added_low : (s v : ℤ) (i : ℕ) → i < most_rows → nat_abs v < 2 ^ 31 → neg_ℤ (pos (i * 2 ^ 31)) ≤ℤ s → s ≤ℤ pos (i * 2 ^ 31) → neg_ℤ (pos ((i + 1) * 2 ^ 31)) ≤ℤ sum_bits s v
added_low s v i few near low high = rw (added s v i few near low high) (omega (arith, ints, near, low))

pub added_high : (s v : ℤ) (i : ℕ) → i < most_rows → nat_abs v < 2 ^ 31 → neg_ℤ (pos (i * 2 ^ 31)) ≤ℤ s → s ≤ℤ pos (i * 2 ^ 31) → sum_bits s v ≤ℤ pos ((i + 1) * 2 ^ 31)
added_high s v i few near low high = rw (added s v i few near low high) (omega (arith, ints, near, high))

abbrev is_above : ℤ → Bool
is_above value = nat_le (2 ^ 31) (nat_abs value)

module _ (units : List unit.Unit) (columns : ℕ) (rows : List ℕ) where
  pub large_by_column : (k : ℕ) → k < columns → nat_le (2 ^ 31) (nat_abs (value_of units rows k)) ≡ true → is_large units columns rows ≡ true
  large_by_column k here above =
      or_right _ _ (list_any_at is_above (values_of units columns rows) k (pos 0) (omega (arith, here, length-map-range_with_len (value_of units rows) 0 columns))
      (ap is_above (get_or-map-range_with_len (value_of units rows) 0 columns k k (pos 0) here (omega arith)) ∙ above))

  pub none_more : (k : ℕ) → list_any is_above (map (value_of units rows) (range_with_len 0 k)) ≡ false → is_above (value_of units rows k) ≡ false
      → list_any is_above (map (value_of units rows) (range_with_len 0 (k + 1))) ≡ false
  none_more k before here =
      ap (list_any is_above) (map-range_with_len_more (value_of units rows) 0 k k (omega arith))
      ∙ list_any-append is_above (map (value_of units rows) (range_with_len 0 k)) _
      ∙ rw (before, here) refl

  pub small_size : is_large units columns rows ≡ false → size_of units rows < 2 ^ 31
  small_size e = leb-false (2 ^ 31) (size_of units rows) ((or_parts _ _ e).0)

  pub small_value : is_large units columns rows ≡ false → (k : ℕ) → k < columns → nat_abs (value_of units rows k) < 2 ^ 31
  small_value e k here =
      leb-false (2 ^ 31) (nat_abs (value_of units rows k)) (none_passes is_above (value_of units rows) 0 columns ((or_parts _ _ e).1) k (omega arith) (omega (arith, here)))

  pub small_values : is_large units columns rows ≡ false → AreSmall (values_of units columns rows)
  small_values e k d l =
      let here : k < columns = omega (arith, l, length-map-range_with_len (value_of units rows) 0 columns) in
      rw (get_or-map-range_with_len (value_of units rows) 0 columns k k d here (omega arith)) (small_value e k here)
