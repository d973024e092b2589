-- Where the columns of fractional units are independent in rows of strata alone, no two of the units are of one stratum.
use Rattle.std.proofs.Common.{◌≡◌, ℕ, zero, suc, ◌<◌, ◌≤◌, None, ℤ, pos, neg_ℤ, ◌+ℤ◌, ◌*ℤ◌, List, [], ◌∷◌, map, take, length, get_or, arith, refl, sym, ap, ap₂, ◌∙◌, inl, inr, le_of_suc-le-suc}
use Rattle.std.proofs.{lemmas.Bool.{cases_eq}, lemmas.Int.{ints}, lemmas.List.{get_or-map, length-map}, lemmas.Simd.{map-map}}
use lib.IntN.{zero-*ℤ}
use Rattle.smp_frac.proofs.Integers.{diff, diff-neg, diff-same, diffs, pos-diff}
use Rattle.smp_kernel.specs.{RowReduction.{AreIndependent, cut}, Vectors.{combination, dot, entry, plus, times, unit}}
use Rattle.smp_kernel.proofs.{CircuitLaw.{length-times}, Dot.{dot-plus, dot-times, dot-unit, unit_dot, unit_past, unit_same}, FoundCircuits.{dot_row, in_row_cut}}
use Rattle.smp_stratcube.specs.{declared.values.Value.{Value}, Units.{IsUnits, Units, column, columns_of, stratum}, Pairs.{IsPairOf}}
use Rattle.smp_stratcube.specs.{Values.{fractional_units}, Laws.Units.{fractional_in, order_going}}
use Rattle.smp_stratcube.proofs.{FirstPairs.{one_by_one}, Totals.{number_in}}

-- ---- vectors

length_longer : (a b : List ℤ) → length a ≤ length b → length (plus a b) ≡ length b
length_longer [] b l = refl
length_longer (x ∷ a) [] l = absurd (omega (arith, l))
length_longer (x ∷ a) (y ∷ b) l = ap suc (length_longer a b (le_of_suc-le-suc l))

length-unit : (k : ℕ) → length (unit k) ≡ suc k
length-unit zero = refl
length-unit (suc k) = ap suc (length-unit k)

cancels : (x y : ℕ) → pos y *ℤ pos x +ℤ (neg_ℤ (pos x) *ℤ pos y +ℤ pos 0) ≡ pos 0
cancels x y =
    let negative : neg_ℤ (pos x) ≡ diff 0 x = ap neg_ℤ (pos-diff x) ∙ diff-neg x 0 in
    ap (λ (z : ℤ). pos y *ℤ pos x +ℤ (z *ℤ pos y +ℤ pos 0)) negative ∙ (simp diffs (diff-same _ _ _ _ (omega arith)))

none_first : (x y : ℤ) → x *ℤ pos 0 +ℤ (y *ℤ pos 0 +ℤ pos 0) ≡ pos 0
none_first x y = omega (arith, ints)

-- ---- of units in some order

module _ (units : Units) (are : IsUnits units) (rows : ℕ) (of_strata : rows ≤ length units.firsts) (order : List ℕ)
    (within : (j : ℕ) → j < length order → get_or order j 0 < length units.members) (free : AreIndependent rows (cut rows (columns_of units order))) where
  never_two : (p q : ℕ) → p < q → q < length order → stratum units (get_or order p 0) ≡ stratum units (get_or order q 0) → ⊥
  never_two p q l m same =
      let i : ℕ = get_or order p 0 in
      let j : ℕ = get_or order q 0 in
      let p_in : p < length order = omega (arith, l, m) in
      let x : ℤ = pos (are.size j) in
      let y : ℤ = neg_ℤ (pos (are.size i)) in
      -- the second size at the first place, and the first size with the other sign at the second
      let zeros : List ℤ = times (pos 0) (map (number_in units 0) order) in
      let second : List ℤ = plus (times y (unit q)) zeros in
      let w : List ℤ = plus (times x (unit p)) second in
      let zeros_count : length zeros ≡ length order = length-times (pos 0) (map (number_in units 0) order) ∙ length-map order (number_in units 0) in
      let second_count : length second ≡ length order = length_longer (times y (unit q)) zeros (omega (arith, m, zeros_count, length-times y (unit q), length-unit q)) ∙ zeros_count in
      let count : length w ≡ length order = length_longer (times x (unit p)) second (omega (arith, p_in, second_count, length-times x (unit p), length-unit p)) ∙ second_count in
      let at : (c : List ℤ) → dot w c ≡ x *ℤ entry c p +ℤ (y *ℤ entry c q +ℤ pos 0) = λ c.
      dot-plus (times x (unit p)) second c
      ∙ ap₂ (λ a b. a +ℤ b) (dot-times x (unit p) c ∙ ap (λ z. x *ℤ z) (unit_dot c p))
      (dot-plus (times y (unit q)) zeros c ∙ ap₂ (λ a b. a +ℤ b) (dot-times y (unit q) c ∙ ap (λ z. y *ℤ z) (unit_dot c q)) (dot-times (pos 0) (map (number_in units 0) order) c ∙ zero-*ℤ (dot (map (number_in units 0) order) c))) in
      let relation : (row : ℕ) → row < rows → entry (combination w (cut rows (columns_of units order))) row ≡ pos 0 = λ row b.
      sym (dot_row row w (cut rows (columns_of units order)))
      ∙ ap (dot w) (in_row_cut rows row b (columns_of units order) ∙ map-map (λ (c : List ℤ). entry c row) (column units) order)
      ∙ at (map (number_in units row) order)
      ∙ ap₂ (λ a b. x *ℤ a +ℤ (y *ℤ b +ℤ pos 0)) (get_or-map (number_in units row) order p 0 (pos 0) p_in) (get_or-map (number_in units row) order q 0 (pos 0) m)
      ∙ row_cancels i j (within p p_in) (within q m) same row (omega (arith, b, of_strata)) in
      let none : entry w p ≡ pos 0 = free w (count ∙ sym (length-map (columns_of units order) (take rows) ∙ length-map order (column units)), relation) p in
      let some : entry w p ≡ x *ℤ pos 1 +ℤ (y *ℤ pos 0 +ℤ pos 0) = sym (dot-unit w p) ∙ at (unit p) ∙ ap₂ (λ a b. x *ℤ a +ℤ (y *ℤ b +ℤ pos 0)) (unit_same p) (unit_past p q l) in
      omega (arith, ints, none, some, are.some_size j (within q m))
    where
      row_cancels : (i j : ℕ) → i < length units.members → j < length units.members → stratum units i ≡ stratum units j → (row : ℕ) → row < length units.firsts →
          pos (are.size j) *ℤ number_in units row i +ℤ (neg_ℤ (pos (are.size i)) *ℤ number_in units row j +ℤ pos 0) ≡ pos 0
      row_cancels i j li lj same row b =
          elim (cases_eq row (stratum units i)) [
            | inl e ↦
                (let a : number_in units row i ≡ pos (are.size i) = ap (entry (column units i)) e ∙ are.own_row i li in
                let c : number_in units row j ≡ pos (are.size j) = ap (entry (column units j)) (e ∙ same) ∙ are.own_row j lj in
                rw (a, c) (cancels (are.size i) (are.size j)))
            | inr ne ↦
                (let a : number_in units row i ≡ pos 0 = are.other_rows i row li b ne in
                let c : number_in units row j ≡ pos 0 = are.other_rows j row lj b (λ e. ne (e ∙ sym same)) in
                rw (a, c) (none_first (pos (are.size j)) (neg_ℤ (pos (are.size i)))))
          ]

-- of the fractional units
pub alone_in : (units : Units) → IsUnits units → (rows : ℕ) → rows ≤ length units.firsts → (values : List Value) → length values ≡ length units.members →
    AreIndependent rows (cut rows (columns_of units (fractional_units values))) → IsPairOf units values None
alone_in units are rows of_strata values count free =
    one_by_one units values (never_two units are rows of_strata (fractional_units values)
    (λ j l. omega (arith, fractional_in values (get_or (fractional_units values) j 0) (order_going values j l), count)) free)
