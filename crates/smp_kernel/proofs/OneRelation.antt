-- What is kept without a column of the one relation is independent.
use Rattle.std.proofs.Common.{◌≡◌, ◌≢◌, ℕ, zero, suc, ◌+◌, Bool, true, false, List, [], ◌∷◌, ◌++◌, ℤ, pos, neg_ℤ, ◌+ℤ◌, ◌*ℤ◌, length, length-append, map, get_or, take, arith, sym, refl, ap, ap₂, ◌∙◌, subst, inl, inr}
use Rattle.std.proofs.{lemmas.Bool.{cases_eq, true≢false}, lemmas.Int.{ints}}
use lib.IntN.{*ℤ_comm, *ℤ-zero, zero-*ℤ, +ℤ_idl}
use Rattle.smp_kernel.proofs.{Ring.{cancels, neg_zero, zero_of_product, zero_left, zero_right}, Lists.{split_last}}
use Rattle.smp_kernel.proofs.Dot.{unit_dot, entry-plus, entry-times, dot-plus, dot-times, dot-combination}
use Rattle.smp_kernel.proofs.CircuitLaw.{in_proportion, length-plus, length-times}
use Rattle.smp_kernel.specs.{Vectors.{entry, plus, times, dot, combination, unit, IsZero}, Minors.{keep}}
use Rattle.smp_kernel.specs.RowReduction.{AreIndependent, InForce, IsRelationOn}

-- ---- what is kept
-- factors for all columns, 0 at those that aren't kept
abbrev spread : List Bool → List ℤ → List ℤ
spread [] v = []
spread (false ∷ bs) v = pos 0 ∷ spread bs v
spread (true ∷ bs) [] = pos 0 ∷ spread bs []
spread (true ∷ bs) (x ∷ v) = x ∷ spread bs v

length-spread : (bs : List Bool) (v : List ℤ) → length (spread bs v) ≡ length bs
length-spread [] v = refl
length-spread (false ∷ bs) v = ap suc (length-spread bs v)
length-spread (true ∷ bs) [] = ap suc (length-spread bs [])
length-spread (true ∷ bs) (x ∷ v) = ap suc (length-spread bs v)

none_first : (k : ℕ) (c t : List ℤ) → entry (plus (times (pos 0) c) t) k ≡ entry t k
none_first k c t = entry-plus (times (pos 0) c) t k ∙ ap (λ z. z +ℤ entry t k) (entry-times (pos 0) c k ∙ zero-*ℤ (entry c k)) ∙ +ℤ_idl (entry t k)

same_sum : (bs : List Bool) (cs : List (List ℤ)) (v : List ℤ) → length bs ≡ length cs → (k : ℕ) → entry (combination (spread bs v) cs) k ≡ entry (combination v (keep bs cs)) k
same_sum [] cs [] l k = refl
same_sum [] cs (x ∷ v) l k = refl
same_sum (b ∷ bs) [] v l k = absurd (omega arith)
same_sum (false ∷ bs) (c ∷ cs) v l k = none_first k c (combination (spread bs v) cs) ∙ same_sum bs cs v (omega arith) k
same_sum (true ∷ bs) (c ∷ cs) [] l k = none_first k c (combination (spread bs []) cs) ∙ same_sum bs cs [] (omega arith) k
same_sum (true ∷ bs) (c ∷ cs) (x ∷ v) l k =
    entry-plus (times x c) (combination (spread bs v) cs) k ∙ ap (λ z. entry (times x c) k +ℤ z) (same_sum bs cs v (omega arith) k)
    ∙ sym (entry-plus (times x c) (combination v (keep bs cs)) k)

spread_off : (bs : List Bool) (v : List ℤ) (i : ℕ) → get_or bs i true ≡ false → entry (spread bs v) i ≡ pos 0
spread_off [] v i e = refl
spread_off (false ∷ bs) v zero e = refl
spread_off (false ∷ bs) v (suc i) e = spread_off bs v i e
spread_off (true ∷ bs) [] zero e = refl
spread_off (true ∷ bs) [] (suc i) e = spread_off bs [] i e
spread_off (true ∷ bs) (x ∷ v) zero e = absurd (true≢false e)
spread_off (true ∷ bs) (x ∷ v) (suc i) e = spread_off bs v i e

none_kept : (bs : List Bool) (cs : List (List ℤ)) (v : List ℤ) → length v ≡ length (keep bs cs) → length bs ≡ length cs → IsZero (spread bs v) → IsZero v
none_kept [] cs [] lv l z i = refl
none_kept [] cs (x ∷ v) lv l z i = absurd (omega arith)
none_kept (b ∷ bs) [] v lv l z i = absurd (omega arith)
none_kept (false ∷ bs) (c ∷ cs) v lv l z i = none_kept bs cs v lv (omega arith) (λ j. z (suc j)) i
none_kept (true ∷ bs) (c ∷ cs) [] lv l z i = refl
none_kept (true ∷ bs) (c ∷ cs) (x ∷ v) lv l z zero = z zero
none_kept (true ∷ bs) (c ∷ cs) (x ∷ v) lv l z (suc i) = none_kept bs cs v (omega arith) (omega arith) (λ j. z (suc j)) i

pub without_one : (q : ℕ) (columns : List (List ℤ)) (c : List ℤ) → AreIndependent q columns → (w : List ℤ) (last : ℤ) → last ≢ pos 0 →
    IsRelationOn (InForce q) (columns ++ c ∷ []) (w ++ last ∷ []) → (kept : List Bool) → length kept ≡ length columns + 1 → (i : ℕ) → entry (w ++ last ∷ []) i ≢ pos 0 →
    get_or kept i true ≡ false → AreIndependent q (keep kept (columns ++ c ∷ []))
without_one q columns c ind w last some rel kept lk i wi off v r =
    let lc : length kept ≡ length (columns ++ c ∷ []) = omega (arith, lk, length-append columns (c ∷ [])) in
    let ls : length (spread kept v) ≡ length columns + 1 = length-spread kept v ∙ lk in
    let split : spread kept v ≡ take (length columns) (spread kept v) ++ get_or (spread kept v) (length columns) (pos 0) ∷ [] = split_last (spread kept v) (length columns) ls in
    let whole : IsRelationOn (InForce q) (columns ++ c ∷ []) (spread kept v) = (length-spread kept v ∙ lc, λ k kq. same_sum kept (columns ++ c ∷ []) v lc k ∙ r.1 k kq) in
    let b : IsRelationOn (InForce q) (columns ++ c ∷ []) (take (length columns) (spread kept v) ++ get_or (spread kept v) (length columns) (pos 0) ∷ []) =
    subst (IsRelationOn (InForce q) (columns ++ c ∷ [])) split whole in
    let p = in_proportion c ind w last rel (take (length columns) (spread kept v)) (get_or (spread kept v) (length columns) (pos 0)) b in
    let back : (j : ℕ) → entry (take (length columns) (spread kept v) ++ get_or (spread kept v) (length columns) (pos 0) ∷ []) j ≡ entry (spread kept v) j = λ j. ap (λ (t : List ℤ). entry t j) (sym split) in
    let gone : get_or (spread kept v) (length columns) (pos 0) ≡ pos 0 =
    zero_of_product (entry (w ++ last ∷ []) i) (get_or (spread kept v) (length columns) (pos 0)) wi
    (*ℤ_comm (entry (w ++ last ∷ []) i) (get_or (spread kept v) (length columns) (pos 0)) ∙ p i ∙ ap (λ z. last *ℤ z) (back i ∙ spread_off kept v i off) ∙ *ℤ-zero last) in
    none_kept kept (columns ++ c ∷ []) v r.0 lc
    (λ j. sym (back j) ∙ zero_of_product last (entry (take (length columns) (spread kept v) ++ get_or (spread kept v) (length columns) (pos 0) ∷ []) j) some
    (sym (p j) ∙ zero_left (get_or (spread kept v) (length columns) (pos 0)) (entry (w ++ last ∷ []) j) gone))

-- ---- one row fewer
both_zero : (a b : ℤ) → a ≡ pos 0 → b ≡ pos 0 → a +ℤ b ≡ pos 0
both_zero a b p q = omega (arith, ints)

first_zero : (a b : ℤ) → a ≡ pos 0 → a +ℤ b ≡ pos 0 → b ≡ pos 0
first_zero a b p e = omega (arith, ints)

module _ (q : ℕ) (columns : List (List ℤ)) (ind : AreIndependent (suc q) columns) (w s : List ℤ) (a : IsRelationOn (InForce q) columns w) (b : IsRelationOn (InForce q) columns s) where
  at : List ℤ → ℕ → ℤ
  at x k = dot x (map (dot (unit k)) columns)

  at_is : (x : List ℤ) (k : ℕ) → entry (combination x columns) k ≡ at x k
  unfolding at
  at_is x k = sym (unit_dot (combination x columns) k) ∙ dot-combination (unit k) x columns

  mix : List ℤ
  mix = plus (times (at w q) s) (times (neg_ℤ (at s q)) w)

  mix_length : length mix ≡ length columns
  unfolding mix
  mix_length =
      length-plus (times (at w q) s) (times (neg_ℤ (at s q)) w) (length-times (at w q) s ∙ b.0 ∙ sym a.0 ∙ sym (length-times (neg_ℤ (at s q)) w)) ∙ length-times (at w q) s ∙ b.0

  mix_dot : (k : ℕ) → at mix k ≡ at w q *ℤ at s k +ℤ neg_ℤ (at s q) *ℤ at w k
  unfolding mix at
  mix_dot k =
      dot-plus (times (at w q) s) (times (neg_ℤ (at s q)) w) (map (dot (unit k)) columns)
      ∙ ap₂ (λ x y. x +ℤ y) (dot-times (at w q) s (map (dot (unit k)) columns)) (dot-times (neg_ℤ (at s q)) w (map (dot (unit k)) columns))

  mix_at : (k : ℕ) → entry (combination mix columns) k ≡ at w q *ℤ at s k +ℤ neg_ℤ (at s q) *ℤ at w k
  mix_at k = at_is mix k ∙ mix_dot k

  mix_zero : IsZero mix
  mix_zero =
      ind mix (
        mix_length,
        λ k l. mix_at k ∙ elim (cases_eq k q) [
          | inl e ↦ ap (λ x. at w q *ℤ at s x +ℤ neg_ℤ (at s q) *ℤ at w x) e ∙ cancels (at w q) (at s q)
          | inr ne ↦ both_zero (at w q *ℤ at s k) (neg_ℤ (at s q) *ℤ at w k)
              (zero_right (at w q) (at s k) (sym (at_is s k) ∙ b.1 k (omega arith))) (zero_right (neg_ℤ (at s q)) (at w k) (sym (at_is w k) ∙ a.1 k (omega arith)))
        ],
      )

  -- where the second is 0 at a place and the first isn't, the second is 0
  pub other_zero : (i : ℕ) → entry w i ≢ pos 0 → entry s i ≡ pos 0 → IsZero s
  unfolding mix
  other_zero i wi si =
      let e : at w q *ℤ entry s i +ℤ neg_ℤ (at s q) *ℤ entry w i ≡ pos 0 =
      sym (ap₂ (λ x y. x +ℤ y) (entry-times (at w q) s i) (entry-times (neg_ℤ (at s q)) w i)) ∙ sym (entry-plus (times (at w q) s) (times (neg_ℤ (at s q)) w) i) ∙ mix_zero i in
      let z : neg_ℤ (at s q) *ℤ entry w i ≡ pos 0 = first_zero (at w q *ℤ entry s i) (neg_ℤ (at s q) *ℤ entry w i) (zero_right (at w q) (entry s i) si) e in
      let n : neg_ℤ (at s q) ≡ pos 0 = zero_of_product (entry w i) (neg_ℤ (at s q)) wi (*ℤ_comm (entry w i) (neg_ℤ (at s q)) ∙ z) in
      ind s (
        b.0,
        λ k l. elim (cases_eq k q) [
          | inl e ↦ ap (λ x. entry (combination s columns) x) e ∙ at_is s q ∙ neg_zero (at s q) n
          | inr ne ↦ b.1 k (omega arith)
        ],
      )

pub fewer_rows : (q : ℕ) (columns : List (List ℤ)) → AreIndependent (suc q) columns → (w : List ℤ) → IsRelationOn (InForce q) columns w → (kept : List Bool) → length kept ≡ length columns →
    (i : ℕ) → entry w i ≢ pos 0 → get_or kept i true ≡ false → AreIndependent q (keep kept columns)
fewer_rows q columns ind w a kept lk i wi off v r =
    none_kept kept columns v r.0 lk
    (other_zero q columns ind w (spread kept v) a (length-spread kept v ∙ lk, λ k kq. same_sum kept columns v lk k ∙ r.1 k kq) i wi (spread_off kept v i off))
