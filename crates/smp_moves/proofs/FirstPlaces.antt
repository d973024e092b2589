-- The first places of an array whose other places are 0.
use Rattle.std.proofs.Common.{◌≡◌, ℕ, ◌<◌, ◌≤◌, ◌^◌, List, ℤ, pos, take, length, arith, sym, ◌∙◌, inl, inr, length-take, get_or-take}
use Rattle.std.proofs.{lemmas.Bool.{cases_lt}, lemmas.List.{ext_get_or, get_or_past}}
use Rattle.smp_kernel.specs.{Vectors.{entry, IsZero, Within}, Reduced.{IsReduced, IsTooLong, primitive_part}}
use Rattle.smp_kernel.proofs.Ring.{positive_some, zero_of_product}
use Rattle.smp_kernel.proofs.Reduce.{primitive_part_is, length-primitive_part, one_reduced, reduced_within}

same_rows : (row other e : List ℤ) → ((i : ℕ) → entry row i ≡ entry other i) → IsReduced row e → IsReduced other e
same_rows row other e h r = record { primitive = r.primitive; divisor = r.divisor; positive = r.positive; product = λ j. r.product j ∙ h j }

module _ (row : List ℤ) (n : ℕ) (past : (j : ℕ) → n ≤ j → entry row j ≡ pos 0) where
  -- a row that is 0 from a place on
  front_row : (i : ℕ) → entry (take n row) i ≡ entry row i
  front_row i =
      elim (cases_lt i n) [
        | inl l ↦ get_or-take n row i (pos 0) l
        | inr m ↦ get_or_past (take n row) i (pos 0) (omega (arith, m, length-take n row)) ∙ sym (past i m)
      ]

  pub past_reduced : (e : List ℤ) → IsReduced row e → (j : ℕ) → n ≤ j → entry e j ≡ pos 0
  past_reduced e r j l = zero_of_product r.divisor (entry e j) (positive_some r.divisor r.positive) (r.product j ∙ past j l)

  pub front_is : (e : List ℤ) → n ≤ length row → length e ≡ length row → (IsZero (take n row) → ⊥) → IsReduced row e → take n e ≡ primitive_part (take n row)
  front_is e lr le some r =
      let whole : IsReduced (take n row) e = same_rows row (take n row) e (λ i. sym (front_row i)) r in
      ext_get_or (pos 0) (take n e) (primitive_part (take n row)) (omega (arith, length-take n e, length-take n row, length-primitive_part (take n row)))
      (λ k l. (let b : k < n = omega (arith, l, length-take n e) in get_or-take n e k (pos 0) b ∙ one_reduced (take n row) e (primitive_part (take n row)) whole (primitive_part_is (take n row) some) k))

  -- where the reduced row is too long, so is the direction
  pub front_long : (IsZero (take n row) → ⊥) → IsTooLong row → Within (2 ^ 44) (primitive_part (take n row)) → ⊥
  front_long some t w =
      t.long (reduced_within (2 ^ 44) (take n row) (primitive_part (take n row)) t.reduced (primitive_part_is (take n row) some) (same_rows row (take n row) t.reduced (λ i. sym (front_row i)) t.is) w)

-- a row that is 0 is so in its first places
pub zero_front : (row : List ℤ) (n : ℕ) → IsZero row → IsZero (take n row)
zero_front row n z i =
    elim (cases_lt i n) [
      | inl l ↦ get_or-take n row i (pos 0) l ∙ z i
      | inr m ↦ get_or_past (take n row) i (pos 0) (omega (arith, m, length-take n row))
    ]
