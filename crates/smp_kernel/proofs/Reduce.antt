-- A row divided by its content.
use Rattle.std.proofs.Common.{◌≡◌, ℕ, zero, ◌+◌, ◌*◌, ◌<◌, ◌≤◌, ◌^◌, List, ℤ, pos, ◌*ℤ◌, ◌<ℤ◌, length, arith, sym, subst, ap, ◌∙◌, refl, inl, inr, suc, eq-zero-or-pos}
use Rattle.std.proofs.{lemmas.Int.{ints, unsigned_abs-mul}, lemmas.Bool.{cases_lt}, lemmas.List.{get_or_past, get_or-map, length-map}}
use Rattle.std.specs.Int.RustNames.{unsigned_abs, int_div}
use Rattle.smp_kernel.proofs.{Quotients.{exact}, Limits.{Within-same}, Ring.{abs_zero, positive_some}}
use Rattle.smp_kernel.proofs.Primitive.{cancel_left, cancel_factor, factors_same, same_sizes, one_from_le}
use Rattle.std.proofs.Math.Nat.{le_of_dvd, mul-dvd-mul_left, eq-zero_of_zero-dvd, dvd-zero, dvd-mul_left, pos_of_dvd_of_pos}
use Prim.Native.Nat.{◌∣◌}
use Rattle.smp_kernel.specs.Vectors.{entry, IsZero, IsPrimitive, Within}
use Rattle.std.proofs.lemmas.Nat.Gcd.{dvd_trans}
use Rattle.smp_frac.specs.{Divisors.{IsContent, IsContentOfFirst, greatest_common_divisor}, Laws.Gcds.{IsGcd-greatest_common_divisor}}
use Rattle.smp_frac.proofs.Contents.{content_more}
use Rattle.smp_kernel.specs.Reduced.{IsReduced, IsTooLong, content_of_first, primitive_part, quotients}
use lib.IntN.{*ℤ-zero}

-- a divisor of a smaller number: that number is 0
small_multiple : (g n : ℕ) → g ∣ n → n < g → n ≡ 0
small_multiple g n d l = elim (eq-zero-or-pos n) [ inl z ↦ z | inr p ↦ absurd (let k : g ≤ n = le_of_dvd p d in omega arith) ]

module _ (row : List ℤ) (g : ℕ) (c : IsContent row g) (some : IsZero row → ⊥) where
  all_zero : ((i : ℕ) → i < length row → unsigned_abs (entry row i) ≡ 0) → ⊥
  all_zero h = some (λ i. elim (cases_lt i (length row)) [ inl l ↦ abs_zero (entry row i) (h i l) | inr m ↦ get_or_past row i (pos 0) m ])

  pub content_positive : 0 < g
  content_positive = elim (eq-zero-or-pos g) [ inl z ↦ absurd (all_zero (λ i l. let d : 0 ∣ unsigned_abs (entry row i) = subst (λ (x : ℕ). x ∣ unsigned_abs (entry row i)) z (c.0 i l) in eq-zero_of_zero-dvd d)) | inr p ↦ p ]

  pub content_at_most : (n : ℕ) → Within n row → g ≤ n
  content_at_most n w =
      elim (cases_lt n g) [ inl l ↦ absurd (all_zero (λ i b. small_multiple g (unsigned_abs (entry row i)) (c.0 i b) (let k : unsigned_abs (entry row i) ≤ n = w i (pos 0) b in omega arith))) | inr m ↦ m ]

  product_abs : (e : List ℤ) (h : ℕ) (i : ℕ) → pos h *ℤ entry e i ≡ entry row i → h * unsigned_abs (entry e i) ≡ unsigned_abs (entry row i)
  product_abs e h i p = sym (unsigned_abs-mul (pos h) (entry e i)) ∙ ap unsigned_abs p

  reduced_primitive : (e : List ℤ) → ((i : ℕ) → pos g *ℤ entry e i ≡ entry row i) → IsPrimitive e
  reduced_primitive e p d all =
      let k : g * d ∣ g = c.1 (g * d) (λ i b. subst (λ (x : ℕ). g * d ∣ x) (product_abs e g i (p i)) (mul-dvd-mul_left d g (all i))) in
      let pd : 0 < d = pos_of_dvd_of_pos (dvd_trans d (dvd-mul_left d g) k) content_positive in
      one_from_le d g pd content_positive (let le : g * d ≤ g = le_of_dvd content_positive k in omega arith)

pub is_reduced : (row : List ℤ) (g : ℕ) (c : IsContent row g) (some : IsZero row → ⊥) (e : List ℤ) → length e ≡ length row → ((i : ℕ) → i < length row → pos g *ℤ entry e i ≡ entry row i) → IsReduced row e
is_reduced row g c some e l p =
    let all : (i : ℕ) → pos g *ℤ entry e i ≡ entry row i = λ i. elim (cases_lt i (length row)) [
      | inl b ↦ p i b
      | inr m ↦ ap (λ x. pos g *ℤ x) (get_or_past e i (pos 0) (omega arith)) ∙ *ℤ-zero (pos g) ∙ sym (get_or_past row i (pos 0) m)
    ] in
    record { primitive = reduced_primitive row g c some e all; divisor = pos g; positive = (let k : 0 < g = content_positive row g c some in omega (arith, ints)); product = all }

-- ---- the quotients
length_quotients : (g : ℕ) (row : List ℤ) → length (quotients g row) ≡ length row
length_quotients g row = length-map row (λ e. int_div e (pos g))

entry_quotients : (g : ℕ) (row : List ℤ) (j : ℕ) → j < length row → entry (quotients g row) j ≡ int_div (entry row j) (pos g)
entry_quotients g row j l = get_or-map (λ e. int_div e (pos g)) row j (pos 0) (pos 0) l

same_factor : (g : ℕ) (a b : ℤ) → 0 < g → pos g *ℤ a ≡ pos g *ℤ b → unsigned_abs a ≡ unsigned_abs b
same_factor g a b p e = cancel_left g (unsigned_abs a) (unsigned_abs b) p (sym (unsigned_abs-mul (pos g) a) ∙ ap unsigned_abs e ∙ unsigned_abs-mul (pos g) b)

pub too_long : (row : List ℤ) (g : ℕ) (c : IsContent row g) (some : IsZero row → ⊥) (q : ℤ) (j : ℕ) → j < length row → pos g *ℤ q ≡ entry row j → 2 ^ 44 < unsigned_abs q → IsTooLong row
too_long row g c some q j b pq large =
    let each : (i : ℕ) → i < length row → pos g *ℤ entry (quotients g row) i ≡ entry row i =
    λ i l. ap (λ x. pos g *ℤ x) (entry_quotients g row i l) ∙ exact (entry row i) g (c.0 i l) in
    record {
      reduced = quotients g row;
      is = is_reduced row g c some (quotients g row) (length_quotients g row) each;
      long = λ w.
          let s : unsigned_abs (entry (quotients g row) j) ≡ unsigned_abs q = same_factor g (entry (quotients g row) j) q (content_positive row g c some) (each j b ∙ sym pq) in
          let h : unsigned_abs (entry (quotients g row) j) ≤ 2 ^ 44 = w j (pos 0) (omega (arith, length_quotients g row)) in
          omega arith;
    }

-- ---- every row that isn't 0 can be reduced
content_first : (row : List ℤ) (n : ℕ) → IsContentOfFirst n row (content_of_first n row)
content_first row zero = ((λ i l. absurd (omega arith)), (λ d h. dvd-zero d))
content_first row (suc n) =
    let g : ℕ = content_of_first n row in
    let e : n + 1 ≡ suc n = omega arith in
    subst (λ (m : ℕ). IsContentOfFirst m row (greatest_common_divisor g (unsigned_abs (entry row n)))) e
    (content_more row n g (unsigned_abs (entry row n)) (greatest_common_divisor g (unsigned_abs (entry row n))) refl (content_first row n) (IsGcd-greatest_common_divisor g (unsigned_abs (entry row n))))

pub length-primitive_part : (row : List ℤ) → length (primitive_part row) ≡ length row
unfolding primitive_part
length-primitive_part row = length_quotients (content_of_first (length row) row) row

pub primitive_part_is : (row : List ℤ) → (IsZero row → ⊥) → IsReduced row (primitive_part row)
unfolding primitive_part
primitive_part_is row some =
    let g : ℕ = content_of_first (length row) row in
    let c = content_first row (length row) in
    is_reduced row g c some (quotients g row) (length_quotients g row) (λ i l. ap (λ x. pos g *ℤ x) (entry_quotients g row i l) ∙ exact (entry row i) g (c.0 i l))

-- and has one reduced row
pub one_reduced : (row e f : List ℤ) → IsReduced row e → IsReduced row f → (i : ℕ) → entry e i ≡ entry f i
one_reduced row e f r s i =
    let both : (j : ℕ) → r.divisor *ℤ entry e j ≡ s.divisor *ℤ entry f j = λ j. r.product j ∙ sym (s.product j) in
    let sizes : unsigned_abs r.divisor ≡ unsigned_abs s.divisor = factors_same r.divisor s.divisor e f (positive_some r.divisor r.positive) (positive_some s.divisor s.positive) r.primitive s.primitive both in
    let same : r.divisor ≡ s.divisor = same_positive r.divisor s.divisor r.positive s.positive sizes in
    cancel_factor r.divisor (entry e i) (entry f i) (positive_some r.divisor r.positive) (both i ∙ ap (λ z. z *ℤ entry f i) (sym same))
  where
    same_positive : (x y : ℤ) → pos 0 <ℤ x → pos 0 <ℤ y → unsigned_abs x ≡ unsigned_abs y → x ≡ y
    same_positive x y p q h = omega (arith, ints)

-- within any limit that another one keeps
pub reduced_within : (limit : ℕ) (row e f : List ℤ) → IsReduced row e → IsReduced row f → Within limit e → Within limit f
reduced_within limit row e f r s w =
    Within-same limit e f (same_sizes s.divisor r.divisor f e (positive_some s.divisor s.positive) (positive_some r.divisor r.positive) s.primitive r.primitive (λ i. s.product i ∙ sym (r.product i))) w
