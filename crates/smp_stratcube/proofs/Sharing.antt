-- The denominator of some fractions a / d in lowest terms is d, without what it has in common with all numerators.
use Rattle.std.proofs.Common.{◌≡◌, ◌≢◌, ℕ, ℤ, pos, ◌*◌, ◌/◌, ◌<◌, ◌≤◌, ◌&&◌, mul-pos, true, false, Option, Some, None, List, [], ◌∷◌, arith, inl, inr, refl, sym, ap, ◌∙◌, subst}
use Rattle.std.proofs.{lemmas.Bool.{cases_Bool, ne_eqb}, lemmas.Nat.Gcd.{dvd_antisymm, dvd_refl, dvd_trans}}
use Rattle.std.proofs.Math.Nat.{div_self, dvd-mul_left, mul-dvd-mul_left, dvd_of_mul-dvd-mul_left, mul-div_cancel', mul-div_cancel_left, pos_of_dvd_of_pos}
use Rattle.std.specs.{Int.{IsGcd}, Int.RustNames.{unsigned_abs}}
use Prim.Native.Nat.{◌∣◌}
use Rattle.smp_frac.specs.{Divisors.{greatest_common_divisor, IsCommonMultiple, IsLeastMultiple}, Laws.Gcds.{IsGcd-greatest_common_divisor}}
use Rattle.smp_frac.specs.Laws.Coprime.{IsGcd-times, coprime_parts, part_positive}
use Rattle.smp_kernel.proofs.Ring.{abs_zero}
use Rattle.smp_prob.specs.Given.{least_multiple}
use Rattle.smp_prob.proofs.Multiples.{least_multiple_is}
use Rattle.smp_values.specs.Values.{fractional}
use Rattle.smp_moves.specs.{declared.reaches.Reach.{Reach}, Ends.{advanced, lowest}}
use Rattle.smp_moves.proofs.Multiples.{AllDivide, AllSome, from, from_each, from_least, from_some, from_start, least}
use Rattle.smp_stratcube.specs.{declared.values.Value.{Value}, Kept.Gates.{IsSome, gated, held, with_unit}, Kept.Computed.{moved_value}}
use Rattle.smp_stratcube.specs.Laws.Taken.{lowest_fractional}
use Rattle.smp_stratcube.proofs.Gated.{gate_all, gate_held, gate_none}

-- ---- one number more

quotient_within : (d k h : ℕ) → 0 < k → k ∣ h → h ∣ d → d / k ≡ h / k * (d / h)
quotient_within d k h p kh hd =
    let e : k * (h / k) ≡ h = mul-div_cancel' k kh in
    let f : h * (d / h) ≡ d = mul-div_cancel' h hd in
    ap (λ x. x / k) (sym f ∙ ap (λ x. x * (d / h)) (sym e) ∙ (omega arith)) ∙ mul-div_cancel_left (h / k * (d / h)) p

module _ (a d g : ℕ) (some : 1 ≤ d) (gd : g ∣ d) where
  abbrev k : ℕ
  k = greatest_common_divisor a g

  abbrev h : ℕ
  h = greatest_common_divisor a d

  is_k : IsGcd a g k
  is_k = IsGcd-greatest_common_divisor a g

  is_h : IsGcd a d h
  is_h = IsGcd-greatest_common_divisor a d

  k_some : 0 < k
  k_some = pos_of_dvd_of_pos is_k.1 (pos_of_dvd_of_pos gd some)

  kd : k ∣ d
  kd = dvd_trans k is_k.1 gd

  -- what both divide
  least_shared : (n : ℕ) → IsCommonMultiple (d / g) (d / h) n → d / k ∣ n
  least_shared n both =
      let factor = IsGcd-times (k * n) (a / k) (g / k) (mul-pos k_some both.positive) (coprime_parts a g k k_some is_k) in
      let ea : h * (a / h) ≡ a = mul-div_cancel' h is_h.0 in
      let ey : k * (a / k) ≡ a = mul-div_cancel' k is_k.0 in
      let ex : k * (g / k) ≡ g = mul-div_cancel' k is_k.1 in
      let P : ℕ → Type 0 = λ z. d ∣ z in
      let in_h : d ∣ h * n = subst (λ (z : ℕ). z ∣ h * n) (mul-div_cancel' h is_h.1) (mul-dvd-mul_left (d / h) h both.second) in
      let in_g : d ∣ g * n = subst (λ (z : ℕ). z ∣ g * n) (mul-div_cancel' g gd) (mul-dvd-mul_left (d / g) g both.first) in
      let in_a : d ∣ k * n * (a / k) = subst P ((omega arith) ∙ ap (λ z. z * n) (ea ∙ sym ey) ∙ (omega arith)) (dvd_trans d in_h (dvd-mul_left (h * n) (a / h))) in
      let in_k : d ∣ k * n * (g / k) = subst P (ap (λ z. z * n) (sym ex) ∙ (omega arith)) in_g in
      dvd_of_mul-dvd-mul_left (d / k) k_some (subst (λ (z : ℕ). z ∣ k * n) (sym (mul-div_cancel' k kd)) (factor.2 d in_a in_k))

  shared_least : IsLeastMultiple (d / g) (lowest a d).den (d / k)
  shared_least = record {
    common = record {
      positive = part_positive d k some kd;
      first = subst (λ (z : ℕ). d / g ∣ z) (sym (quotient_within d k g k_some is_k.1 gd)) (dvd-mul_left (d / g) (g / k));
      second = subst (λ (z : ℕ). d / h ∣ z) (sym (quotient_within d k h k_some (is_h.2 k is_k.0 kd) is_h.1)) (dvd-mul_left (d / h) (h / k));
    };
    least = least_shared;
  }

  shared_is : d / greatest_common_divisor a g ≡ least_multiple (d / g) (lowest a d).den
  shared_is = least_multiple_is (d / g) (lowest a d).den (d / k) (part_positive d g some gd) (part_positive d h some is_h.1) shared_least

-- ---- held to the gate

-- two lists of numbers that divide the same numbers
gate_same : (m : Option ℕ) (a : ℕ) (xs : List ℕ) (b : ℕ) (ys : List ℕ) → IsSome m → AllSome (a ∷ xs) → AllSome (b ∷ ys) → ((n : ℕ) → 1 ≤ n → AllDivide (a ∷ xs) n → AllDivide (b ∷ ys) n) →
    ((n : ℕ) → 1 ≤ n → AllDivide (b ∷ ys) n → AllDivide (a ∷ xs) n) → gate_all m (a ∷ xs) ≡ gate_all m (b ∷ ys)
gate_same None a xs b ys is px py to back = gate_none xs ∙ sym (gate_none ys)
gate_same (Some c) a xs b ys pc px py to back =
    gate_held (least_multiple c a) xs (least c a pc px.0).common.positive px.1
    ∙ ap held (dvd_antisymm (within (a ∷ xs) (b ∷ ys) px py back) (within (b ∷ ys) (a ∷ xs) py px to))
    ∙ sym (gate_held (least_multiple c b) ys (least c b pc py.0).common.positive py.1)
  where
    within : (us vs : List ℕ) → AllSome us → AllSome vs → ((n : ℕ) → 1 ≤ n → AllDivide vs n → AllDivide us n) → from c us ∣ from c vs
    within us vs pu pv all = (let some = from_some c vs pc pv in from_least c us (from c vs) pc pu some (from_start c vs pc pv) (all (from c vs) some (from_each c vs pc pv)))

-- of no unit
pub joined_start : (full : ℕ) → 1 ≤ full → gated (Some 1) (full / full) ≡ Some 1
joined_start full some =
    ap (gated (Some 1)) (div_self some)
    ∙ ap held (sym (least_multiple_is 1 1 1 (omega arith) (omega arith) (record {
      common = record { positive = omega arith; first = dvd_refl 1; second = dvd_refl 1 };
      least = λ n both. both.first;
    })))

-- ---- a unit more, where q is the denominator of those on the line so far

-- one that isn't on the line
pub joined_off : (first q : ℕ) (v : Value) (m : Option ℕ) → IsSome m → 1 ≤ first → 1 ≤ v.at.den → 1 ≤ q → gated (with_unit first v m) q ≡ with_unit first v (gated m q)
joined_off first q v m some pf pv pq =
    elim (cases_Bool (v.touched && fractional v.at.den v.at.num)) [
      | inl t ↦ rw t (gate_same m first (v.at.den ∷ q ∷ []) q (first ∷ v.at.den ∷ []) some (pf, (pv, (pq, tt))) (pq, (pf, (pv, tt)))
          (λ n p d. (d.1.1.0, (d.0, (d.1.0, tt)))) (λ n p d. (d.1.0, (d.1.1.0, (d.0, tt)))))
      | inr f ↦ rw f refl
    ]

module _ (first a d g : ℕ) (m : Option ℕ) (some : 1 ≤ d) (gd : g ∣ d) where
  -- one that is settled there
  pub joined_out : fractional d a ≡ false → gated m (d / g) ≡ with_unit first (record { at = lowest a d; touched = true }) (gated m (d / g))
  joined_out f = rw (lowest_fractional a d some, f) refl

  -- one that is fractional there
  pub joined_on : IsSome m → 1 ≤ first → fractional d a ≡ true → gated (gated m first) (d / greatest_common_divisor a g) ≡ with_unit first (record { at = lowest a d; touched = true }) (gated m (d / g))
  joined_on is pf t =
      let q : ℕ = d / g in
      let pq : 1 ≤ q = part_positive d g some gd in
      let den : ℕ = (lowest a d).den in
      let pden : 1 ≤ den = part_positive d (greatest_common_divisor a d) some (IsGcd-greatest_common_divisor a d).1 in
      let both = least q den pq pden in
      ap (gated (gated m first)) (shared_is a d g some gd)
      ∙ gate_same m first (least_multiple q den ∷ []) q (first ∷ den ∷ []) is (pf, (both.common.positive, tt)) (pq, (pf, (pden, tt)))
      (λ n p h. (dvd_trans q both.common.first h.1.0, (h.0, (dvd_trans den both.common.second h.1.0, tt))))
      (λ n p h. (h.1.0, (both.least n (record { positive = p; first = h.0; second = h.1.1.0 }), tt)))
      ∙ (rw (lowest_fractional a d some, t) refl)

-- ---- the value at an end

pub moved_over : (v : Value) (den : ℕ) (r : Reach) (e : ℤ) (n : ℕ) → e ≢ pos 0 → n ≡ advanced (v.at.num * (den / v.at.den)) r e → moved_value v den r e ≡ record { at = lowest n (den * r.size); touched = true }
moved_over v den r e n some is = rw (ne_eqb (unsigned_abs e) 0 (λ z. some (abs_zero e z))) (ap (λ (x : ℕ). record { at = lowest x (den * r.size); touched = true }) (sym is))
