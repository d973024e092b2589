-- Parts of weight 1, and parts whose states are put into others.
use Rattle.std.proofs.Common.{◌≡◌, ◌≢◌, ℕ, zero, suc, ◌+◌, ◌-◌, ◌<◌, ◌≤◌, nat_eq, nat_lt, List, []}
use Rattle.std.proofs.Common.{◌∷◌, map, arith, refl, sym, ap, subst, ◌∙◌, inl, inr}
use Rattle.std.specs.List.{range_with_len, sum_by}
use Rattle.std.proofs.lemmas.Bool.{cases_Bool, ltb-true, ltb-false, eqb-true, eqb-false}
use Rattle.std.proofs.lemmas.List.Sums.{sum_by-cons}
use Rattle.smp_frac.specs.Fractions.{Fraction, Same, whole, plus, times}
use Rattle.smp_split.specs.Trees.{Part, EachPart, weight_sum, picked, weighted, weighted_number}
use Rattle.smp_split.specs.Parts.{equal_parts, moved, part_of_weight}
use Rattle.smp_frac.proofs.Arithmetic.{same_refl, same_sym, same_trans, plus_same, times_same, plus-times, plus-zero, zero-times}
use Rattle.smp_frac.proofs.Integers.{diff-same, diffs}

-- ---- parts that have one value

pub plus-whole : (m n : ℕ) → Same (plus (whole m) (whole n)) (whole (m + n))
plus-whole m n = record { cross = simp diffs (diff-same _ _ _ _ (omega arith)) }

module _ {State : Type 0} (f : State → Fraction) (a : Fraction) where
  pub weighted-same : (ps : List (Part State)) → EachPart (λ p. f p.state ≡ a) ps
      → Same (weighted f ps) (times (whole (weight_sum ps)) a)
  weighted-same [] each = same_sym (zero-times a)
  weighted-same (p ∷ ps) each =
      rw each.0 (same_trans (plus_same (same_refl (times (whole p.weight) a)) (weighted-same ps each.1))
      (same_trans (same_sym (plus-times (whole p.weight) (whole (weight_sum ps)) a))
      (times_same (plus-whole p.weight (weight_sum ps)) (same_refl a))))

-- ---- a part of weight 1 for each number from i on, n of them

module _ {State : Type 0} (f : ℕ → State) where
  from : ℕ → ℕ → List (Part State)
  from i n = map (λ draw. record { weight = 1; state = f draw }) (range_with_len i n)

  weight_sum-from : (n i : ℕ) → weight_sum (from i n) ≡ n
  unfolding from
  weight_sum-from zero i = refl
  weight_sum-from (suc n) i = omega (arith, weight_sum-from n (i + 1))

  picked-from : (default : State) (n i draw : ℕ) → draw < n → picked default (from i n) draw ≡ f (i + draw)
  unfolding from
  picked-from default zero i draw h = absurd (omega arith)
  picked-from default (suc n) i draw h =
      elim (cases_Bool (nat_lt draw 1)) [
        | inl e ↦ (let first : draw < 1 = ltb-true draw 1 e in let none : i ≡ i + draw = omega arith in rw e (ap f none))
        | inr e ↦
            (let later : 1 ≤ draw = ltb-false draw 1 e in
            let sum : i + 1 + (draw - 1) ≡ i + draw = omega arith in
            rw e (picked-from default n (i + 1) (draw - 1) (omega arith) ∙ ap f sum))
      ]

  weighted_number-from : (num : State → ℕ) (n i : ℕ)
      → weighted_number num (from i n) ≡ sum_by (λ draw. num (f draw)) (range_with_len i n)
  unfolding from
  weighted_number-from num zero i = refl
  weighted_number-from num (suc n) i =
      rw (sum_by-cons (λ draw. num (f draw)) i (range_with_len (i + 1) n)) (omega (arith, weighted_number-from num n (i + 1)))

  each_from : (P : Part State → Type 0) (n i : ℕ)
      → ((draw : ℕ) → draw < i + n → P (record { weight = 1; state = f draw })) → EachPart P (from i n)
  unfolding from
  each_from P zero i h = tt
  each_from P (suc n) i h = (h i (omega arith), each_from P n (i + 1) (λ d l. h d (omega arith)))

  pub weight_sum-equal : (n : ℕ) → weight_sum (equal_parts n f) ≡ n
  unfolding from
  weight_sum-equal n = weight_sum-from n 0

  pub weighted_number-equal : (num : State → ℕ) (n : ℕ)
      → weighted_number num (equal_parts n f) ≡ sum_by (λ draw. num (f draw)) (range_with_len 0 n)
  unfolding from
  weighted_number-equal num n = weighted_number-from num n 0

  pub picked-equal : (default : State) (n draw : ℕ) → draw < n → picked default (equal_parts n f) draw ≡ f draw
  unfolding from
  picked-equal default n draw h = let none : 0 + draw ≡ draw = omega arith in picked-from default n 0 draw h ∙ ap f none

  pub each_equal : (P : Part State → Type 0) (n : ℕ)
      → ((draw : ℕ) → draw < n → P (record { weight = 1; state = f draw })) → EachPart P (equal_parts n f)
  unfolding from
  each_equal P n h = each_from P n 0 (λ d l. h d (omega arith))

-- ---- a part that is there where its weight isn't 0

module _ {State : Type 0} (b : ℕ) (s : State) where
  pub weighted-part : (f : State → Fraction) → Same (weighted f (part_of_weight b s)) (times (whole b) (f s))
  weighted-part f =
      elim (cases_Bool (nat_eq b 0)) [
        | inl e ↦ (let none : b ≡ 0 = eqb-true b 0 e in
            rw e (subst (λ (n : ℕ). Same (whole 0) (times (whole n) (f s))) (sym none)
            (same_sym (zero-times (f s)))))
        | inr e ↦ rw e (plus-zero (times (whole b) (f s)))
      ]

  pub weight_sum-part : weight_sum (part_of_weight b s) ≡ b
  weight_sum-part =
      elim (cases_Bool (nat_eq b 0)) [
        | inl e ↦ (let none : b ≡ 0 = eqb-true b 0 e in rw e (sym none))
        | inr e ↦ rw e (omega arith)
      ]

  pub each_part : (P : Part State → Type 0) → (1 ≤ b → P (record { weight = b; state = s })) → EachPart P (part_of_weight b s)
  each_part P h =
      elim (cases_Bool (nat_eq b 0)) [
        | inl e ↦ rw e tt
        | inr e ↦ (let ne : b ≢ 0 = eqb-false b 0 e in rw e (h (omega arith), tt))
      ]

-- ---- parts whose states are put into others

module _ {Inner Outer : Type 0} (f : Inner → Outer) where
  pub weight_sum-moved : (ps : List (Part Inner)) → weight_sum (moved f ps) ≡ weight_sum ps
  weight_sum-moved [] = refl
  weight_sum-moved (p ∷ ps) = ap (λ x. p.weight + x) (weight_sum-moved ps)

  pub weighted-moved : (g : Outer → Fraction) (ps : List (Part Inner)) → weighted g (moved f ps) ≡ weighted (λ s. g (f s)) ps
  weighted-moved g [] = refl
  weighted-moved g (p ∷ ps) = ap (λ x. plus (times (whole p.weight) (g (f p.state))) x) (weighted-moved g ps)

  pub picked-moved : (default : Inner) (ps : List (Part Inner)) (draw : ℕ)
      → picked (f default) (moved f ps) draw ≡ f (picked default ps draw)
  picked-moved default [] draw = refl
  picked-moved default (p ∷ ps) draw =
      elim (cases_Bool (nat_lt draw p.weight)) [ inl e ↦ rw e refl | inr e ↦ rw e (picked-moved default ps (draw - p.weight)) ]

  pub each_moved : (P : Part Inner → Type 0) (Q : Part Outer → Type 0)
      → ((p : Part Inner) → P p → Q (record { weight = p.weight; state = f p.state })) → (ps : List (Part Inner))
      → EachPart P ps → EachPart Q (moved f ps)
  each_moved P Q h [] each = tt
  each_moved P Q h (p ∷ ps) each = (h p each.0, each_moved P Q h ps each.1)

-- states that stay what they are
pub moved-same : {State : Type 0} (ps : List (Part State)) → moved (λ s. s) ps ≡ ps
moved-same [] = refl
moved-same (p ∷ ps) = ap (λ rest. p ∷ rest) (moved-same ps)
