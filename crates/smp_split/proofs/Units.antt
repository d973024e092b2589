-- A part for each unit that passes a test.
use Rattle.std.proofs.Common.{◌≡◌, ◌≢◌, ℕ, zero, suc, ◌+◌, ◌-◌, ◌<◌, ◌≤◌, Bool, true, false, cond, nat_eq, List, map, arith, refl, sym, ap, subst, ◌∙◌, inl, inr}
use Rattle.std.specs.List.{filter, range_with_len, sum_by}
use Rattle.std.proofs.{lemmas.Bool.{cases_Bool, cases_eq, lt-ltb, le-ltb, eq-eqb, ne_eqb}, lemmas.List.Sums.{sum_by-cons}}
use Rattle.smp_frac.specs.Fractions.{Fraction, Same, whole, plus, times}
use Rattle.smp_frac.proofs.Arithmetic.{same_refl, same_sym, same_trans, plus_same, times_same, plus-times, times-zero, zero-plus, zero-times}
use Rattle.smp_split.specs.{Trees.{Part, EachPart, weight_sum, picked, weighted}, Parts.{unit_parts}, Laws.Parts.{plus-whole}}

-- the sum over the numbers below n without one of them
without-past : (f : ℕ → ℕ) (one : ℕ) (n i : ℕ) → one < i → sum_by (λ k. cond (nat_eq k one) 0 (f k)) (range_with_len i n) ≡ sum_by f (range_with_len i n)
without-past f one zero i h = refl
without-past f one (suc n) i h =
    let other : i ≢ one = omega arith in
    rw (sum_by-cons (λ k. cond (nat_eq k one) 0 (f k)) i (range_with_len (i + 1) n), sum_by-cons f i (range_with_len (i + 1) n)) (rw (ne_eqb i one other) (omega (arith, without-past f one n (i + 1) (omega arith))))

without-from : (f : ℕ → ℕ) (one : ℕ) (n i : ℕ) → i ≤ one → one < i + n → sum_by (λ k. cond (nat_eq k one) 0 (f k)) (range_with_len i n) + f one ≡ sum_by f (range_with_len i n)
without-from f one zero i h l = absurd (omega arith)
without-from f one (suc n) i h l =
    rw (sum_by-cons (λ k. cond (nat_eq k one) 0 (f k)) i (range_with_len (i + 1) n), sum_by-cons f i (range_with_len (i + 1) n))
    (elim (cases_eq i one) [
      | inl e ↦ rw (eq-eqb i one e) (omega (arith, without-past f one n (i + 1) (omega arith), ap f e))
      | inr other ↦ rw (ne_eqb i one other) (omega (arith, without-from f one n (i + 1) (omega arith) (omega arith)))
    ])

pub sum_by-without : (f : ℕ → ℕ) (one n : ℕ) → one < n → sum_by (λ k. cond (nat_eq k one) 0 (f k)) (range_with_len 0 n) + f one ≡ sum_by f (range_with_len 0 n)
sum_by-without f one n h = without-from f one n 0 (omega arith) (omega arith)

-- ---- a further part

add_none : (w n : ℕ) (a x : Fraction) → Same x (times (whole n) a) → Same (plus (times (whole w) (whole 0)) x) (times (whole n) a)
add_none w n a x h = same_trans (plus_same (times-zero (whole w)) h) (zero-plus (times (whole n) a))

add_some : (w n : ℕ) (a x : Fraction) → Same x (times (whole n) a) → Same (plus (times (whole w) a) x) (times (whole (w + n)) a)
add_some w n a x h =
    same_trans (plus_same (same_refl (times (whole w) a)) h)
    (same_trans (same_sym (plus-times (whole w) (whole n) a)) (times_same (plus-whole w n) (same_refl a)))

in_all : (m n : ℕ) (a x : Fraction) → n ≡ m → Same x (times (whole m) a) → Same x (times (whole n) a)
in_all m n a x e h = subst (λ (k : ℕ). Same x (times (whole k) a)) (sym e) h

cond_same : (b : Bool) (x : ℕ) → cond b x x ≡ x
cond_same true x = refl
cond_same false x = refl

module _ {State : Type 0} (test : ℕ → Bool) (weight : ℕ → ℕ) (next : ℕ → State) where
  -- the weight of a unit, 0 where it has no part
  abbrev pub counted : ℕ → ℕ
  counted unit = cond (test unit) (weight unit) 0

  from : ℕ → ℕ → List (Part State)
  from i n = map (λ unit. record { weight = weight unit; state = next unit }) (filter test (range_with_len i n))

  from_sum : (n i : ℕ) → weight_sum (from i n) ≡ sum_by counted (range_with_len i n)
  unfolding from
  from_sum zero i = refl
  from_sum (suc n) i =
      rw (sum_by-cons counted i (range_with_len (i + 1) n))
      (elim (cases_Bool (test i)) [
        | inl e ↦ rw e (omega (arith, from_sum n (i + 1)))
        | inr e ↦ rw e (omega (arith, from_sum n (i + 1)))
      ])

  from_each : (P : Part State → Type 0) (n i : ℕ) → ((unit : ℕ) → unit < i + n → test unit ≡ true → P (record { weight = weight unit; state = next unit })) → EachPart P (from i n)
  unfolding from
  from_each P zero i h = tt
  from_each P (suc n) i h =
      let rest = from_each P n (i + 1) (λ unit l. h unit (omega arith)) in
      elim (cases_Bool (test i)) [ inl e ↦ rw e (h i (omega arith) e, rest) | inr e ↦ rw e rest ]

  -- the part of a unit, where the draw lies past the weights before it and not past its own
  from_picked : (default : State) (d n i draw : ℕ) → d < n → sum_by counted (range_with_len i d) ≤ draw → draw < sum_by counted (range_with_len i d) + counted (i + d) → picked default (from i n) draw ≡ next (i + d)
  unfolding from
  from_picked default d zero i draw h past within = absurd (omega arith)
  from_picked default zero (suc n) i draw h past within =
      let here : i + 0 ≡ i = omega arith in
      elim (cases_Bool (test i)) [
        | inl e ↦
            (let first : counted (i + 0) ≡ weight i = ap counted here ∙ rw e refl in
            let own : draw < weight i = omega (arith, within, first) in
            rw (e, lt-ltb draw (weight i) own) (ap next (sym here)))
        | inr e ↦ (let first : counted (i + 0) ≡ 0 = ap counted here ∙ rw e refl in absurd (omega (arith, within, first)))
      ]
  from_picked default (suc d) (suc n) i draw h past within =
      let next_is : i + 1 + d ≡ i + suc d = omega arith in
      let all = sum_by-cons counted i (range_with_len (i + 1) d) in
      let last = ap counted next_is in
      elim (cases_Bool (test i)) [
        | inl e ↦
            (let first : counted i ≡ weight i = rw e refl in
            rw (e, le-ltb draw (weight i) (omega (arith, past, all, first)))
            (from_picked default d n (i + 1) (draw - weight i) (omega arith) (omega (arith, past, all, first)) (omega (arith, past, within, all, first, last)) ∙ ap next next_is))
        | inr e ↦
            (let first : counted i ≡ 0 = rw e refl in
            rw e (from_picked default d n (i + 1) draw (omega arith) (omega (arith, past, all, first)) (omega (arith, past, within, all, first, last)) ∙ ap next next_is))
      ]

  -- where each part has the same value but that of one unit, which has none
  module _ (f : State → Fraction) (a : Fraction) (one : ℕ) where
    from_weighted : (n i : ℕ) → ((unit : ℕ) → unit < i + n → test unit ≡ true → f (next unit) ≡ cond (nat_eq unit one) (whole 0) a) → Same (weighted f (from i n)) (times (whole (sum_by (λ k. cond (nat_eq k one) 0 (counted k)) (range_with_len i n))) a)
    unfolding from
    from_weighted zero i h = same_sym (zero-times a)
    from_weighted (suc n) i h =
        let other : ℕ → ℕ = λ k. cond (nat_eq k one) 0 (counted k) in
        let left : ℕ = sum_by other (range_with_len (i + 1) n) in
        let rest = from_weighted n (i + 1) (λ unit l. h unit (omega arith)) in
        let sum = sum_by-cons other i (range_with_len (i + 1) n) in
        elim (cases_Bool (test i)) [
          | inl e ↦ elim (cases_Bool (nat_eq i one)) [
            | inl own ↦
                (let none : f (next i) ≡ whole 0 = rw own at (h i (omega arith) e) in
                let first : other i ≡ 0 = rw own refl in
                in_all left _ a _ (omega (arith, sum, first)) (rw (e, none) (add_none (weight i) left a (weighted f (from (i + 1) n)) rest)))
            | inr apart ↦
                (let same : f (next i) ≡ a = rw apart at (h i (omega arith) e) in
                let first : other i ≡ weight i = rw (apart, e) refl in
                in_all (weight i + left) _ a _ (omega (arith, sum, first)) (rw (e, same) (add_some (weight i) left a (weighted f (from (i + 1) n)) rest)))
          ]
          | inr e ↦
              (let first : other i ≡ 0 = rw e (cond_same (nat_eq i one) 0) in
              in_all left _ a _ (omega (arith, sum, first)) (rw e rest))
        ]

  pub weight_sum-units : (n : ℕ) → weight_sum (unit_parts test weight next n) ≡ sum_by counted (range_with_len 0 n)
  unfolding from
  weight_sum-units n = from_sum n 0

  pub each_unit : (P : Part State → Type 0) (n : ℕ) → ((unit : ℕ) → unit < n → test unit ≡ true → P (record { weight = weight unit; state = next unit })) → EachPart P (unit_parts test weight next n)
  unfolding from
  each_unit P n h = from_each P n 0 (λ unit l. h unit (omega arith))

  pub picked-units : (default : State) (n unit draw : ℕ) → unit < n → sum_by counted (range_with_len 0 unit) ≤ draw → draw < sum_by counted (range_with_len 0 unit) + counted unit → picked default (unit_parts test weight next n) draw ≡ next unit
  unfolding from
  picked-units default n unit draw h past within =
      let none : 0 + unit ≡ unit = omega arith in
      from_picked default unit n 0 draw h past (rw none within) ∙ ap next none

  pub weighted-units : (f : State → Fraction) (a : Fraction) (one n : ℕ) → ((unit : ℕ) → unit < n → test unit ≡ true → f (next unit) ≡ cond (nat_eq unit one) (whole 0) a) → Same (weighted f (unit_parts test weight next n)) (times (whole (sum_by (λ k. cond (nat_eq k one) 0 (counted k)) (range_with_len 0 n))) a)
  unfolding from
  weighted-units f a one n h = from_weighted f a one n 0 (λ unit l. h unit (omega arith))
