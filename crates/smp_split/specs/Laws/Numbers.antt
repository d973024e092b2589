-- Of the numbers below the bound of a step each part gets as many as its weight.
use Rattle.std.proofs.Common.{◌≡◌, ℕ, zero, suc, ◌+◌, ◌-◌, ◌<◌, ◌≤◌, nat_lt, List, [], ◌∷◌, arith, refl}
use Rattle.std.proofs.Common.{subst, ap, inl, inr}
use Rattle.std.proofs.lemmas.Bool.{cases_Bool, ltb-true, ltb-false, lt-ltb, le-ltb}
use Rattle.smp_frac.specs.Fractions.{Fraction, Same, whole, plus, times, sum_below}
use Rattle.smp_frac.proofs.Arithmetic.{same_refl, same_sym, same_trans, plus_same, times_same, plus_assoc, plus-times, plus-zero, zero-plus}
use Rattle.smp_frac.proofs.Arithmetic.{zero-times, one-times, sum_same}
use Rattle.smp_split.specs.Trees.{Part, EachPart, weight_sum, picked, weighted}
use Rattle.smp_split.specs.Means.{sum_over_draws}
use Rattle.smp_split.specs.Laws.Parts.{plus-whole}
use Rattle.smp_split.specs.Laws.Steps.{picked_is_part}

-- the first number apart
sum_front : (n : ℕ) (f : ℕ → Fraction) → Same (sum_below (suc n) f) (plus (f 0) (sum_below n (λ k. f (suc k))))
sum_front zero f = same_trans (zero-plus (f 0)) (same_sym (plus-zero (f 0)))
sum_front (suc n) f =
    same_trans (plus_same (sum_front n f) (same_refl (f (suc n))))
    (plus_assoc (f 0) (sum_below n (λ k. f (suc k))) (f (suc n)))

pub sum_equal : (n : ℕ) (f g : ℕ → Fraction) → ((k : ℕ) → k < n → f k ≡ g k) → sum_below n f ≡ sum_below n g
sum_equal zero f g h = refl
sum_equal (suc n) f g h = rw (sum_equal n f g (λ k l. h k (omega arith)), h n (omega arith)) refl

-- one more of a fraction
one_more : (w : ℕ) (a : Fraction) → Same (plus a (times (whole w) a)) (times (whole (suc w)) a)
one_more w a =
    let next : 1 + w ≡ suc w = omega arith in
    let one : Same (plus (whole 1) (whole w)) (whole (suc w)) =
    subst (λ (n : ℕ). Same (plus (whole 1) (whole w)) (whole n)) next (plus-whole 1 w) in
    same_trans (plus_same (same_sym (one-times a)) (same_refl (times (whole w) a)))
    (same_trans (same_sym (plus-times (whole 1) (whole w) a)) (times_same one (same_refl a)))

module _ {State : Type 0} (f : State → Fraction) (default : State) where
  -- one less of the weight, and one less of the number
  both_less : (w : ℕ) (s : State) (ps : List (Part State)) (k : ℕ)
      → picked default (record { weight = suc w; state = s } ∷ ps) (suc k)
      ≡ picked default (record { weight = w; state = s } ∷ ps) k
  both_less w s ps k =
      elim (cases_Bool (nat_lt k w)) [
        | inl e ↦ (let l : k < w = ltb-true k w e in rw (e, lt-ltb (suc k) (suc w) (omega arith)) refl)
        | inr e ↦
            (let l : w ≤ k = ltb-false k w e in
            let same : suc k - suc w ≡ k - w = omega arith in
            rw (e, le-ltb (suc k) (suc w) (omega arith)) (ap (λ x. picked default ps x) same))
      ]

  first_takes : (w n : ℕ) (s : State) (ps : List (Part State)) → n ≡ w + weight_sum ps
      → Same (sum_over_draws f default ps) (weighted f ps)
      → Same (sum_below n (λ v. f (picked default (record { weight = w; state = s } ∷ ps) v)))
      (plus (times (whole w) (f s)) (weighted f ps))
  first_takes zero n s ps is h =
      let all : n ≡ weight_sum ps = omega (arith, is) in
      let none : Same (weighted f ps) (plus (times (whole 0) (f s)) (weighted f ps)) =
      same_sym (same_trans (plus_same (zero-times (f s)) (same_refl (weighted f ps))) (zero-plus (weighted f ps))) in
      rw all (same_trans (sum_same (weight_sum ps)
      (λ v. f (picked default (record { weight = 0; state = s } ∷ ps) v)) (λ v. f (picked default ps v))
      (λ v l. let same : v - 0 ≡ v = omega arith in
      rw (le-ltb v 0 (omega arith), same) (same_refl (f (picked default ps v))))) (same_trans h none))
  first_takes (suc w) n s ps is h =
      let all : n ≡ suc (w + weight_sum ps) = omega (arith, is) in
      let rest : ℕ → Fraction = λ v. f (picked default (record { weight = suc w; state = s } ∷ ps) v) in
      let front : rest 0 ≡ f s = rw (lt-ltb 0 (suc w) (omega arith)) refl in
      let later : Same (sum_below (w + weight_sum ps) (λ v. rest (suc v))) (plus (times (whole w) (f s)) (weighted f ps)) =
      same_trans (sum_same (w + weight_sum ps) (λ v. rest (suc v)) (λ v. f (picked default (record { weight = w; state = s } ∷ ps) v))
      (λ v l. rw (both_less w s ps v) (same_refl (f (picked default (record { weight = w; state = s } ∷ ps) v)))))
      (first_takes w (w + weight_sum ps) s ps refl h) in
      rw all (same_trans (sum_front (w + weight_sum ps) rest)
      (same_trans (plus_same (rw front (same_refl (f s))) later)
      (same_trans (same_sym (plus_assoc (f s) (times (whole w) (f s)) (weighted f ps)))
      (plus_same (one_more w (f s)) (same_refl (weighted f ps))))))

  -- over the numbers below the bound, the sum of f over the states to which they lead is the sum of weight times f over the parts
  pub draws_are_weights : (ps : List (Part State)) → Same (sum_over_draws f default ps) (weighted f ps)
  draws_are_weights [] = same_refl (whole 0)
  draws_are_weights (p ∷ ps) = first_takes p.weight (p.weight + weight_sum ps) p.state ps refl (draws_are_weights ps)

module _ {State : Type 0} (P : Part State → Type 0) (f g : State → Fraction) (default : State)
    (ps : List (Part State)) (each : EachPart P ps) where
  -- sums over the numbers of functions that agree on the parts
  pub draws_same : ((p : Part State) → P p → Same (f p.state) (g p.state))
      → Same (sum_over_draws f default ps) (sum_over_draws g default ps)
  draws_same h =
      sum_same (weight_sum ps) (λ draw. f (picked default ps draw)) (λ draw. g (picked default ps draw))
      (λ draw l. picked_is_part P (λ s. Same (f s) (g s)) h default ps draw each l)

  pub draws_equal : ((p : Part State) → P p → f p.state ≡ g p.state) → sum_over_draws f default ps ≡ sum_over_draws g default ps
  draws_equal h =
      sum_equal (weight_sum ps) (λ draw. f (picked default ps draw)) (λ draw. g (picked default ps draw))
      (λ draw l. picked_is_part P (λ s. f s ≡ g s) h default ps draw each l)
