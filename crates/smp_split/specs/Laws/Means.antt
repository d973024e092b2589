-- The mean over a lawful tree is the value.
use Rattle.std.proofs.Common.{◌≡◌, ℕ, zero, suc, ◌<◌, ◌≤◌, Bool, true, false, cond, nat_eq, List, [], ◌∷◌, arith}
use Rattle.std.proofs.Common.{sym, subst, inl, inr}
use Rattle.std.proofs.lemmas.Bool.{cases_Bool, cases_eq, eq-eqb, ne_eqb}
use Rattle.smp_frac.specs.Fractions.{Fraction, Same, whole, plus, times, divided, sum_below}
use Rattle.smp_split.specs.Trees.{Part, Tree, EachPart, IsPart, LawfulSplit, LawfulEnd, Lawful, weight_sum, weighted}
use Rattle.smp_split.specs.Means.{only, sum_over_draws, selected_sum, value_sum, mean_of_within, mean, inclusion_probability}
use Rattle.smp_frac.proofs.Arithmetic.{same_refl, same_sym, same_trans, plus_same, times_same, times-plus, times_left_comm, times-zero}
use Rattle.smp_frac.proofs.Arithmetic.{times-one, divided_same, divided-times, sum_same, sum-plus, sum-times, sum-zero, zero-plus-zero}
use Rattle.smp_frac.proofs.Arithmetic.{zero-plus, plus-zero, zero-times, one-times}
use Rattle.smp_split.specs.Laws.Numbers.{draws_are_weights}

selected_is_value : (c a : Fraction) (b : Bool) → Same a (whole (cond b 1 0)) → Same (cond b c (whole 0)) (times c a)
selected_is_value c a true h = same_trans (same_sym (times-one c)) (times_same (same_refl c) (same_sym h))
selected_is_value c a false h = same_trans (same_sym (times-zero c)) (times_same (same_refl c) (same_sym h))

only_other : (k unit : ℕ) (a : Fraction) → nat_eq k unit ≡ false → Same (times (only unit k) a) (whole 0)
only_other k unit a e = subst (λ (b : Bool). Same (times (whole (cond b 1 0)) a) (whole 0)) (sym e) (zero-times a)

only_here : (k unit : ℕ) (a : Fraction) → nat_eq k unit ≡ true → Same (times (only unit k) a) a
only_here k unit a e = subst (λ (b : Bool). Same (times (whole (cond b 1 0)) a) a) (sym e) (one-times a)

-- a sum in which one unit alone counts
only_none : (n unit : ℕ) (f : ℕ → Fraction) → n ≤ unit → Same (sum_below n (λ k. times (only unit k) (f k))) (whole 0)
only_none zero unit f h = same_refl (whole 0)
only_none (suc n) unit f h =
    let e : nat_eq n unit ≡ false = ne_eqb n unit (omega arith) in
    let here : Same (times (only unit n) (f n)) (whole 0) = only_other n unit (f n) e in
    same_trans (plus_same (only_none n unit f (omega arith)) here) zero-plus-zero

pub only_sum : (n unit : ℕ) (f : ℕ → Fraction) → unit < n → Same (sum_below n (λ k. times (only unit k) (f k))) (f unit)
only_sum zero unit f h = absurd (omega arith)
only_sum (suc n) unit f h =
    elim (cases_eq n unit) [
      | inl e ↦
          (let t : nat_eq n unit ≡ true = eq-eqb n unit e in
          let here : Same (times (only unit n) (f n)) (f n) = only_here n unit (f n) t in
          let Q : ℕ → Type 0 = λ k. Same (sum_below (suc n) (λ j. times (only unit j) (f j))) (f k) in
          subst Q e (same_trans (plus_same (only_none n unit f (omega arith)) here) (zero-plus (f n))))
      | inr ne ↦
          (let t : nat_eq n unit ≡ false = ne_eqb n unit ne in
          let here : Same (times (only unit n) (f n)) (whole 0) = only_other n unit (f n) t in
          same_trans (plus_same (only_sum n unit f (omega arith)) here) (plus-zero (f unit)))
    ]

module _ {State : Type 0} where
  -- weighted sums of functions that agree on the parts
  pub weighted_same : (P : Part State → Type 0) (f g : State → Fraction)
      → ((p : Part State) → P p → Same (f p.state) (g p.state)) → (ps : List (Part State)) → EachPart P ps
      → Same (weighted f ps) (weighted g ps)
  weighted_same P f g h [] each = same_refl (whole 0)
  weighted_same P f g h (p ∷ ps) each =
      plus_same (times_same (same_refl (whole p.weight)) (h p each.0)) (weighted_same P f g h ps each.1)

  -- a weighted sum of sums is the sum of weighted sums
  pub weighted-sum : (n : ℕ) (c : ℕ → Fraction) (value : State → ℕ → Fraction) (ps : List (Part State))
      → Same (weighted (λ s. sum_below n (λ k. times (c k) (value s k))) ps)
      (sum_below n (λ k. times (c k) (weighted (λ s. value s k) ps)))
  weighted-sum n c value [] = same_sym (sum-zero n (λ k. times (c k) (whole 0)) (λ k _. times-zero (c k)))
  weighted-sum n c value (p ∷ ps) =
      let here : Same (times (whole p.weight) (sum_below n (λ k. times (c k) (value p.state k))))
      (sum_below n (λ k. times (c k) (times (whole p.weight) (value p.state k)))) =
      same_trans (same_sym (sum-times n (whole p.weight) (λ k. times (c k) (value p.state k))))
      (sum_same n (λ k. times (whole p.weight) (times (c k) (value p.state k)))
      (λ k. times (c k) (times (whole p.weight) (value p.state k)))
      (λ k _. times_left_comm (whole p.weight) (c k) (value p.state k))) in
      same_trans (plus_same here (weighted-sum n c value ps))
      (same_trans (same_sym (sum-plus n (λ k. times (c k) (times (whole p.weight) (value p.state k)))
      (λ k. times (c k) (weighted (λ s. value s k) ps))))
      (sum_same n (λ k. plus (times (c k) (times (whole p.weight) (value p.state k)))
      (times (c k) (weighted (λ s. value s k) ps))) (λ k. times (c k) (weighted (λ s. value s k) (p ∷ ps)))
      (λ k _. same_sym (times-plus (c k) (times (whole p.weight) (value p.state k)) (weighted (λ s. value s k) ps)))))

  -- at a leaf the sum over the selected units is the value
  pub selected_sum_is_value_sum : (tree : Tree State) (c : ℕ → Fraction) (s : State) → LawfulEnd tree s
      → Same (selected_sum tree c s) (value_sum tree c s)
  selected_sum_is_value_sum tree c s end =
      sum_same tree.units (λ k. cond (tree.selected s k) (c k) (whole 0)) (λ k. times (c k) (tree.value s k))
      (λ k p. selected_is_value (c k) (tree.value s k) (tree.selected s k) (end k p))

  module _ (tree : Tree State) (belongs : State → Type 0) (lawful : Lawful tree belongs) (c : ℕ → Fraction) where
    -- one split keeps the value
    split_keeps : (s : State) → LawfulSplit tree belongs s → (f : State → Fraction)
        → ((p : Part State) → IsPart tree belongs s p → Same (f p.state) (value_sum tree c p.state))
        → Same (divided (sum_over_draws f s (tree.parts s)) (weight_sum (tree.parts s))) (value_sum tree c s)
    split_keeps s split f h =
        let total : ℕ = weight_sum (tree.parts s) in
        let exchanged : Same (weighted f (tree.parts s))
        (sum_below tree.units (λ k. times (c k) (weighted (λ t. tree.value t k) (tree.parts s)))) =
        same_trans (weighted_same (IsPart tree belongs s) f (value_sum tree c) h (tree.parts s) split.each)
        (weighted-sum tree.units c tree.value (tree.parts s)) in
        let even : Same (sum_below tree.units (λ k. times (c k) (weighted (λ t. tree.value t k) (tree.parts s))))
        (sum_below tree.units (λ k. times (whole total) (times (c k) (tree.value s k)))) =
        sum_same tree.units (λ k. times (c k) (weighted (λ t. tree.value t k) (tree.parts s)))
        (λ k. times (whole total) (times (c k) (tree.value s k)))
        (λ k p. same_trans (times_same (same_refl (c k)) (split.even k p)) (times_left_comm (c k) (whole total) (tree.value s k))) in
        let out : Same (sum_below tree.units (λ k. times (whole total) (times (c k) (tree.value s k))))
        (times (whole total) (value_sum tree c s)) =
        sum-times tree.units (whole total) (λ k. times (c k) (tree.value s k)) in
        same_trans (divided_same total (same_trans (draws_are_weights f s (tree.parts s))
        (same_trans exchanged (same_trans even out)))) (divided-times total (value_sum tree c s) split.some)

    -- no state of rank 0 is split
    pub no_parts : (s : State) (ps : List (Part State)) → tree.rank s ≤ 0 → 1 ≤ weight_sum ps
        → EachPart (IsPart tree belongs s) ps → ⊥
    no_parts s [] r w each = omega arith
    no_parts s (p ∷ ps) r w each = let l : tree.rank p.state < tree.rank s = each.0.falls in omega arith

    pub mean_within_is_value : (steps : ℕ) (s : State) → belongs s → tree.rank s ≤ steps
        → Same (mean_of_within steps tree (selected_sum tree c) s) (value_sum tree c s)
    mean_within_is_value zero s b r =
        elim (cases_Bool (tree.done s)) [
          | inl e ↦ selected_sum_is_value_sum tree c s (lawful.end s b e)
          | inr e ↦ let split = lawful.split s b e in absurd (no_parts s (tree.parts s) r split.some split.each)
        ]
    mean_within_is_value (suc steps) s b r =
        elim (cases_Bool (tree.done s)) [
          | inl e ↦ rw e (selected_sum_is_value_sum tree c s (lawful.end s b e))
          | inr e ↦ rw e (split_keeps s (lawful.split s b e) (mean_of_within steps tree (selected_sum tree c))
              (λ p is_part. mean_within_is_value steps p.state is_part.member
              (let l : tree.rank p.state < tree.rank s = is_part.falls in omega arith)))
        ]

    pub mean_is_value : (s : State) → belongs s → Same (mean tree c s) (value_sum tree c s)
    mean_is_value s b = mean_within_is_value (tree.rank s) s b (omega arith)

  pub probability_is_value : (tree : Tree State) (belongs : State → Type 0) → Lawful tree belongs → (s : State)
      → belongs s → (unit : ℕ) → unit < tree.units → Same (inclusion_probability tree s unit) (tree.value s unit)
  probability_is_value tree belongs lawful s b unit h =
      same_trans (mean_is_value tree belongs lawful (only unit) s b) (only_sum tree.units unit (λ k. tree.value s k) h)
