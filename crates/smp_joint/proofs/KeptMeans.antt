-- The mean of a function of the leaves, where another function agrees with it at the leaves and each split keeps that one.
use Rattle.std.proofs.Common.{◌≡◌, ℕ, zero, suc, ◌<◌, ◌≤◌, Bool, true, false, cond, ◌&&◌, List, [], ◌∷◌, arith, refl, ◌⊎◌, inl, inr}
use Rattle.std.proofs.lemmas.Bool.{cases_Bool}
use Rattle.smp_frac.specs.Fractions.{Fraction, Same, whole, times}
use Rattle.smp_frac.proofs.Arithmetic.{same_refl, same_sym, same_trans, plus_same, times_same, times-plus, times-zero, times_comm, times_left_comm, one-times, zero-times, divided_same, divided-times}
use Rattle.smp_split.specs.{Lenses.{OuterUnit, Lens, Closes}, Means.{mean_of, joint_probability}, Laws.Means.{no_parts, weighted_same}}
use Rattle.smp_split.specs.{Trees.{Part, Tree, EachPart, IsPart, Lawful, weight_sum, weighted}, Laws.Parts.{weighted-same}}
use Rattle.smp_split.proofs.MeanOf.{mean_of_end, mean_of_same, mean_of_step, mean_through}

-- 1 where it holds, and 0 elsewhere
abbrev pub one_where : Bool → Fraction
one_where b = whole (cond b 1 0)

pub both_ones : (x y : Bool) → Same (times (one_where x) (one_where y)) (one_where (x && y))
both_ones true y = one-times (one_where y)
both_ones false y = zero-times (one_where y)

-- a factor that is the same in each part comes out of a weighted sum
pub weighted_times : {State : Type 0} (a : Fraction) (f g : State → Fraction) (ps : List (Part State)) → EachPart (λ p. Same (f p.state) a) ps → Same (weighted (λ s. times (f s) (g s)) ps) (times a (weighted g ps))
weighted_times a f g [] each = same_sym (times-zero a)
weighted_times a f g (p ∷ ps) each =
    same_trans (plus_same (same_trans (times_same (same_refl (whole p.weight)) (times_same each.0 (same_refl (g p.state)))) (times_left_comm (whole p.weight) a (g p.state))) (weighted_times a f g ps each.1))
    (same_sym (times-plus a (times (whole p.weight) (g p.state)) (weighted g ps)))

module _ {State : Type 0} (tree : Tree State) (belongs : State → Type 0) (lawful : Lawful tree belongs) where
  module _ (f h : State → Fraction) (end : (s : State) → belongs s → tree.done s ≡ true → Same (f s) (h s))
      (keeps : (s : State) → belongs s → tree.done s ≡ false → Same (weighted h (tree.parts s)) (times (whole (weight_sum (tree.parts s))) (h s))) where
    kept_within : (steps : ℕ) (s : State) → belongs s → tree.rank s ≤ steps → Same (mean_of tree f s) (h s)
    kept_within zero s b r =
        elim (cases_Bool (tree.done s)) [
          | inl e ↦ rw (mean_of_end tree belongs lawful f s e) (end s b e)
          | inr e ↦ (let split = lawful.split s b e in absurd (no_parts tree belongs lawful (λ k. whole 0) s (tree.parts s) r split.some split.each))
        ]
    kept_within (suc steps) s b r =
        elim (cases_Bool (tree.done s)) [
          | inl e ↦ rw (mean_of_end tree belongs lawful f s e) (end s b e)
          | inr e ↦
              (let split = lawful.split s b e in
              let parts = weighted_same (IsPart tree belongs s) (mean_of tree f) h (λ p is. (let l : tree.rank p.state < tree.rank s = is.falls in kept_within steps p.state is.member (omega arith))) (tree.parts s) split.each in
              same_trans (mean_of_step tree belongs lawful f s b e)
              (same_trans (divided_same (weight_sum (tree.parts s)) (same_trans parts (keeps s b e))) (divided-times (weight_sum (tree.parts s)) (h s) split.some)))
        ]

    pub kept_mean : (s : State) → belongs s → Same (mean_of tree f s) (h s)
    kept_mean s b = kept_within (tree.rank s) s b (omega arith)

  -- the mean of a number that is the same at each leaf
  pub constant_mean : (a : Fraction) (s : State) → belongs s → Same (mean_of tree (λ _. a) s) a
  constant_mean a = kept_mean (λ _. a) (λ _. a) (λ s b e. same_refl a) (λ s b e. weighted-same (λ _. a) a (tree.parts s) (each_same (tree.parts s)))
    where
      each_same : (ps : List (Part State)) → EachPart (λ p. a ≡ a) ps
      each_same [] = tt
      each_same (p ∷ ps) = (refl, each_same ps)

  -- that of the number that is 1 where a unit is selected is the unit's value
  pub one_mean : (unit : ℕ) → unit < tree.units → (s : State) → belongs s → Same (mean_of tree (λ leaf. one_where (tree.selected leaf unit)) s) (tree.value s unit)
  one_mean unit h =
      kept_mean (λ leaf. one_where (tree.selected leaf unit)) (λ s. tree.value s unit) (λ s b e. same_sym (lawful.end s b e unit h)) (λ s b e. (lawful.split s b e).even unit h)

  -- Two units, of which each step leaves one as it is, are selected together with the product of their probabilities.
  pub apart_mean : (j k : ℕ) → j < tree.units → k < tree.units
      → ((s : State) → belongs s → tree.done s ≡ false → EachPart (λ p. Same (tree.value p.state j) (tree.value s j)) (tree.parts s) ⊎ EachPart (λ p. Same (tree.value p.state k) (tree.value s k)) (tree.parts s))
      → (s : State) → belongs s → Same (joint_probability tree s j k) (times (tree.value s j) (tree.value s k))
  apart_mean j k hj hk stays =
      kept_mean (λ leaf. one_where (tree.selected leaf j && tree.selected leaf k)) (λ s. times (tree.value s j) (tree.value s k))
      (λ s b e. same_sym (same_trans (times_same (lawful.end s b e j hj) (lawful.end s b e k hk)) (both_ones (tree.selected s j) (tree.selected s k))))
      (λ s b e. (let split = lawful.split s b e in
      let total : Fraction = whole (weight_sum (tree.parts s)) in
      elim (stays s b e) [
        | inl first ↦
            same_trans (weighted_times (tree.value s j) (λ t. tree.value t j) (λ t. tree.value t k) (tree.parts s) first)
            (same_trans (times_same (same_refl (tree.value s j)) (split.even k hk)) (times_left_comm (tree.value s j) total (tree.value s k)))
        | inr second ↦
            same_trans (weighted_same (IsPart tree belongs s) (λ t. times (tree.value t j) (tree.value t k)) (λ t. times (tree.value t k) (tree.value t j)) (λ p is. times_comm (tree.value p.state j) (tree.value p.state k)) (tree.parts s) split.each)
            (same_trans (weighted_times (tree.value s k) (λ t. tree.value t k) (λ t. tree.value t j) (tree.parts s) second)
            (same_trans (times_same (same_refl (tree.value s k)) (split.even j hj))
            (same_trans (times_left_comm (tree.value s k) total (tree.value s j)) (times_same (same_refl total) (times_comm (tree.value s k) (tree.value s j))))))
      ]))

-- ---- through a lens that closes

module _ {Inner Outer : Type 0} (inner : Tree Inner) (belongs : Inner → Type 0) (lawful : Lawful inner belongs) (outer : Tree Outer) (outside : Outer → Type 0) (outer_lawful : Lawful outer outside)
    (put : Inner → Outer) (view : ℕ → OuterUnit) (lens : Lens inner belongs outer put view) (closes : Closes inner outer put view) (member : (i : Inner) → belongs i → outside (put i)) (f : Outer → Fraction) where
  pub mean_closed : (i : Inner) → belongs i → Same (mean_of outer f (put i)) (mean_of inner (λ j. f (put j)) i)
  mean_closed i b =
      rw (mean_through inner belongs lawful outer outside outer_lawful put view lens member f i b)
      (mean_of_same inner belongs lawful (λ j. mean_of outer f (put j)) (λ j. f (put j))
      (λ j m done. rw (mean_of_end outer outside outer_lawful f (put j) (closes.done j done)) (same_refl (f (put j)))) i b)
