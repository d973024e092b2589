-- The mean of any function of the done states: how it goes by a step, its sums and multiples, and the mean through a lens.
use Rattle.std.proofs.Common.{◌≡◌, ℕ, zero, suc, ◌<◌, ◌≤◌, true, false, List, arith, refl, sym, ap, subst, ◌∙◌, inl, inr}
use Rattle.std.proofs.lemmas.Bool.{cases_Bool}
use Rattle.smp_frac.specs.Fractions.{Fraction, Same, whole, plus, times, divided}
use Rattle.smp_split.specs.{Lenses.{OuterUnit, Lens}, Means.{sum_over_draws, mean_of_within, mean_of}, Parts.{moved}, Laws.Means.{no_parts}}
use Rattle.smp_split.specs.{Trees.{Part, Tree, IsPart, Lawful, weight_sum, picked, weighted}, Laws.Parts.{weight_sum-moved, picked-moved}}
use Rattle.smp_frac.proofs.Arithmetic.{same_refl, same_trans, divided_same, plus-divided, times-divided, sum_same, sum-plus, sum-times}
use Rattle.smp_split.specs.Laws.Numbers.{draws_are_weights, draws_equal, draws_same, sum_equal}

module _ {State : Type 0} where
  -- ---- sums and multiples, of any tree

  plus-within : (tree : Tree State) (f g : State → Fraction) (steps : ℕ) (s : State) → Same (mean_of_within steps tree (λ t. plus (f t) (g t)) s) (plus (mean_of_within steps tree f s) (mean_of_within steps tree g s))
  plus-within tree f g zero s = same_refl (plus (f s) (g s))
  plus-within tree f g (suc steps) s =
      elim (cases_Bool (tree.done s)) [
        | inl e ↦ rw e (same_refl (plus (f s) (g s)))
        | inr e ↦
            rw e (same_trans (divided_same (weight_sum (tree.parts s)) (same_trans (sum_same (weight_sum (tree.parts s)) (λ v. mean_of_within steps tree (λ t. plus (f t) (g t)) (picked s (tree.parts s) v)) (λ v. plus (mean_of_within steps tree f (picked s (tree.parts s) v)) (mean_of_within steps tree g (picked s (tree.parts s) v)))
            (λ v _. plus-within tree f g steps (picked s (tree.parts s) v)))
            (sum-plus (weight_sum (tree.parts s)) (λ v. mean_of_within steps tree f (picked s (tree.parts s) v)) (λ v. mean_of_within steps tree g (picked s (tree.parts s) v)))))
            (plus-divided (weight_sum (tree.parts s)) (sum_over_draws (mean_of_within steps tree f) s (tree.parts s)) (sum_over_draws (mean_of_within steps tree g) s (tree.parts s))))
      ]

  pub mean_of-plus : (tree : Tree State) (f g : State → Fraction) (s : State) → Same (mean_of tree (λ t. plus (f t) (g t)) s) (plus (mean_of tree f s) (mean_of tree g s))
  mean_of-plus tree f g s = plus-within tree f g (tree.rank s) s

  times-within : (tree : Tree State) (a : Fraction) (f : State → Fraction) (steps : ℕ) (s : State) → Same (mean_of_within steps tree (λ t. times a (f t)) s) (times a (mean_of_within steps tree f s))
  times-within tree a f zero s = same_refl (times a (f s))
  times-within tree a f (suc steps) s =
      elim (cases_Bool (tree.done s)) [
        | inl e ↦ rw e (same_refl (times a (f s)))
        | inr e ↦
            rw e (same_trans (divided_same (weight_sum (tree.parts s)) (same_trans (sum_same (weight_sum (tree.parts s)) (λ v. mean_of_within steps tree (λ t. times a (f t)) (picked s (tree.parts s) v)) (λ v. times a (mean_of_within steps tree f (picked s (tree.parts s) v)))
            (λ v _. times-within tree a f steps (picked s (tree.parts s) v)))
            (sum-times (weight_sum (tree.parts s)) a (λ v. mean_of_within steps tree f (picked s (tree.parts s) v)))))
            (times-divided (weight_sum (tree.parts s)) a (sum_over_draws (mean_of_within steps tree f) s (tree.parts s))))
      ]

  pub mean_of-times : (tree : Tree State) (a : Fraction) (f : State → Fraction) (s : State) → Same (mean_of tree (λ t. times a (f t)) s) (times a (mean_of tree f s))
  mean_of-times tree a f s = times-within tree a f (tree.rank s) s

  -- ---- by a step of a lawful tree

  module _ (tree : Tree State) (belongs : State → Type 0) (lawful : Lawful tree belongs) where
    none_at_zero : (s : State) → belongs s → tree.done s ≡ false → tree.rank s ≤ 0 → ⊥
    none_at_zero s b e r = let split = lawful.split s b e in no_parts tree belongs lawful (λ k. whole 0) s (tree.parts s) r split.some split.each

    -- steps that are enough give one mean
    enough : (f : State → Fraction) (n m : ℕ) (s : State) → belongs s → tree.rank s ≤ n → tree.rank s ≤ m → mean_of_within n tree f s ≡ mean_of_within m tree f s
    enough f zero zero s b h k = refl
    enough f zero (suc m) s b h k = elim (cases_Bool (tree.done s)) [ inl e ↦ rw e refl | inr e ↦ absurd (none_at_zero s b e h) ]
    enough f (suc n) zero s b h k = elim (cases_Bool (tree.done s)) [ inl e ↦ rw e refl | inr e ↦ absurd (none_at_zero s b e k) ]
    enough f (suc n) (suc m) s b h k =
        elim (cases_Bool (tree.done s)) [
          | inl e ↦ rw e refl
          | inr e ↦
              rw e (ap (λ x. divided x (weight_sum (tree.parts s)))
              (draws_equal (IsPart tree belongs s) (mean_of_within n tree f) (mean_of_within m tree f) s (tree.parts s) (lawful.split s b e).each
              (λ p is. (let l : tree.rank p.state < tree.rank s = is.falls in enough f n m p.state is.member (omega arith) (omega arith)))))
        ]

    ended_within : (f : State → Fraction) (n : ℕ) (s : State) → tree.done s ≡ true → mean_of_within n tree f s ≡ f s
    ended_within f zero s e = refl
    ended_within f (suc n) s e = rw e refl

    pub mean_of_end : (f : State → Fraction) (s : State) → tree.done s ≡ true → mean_of tree f s ≡ f s
    mean_of_end f s e = ended_within f (tree.rank s) s e

    step_within : (f : State → Fraction) (n : ℕ) (s : State) → belongs s → tree.rank s ≤ n → tree.done s ≡ false → mean_of_within n tree f s ≡ divided (sum_over_draws (mean_of tree f) s (tree.parts s)) (weight_sum (tree.parts s))
    step_within f zero s b r e = absurd (none_at_zero s b e r)
    step_within f (suc n) s b r e =
        rw e (ap (λ x. divided x (weight_sum (tree.parts s)))
        (draws_equal (IsPart tree belongs s) (mean_of_within n tree f) (mean_of tree f) s (tree.parts s) (lawful.split s b e).each
        (λ p is. (let l : tree.rank p.state < tree.rank s = is.falls in enough f n (tree.rank p.state) p.state is.member (omega arith) (omega arith)))))

    -- by the numbers that are drawn
    pub mean_of_draws : (f : State → Fraction) (s : State) → belongs s → tree.done s ≡ false → mean_of tree f s ≡ divided (sum_over_draws (mean_of tree f) s (tree.parts s)) (weight_sum (tree.parts s))
    mean_of_draws f s b e = step_within f (tree.rank s) s b (omega arith) e

    -- by the weights of the parts
    pub mean_of_step : (f : State → Fraction) (s : State) → belongs s → tree.done s ≡ false → Same (mean_of tree f s) (divided (weighted (mean_of tree f) (tree.parts s)) (weight_sum (tree.parts s)))
    mean_of_step f s b e = rw (mean_of_draws f s b e) (divided_same (weight_sum (tree.parts s)) (draws_are_weights (mean_of tree f) s (tree.parts s)))

    -- functions that agree at the leaves
    agree : (f g : State → Fraction) → ((s : State) → belongs s → tree.done s ≡ true → Same (f s) (g s)) → (steps : ℕ) (s : State) → belongs s → tree.rank s ≤ steps → Same (mean_of tree f s) (mean_of tree g s)
    agree f g h zero s b r =
        elim (cases_Bool (tree.done s)) [
          | inl e ↦ rw (mean_of_end f s e, mean_of_end g s e) (h s b e)
          | inr e ↦ absurd (none_at_zero s b e r)
        ]
    agree f g h (suc steps) s b r =
        elim (cases_Bool (tree.done s)) [
          | inl e ↦ rw (mean_of_end f s e, mean_of_end g s e) (h s b e)
          | inr e ↦
              rw (mean_of_draws f s b e, mean_of_draws g s b e) (divided_same (weight_sum (tree.parts s))
              (draws_same (IsPart tree belongs s) (mean_of tree f) (mean_of tree g) s (tree.parts s) (lawful.split s b e).each
              (λ p is. (let l : tree.rank p.state < tree.rank s = is.falls in agree f g h steps p.state is.member (omega arith)))))
        ]

    pub mean_of_same : (f g : State → Fraction) → ((s : State) → belongs s → tree.done s ≡ true → Same (f s) (g s)) → (s : State) → belongs s → Same (mean_of tree f s) (mean_of tree g s)
    mean_of_same f g h s b = agree f g h (tree.rank s) s b (omega arith)

-- ---- through a lens

module _ {Inner Outer : Type 0} (inner : Tree Inner) (belongs : Inner → Type 0) (lawful : Lawful inner belongs) (outer : Tree Outer) (outside : Outer → Type 0) (outer_lawful : Lawful outer outside)
    (put : Inner → Outer) (view : ℕ → OuterUnit) (lens : Lens inner belongs outer put view) (member : (i : Inner) → belongs i → outside (put i)) (f : Outer → Fraction) where
  abbrev on : Inner → Fraction
  on i = mean_of outer f (put i)

  through : (steps : ℕ) (i : Inner) → belongs i → inner.rank i ≤ steps → mean_of outer f (put i) ≡ mean_of inner on i
  through zero i b r =
      elim (cases_Bool (inner.done i)) [
        | inl e ↦ sym (mean_of_end inner belongs lawful on i e)
        | inr e ↦ absurd (none_at_zero inner belongs lawful i b e r)
      ]
  through (suc steps) i b r =
      elim (cases_Bool (inner.done i)) [
        | inl e ↦ sym (mean_of_end inner belongs lawful on i e)
        | inr e ↦
            (let n : ℕ = weight_sum (inner.parts i) in
            let Q : List (Part Outer) → Type 0 = λ ps. divided (sum_over_draws (mean_of outer f) (put i) ps) (weight_sum ps) ≡ divided (sum_over_draws on i (inner.parts i)) n in
            let moved_is : Q (moved put (inner.parts i)) =
            rw (weight_sum-moved put (inner.parts i)) (ap (λ x. divided x n) (sum_equal n (λ v. mean_of outer f (picked (put i) (moved put (inner.parts i)) v)) (λ v. on (picked i (inner.parts i) v)) (λ v _. ap (mean_of outer f) (picked-moved put i (inner.parts i) v)))) in
            mean_of_draws outer outside outer_lawful f (put i) (member i b) (lens.going i e)
            ∙ subst Q (sym (lens.parts i e)) moved_is
            ∙ ap (λ x. divided x n) (draws_equal (IsPart inner belongs i) on (mean_of inner on) i (inner.parts i) (lawful.split i b e).each
            (λ p is. (let l : inner.rank p.state < inner.rank i = is.falls in through steps p.state is.member (omega arith))))
            ∙ sym (mean_of_draws inner belongs lawful on i b e))
      ]

  -- the outer mean is the inner mean of the outer means from the inner leaves
  pub mean_through : (i : Inner) → belongs i → mean_of outer f (put i) ≡ mean_of inner (λ j. mean_of outer f (put j)) i
  mean_through i b = through (inner.rank i) i b (omega arith)
