-- Two designs side by side are lawful by two lenses, and the mean of a product is the product of the means.
use Rattle.std.proofs.Common.{◌≡◌, ℕ, ◌-◌, ◌≤◌, true, false, cond, nat_lt, arith, refl, inl, inr}
use Rattle.std.proofs.lemmas.Bool.{cases_Bool, ltb-true, ltb-false, and_parts}
use Rattle.smp_split.specs.{Besides.{Both, BothBelong, with_first, with_second, beside}, Lenses.{OuterUnit, fixed, as_unit, Lens}}
use Rattle.smp_frac.specs.Fractions.{Fraction, Same, times}
use Rattle.smp_split.specs.{Means.{mean_of}, Trees.{Tree, LawfulEnd, Lawful}, Laws.Lenses.{split_through}}
use Rattle.smp_frac.proofs.Arithmetic.{same_refl, same_trans, times_comm}
use Rattle.smp_split.proofs.MeanOf.{mean_of_end, mean_of_same, mean_of-times, mean_through}

module _ {A B : Type 0} (a : Tree A) (b : Tree B) (in_a : A → Type 0) (in_b : B → Type 0) where
  -- the first design, while the second one stands at t
  abbrev first_view : B → ℕ → OuterUnit
  first_view t k = cond (nat_lt k a.units) (as_unit k) (fixed (b.value t (k - a.units)))

  pub first_lens : (t : B) → Lens a in_a (beside a b) (with_first t) (first_view t)
  first_lens t = record {
    within = λ k h. elim (cases_Bool (nat_lt k a.units)) [ inl e ↦ rw e (ltb-true k a.units e) | inr e ↦ rw e tt ];
    going = λ i e. rw e refl;
    kind = λ i e. rw e refl;
    parts = λ i e. rw e refl;
    falls = λ i j less. omega arith;
    value = λ i here k h. elim (cases_Bool (nat_lt k a.units)) [ inl e ↦ rw e (same_refl (a.value i k)) | inr e ↦ rw e (same_refl (b.value t (k - a.units))) ];
  }

  -- the second design, where the first one is done at s
  abbrev second_view : A → ℕ → OuterUnit
  second_view s k = cond (nat_lt k a.units) (fixed (a.value s k)) (as_unit (k - a.units))

  pub second_lens : (s : A) → a.done s ≡ true → Lens b in_b (beside a b) (with_second s) (second_view s)
  second_lens s done = record {
    within = λ k h. elim (cases_Bool (nat_lt k a.units)) [ inl e ↦ rw e tt | inr e ↦ rw e (let l : a.units ≤ k = ltb-false k a.units e in omega arith) ];
    going = λ i e. rw (done, e) refl;
    kind = λ i e. rw done refl;
    parts = λ i e. rw done refl;
    falls = λ i j less. omega arith;
    value = λ i here k h. elim (cases_Bool (nat_lt k a.units)) [ inl e ↦ rw e (same_refl (a.value s k)) | inr e ↦ rw e (same_refl (b.value i (k - a.units))) ];
  }

  module _ (a_lawful : Lawful a in_a) (b_lawful : Lawful b in_b) where
    both_end : (s : Both A B) → BothBelong in_a in_b s → (beside a b).done s ≡ true → LawfulEnd (beside a b) s
    both_end s here done k h =
        let parts = and_parts (a.done s.first) (b.done s.second) done in
        elim (cases_Bool (nat_lt k a.units)) [
          | inl e ↦ rw e (a_lawful.end s.first here.first parts.0 k (ltb-true k a.units e))
          | inr e ↦ rw e (b_lawful.end s.second here.second parts.1 (k - a.units) (let l : a.units ≤ k = ltb-false k a.units e in omega arith))
        ]

    pub beside_lawful : Lawful (beside a b) (BothBelong in_a in_b)
    beside_lawful = record {
      split = λ s here going. elim (cases_Bool (a.done s.first)) [
        | inl e ↦
            (let on : b.done s.second ≡ false = rw e at going in
            split_through b in_b (beside a b) (with_second s.first) (second_view s.first) (second_lens s.first e) (BothBelong in_a in_b)
            (λ i m. record { first = here.first; second = m }) s.second here.second on (b_lawful.split s.second here.second on))
        | inr e ↦ split_through a in_a (beside a b) (with_first s.second) (first_view s.second) (first_lens s.second) (BothBelong in_a in_b)
            (λ i m. record { first = m; second = here.second }) s.first here.first e (a_lawful.split s.first here.first e)
      ];
      end = both_end;
    }

    -- of a function of the leaves of the first design and one of those of the second
    module _ (f : A → Fraction) (g : B → Fraction) where
      abbrev both : Both A B → Fraction
      both s = times (f s.first) (g s.second)

      -- where the first design is done
      after_first : (s : A) (t : B) → in_a s → a.done s ≡ true → in_b t → Same (mean_of (beside a b) both (with_first t s)) (times (f s) (mean_of b g t))
      after_first s t s_in done t_in =
          let inner : mean_of (beside a b) both (with_second s t) ≡ mean_of b (λ j. mean_of (beside a b) both (with_second s j)) t =
          mean_through b in_b b_lawful (beside a b) (BothBelong in_a in_b) beside_lawful (with_second s) (second_view s) (second_lens s done)
          (λ i m. record { first = s_in; second = m }) both t t_in in
          rw inner (same_trans
          (mean_of_same b in_b b_lawful (λ j. mean_of (beside a b) both (with_second s j)) (λ j. times (f s) (g j))
          (λ j j_in j_done. (let e : (beside a b).done (with_second s j) ≡ true = rw (done, j_done) refl in
          rw (mean_of_end (beside a b) (BothBelong in_a in_b) beside_lawful both (with_second s j) e) (same_refl (times (f s) (g j))))) t t_in)
          (mean_of-times b (f s) g t))

      pub mean_of_product : (s : A) (t : B) → in_a s → in_b t → Same (mean_of (beside a b) both (record { first = s; second = t })) (times (mean_of a f s) (mean_of b g t))
      mean_of_product s t s_in t_in =
          let outer : mean_of (beside a b) both (with_first t s) ≡ mean_of a (λ i. mean_of (beside a b) both (with_first t i)) s =
          mean_through a in_a a_lawful (beside a b) (BothBelong in_a in_b) beside_lawful (with_first t) (first_view t) (first_lens t)
          (λ i m. record { first = m; second = t_in }) both s s_in in
          rw outer (same_trans
          (mean_of_same a in_a a_lawful (λ i. mean_of (beside a b) both (with_first t i)) (λ i. times (mean_of b g t) (f i))
          (λ i i_in i_done. same_trans (after_first i t i_in i_done t_in) (times_comm (f i) (mean_of b g t))) s s_in)
          (same_trans (mean_of-times a (mean_of b g t) f s) (times_comm (mean_of b g t) (mean_of a f s))))
