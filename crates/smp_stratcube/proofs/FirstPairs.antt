-- The first two neighbours of one stratum among the fractional units are the first two units of the first stratum that has two.
use Rattle.std.proofs.Common.{◌≡◌, ◌≢◌, ℕ, suc, ◌<◌, ◌≤◌, true, Option, Some, None, List, length, get_or, arith, refl, sym, ap, ◌∙◌, subst, inl, inr, ◌⊎◌}
use Rattle.std.proofs.lemmas.Bool.{cases_eq, cases_lt}
use Rattle.smp_stratcube.specs.{declared.values.Value.{Value}, Units.{Units, stratum}, Values.{fractional_units, is_fractional}}
use Rattle.smp_stratcube.specs.{Pairs.{IsFirstPair, IsPairOf, first_pair}, States.{IsPairing}, Laws.Pairs.{StandsAt, stands_at}}
use Rattle.smp_stratcube.specs.Laws.Units.{fractional_in, order_going, order_place}
use Rattle.smp_stratcube.proofs.{Ahead.{order_rises}, Pairing.{apart}}

-- where no two places have units of one stratum, no two fractional units are of one
pub one_by_one : (units : Units) (values : List Value) →
    ((p q : ℕ) → p < q → q < length (fractional_units values) → stratum units (get_or (fractional_units values) p 0) ≡ stratum units (get_or (fractional_units values) q 0) → ⊥) → IsPairOf units values None
one_by_one units values never j k open_j open_k same =
    let a = order_place values j open_j in
    let b = order_place values k open_k in
    let strata : stratum units (get_or (fractional_units values) a.0 0) ≡ stratum units (get_or (fractional_units values) b.0 0) = ap (stratum units) a.2 ∙ same ∙ sym (ap (stratum units) b.2) in
    elim (cases_eq a.0 b.0) [
      | inl e ↦ sym a.2 ∙ ap (λ p. get_or (fractional_units values) p 0) e ∙ b.2
      | inr ne ↦ elim (cases_lt a.0 b.0) [
        | inl less ↦ absurd (never a.0 b.0 less b.1 strata)
        | inr le ↦ absurd (never b.0 a.0 (omega (arith, le, ne)) a.1 (sym strata))
      ]
    ]

module _ (units : Units) (values : List Value) (ok : IsPairing units values) where
  abbrev at : ℕ → ℕ
  at j = get_or (fractional_units values) j 0

  -- the units rise, and the strata don't fall
  rises : (i j : ℕ) → i ≤ j → j < length (fractional_units values) → at i ≤ at j
  rises i j l m =
      elim (cases_eq i j) [
        | inl e ↦ (let same : at i ≡ at j = ap (λ p. at p) e in omega (arith, same))
        | inr ne ↦ (let less = order_rises values i j 0 (omega (arith, l, ne)) m in omega (arith, less))
      ]

  level : (i j : ℕ) → i ≤ j → j < length (fractional_units values) → stratum units (at i) ≤ stratum units (at j)
  level i j l m = ok.are.rises (at i) (at j) (rises i j l m) (omega (arith, fractional_in values (at j) (order_going values j m), ok.values.count))

  -- past neighbours of two strata they have risen
  risen : (i j : ℕ) → i < j → j < length (fractional_units values) → stratum units (at i) ≢ stratum units (at (suc i)) → stratum units (at i) < stratum units (at j)
  risen i j l m ne = (let a = level i (suc i) (omega arith) (omega (arith, l, m)) in let b = level (suc i) j (omega (arith, l)) m in omega (arith, a, b, ne))

  -- where there is no pair, each stratum has one fractional unit at most
  pub alone : first_pair units (fractional_units values) ≡ None → IsPairOf units values None
  alone e = one_by_one units values (λ p q l m same.
      (let up = risen p q l m (apart units (fractional_units values) e p (omega (arith, l, m))) in omega (arith, up, same)))

  module _ (pair : ℕ × ℕ) (s : StandsAt units (fractional_units values) pair) where
    before_none : (j k : ℕ) → j < k → j < s.place → k < length (fractional_units values) → stratum units (get_or (fractional_units values) j 0) ≡ stratum units (get_or (fractional_units values) k 0) → ⊥
    before_none j k l m inside same = (let up = risen j k l inside (s.before j m) in omega (arith, up, same))

    in_first : (k q : ℕ) → q < length (fractional_units values) → get_or (fractional_units values) q 0 ≡ k → stratum units k ≡ stratum units pair.0 → (k ≡ pair.0) ⊎ (pair.1 ≤ k)
    in_first k q l e same =
        elim (cases_lt q s.place) [
          | inl before ↦ absurd (before_none q s.place before before (omega (arith, s.inside)) (ap (stratum units) e ∙ same ∙ sym (ap (stratum units) s.first)))
          | inr from ↦ elim (cases_eq q s.place) [
            | inl here ↦ inl (sym e ∙ ap (λ p. get_or (fractional_units values) p 0) here ∙ s.first)
            | inr ne ↦ (let up = rises (suc s.place) q (omega (arith, from, ne)) l in inr (omega (arith, up, s.second, e)))
          ]
        ]

    is_first : IsFirstPair units values pair
    is_first = record {
      first_open = subst (λ (k : ℕ). is_fractional values k ≡ true) s.first (order_going values s.place (omega (arith, s.inside)));
      second_open = subst (λ (k : ℕ). is_fractional values k ≡ true) s.second (order_going values (suc s.place) s.inside);
      in_order = (let less = order_rises values s.place (suc s.place) 0 (omega arith) s.inside in omega (arith, less, s.first, s.second));
      same = s.same;
      first_two = λ k opened same. (let q = order_place values k opened in in_first k q.0 q.1 q.2 same);
      first_stratum = λ j k l open_j open_k same.
          (let a = order_place values j open_j in
          let b = order_place values k open_k in
          let ordered : a.0 < b.0 = elim (cases_lt a.0 b.0) [ inl h ↦ h | inr le ↦ absurd (let r = rises b.0 a.0 le a.1 in omega (arith, r, l, a.2, b.2)) ] in
          elim (cases_lt a.0 s.place) [
            | inl before ↦ absurd (before_none a.0 b.0 ordered before b.1 (ap (stratum units) a.2 ∙ same ∙ sym (ap (stratum units) b.2)))
            | inr from ↦ (let up = level s.place a.0 from a.1 in omega (arith, up, ap (stratum units) s.first, ap (stratum units) a.2))
          ]);
    }

pub each_pair : (units : Units) (values : List Value) → IsPairing units values → IsPairOf units values (first_pair units (fractional_units values))
each_pair units values ok = by_pair (first_pair units (fractional_units values)) refl
  where
    by_pair : (p : Option (ℕ × ℕ)) → first_pair units (fractional_units values) ≡ p → IsPairOf units values p
    by_pair (Some pair) e = is_first units values ok pair (stands_at units (fractional_units values) pair e)
    by_pair None e = alone units values ok e
