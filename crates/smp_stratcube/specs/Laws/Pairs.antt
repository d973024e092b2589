-- The units of a pivotal step, what holds where they take over numerators of the common denominator of their stratum, and that it is split
-- lawfully.
use Rattle.std.proofs.Common.{◌≡◌, ◌≢◌, ℕ, zero, suc, ◌<◌, ◌≤◌, nat_eq, true, false, Option, Some, None, List, []}
use Rattle.std.proofs.Common.{◌∷◌, length, get_or, arith, refl, sym, ◌∙◌, subst, inl, inr, le_of_suc-le-suc, suc-le-suc}
use Rattle.std.proofs.Common.{◌+◌, ◌*◌, ◌^◌, ap, ◌⊎◌}
use Rattle.std.specs.List.{AllByRecursion}
use Rattle.std.proofs.lemmas.List.Elements.{All-from_recursion}
use Rattle.std.proofs.lemmas.List.Folds.{Any-from_list_any}
use Rattle.std.proofs.lemmas.Bool.{cases_Bool, eq-eqb, eqb-false, eqb-true, true≢false}
use Prim.Native.Nat.{◌∣◌}
use Rattle.smp_prob.specs.Shares.{Shares}
use Rattle.smp_split.specs.Trees.{EachPart, Part, IsPart, LawfulParts, weight_sum, weighted}
use Rattle.smp_split.specs.Parts.{moved}
use Rattle.smp_split.specs.Laws.Parts.{each_moved, weighted-same}
use Rattle.smp_values.specs.Values.{fractional, IsValues, with_one, with_pair}
use Rattle.smp_values.specs.Steps.{parts_on, pair_parts, steps_tree}
use Rattle.smp_moves.specs.Cubes.{pairing}
use Rattle.smp_stratcube.specs.declared.values.Value.{Value}
use Rattle.smp_stratcube.specs.Units.{Units, share, stratum}
use Rattle.smp_stratcube.specs.Values.{AreValues, fractional_count, fractional_units, is_fractional, is_settled, stratum_common, taken_over}
use Rattle.smp_stratcube.specs.Values.{value, over_common, value_at}
use Rattle.smp_stratcube.specs.Pairs.{first_pair, step_units}
use Rattle.smp_stratcube.specs.States.{Balancing, IsPairing, IsBalancing}
use Rattle.smp_stratcube.specs.Kept.Pairs.{is_one_of, parts_of, units_by}
use Rattle.smp_stratcube.specs.Laws.Taken.{taken_divides, taken_fresh, taken_kept, taken_values, length_over, length_taken, over_fractional}
use Rattle.smp_stratcube.specs.Laws.Taken.{over_value, over_values, taken_fractional, taken_value}
use Rattle.smp_stratcube.specs.Laws.Units.{fractional_in, order_apart, order_count, order_going, stratum_divides, stratum_most}
use Rattle.smp_stratcube.specs.Laws.Units.{stratum_some}
use Rattle.std.proofs.lemmas.List.{get_or-set_same}
use Rattle.smp_frac.specs.Fractions.{Fraction, Same, whole, over, plus, times}
use Rattle.smp_frac.proofs.Arithmetic.{same_refl, same_sym, same_trans, one-times, plus_same, times_same}
use Rattle.smp_frac.proofs.Over.{over_plus}
use Rattle.smp_values.specs.Pairs.{pair_weights, pair_first, pair_second}
use Rattle.smp_values.specs.Values as shares
use Rattle.smp_values.proofs.Changes.{two_at_i, two_at_j}
use Rattle.smp_values.proofs.Fractional.{fractional_den, fractional_is}
use Rattle.smp_values.proofs.LawfulSteps.{lone_lawful, pair_lawful}
use Rattle.smp_values.proofs.PairNumbers.{IsPair, is_pair}
use Rattle.smp_moves.specs.Moves.{fraction_of}
use Rattle.smp_stratcube.specs.Kept.Trees.{strat_tree}
use Rattle.smp_stratcube.specs.Laws.Ends.{fewer_open}

-- ---- the pair

-- where the pair stands: no neighbours before it are of one stratum
pub record StandsAt (units : Units) (xs : List ℕ) (pair : ℕ × ℕ) : Type 0 where
  pub place : ℕ
  pub inside : suc place < length xs
  pub first : get_or xs place 0 ≡ pair.0
  pub second : get_or xs (suc place) 0 ≡ pair.1
  pub same : stratum units pair.0 ≡ stratum units pair.1
  pub before : (j : ℕ) → j < place → stratum units (get_or xs j 0) ≢ stratum units (get_or xs (suc j) 0)

pub stands_at : (units : Units) (xs : List ℕ) (pair : ℕ × ℕ) → first_pair units xs ≡ Some pair → StandsAt units xs pair
stands_at units [] pair e = absurd (let h : None ≡ Some pair = e in cc)
stands_at units (i ∷ []) pair e = absurd (let h : None ≡ Some pair = e in cc)
stands_at units (i ∷ k ∷ xs) pair e =
    elim (cases_Bool (nat_eq (stratum units i) (stratum units k))) [
      | inl t ↦
          (let found : Some (i, k) ≡ Some pair = rw t at e in
          let is : (i, k) ≡ pair = cc in
          subst (StandsAt units (i ∷ k ∷ xs)) is
          (record {
            place = 0;
            inside = omega arith;
            first = refl;
            second = refl;
            same = eqb-true (stratum units i) (stratum units k) t;
            before = λ j l. absurd (omega (arith, l));
          }))
      | inr f ↦
          (let s = stands_at units (k ∷ xs) pair (rw f at e) in
          record {
            place = suc s.place;
            inside = suc-le-suc s.inside;
            first = s.first;
            second = s.second;
            same = s.same;
            before = elim [
              | zero ↦ λ l. eqb-false (stratum units i) (stratum units k) f
              | suc j ↦ λ l. s.before j (le_of_suc-le-suc l)
            ];
          })
    ]

-- ---- the units of a step

pub record IsMeeting (units : Units) (values : List Value) (i j : ℕ) : Type 0 where
  pub first : is_fractional values i ≡ true
  pub second : is_fractional values j ≡ true
  pub apart : i ≢ j
  pub stratum_is : stratum units i ≡ stratum units j

-- one fractional unit, or two of a stratum
abbrev pub IsStep : Units → List Value → List ℕ → Type 0
IsStep units values [] = ⊥
IsStep units values (i ∷ []) = is_fractional values i ≡ true
IsStep units values (i ∷ j ∷ []) = IsMeeting units values i j
IsStep units values (i ∷ j ∷ k ∷ ks) = ⊥

module _ (units : Units) (values : List Value) where
  pub pair_found : (p : ℕ × ℕ) → first_pair units (fractional_units values) ≡ Some p → IsMeeting units values p.0 p.1
  pair_found p e =
      let at = stands_at units (fractional_units values) p e in
      record {
        first = subst (λ (k : ℕ). is_fractional values k ≡ true) at.first (order_going values at.place (omega (arith, at.inside)));
        second = subst (λ (k : ℕ). is_fractional values k ≡ true) at.second (order_going values (suc at.place) at.inside);
        apart = λ h. order_apart values at.place (suc at.place) 0 (omega arith) at.inside (at.first ∙ h ∙ sym at.second);
        stratum_is = at.same;
      }

  step_by : (p : Option (ℕ × ℕ)) → first_pair units (fractional_units values) ≡ p → (order : List ℕ)
      → ((j : ℕ) → j < length order → is_fractional values (get_or order j 0) ≡ true) → length order ≢ 0
      → IsStep units values (units_by p order)
  step_by (Some p) e order going some = pair_found p e
  step_by None e [] going some = absurd (some refl)
  step_by None e (i ∷ order) going some = going 0 (omega arith)

  pub step_is : is_settled values ≡ false → IsStep units values (step_units units values)
  step_is going =
      step_by (first_pair units (fractional_units values)) refl (fractional_units values) (order_going values)
      (λ z. eqb-false (fractional_count values) 0 going (sym (order_count values) ∙ z))

-- ---- units among some

pub each_of : (P : ℕ → Type 0) (ks : List ℕ) → AllByRecursion P ks → (k : ℕ) → is_one_of ks k ≡ true → P k
each_of P ks each k h =
    let at = Any-from_list_any (λ unit. nat_eq unit k) ks h in
    subst P (eqb-true at.1 k at.4) (subst P at.3 (All-from_recursion P ks each at.0 at.1 at.2))

pub first_among : (i : ℕ) (ks : List ℕ) → is_one_of (i ∷ ks) i ≡ true
first_among i ks = rw (eq-eqb i i refl) refl

pub second_among : (i j : ℕ) (ks : List ℕ) → is_one_of (i ∷ j ∷ ks) j ≡ true
second_among i j ks = elim (cases_Bool (nat_eq i j)) [ inl t ↦ rw t refl | inr f ↦ rw f (first_among j ks) ]

pub among_apart : (ks : List ℕ) (i k : ℕ) → is_one_of ks i ≡ true → is_one_of ks k ≡ false → k ≢ i
among_apart ks i k h f e = true≢false (sym h ∙ subst (λ (x : ℕ). is_one_of ks x ≡ false) e f)

-- each is fractional, and of one stratum
module _ (units : Units) (values : List Value) where
  step_each : (ks : List ℕ) → IsStep units values ks
      → AllByRecursion (λ k. (is_fractional values k ≡ true) × (stratum units k ≡ stratum units (get_or ks 0 0))) ks
  step_each [] step = absurd step
  step_each (i ∷ []) step = ((step, refl), tt)
  step_each (i ∷ j ∷ []) step = ((step.first, refl), ((step.second, sym step.stratum_is), tt))
  step_each (i ∷ j ∷ k ∷ ks) step = absurd step

  pub step_at : (ks : List ℕ) → IsStep units values ks → (k : ℕ) → is_one_of ks k ≡ true
      → (is_fractional values k ≡ true) × (stratum units k ≡ stratum units (get_or ks 0 0))
  step_at ks step =
      each_of (λ k. (is_fractional values k ≡ true) × (stratum units k ≡ stratum units (get_or ks 0 0))) ks (step_each ks step)

  -- what holds whatever the units of a step take over
  pub each_taken : (ks : List ℕ) (P : List Value → Type 0) → ((t : Shares) → P (taken_over (is_one_of ks) values t))
      → EachPart (λ p. P p.state) (parts_of units values ks)
  each_taken ks P holds = by_parts (parts_on _ ks)
    where
      by_parts : (ps : List (Part Shares)) → EachPart (λ p. P p.state) (moved (taken_over (is_one_of ks) values) ps)
      by_parts [] = tt
      by_parts (p ∷ ps) = (holds p.state, by_parts ps)

  pub each_paired : (ks : List ℕ) (left : ℕ) (P : Balancing → Type 0)
      → ((t : Shares) → P (pairing (taken_over (is_one_of ks) values t) left))
      → EachPart (λ p. P p.state) (moved (λ v. pairing v left) (parts_of units values ks))
  each_paired ks left P holds =
      each_moved (λ v. pairing v left) (λ p. P (pairing p.state left)) (λ p. P p.state) (λ p h. h) (parts_of units values ks)
      (each_taken ks (λ v. P (pairing v left)) holds)

-- ---- the parts of a step

plus_over : (x y d : ℕ) → Same (plus (over x d) (over y d)) (over (x + y) d)
plus_over x y d =
    let one : 1 * x + y ≡ x + y = omega arith in
    same_trans (plus_same (same_sym (one-times (over x d))) (same_refl (over y d))) (rw (← one) (over_plus 1 x y d))

-- numerators over this denominator, by which one of these units is settled
record Settles (ks : List ℕ) (den : ℕ) (t : Shares) : Type 0 where
  pub den_is : t.den ≡ den
  pub unit : ℕ
  pub among : is_one_of ks unit ≡ true
  pub settled : shares.is_fractional t unit ≡ false

settled_at : (ks : List ℕ) (den : ℕ) (numer : List ℕ) (k x : ℕ) → is_one_of ks k ≡ true → get_or numer k 0 ≡ x
    → fractional den x ≡ false
    → Settles ks den (record { numer = numer; den = den })
settled_at ks den numer k x among at e = record { den_is = refl; unit = k; among = among; settled = ap (fractional den) at ∙ e }

module _ (units : Units) (values : List Value) (ok : IsPairing units values) (left : ℕ) (ks : List ℕ)
    (step : IsStep units values ks) where
  abbrev n : ℕ
  n = length units.members

  abbrev den : ℕ
  den = stratum_common units values (stratum units (get_or ks 0 0))

  abbrev s : Shares
  s = over_common den values

  pub step_some : 1 ≤ den
  step_some = stratum_some units ok.are n values ok.values (stratum units (get_or ks 0 0))

  pub step_values : IsValues n (2 ^ 80) s
  step_values = over_values n values ok.values den step_some (ok.narrow (stratum units (get_or ks 0 0)))

  going : (k : ℕ) → is_one_of ks k ≡ true → is_fractional values k ≡ true
  going k h = (step_at units values ks step k h).0

  divides : (k : ℕ) → is_one_of ks k ≡ true → (value values k).at.den ∣ den
  divides k h =
      subst (λ (x : ℕ). (value values k).at.den ∣ stratum_common units values x) (step_at units values ks step k h).1
      (stratum_divides units ok.are n values ok.values k (going k h))

  pub step_inside : (k : ℕ) → is_one_of ks k ≡ true → k < length values
  step_inside k h = fractional_in values k (going k h)

  pub step_in : (k : ℕ) → is_one_of ks k ≡ true → k < length s.numer
  step_in k h = omega (arith, step_inside k h, length_over n values ok.values den step_some, ok.values.count)

  pub step_open : (k : ℕ) → is_one_of ks k ≡ true → shares.is_fractional s k ≡ true
  step_open k h = over_fractional n values ok.values den step_some k (divides k h) ∙ going k h

  pub step_value : (k : ℕ) → is_one_of ks k ≡ true → Same (shares.value_at s k) (value_at values k)
  step_value k h = over_value n values ok.values den step_some k (divides k h)

  -- a part
  module _ (p : Part Shares) (is : IsPart (steps_tree n) (IsValues n (2 ^ 80)) s p) (z : Settles ks den p.state) where
    abbrev taken : List Value
    taken = taken_over (is_one_of ks) values p.state

    are : AreValues n taken
    are = taken_values (is_one_of ks) values p.state n ok.values is.member.positive is.member.each

    fewer : (k : ℕ) → is_fractional taken k ≡ true → is_fractional values k ≡ true
    fewer k h =
        elim (cases_Bool (is_one_of ks k)) [
          | inl m ↦ going k m
          | inr f ↦ subst (λ (v : Value). fractional v.at.den v.at.num ≡ true) (taken_kept (is_one_of ks) values p.state k f) h
        ]

    den_at : (k : ℕ) → is_fractional taken k ≡ true → (value taken k).at.den ∣ stratum_common units values (stratum units k)
    den_at k h =
        elim (cases_Bool (is_one_of ks k)) [
          | inl m ↦ subst (λ (x : ℕ). (value taken k).at.den ∣ stratum_common units values x)
              (sym (step_at units values ks step k m).1)
              (subst (λ (d : ℕ). (value taken k).at.den ∣ d) z.den_is
              (taken_divides (is_one_of ks) values p.state n ok.values is.member.positive is.member.each k (step_inside k m) m))
          | inr f ↦ subst (λ (v : Value). v.at.den ∣ stratum_common units values (stratum units k))
              (sym (taken_kept (is_one_of ks) values p.state k f))
              (stratum_divides units ok.are n values ok.values k (fewer k h))
        ]

    part_taken : IsPart (strat_tree units) (IsBalancing units) (pairing values left)
        (record { weight = p.weight; state = pairing taken left })
    part_taken = record {
      heavy = is.heavy;
      falls = fewer_open values taken (length_taken (is_one_of ks) values p.state) z.unit (going z.unit z.among)
          (taken_fractional (is_one_of ks) values p.state n ok.values is.member.positive is.member.each z.unit
          (step_inside z.unit z.among) z.among ∙ z.settled) fewer;
      member = record {
        are = ok.are;
        values = are;
        fresh = taken_fresh (is_one_of ks) values p.state (share units) n ok.values.count ok.fresh;
        narrow = λ h.
            (let most = stratum_most units ok.are n taken are h (stratum_common units values h)
            (stratum_some units ok.are n values ok.values h)
            (λ k opened here. subst (λ (x : ℕ). (value taken k).at.den ∣ stratum_common units values x) here (den_at k opened)) in
            omega (arith, ok.narrow h, most));
      };
    }

    part_value : (k : ℕ) → is_one_of ks k ≡ true → Same (value_at taken k) (shares.value_at p.state k)
    part_value k h =
        taken_value (is_one_of ks) values p.state n ok.values is.member.positive is.member.each k (step_inside k h) h

    -- it keeps the sum of two values where it keeps that of their numerators
    sum_kept : (i j : ℕ) → is_one_of ks i ≡ true → is_one_of ks j ≡ true
        → get_or p.state.numer i 0 + get_or p.state.numer j 0 ≡ get_or s.numer i 0 + get_or s.numer j 0
        → Same (plus (value_at taken i) (value_at taken j)) (plus (value_at values i) (value_at values j))
    sum_kept i j i_one j_one sum =
        let both : Fraction = plus (shares.value_at p.state i) (shares.value_at p.state j) in
        same_trans (plus_same (part_value i i_one) (part_value j j_one))
        (same_trans (subst (λ (d : ℕ). Same both (over (get_or s.numer i 0 + get_or s.numer j 0) d)) z.den_is
        (subst (λ (c : ℕ). Same both (over c p.state.den)) sum
        (plus_over (get_or p.state.numer i 0) (get_or p.state.numer j 0) p.state.den)))
        (same_trans (same_sym (plus_over (get_or s.numer i 0) (get_or s.numer j 0) den))
        (plus_same (step_value i i_one) (step_value j j_one))))

  -- two parts
  module _ (x y : Part Shares) (lawful : LawfulParts (steps_tree n) (IsValues n (2 ^ 80)) s (x ∷ y ∷ []))
      (first : Settles ks den x.state) (second : Settles ks den y.state) where
    even_at : (k : ℕ) → k < length units.members
        → Same (weighted (λ t. value_at t k) (moved (taken_over (is_one_of ks) values) (x ∷ y ∷ [])))
        (times (whole (weight_sum (x ∷ y ∷ []))) (value_at values k))
    even_at k l =
        elim (cases_Bool (is_one_of ks k)) [
          | inl h ↦
              (let e = lawful.each in
              same_trans
              (plus_same (times_same (same_refl (whole x.weight)) (part_value x e.0 first k h))
              (plus_same (times_same (same_refl (whole y.weight)) (part_value y e.1.0 second k h)) (same_refl (whole 0))))
              (same_trans (lawful.even k l) (times_same (same_refl (whole (weight_sum (x ∷ y ∷ [])))) (step_value k h))))
          | inr f ↦
              weighted-same (λ t. value_at t k) (value_at values k) (moved (taken_over (is_one_of ks) values) (x ∷ y ∷ [])) (
                ap (λ (v : Value). fraction_of v.at) (taken_kept (is_one_of ks) values x.state k f),
                (ap (λ (v : Value). fraction_of v.at) (taken_kept (is_one_of ks) values y.state k f), tt),
              )
        ]

    split_in_two : LawfulParts (strat_tree units) (IsBalancing units) (pairing values left)
        (moved (λ v. pairing v left) (moved (taken_over (is_one_of ks) values) (x ∷ y ∷ [])))
    split_in_two = record {
      some = lawful.some;
      narrow = lawful.narrow;
      each = (part_taken x lawful.each.0 first, (part_taken y lawful.each.1.0 second, tt));
      even = even_at;
    }

-- ---- a step of one unit, and of two

module _ (units : Units) (values : List Value) (ok : IsPairing units values) (left i : ℕ) (going : is_fractional values i ≡ true) where
  abbrev all : Shares
  all = over_common (stratum_common units values (stratum units i)) values

  settles_one : (x : ℕ) → fractional all.den x ≡ false → Settles (i ∷ []) all.den (with_one all i x)
  settles_one x e = settled_at (i ∷ []) all.den _ i x (first_among i [])
      (get_or-set_same all.numer i x 0 (step_in units values ok left (i ∷ []) going i (first_among i []))) e

  settling_split : LawfulParts (strat_tree units) (IsBalancing units) (pairing values left)
      (moved (λ v. pairing v left) (parts_of units values (i ∷ [])))
  settling_split =
      split_in_two units values ok left (i ∷ []) going _ _
      (lone_lawful (length units.members) all (step_values units values ok left (i ∷ []) going) i
      (step_in units values ok left (i ∷ []) going i (first_among i []))
      (step_open units values ok left (i ∷ []) going i (first_among i [])))
      (settles_one all.den (fractional_den all.den)) (settles_one 0 refl)

module _ (units : Units) (values : List Value) (ok : IsPairing units values) (left i j : ℕ) (m : IsMeeting units values i j) where
  abbrev both : Shares
  both = over_common (stratum_common units values (stratum units i)) values

  abbrev a : ℕ
  a = get_or both.numer i 0

  abbrev b : ℕ
  b = get_or both.numer j 0

  i_in : i < length both.numer
  i_in = step_in units values ok left (i ∷ j ∷ []) m i (first_among i (j ∷ []))

  j_in : j < length both.numer
  j_in = step_in units values ok left (i ∷ j ∷ []) m j (second_among i j [])

  i_open : shares.is_fractional both i ≡ true
  i_open = step_open units values ok left (i ∷ j ∷ []) m i (first_among i (j ∷ []))

  j_open : shares.is_fractional both j ≡ true
  j_open = step_open units values ok left (i ∷ j ∷ []) m j (second_among i j [])

  lawful : LawfulParts (steps_tree (length units.members)) (IsValues (length units.members) (2 ^ 80)) both (pair_parts both i j)
  lawful = pair_lawful (length units.members) both (step_values units values ok left (i ∷ j ∷ []) m) i j m.apart i_in j_in i_open j_open

  numbers : IsPair a b both.den (pair_weights a b both.den) (pair_first a b both.den) (pair_second a b both.den)
  numbers =
      (let fa = fractional_is both.den a i_open in let fb = fractional_is both.den b j_open in is_pair a b both.den fa.0 fa.1 fb.0 fb.1)

  settles_two : (new : ℕ × ℕ) → (fractional both.den new.0 ≡ false) ⊎ (fractional both.den new.1 ≡ false)
      → Settles (i ∷ j ∷ []) both.den (with_pair both i j new)
  settles_two new (inl z) =
      settled_at (i ∷ j ∷ []) both.den _ i new.0 (first_among i (j ∷ [])) (two_at_i both.numer i j new.0 new.1 m.apart i_in j_in) z
  settles_two new (inr z) =
      settled_at (i ∷ j ∷ []) both.den _ j new.1 (second_among i j []) (two_at_j both.numer i j new.0 new.1 m.apart i_in j_in) z

  meeting_split : LawfulParts (strat_tree units) (IsBalancing units) (pairing values left)
      (moved (λ v. pairing v left) (parts_of units values (i ∷ j ∷ [])))
  meeting_split =
      split_in_two units values ok left (i ∷ j ∷ []) m _ _ lawful
      (settles_two (pair_first a b both.den) numbers.first_falls) (settles_two (pair_second a b both.den) numbers.second_falls)

  -- each part keeps the sum of the two values
  pub meeting_sums : EachPart (λ p. Same (plus (value_at p.state i) (value_at p.state j)) (plus (value_at values i) (value_at values j)))
      (parts_of units values (i ∷ j ∷ []))
  meeting_sums =
      let sum : (new : ℕ × ℕ) → new.0 + new.1 ≡ a + b
      → get_or (with_pair both i j new).numer i 0 + get_or (with_pair both i j new).numer j 0 ≡ a + b =
      λ new e. omega (
        arith,
        two_at_i both.numer i j new.0 new.1 m.apart i_in j_in,
        two_at_j both.numer i j new.0 new.1 m.apart i_in j_in,
        e,
      ) in
      let kept = λ (p : Part Shares). sum_kept units values ok left (i ∷ j ∷ []) m p in (
        kept _ lawful.each.0 (settles_two (pair_first a b both.den) numbers.first_falls) i j
            (first_among i (j ∷ [])) (second_among i j [])
            (sum (pair_first a b both.den) (omega arith)),
        (
          kept _ lawful.each.1.0 (settles_two (pair_second a b both.den) numbers.second_falls) i j
              (first_among i (j ∷ [])) (second_among i j [])
              (sum (pair_second a b both.den) (omega arith)),
          tt,
        ),
      )

pub step_split : (units : Units) (values : List Value) (ok : IsPairing units values) (left : ℕ) (ks : List ℕ) → IsStep units values ks
    → LawfulParts (strat_tree units) (IsBalancing units) (pairing values left)
    (moved (λ v. pairing v left) (parts_of units values ks))
step_split units values ok left [] step = absurd step
step_split units values ok left (i ∷ []) step = settling_split units values ok left i step
step_split units values ok left (i ∷ j ∷ []) step = meeting_split units values ok left i j step
step_split units values ok left (i ∷ j ∷ k ∷ ks) step = absurd step
