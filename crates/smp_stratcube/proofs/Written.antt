-- A pivotal step, written unit by unit.
use Rattle.std.proofs.Common.{◌≡◌, ◌≢◌, ℕ, ◌+◌, ◌-◌, ◌*◌, ◌/◌, ◌<◌, ◌≤◌, nat_lt, true, false, Some, None, List, [], ◌∷◌, take, length, get_or, set, arith, refl, sym, ap, ap₂, ◌∙◌, subst, inl, inr, length-set, length-take, get_or-take}
use Rattle.std.specs.List.{AllByRecursion}
use Rattle.std.proofs.lemmas.Bool.{cases_Bool, eqb-false, le-ltb, lt-ltb, ltb-false}
use Rattle.std.proofs.lemmas.List.{ext_get_or, get_or-set_same, get_or-set_other}
use Prim.Native.Nat.{◌∣◌}
use Rattle.smp_prob.specs.Shares.{Shares}
use Rattle.smp_split.specs.Trees.{picked, weight_sum}
use Rattle.smp_values.specs.{Pairs.{pair_bound, pair_weights}, Values.{with_one, with_pair}}
use Rattle.smp_values.proofs.{Changes.{two_at_i, two_at_j}, Fractional.{fractional_is}}
use Rattle.smp_moves.specs.{declared.lines.Line.{Line as LineOfPlaces}, declared.reaches.Reach.{Reach}, Answers.{IsPadded, line_of}}
use Rattle.smp_moves.specs.{Ends.{reach}, Moves.{IsLine, Line, turned}, Kept.Ends.{HasSmallEntries}}
use Rattle.smp_moves.proofs.Entries.{turned_line}
use Rattle.smp_stratcube.specs.{Kept.Computed.{moved_values, values_along}, Kept.Moves.{AreMoved, IsAlong}, declared.fronts.Front.{Front}}
use Rattle.smp_stratcube.proofs.{Pairing.{pair_of_front}, Ahead.{front_count, front_going, in_front}}
use Rattle.smp_stratcube.specs.{declared.values.Value.{Value}, Units.{Units, IsUnits, stratum}, States.{IsPairing}}
use Rattle.smp_stratcube.specs.Values.{fractional_count, fractional_units, is_fractional, is_settled, nothing, over_common, stratum_common, taken_over, value, common_of}
use Rattle.smp_stratcube.specs.{Pairs.{first_pair, paired_parts, step_units}, Kept.Fronts.{IsFront, front_units}}
use Rattle.smp_stratcube.specs.Kept.Pairs.{HasStratum, as_value, is_one_of, met_at, parts_of, settled_at, units_by}
use Rattle.smp_stratcube.specs.{Laws.Pairs.{step_in, step_open, step_some}, Laws.Units.{fractional_in}, Laws.Ends.{along_at, length_along}}
use Rattle.smp_stratcube.specs.Laws.Pairs.{IsMeeting, among_apart, each_of, first_among, pair_found, second_among, stands_at}
use Rattle.smp_stratcube.specs.Laws.Taken.{length_taken, numer_over, taken_kept, taken_moved}

-- values of which these units have taken over numerators, and the others are as they were
pub written : (ks : List ℕ) (values : List Value) (t : Shares) (new : List Value) → length new ≡ length values →
    AllByRecursion (λ k. value new k ≡ as_value (get_or t.numer k 0) t.den) ks → ((k : ℕ) → is_one_of ks k ≡ false → value new k ≡ value values k) → new ≡ taken_over (is_one_of ks) values t
written ks values t new count on off =
    ext_get_or nothing new (taken_over (is_one_of ks) values t) (count ∙ sym (length_taken (is_one_of ks) values t))
    (λ k l. elim (cases_Bool (is_one_of ks k)) [
      | inl h ↦ each_of (λ k. value new k ≡ as_value (get_or t.numer k 0) t.den) ks on k h ∙ sym (taken_moved (is_one_of ks) values t k (omega (arith, l, count)) h)
      | inr f ↦ off k f ∙ sym (taken_kept (is_one_of ks) values t k f)
    ])

-- ---- two units meet

module _ (units : Units) (values : List Value) (ok : IsPairing units values) (i j : ℕ) (e : first_pair units (fractional_units values) ≡ Some (i, j)) where
  meet : IsMeeting units values i j
  meet = pair_found units values (i, j) e

  abbrev den : ℕ
  den = stratum_common units values (stratum units i)

  abbrev s : Shares
  s = over_common (stratum_common units values (stratum units i)) values

  pub meet_some : 1 ≤ stratum_common units values (stratum units i)
  meet_some = step_some units values ok 0 (i ∷ j ∷ []) meet

  pub first_inside : i < length values
  first_inside = fractional_in values i meet.first

  pub second_inside : j < length values
  second_inside = fractional_in values j meet.second

  abbrev a : ℕ
  a = get_or (over_common (stratum_common units values (stratum units i)) values).numer i 0

  abbrev b : ℕ
  b = get_or (over_common (stratum_common units values (stratum units i)) values).numer j 0

  pub first_open : (1 ≤ get_or (over_common (stratum_common units values (stratum units i)) values).numer i 0) × (get_or (over_common (stratum_common units values (stratum units i)) values).numer i 0 < stratum_common units values (stratum units i))
  first_open = (let f = fractional_is den a (step_open units values ok 0 (i ∷ j ∷ []) meet i (first_among i (j ∷ []))) in (f.0, f.1))

  pub second_open : (1 ≤ get_or (over_common (stratum_common units values (stratum units i)) values).numer j 0) × (get_or (over_common (stratum_common units values (stratum units i)) values).numer j 0 < stratum_common units values (stratum units i))
  second_open = (let f = fractional_is den b (step_open units values ok 0 (i ∷ j ∷ []) meet j (second_among i j [])) in (f.0, f.1))

  parts_are : paired_parts units values ≡ parts_of units values (i ∷ j ∷ [])
  parts_are = ap (λ p. parts_of units values (units_by p (fractional_units values))) e

  pub bound_is : weight_sum (paired_parts units values) ≡ pair_bound (get_or (over_common (stratum_common units values (stratum units i)) values).numer i 0) (get_or (over_common (stratum_common units values (stratum units i)) values).numer j 0) (stratum_common units values (stratum units i))
  bound_is =
      let w : ℕ = (pair_weights a b den).first in
      let x : ℕ = (pair_weights a b den).second in
      let plus_zero : w + (x + 0) ≡ w + x = omega arith in
      ap weight_sum parts_are ∙ plus_zero

  both_set : (new : ℕ × ℕ) → set (set values i (as_value new.0 den)) j (as_value new.1 den) ≡ taken_over (is_one_of (i ∷ j ∷ [])) values (with_pair s i j new)
  both_set new =
      let one : List Value = set values i (as_value new.0 den) in
      let i_in = step_in units values ok 0 (i ∷ j ∷ []) meet i (first_among i (j ∷ [])) in
      let j_in = step_in units values ok 0 (i ∷ j ∷ []) meet j (second_among i j []) in
      written (i ∷ j ∷ []) values (with_pair s i j new) (set one j (as_value new.1 den)) (omega (arith, length-set {A = Value})) (
        get_or-set_other one j i (as_value new.1 den) nothing meet.apart ∙ get_or-set_same values i (as_value new.0 den) nothing first_inside
            ∙ ap (λ (m : ℕ). as_value m den) (sym (two_at_i s.numer i j new.0 new.1 meet.apart i_in j_in)),
        (
          get_or-set_same one j (as_value new.1 den) nothing (omega (arith, second_inside, length-set {A = Value}))
              ∙ ap (λ (m : ℕ). as_value m den) (sym (two_at_j s.numer i j new.0 new.1 meet.apart i_in j_in)),
          tt,
        ),
      )
      (λ k f. get_or-set_other one j k (as_value new.1 den) nothing (among_apart (i ∷ j ∷ []) j k (second_among i j []) f)
      ∙ get_or-set_other values i k (as_value new.0 den) nothing (among_apart (i ∷ j ∷ []) i k (first_among i (j ∷ [])) f))

  pub met_is : (draw : ℕ) → draw < weight_sum (paired_parts units values) →
      set (set values i (as_value (met_at units values (i, j) draw).0 (stratum_common units values (stratum units i)))) j (as_value (met_at units values (i, j) draw).1 (stratum_common units values (stratum units i)))
      ≡ picked values (paired_parts units values) draw
  met_is draw l =
      both_set (met_at units values (i, j) draw)
      ∙ chosen_part
      ∙ sym (ap (λ ps. picked values ps draw) parts_are)
    where
      chosen_part : taken_over (is_one_of (i ∷ j ∷ [])) values (with_pair s i j (met_at units values (i, j) draw)) ≡ picked values (parts_of units values (i ∷ j ∷ [])) draw
      chosen_part =
          let w : ℕ = (pair_weights a b den).first in
          let x : ℕ = (pair_weights a b den).second in
          elim (cases_Bool (nat_lt draw w)) [
            | inl t ↦ rw t refl
            | inr f ↦
                (let rest : nat_lt (draw - w) x ≡ true = lt-ltb (draw - w) x (omega (arith, l, bound_is, ltb-false draw w f)) in
                rw (f, rest) refl)
          ]

-- ---- a unit alone

-- a numerator that was read
pub numer_read : (units : Units) (values : List Value) (ok : IsPairing units values) (den k m x : ℕ) (v : Value) → 1 ≤ den → x ≡ v.at.num * (m / v.at.den) → v ≡ value values k → m ≡ den → x ≡ get_or (over_common den values).numer k 0
numer_read units values ok den k m x v some e same m_is =
    e ∙ ap₂ (λ (w : Value) (d : ℕ). w.at.num * (d / w.at.den)) same m_is ∙ sym (numer_over (length units.members) values ok.values den some k)

module _ (units : Units) (values : List Value) (ok : IsPairing units values) (front : Front) (is : IsFront values front) (long : front.number ≤ length front.units) (going : is_settled values ≡ false) where
  pub some_front : 1 ≤ front.number
  some_front =
      let some : fractional_count values ≢ 0 = eqb-false (fractional_count values) 0 going in
      elim is.enough [
        | inl enough ↦ omega (arith, enough)
        | inr all ↦ omega (arith, some, all, front_count values front is long)
      ]

  abbrev unit : ℕ
  unit = get_or front.units 0 0

  pub unit_open : is_fractional values (get_or front.units 0 0) ≡ true
  unit_open = front_going values front is long 0 some_front

  pub unit_inside : get_or front.units 0 0 < length values
  unit_inside = fractional_in values unit unit_open

  -- the first fractional unit
  head_is : (order : List ℕ) → get_or order 0 0 ≡ unit → 1 ≤ length order → take 1 order ≡ unit ∷ []
  head_is [] h some = absurd (omega (arith, some))
  head_is (k ∷ order) h some = ap (λ x. x ∷ []) h

  pub alone : first_pair units (fractional_units values) ≡ None → step_units units values ≡ get_or front.units 0 0 ∷ []
  alone e =
      ap (λ p. units_by p (fractional_units values)) e
      ∙ head_is (fractional_units values) (sym (in_front values front is long 0 some_front).0) (omega (arith, (in_front values front is long 0 some_front).1))

  abbrev d : ℕ
  d = stratum_common units values (stratum units (get_or front.units 0 0))

  abbrev t : Shares
  t = over_common (stratum_common units values (stratum units (get_or front.units 0 0))) values

  pub unit_some : 1 ≤ stratum_common units values (stratum units (get_or front.units 0 0))
  unit_some = step_some units values ok 0 (unit ∷ []) unit_open

  pub lone_bound : first_pair units (fractional_units values) ≡ None → weight_sum (paired_parts units values) ≡ stratum_common units values (stratum units (get_or front.units 0 0))
  lone_bound e =
      let x : ℕ = get_or t.numer unit 0 in
      let below = (fractional_is d x (step_open units values ok 0 (unit ∷ []) unit_open unit (first_among unit []))).1 in
      let whole : x + (d - x + 0) ≡ d = omega (arith, below) in
      ap (λ ks. weight_sum (parts_of units values ks)) (alone e) ∙ whole

  -- the value to which a draw settles it, by its numerator that was read
  pub settled_by : (draw m x : ℕ) (v : Value) → x ≡ v.at.num * (m / v.at.den) → v ≡ value values (get_or front.units 0 0) → m ≡ stratum_common units values (stratum units (get_or front.units 0 0))
      → (draw < x → as_value m m ≡ settled_at units values (get_or front.units 0 0) draw) × (x ≤ draw → as_value 0 m ≡ settled_at units values (get_or front.units 0 0) draw)
  settled_by draw m x v e same m_is =
      let read = numer_read units values ok d unit m x v unit_some e same m_is in (
        (λ l. ap (λ (n : ℕ). as_value n n) m_is ∙ rw (lt-ltb draw (get_or t.numer unit 0) (omega (arith, read, l))) refl),
        (λ l. ap (as_value 0) m_is ∙ rw (le-ltb draw (get_or t.numer unit 0) (omega (arith, read, l))) refl),
      )

  one_set : (x : ℕ) → set values unit (as_value x d) ≡ taken_over (is_one_of (unit ∷ [])) values (with_one t unit x)
  one_set x =
      written (unit ∷ []) values (with_one t unit x) (set values unit (as_value x d)) (omega (arith, length-set {A = Value})) (
        get_or-set_same values unit (as_value x d) nothing unit_inside
            ∙ ap (λ (m : ℕ). as_value m d) (sym (get_or-set_same t.numer unit x 0 (step_in units values ok 0 (unit ∷ []) unit_open unit (first_among unit [])))),
        tt,
      )
      (λ k f. get_or-set_other values unit k (as_value x d) nothing (among_apart (unit ∷ []) unit k (first_among unit []) f))

  pub lone_is : first_pair units (fractional_units values) ≡ None → (draw : ℕ) → draw < weight_sum (paired_parts units values) → set values (get_or front.units 0 0) (settled_at units values (get_or front.units 0 0) draw) ≡ picked values (paired_parts units values) draw
  lone_is e draw l = by_draw ∙ sym (ap (λ ks. picked values (parts_of units values ks) draw) (alone e))
    where
      by_draw : set values unit (settled_at units values unit draw) ≡ picked values (parts_of units values (unit ∷ [])) draw
      by_draw =
          let x : ℕ = get_or t.numer unit 0 in
          elim (cases_Bool (nat_lt draw x)) [
            | inl h ↦ rw h (one_set d)
            | inr f ↦
                (let rest : nat_lt (draw - x) (d - x) ≡ true = lt-ltb (draw - x) (d - x) (omega (arith, l, lone_bound e, ltb-false draw x f)) in
                rw (f, rest) (one_set 0))
          ]

-- ---- where the units of a step stand

pub stratum_in_front : (units : Units) (are : IsUnits units) (values : List Value) (count : length values ≡ length units.members) (front : Front) (is : IsFront values front) (long : front.number ≤ length front.units) (i j h : ℕ) →
    first_pair units (fractional_units values) ≡ Some (i, j) → h ≡ stratum units i → HasStratum units front h
stratum_in_front units are values count front is long i j h e same =
    let at = stands_at units (front_units front) (i, j) (pair_of_front units are values count front is long ∙ e) in
    let b : at.place < front.number = omega (arith, at.inside, length-take front.number front.units) in
    record { place = at.place; inside = b; is = ap (stratum units) (sym (get_or-take front.number front.units at.place 0 b) ∙ at.first) ∙ sym same }

-- ---- a move, written

pub gone_is : (units : Units) (count : ℕ) (values new : List Value) (line : LineOfPlaces) (den : ℕ) (r : Reach) → IsAlong count values line den r → AreMoved values new (line_of line) den r → (target : Line) → line_of line ≡ target → den ≡ common_of units values target.units → new ≡ moved_values units values target
gone_is units count values new line den r a h target same den_is =
    ext_get_or nothing new (values_along values (line_of line) den r) (h.count ∙ sym (length_along values (line_of line) den r))
    (λ k l. (let b : k < length values = omega (arith, l, h.count) in h.each k b ∙ sym (along_at values (line_of line) den r k b)))
    ∙ ap (values_along values (line_of line) den) a.is_reach
    ∙ ap₂ (λ (m : ℕ) (x : Line). values_along values x m (reach (over_common m values) x)) den_is same

pub turn_along : (count : ℕ) (values : List Value) (line back : LineOfPlaces) (den : ℕ) (up down : Reach) → IsAlong count values line den up → line_of back ≡ turned (line_of line) → IsPadded back → HasSmallEntries back → down ≡ reach (over_common den values) (turned (line_of line)) → IsAlong count values back den down
turn_along count values line back den up down a turns padded small d = record {
  are = a.are;
  some = a.some;
  narrow = a.narrow;
  is_line = subst (IsLine (over_common den values)) (sym turns) (turned_line (over_common den values) (line_of line) a.is_line);
  padded = padded;
  small = small;
  is_reach = d ∙ ap (reach (over_common den values)) (sym turns);
  divides = subst (λ (us : List ℕ). (j : ℕ) → j < length us → (value values (get_or us j 0)).at.den ∣ den) (sym (ap (λ (x : Line). x.units) turns)) a.divides;
}
