-- What a search goes through: all fractional units, each of them once.
use Rattle.std.proofs.Common.{◌≡◌, ◌≢◌, ℕ, Bool, true, false, not, nat_eq, ◌&&◌, ℤ, List, [], ◌∷◌}
use Rattle.std.proofs.Common.{◌++◌, ◌⊎◌, map, length, arith, refl, sym, ap, ◌∙◌, subst, inl, inr, suc, suc-le-suc}
use Rattle.std.specs.{Prelude.{Option, Some, None, unwrap_or}, List.{AllPairs, filter, range_with_len}}
use Rattle.std.proofs.lemmas.Bool.{and_from, and_parts, both_ways, cases_Bool, cases_eq, cases_lt, eq-eqb, eqb-false, ne_eqb, not-true}
use Rattle.std.proofs.lemmas.Bool.{false_from_ne_true, or_left, or_right, true≢false}
use Rattle.std.proofs.lemmas.List.{get_or_past, length-map}
use Rattle.std.proofs.lemmas.List.Elements.{All-append, All-filter}
use Rattle.std.proofs.lemmas.List.FromFn.{get_or-map-range_with_len, length-range_with_len}
use Rattle.std.proofs.lemmas.List.Kept.{AllPairs-cons, AllPairs-filter}
use Rattle.smp_near.specs.Nearest.{is_living, is_other, neighbours}
use Rattle.smp_near.proofs.Turns.{neighbours_all, neighbours_distinct, neighbours_other}
use Rattle.smp_prob.specs.Shares.{Shares}
use Rattle.smp_values.specs.Values.{fractional_units, is_fractional}
use Rattle.smp_values.proofs.Units.{fractional_within}
use Rattle.smp_flight.specs.Kept.Windows.{is_in}
use Rattle.smp_flight.specs.Selections.{IsWholeOrder}
use Rattle.smp_moves.proofs.Entries.{frame_order}
use Rattle.smp_flight.specs.Laws.Firsts.{all_in, contains_in, in_contains}
use Rattle.smp_flight.proofs.Free.{filter_in}
use Rattle.smp_flight.specs.Laws.Windowed.{in_append_left, in_append_right, in_one}
use Rattle.smp_moves.specs.Moves.{IsOrder}
use Rattle.smp_localcube.specs.Local.{IsCarried, front_of, head_of, is_one_of, order_around, untouched}
use Rattle.smp_localcube.specs.Kept.Orders.{is_untouched}

-- ---- lists

-- tests that agree on each member
pub filter_same : (p q : ℕ → Bool) (xs : List ℕ) → ((k : ℕ) → is_in xs k ≡ true → p k ≡ q k)
    → filter p xs ≡ filter q xs
filter_same p q [] h = refl
filter_same p q (x ∷ xs) h =
    let here : p x ≡ q x = h x (or_left (nat_eq x x) (is_in xs x) (eq-eqb x x refl)) in
    let rest : filter p xs ≡ filter q xs = filter_same p q xs (λ k t. h k (or_right (nat_eq x k) (is_in xs k) t)) in
    elim (cases_Bool (q x)) [
      | inl e ↦ rw (here ∙ e, e) (ap (λ (ks : List ℕ). x ∷ ks) rest)
      | inr e ↦ rw (here ∙ e, e) rest
    ]

-- what was filtered is what its own members filter
pub filter_again : (p : ℕ → Bool) (xs : List ℕ) → filter p xs ≡ filter (is_one_of (filter p xs)) xs
filter_again p xs = filter_same p (is_one_of (filter p xs)) xs (λ k h. sym (filter_in p xs k ∙ ap (λ b. b && p k) h))

pub filter_none : (xs : List ℕ) → [] ≡ filter (is_one_of []) xs
filter_none [] = refl
filter_none (x ∷ xs) = filter_none xs

apart_append : (xs ys : List ℕ) → AllPairs (λ k m. k ≢ m) xs → AllPairs (λ k m. k ≢ m) ys
    → ((k m : ℕ) → is_in xs k ≡ true → is_in ys m ≡ true → k ≢ m) → AllPairs (λ k m. k ≢ m) (xs ++ ys)
apart_append [] ys a b cross = b
apart_append (x ∷ xs) ys a b cross =
    AllPairs-cons (λ k m. k ≢ m) x (xs ++ ys)
    (All-append (λ m. x ≢ m) xs ys (λ j d l. a 0 (suc j) d (omega arith) (suc-le-suc l))
    (all_in (λ m. x ≢ m) ys (λ m h. cross x m (or_left (nat_eq x x) (is_in xs x) (eq-eqb x x refl)) h)))
    (apart_append xs ys (λ i j d l m. a (suc i) (suc j) d (suc-le-suc l) (suc-le-suc m)) b
    (λ k m h g. cross k m (or_right (nat_eq x k) (is_in xs k) h) g))

-- ---- the front of an order

-- the front of a search with this head: fractional units, each once, which are the touched ones and the head, and no others
pub record HasHead (s : Shares) (touched : List ℕ) (head : ℕ) : Type 0 where
  pub is_order : IsOrder s (front_of touched head)
  pub first : is_in (front_of touched head) head ≡ true
  pub has : (k : ℕ) → is_in touched k ≡ true → is_in (front_of touched head) k ≡ true
  pub alone : (k : ℕ) → is_in (front_of touched head) k ≡ true → (k ≡ head) ⊎ (is_in touched k ≡ true)

pub has_head : (s : Shares) (touched : List ℕ) (chosen : Option ℕ) (head : ℕ) → IsCarried s touched chosen
    → head_of touched chosen ≡ Some head → HasHead s touched head
has_head s [] None head carried is = absurd (cc)
has_head s [] (Some unit) head carried is =
    let going : is_fractional s head ≡ true =
    subst (λ (u : ℕ). is_fractional s u ≡ true) (ap (λ o. unwrap_or o unit) is) carried.chosen_is in
    record {
      is_order = record {
        going = all_in (λ k. is_fractional s k ≡ true) (head ∷ [])
            (λ k h. subst (λ (u : ℕ). is_fractional s u ≡ true) (lone head k h) going);
        distinct = λ i j d l m. absurd (omega (arith, l, m));
      };
      first = in_one head;
      has = λ k h. absurd (true≢false (sym h));
      alone = λ k h. inl (sym (lone head k h));
    }
  where
    lone : (head k : ℕ) → is_in (head ∷ []) k ≡ true → head ≡ k
    lone head k h =
        elim (cases_eq head k) [
          | inl e ↦ e
          | inr ne ↦ absurd (let none : is_in [] k ≡ true = rw (ne_eqb head k ne) at h in true≢false (sym none))
        ]
has_head s (u ∷ touched) chosen head carried is = record {
  is_order = subst (IsOrder s) (sym carried.touched_are) (record {
    going = All-filter (is_one_of (u ∷ touched)) (λ k. is_fractional s k ≡ true) (fractional_units s) (frame_order s).going;
    distinct = AllPairs-filter (λ k m. k ≢ m) (is_one_of (u ∷ touched)) (fractional_units s) (frame_order s).distinct;
  });
  first = or_left (nat_eq u head) (is_in touched head) (eq-eqb u head (ap (λ o. unwrap_or o u) is));
  has = λ k h. h;
  alone = λ k h. inr h;
}

-- ---- the untouched units

module _ (coords : List (List ℤ)) (s : Shares) (touched : List ℕ) where
  pub untouched_at : (k : ℕ) → is_living (untouched coords s touched) k ≡ is_untouched s touched k
  untouched_at k =
      let n : ℕ = length s.numer in
      elim (cases_lt k (length s.numer)) [
        | inl here ↦ get_or-map-range_with_len (is_untouched s touched) 0 n k k false here (omega arith)
        | inr past ↦
            (let settled : is_fractional s k ≡ false =
            false_from_ne_true (is_fractional s k) (λ e. (let here = fractional_within s k e in omega (arith, past, here))) in
            get_or_past (map (is_untouched s touched) (range_with_len 0 n)) k false
            (omega (
              arith,
              past,
              length-map (range_with_len 0 n) (is_untouched s touched),
              length-range_with_len 0 n,
            )) ∙ sym (rw settled refl))
      ]

  pub other_is : (head k : ℕ) → is_other (untouched coords s touched) head k ≡ true → (k ≢ head)
      × (is_fractional s k ≡ true) × (is_one_of touched k ≡ false)
  other_is head k h =
      let parts = and_parts (not (nat_eq k head)) (is_living (untouched coords s touched) k) h in
      let here = and_parts (is_fractional s k) (not (is_one_of touched k)) (sym (untouched_at k) ∙ parts.1) in
      (eqb-false k head (not-true (nat_eq k head) parts.0), here.0, not-true (is_one_of touched k) here.1)

  pub is_other_of : (head k : ℕ) → k ≢ head → is_fractional s k ≡ true → is_one_of touched k ≡ false
      → is_other (untouched coords s touched) head k ≡ true
  is_other_of head k ne h out =
      and_from (not (nat_eq k head)) (is_living (untouched coords s touched) k) (rw (ne_eqb k head ne) refl)
      (untouched_at k ∙ and_from (is_fractional s k) (not (is_one_of touched k)) h (rw out refl))

-- ---- the whole order

module _ (coords : List (List ℤ)) (s : Shares) (touched : List ℕ) (head : ℕ) (has : HasHead s touched head) where
  abbrev others : List ℕ
  others = neighbours (untouched coords s touched) head

  other_at : (m : ℕ) → is_in others m ≡ true → (m ≢ head) × (is_fractional s m ≡ true) × (is_one_of touched m ≡ false)
  other_at m h =
      let c = in_contains others m h in
      other_is coords s touched head m (subst (λ (u : ℕ). is_other (untouched coords s touched) head u ≡ true) c.2
      (neighbours_other (untouched coords s touched) head c.0 m c.1))

  apart : (k m : ℕ) → is_in (front_of touched head) k ≡ true → is_in others m ≡ true → k ≢ m
  apart k m h g e =
      let other = other_at m g in
      elim (has.alone k h) [
        | inl is ↦ other.0 (sym e ∙ is)
        | inr t ↦ both_ways (is_one_of touched m) other.2 (subst (λ (u : ℕ). is_in touched u ≡ true) e t)
      ]

  pub whole : IsWholeOrder s (order_around coords s touched head)
  whole = record {
    is_order = record {
      going = All-append (λ k. is_fractional s k ≡ true) (front_of touched head) others has.is_order.going
          (all_in (λ k. is_fractional s k ≡ true) others (λ m g. (other_at m g).1));
      distinct = apart_append (front_of touched head) others has.is_order.distinct
          (neighbours_distinct (untouched coords s touched) head) apart;
    };
    all = λ k h.
        in_contains (order_around coords s touched head) k
        (elim (cases_Bool (is_in touched k)) [
          | inl t ↦ in_append_left (front_of touched head) others k (has.has k t)
          | inr out ↦ elim (cases_eq k head) [
            | inl e ↦ in_append_left (front_of touched head) others k
                (subst (λ (u : ℕ). is_in (front_of touched head) u ≡ true) (sym e) has.first)
            | inr ne ↦ in_append_right (front_of touched head) others k
                (contains_in others k (neighbours_all (untouched coords s touched) head k
                (is_other_of coords s touched head k ne h out)))
          ]
        ]);
  }
