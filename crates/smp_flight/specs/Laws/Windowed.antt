-- The values of which the units of a window are kept over the common denominator.
use Rattle.std.proofs.Common.{◌≡◌, ◌≢◌, ℕ, ◌*◌, ◌<◌, ◌≤◌, ◌^◌, true, false, nat_eq, ◌||◌, List, []}
use Rattle.std.proofs.Common.{◌∷◌, ◌++◌, take, length, get_or, arith, refl, sym, ap, ap₂, ◌∙◌, subst, inl, inr}
use Rattle.std.proofs.Common.{length-take, get_or-take}
use Rattle.std.specs.List.{AllPairs}
use Rattle.std.proofs.lemmas.Bool.{cases_Bool, cases_lt, eq-eqb, or_left, or_right, both_ways}
use Rattle.std.proofs.lemmas.List.{ext_get_or, get_or_past, get_or_default}
use Rattle.std.proofs.lemmas.List.Folds.{list_any-append, list_any_at}
use Rattle.std.proofs.Math.Bool.{or-false}
use Rattle.std.proofs.Math.Nat.{mul-le-mul_right}
use Rattle.std.proofs.lemmas.List.FromFn.{get_or-map-range_with_len, length-map-range_with_len}
use Rattle.smp_prob.specs.Shares.{Shares}
use Rattle.smp_moves.specs.Moves.{IsOrder}
use Rattle.smp_moves.proofs.Entries.{order_within}
use Rattle.smp_flight.specs.Kept.Windows.{is_in, numerator_over, numerators_over, shares_in, unchanged}
use Rattle.std.specs.Bool.{Decides}
use Rattle.std.specs.Cmp.{IsEquivalence, decided, unsigned_Decides}
use Rattle.std.proofs.lemmas.Map.Made.{is_member-Decides, length-le_from_is_member, IsDistinct-from_AllPairs}

-- ---- the units of a window

-- a unit is in a list where it is one of its keys
pub same_unit : (a b : ℕ) → Decides (nat_eq b a) (a ≡ b)
same_unit a b = (λ t. sym ((unsigned_Decides b a).0 t), λ e. (unsigned_Decides b a).1 (sym e))

pub unit_laws : IsEquivalence (λ a b. nat_eq b a)
unit_laws = decided (λ a b. nat_eq b a) same_unit

pub in_at : (window : List ℕ) (j : ℕ) → j < length window → is_in window (get_or window j 0) ≡ true
in_at window j l = list_any_at (λ u. nat_eq u (get_or window j 0)) window j 0 l (eq-eqb (get_or window j 0) (get_or window j 0) refl)

-- where a unit of the window stands
pub record StandsAt (window : List ℕ) (k : ℕ) : Type 0 where
  pub place : ℕ
  pub here : place < length window
  pub is : get_or window place 0 ≡ k

pub in_or : (window : List ℕ) (k : ℕ) → is_in window k ≡ true → StandsAt window k
in_or window k h =
    let c = (is_member-Decides {eq = λ a b. nat_eq b a} same_unit window k).0 h in
    record { place = c.0; here = c.1; is = get_or_default window c.0 0 k c.1 ∙ c.2 }

pub not_in : (window : List ℕ) (k : ℕ) → is_in window k ≡ false → (j : ℕ) → j < length window → get_or window j 0 ≢ k
not_in window k h j l e = both_ways (is_in window k) h (subst (λ (x : ℕ). is_in window x ≡ true) e (in_at window j l))

pub in_append : (xs ys : List ℕ) (k : ℕ) → is_in ys k ≡ false → is_in (xs ++ ys) k ≡ is_in xs k
in_append xs ys k h = list_any-append (λ u. nat_eq u k) xs ys ∙ ap (λ b. is_in xs k || b) h ∙ or-false (is_in xs k)

pub in_append_right : (xs ys : List ℕ) (k : ℕ) → is_in ys k ≡ true → is_in (xs ++ ys) k ≡ true
in_append_right xs ys k h = list_any-append (λ u. nat_eq u k) xs ys ∙ or_right (is_in xs k) (is_in ys k) h

pub in_append_left : (xs ys : List ℕ) (k : ℕ) → is_in xs k ≡ true → is_in (xs ++ ys) k ≡ true
in_append_left xs ys k h = list_any-append (λ u. nat_eq u k) xs ys ∙ or_left (is_in xs k) (is_in ys k) h

pub in_one : (u : ℕ) → is_in (u ∷ []) u ≡ true
in_one u = or_left (nat_eq u u) false (eq-eqb u u refl)

-- ---- their numerators

module _ (numer : List ℕ) (times : ℕ) (window : List ℕ) where
  pub length-numerators_over : length (numerators_over numer times window) ≡ length numer
  length-numerators_over = length-map-range_with_len (numerator_over numer times window) 0 (length numer)

  pub get_or-numerators_over : (k : ℕ) → get_or (numerators_over numer times window) k 0 ≡ numerator_over numer times window k
  get_or-numerators_over k =
      elim (cases_lt k (length numer)) [
        | inl l ↦ get_or-map-range_with_len (numerator_over numer times window) 0 (length numer) k k 0 l (omega arith)
        | inr past ↦
            (let none : get_or numer k 0 ≡ 0 = get_or_past numer k 0 past in
            let gone : get_or (numerators_over numer times window) k 0 ≡ 0 =
            get_or_past (numerators_over numer times window) k 0
            (omega (arith, past, length-numerators_over)) in
            gone ∙ sym (over_none k none))
      ]
    where
      over_none : (k : ℕ) → get_or numer k 0 ≡ 0 → numerator_over numer times window k ≡ 0
      over_none k none = elim (cases_Bool (is_in window k)) [ inl t ↦ rw (t, none) refl | inr f ↦ rw (f, none) (omega arith) ]

  pub over_in : (k : ℕ) → is_in window k ≡ true → numerator_over numer times window k ≡ get_or numer k 0
  over_in k t = rw t refl

  pub over_out : (k : ℕ) → is_in window k ≡ false → numerator_over numer times window k ≡ get_or numer k 0 * times
  over_out k f = rw f refl

  -- a numerator of an unchanged unit fits over the common denominator
  pub read_fits : (first k a : ℕ) → is_in window k ≡ false
      → ((j : ℕ) → is_in window j ≡ false → get_or numer j 0 ≤ first) → first * times < 2 ^ 128
      → a ≡ get_or numer k 0 → a * times < 2 ^ 128
  read_fits first k a f small narrow e =
      let h : a ≤ first = rw e (small k f) in
      let m : a * times ≤ first * times = mul-le-mul_right times h in
      omega (arith, m, narrow)

  -- what is read of it
  pub read_in : (k a : ℕ) → is_in window k ≡ true → a ≡ get_or numer k 0 → a ≡ get_or (numerators_over numer times window) k 0
  read_in k a t e = e ∙ sym (over_in k t) ∙ sym (get_or-numerators_over k)

  pub read_out : (k a : ℕ) → is_in window k ≡ false → a ≡ get_or numer k 0
      → a * times ≡ get_or (numerators_over numer times window) k 0
  read_out k a f e = ap (λ x. x * times) e ∙ sym (over_out k f) ∙ sym (get_or-numerators_over k)

-- at first they are all kept as they are
pub unchanged_shares : (s : Shares) → shares_in (unchanged s) ≡ s
unchanged_shares s =
    ap₂ (λ (n : List ℕ) d. record { numer = n; den = d })
    (ext_get_or 0 (numerators_over s.numer 1 []) s.numer (length-numerators_over s.numer 1 [])
    (λ k m. get_or-numerators_over s.numer 1 [] k
    ∙ (let e : get_or s.numer k 0 * 1 ≡ get_or s.numer k 0 = omega arith in e)))
    (let e : s.den * 1 ≡ s.den = omega arith in e)

-- ---- how many units a list can have that has each once

-- different units that are among those of another list are at most as many
pub few_in : (order units : List ℕ) → ((k : ℕ) → is_in units k ≡ true → is_in order k ≡ true)
    → AllPairs (λ k l. k ≢ l) units → length units ≤ length order
few_in order units within distinct =
    length-le_from_is_member unit_laws units order (IsDistinct-from_AllPairs {eq = λ a b. nat_eq b a} same_unit units distinct) within

-- the units in the first places of an array
pub units_within : (s : Shares) (number : ℕ) (units : List ℕ) → IsOrder s (take number units) → (j : ℕ) → j < number
    → j < length units → get_or units j 0 < length s.numer
units_within s number units ok j l m =
    let h = order_within s (take number units) ok j (omega (arith, l, m, length-take number units)) in
    omega (arith, h, get_or-take number units j 0 l)
