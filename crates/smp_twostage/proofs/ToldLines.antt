-- Probabilities in lowest terms, and lines one after another.
use Rattle.std.proofs.Common.{◌≡◌, ◌≢◌, ℕ, suc, ◌+◌, ◌<◌, ◌≤◌, Bool, true, false, true≢false, cond, ℤ, pos, List, [], ◌∷◌, ◌++◌, map, drop, length, get_or, arith, refl, sym, ap, subst, ◌∙◌, drop-cons, mul-pos}
use Rattle.std.specs.{Prelude.{nat_eq, slice_index}, List.{flat_map, range_with_len}, Int.RustNames.{unsigned_abs}}
use Rattle.std.proofs.{lemmas.Bool.{ne_eqb}, lemmas.Int.{ints}, lemmas.List.{append-nil, append_assoc, drop_all}}
use Rattle.std.proofs.lemmas.List.FromFn.{get_or-range_with_len, length-range_with_len}
use Rattle.smp_frac.specs.{Fractions.{Same, inverse, integer, times, whole}, declared.fractions.Frac.{Frac}, Exact.{fraction}}
use Rattle.smp_frac.proofs.Arithmetic.{inverse_same, same_refl, same_trans, times_same}
use Rattle.smp_prob.specs.{declared.requests.Request.{Request}, declared.inclusions.Inclusion.{Inclusion}, Requests.{IsRequest}}
use Rattle.smp_prob.specs.declared.inclusions.Inclusion.TheVariants.{Certain, Free, Never}
use Rattle.smp_prob.specs.Inclusions.{inclusion, fraction_at, asked_fraction, is_taken}
use Rattle.smp_frac.specs.{LowestTerms.{lowest_terms}, Bounds.{absolute}}
use Rattle.smp_weights.specs.Chosen.{weight}
use Rattle.smp_split.specs.Laws.Rows.{free_within}
use Rattle.smp_frac.proofs.LowestTerms.{lowest_terms-positive, lowest_terms-value, same-lowest_terms}
use Rattle.smp_twostage.specs.Totals.{can_be_selected}

-- a probability has no sign
no_sign : (request : Request) (f : Frac) (stand : Inclusion) → Same (fraction f) (fraction_at request stand) → Same (fraction f) (absolute (fraction_at request stand))
no_sign request f Certain h = h
no_sign request f (Free u) h = h
no_sign request f Never h = h

-- so it is what it is without one
unsigned_is : (request : Request) (stand : Inclusion) → Same (absolute (fraction_at request stand)) (fraction_at request stand)
unsigned_is request Certain = same_refl (whole 1)
unsigned_is request (Free u) = same_refl (fraction_at request (Free u))
unsigned_is request Never = same_refl (whole 0)

pub no_sign_at : (request : Request) (k : ℕ) → Same (absolute (asked_fraction request k)) (asked_fraction request k)
no_sign_at request k = unsigned_is request (inclusion request k)

pub asked_is : (request : Request) (f : Frac) (k : ℕ) → Same (fraction f) (asked_fraction request k) → f ≡ lowest_terms (asked_fraction request k)
asked_is request f k h = same-lowest_terms f (asked_fraction request k) (no_sign request f (inclusion request k) h)

-- ---- a unit that can be selected has a positive probability

fraction_positive : (request : Request) → IsRequest request → (k : ℕ) (stand : Inclusion) → inclusion request k ≡ stand → can_be_selected stand ≡ true → 1 ≤ unsigned_abs (fraction_at request stand).num
fraction_positive request ok k Certain is can = omega arith
fraction_positive request ok k Never is can = absurd (cc)
fraction_positive request ok k (Free u) is can =
    let l = free_within request k u is in
    let shape : 1 ≤ slice_index request.shape u = ok.positive u (omega (arith, l, ok.paired)) in
    mul-pos shape (ok.drawn (omega (arith, l)))

pub asked_positive : (request : Request) → IsRequest request → (k : ℕ) → can_be_selected (inclusion request k) ≡ true → 1 ≤ (lowest_terms (asked_fraction request k)).num
asked_positive request ok k can = lowest_terms-positive (asked_fraction request k) (fraction_positive request ok k (inclusion request k) refl can)

-- ---- a unit that is selected, and one that can be

module _ (request : Request) (ok : IsRequest request) (k : ℕ) where
  known_at : (stands : Inclusion) → inclusion request k ≡ stands → (z : ℤ) → cond (nat_eq (lowest_terms (asked_fraction request k)).num 0) (pos 0) z ≡ cond (can_be_selected stands) z (pos 0)
  known_at Never is z =
      let value : Same (fraction (lowest_terms (asked_fraction request k))) (whole 0) =
      subst (λ (i : Inclusion). Same (fraction (lowest_terms (asked_fraction request k))) (fraction_at request i)) is
      (same_trans (lowest_terms-value (asked_fraction request k)) (no_sign_at request k)) in
      let nothing : (lowest_terms (asked_fraction request k)).num ≡ 0 = omega (arith, ints, value.cross) in
      rw nothing refl
  known_at Certain is z = rw (ne_eqb (lowest_terms (asked_fraction request k)).num 0 (λ e. omega (arith, e, some))) refl
    where
      some : 1 ≤ (lowest_terms (asked_fraction request k)).num
      some = asked_positive request ok k (ap can_be_selected is)
  known_at (Free u) is z = rw (ne_eqb (lowest_terms (asked_fraction request k)).num 0 (λ e. omega (arith, e, some))) refl
    where
      some : 1 ≤ (lowest_terms (asked_fraction request k)).num
      some = asked_positive request ok k (ap can_be_selected is)

  pub known_is : (z : ℤ) → cond (nat_eq (lowest_terms (asked_fraction request k)).num 0) (pos 0) z ≡ cond (can_be_selected (inclusion request k)) z (pos 0)
  known_is = known_at (inclusion request k) refl

  can_at : (chosen : ℕ → Bool) (stands : Inclusion) → is_taken chosen stands ≡ true → can_be_selected stands ≡ true
  can_at chosen Certain taken = refl
  can_at chosen (Free u) taken = refl
  can_at chosen Never taken = absurd (true≢false (sym taken))

  -- a unit that is selected counts for its value times its weight
  pub taken_is : (chosen : ℕ → Bool) (z : ℤ) (taken : Bool) → is_taken chosen (inclusion request k) ≡ taken
      → Same (cond taken (times (integer z) (weight (lowest_terms (asked_fraction request k)))) (whole 0))
      (cond taken (times (integer (cond (can_be_selected (inclusion request k)) z (pos 0))) (inverse (asked_fraction request k))) (whole 0))
  taken_is chosen z false is = same_refl (whole 0)
  taken_is chosen z true is =
      let can = can_at chosen (inclusion request k) is in
      let positive : 1 ≤ (lowest_terms (asked_fraction request k)).num = asked_positive request ok k can in
      rw can
      (times_same (same_refl (integer z))
      (inverse_same (fraction (lowest_terms (asked_fraction request k))) (asked_fraction request k) (λ none. omega (arith, ints, positive, none))
      (same_trans (lowest_terms-value (asked_fraction request k)) (no_sign_at request k))))

-- ---- one after another

pub next_mapped : {A B : Type 0} (f : B → A) (us : List B) (none : B) (i : ℕ) (done : List A) (x : A) (whole : List A) → i < length us → x ≡ f (get_or us i none)
    → done ++ map f (drop i us) ≡ whole → (done ++ x ∷ []) ++ map f (drop (i + 1) us) ≡ whole
next_mapped f us none i done x whole l is so_far =
    let on : i + 1 ≡ suc i = omega arith in
    append_assoc done (x ∷ []) (map f (drop (i + 1) us))
    ∙ ap (λ n. done ++ x ∷ map f (drop n us)) on
    ∙ ap (λ y. done ++ y ∷ map f (drop (suc i) us)) is
    ∙ ap (λ front. done ++ map f front) (sym (drop-cons us i none l)) ∙ so_far

pub last_mapped : {A B : Type 0} (f : B → A) (us : List B) (i : ℕ) (done whole : List A) → length us ≤ i → done ++ map f (drop i us) ≡ whole → done ≡ whole
last_mapped f us i done whole ended so_far =
    sym (append-nil done) ∙ ap (λ rest. done ++ map f rest) (sym (drop_all i us ended)) ∙ so_far

-- one line more of so many columns, and the last
pub next_line : (line : ℕ → List ℕ) (n i : ℕ) (old new whole : List ℕ) → i < n → new ≡ old ++ line i
    → old ++ flat_map line (drop i (range_with_len 0 n)) ≡ whole → new ++ flat_map line (drop (i + 1) (range_with_len 0 n)) ≡ whole
next_line line n i old new whole l adds so_far =
    let us : List ℕ = range_with_len 0 n in
    let on : i + 1 ≡ suc i = omega arith in
    let is : get_or us i 0 ≡ i = omega (arith, get_or-range_with_len 0 n i 0 l) in
    let within : i < length us = omega (arith, l, length-range_with_len 0 n) in
    ap (λ t. t ++ flat_map line (drop (i + 1) us)) adds
    ∙ append_assoc old (line i) (flat_map line (drop (i + 1) us))
    ∙ ap (λ k. old ++ (line i ++ flat_map line (drop k us))) on
    ∙ ap (λ j. old ++ (line j ++ flat_map line (drop (suc i) us))) (sym is)
    ∙ ap (λ front. old ++ flat_map line front) (sym (drop-cons us i 0 within)) ∙ so_far

pub last_line : (line : ℕ → List ℕ) (n i : ℕ) (old whole : List ℕ) → n ≤ i → old ++ flat_map line (drop i (range_with_len 0 n)) ≡ whole → old ≡ whole
last_line line n i old whole ended so_far =
    let none : drop i (range_with_len 0 n) ≡ [] = drop_all i (range_with_len 0 n) (omega (arith, ended, length-range_with_len 0 n)) in
    sym (append-nil old) ∙ ap (λ rest. old ++ flat_map line rest) (sym none) ∙ so_far
