-- Sums over all units of a request: those over the free units, and those over the others.
use Rattle.std.proofs.Common.{◌≡◌, ◌≢◌, ℕ, zero, suc, ◌<◌, Bool, nat_eq, cond, length, Option, Some, None, refl, sym, ap, ◌∙◌, subst, inl, inr}
use Rattle.std.specs.Prelude.{position, is_some, slice_index}
use Rattle.std.proofs.{lemmas.Bool.{cases_Bool, cases_eq, eq-eqb, ne_eqb, eqb-true}, lemmas.List.Quantifiers.{position-Some}}
use Rattle.smp_frac.specs.Fractions.{Fraction, Same, whole, plus, times, sum_below}
use Rattle.smp_frac.proofs.Arithmetic.{same_refl, same_sym, same_trans, plus_same, zero-times, one-times, sum_same, sum-plus, sum-zero}
use Rattle.smp_prob.specs.{declared.requests.Request.{Request}, declared.inclusions.Inclusion.{Inclusion}}
use Rattle.smp_prob.specs.{declared.inclusions.Inclusion.TheVariants.{Certain, Free, Never}, Inclusions.{inclusion, free_or_never}}
use Rattle.smp_split.specs.{Means.{only}, Laws.Means.{only_sum}, Laws.Rows.{free_within}}

-- sums over two numbers, in either order
pub sum_exchange : (n m : ℕ) (f : ℕ → ℕ → Fraction) → Same (sum_below n (λ k. sum_below m (f k))) (sum_below m (λ u. sum_below n (λ k. f k u)))
sum_exchange zero m f = same_sym (sum-zero m (λ u. whole 0) (λ u _. same_refl (whole 0)))
sum_exchange (suc n) m f =
    same_trans (plus_same (sum_exchange n m f) (same_refl (sum_below m (f n))))
    (same_sym (sum-plus m (λ u. sum_below n (λ k. f k u)) (f n)))

-- ---- where a free unit stands

at_place : (request : Request) (k u : ℕ) (place : Option ℕ) → position (nat_eq k) request.free ≡ place → free_or_never place ≡ Free u → slice_index request.free u ≡ k
at_place request k u (Some place) at is =
    let same : place ≡ u = cc in
    sym (eqb-true k (slice_index request.free u) (rw (← same) (position-Some (nat_eq k) request.free place 0 at).1))
at_place request k u None at is = absurd (cc)

pub free_is : (request : Request) (k u : ℕ) → inclusion request k ≡ Free u → slice_index request.free u ≡ k
free_is request k u is =
    elim (cases_Bool (is_some (position (nat_eq k) request.certain))) [
      | inl certain ↦ absurd (let other : Certain ≡ Free u = rw certain at is in cc)
      | inr open_ ↦ at_place request k u (position (nat_eq k) request.free) refl (rw open_ at is)
    ]

-- ---- sums over the free units

-- a number of a free unit, and 0 of any other
abbrev pub at_free : (ℕ → Fraction) → Inclusion → Fraction
at_free g Certain = whole 0
at_free g (Free u) = g u
at_free g Never = whole 0

only_other : (k unit : ℕ) (a : Fraction) → k ≢ unit → Same (times (only unit k) a) (whole 0)
only_other k unit a apart = subst (λ (b : Bool). Same (times (whole (cond b 1 0)) a) (whole 0)) (sym (ne_eqb k unit apart)) (zero-times a)

only_here : (k unit : ℕ) (a : Fraction) → k ≡ unit → Same (times (only unit k) a) a
only_here k unit a here = subst (λ (b : Bool). Same (times (whole (cond b 1 0)) a) a) (sym (eq-eqb k unit here)) (one-times a)

module _ (request : Request) (n : ℕ) (inside : (u : ℕ) → u < length request.free → slice_index request.free u < n) (stands : (u : ℕ) → u < length request.free → inclusion request (slice_index request.free u) ≡ Free u) (g : ℕ → Fraction) where
  abbrev free_at : ℕ → ℕ
  free_at u = slice_index request.free u

  -- a unit that isn't free is none of the free ones
  none_there : (k : ℕ) (stand : Inclusion) → inclusion request k ≡ stand → ((u : ℕ) → stand ≢ Free u) → Same (sum_below (length request.free) (λ u. times (only (free_at u) k) (g u))) (whole 0)
  none_there k stand is other =
      sum-zero (length request.free) (λ u. times (only (free_at u) k) (g u))
      (λ u l. only_other k (free_at u) (g u) (λ here. other u (sym is ∙ ap (inclusion request) here ∙ stands u l)))

  one_there : (k v : ℕ) → inclusion request k ≡ Free v → (u : ℕ) → u < length request.free → Same (times (only (free_at u) k) (g u)) (times (only v u) (g u))
  one_there k v is u l =
      elim (cases_eq u v) [
        | inl e ↦
            (let here : k ≡ free_at u = sym (free_is request k v is) ∙ ap free_at (sym e) in
            same_trans (only_here k (free_at u) (g u) here) (same_sym (only_here u v (g u) e)))
        | inr e ↦
            (let apart : k ≢ free_at u = λ here. (let both : Free v ≡ Free u = sym is ∙ ap (inclusion request) here ∙ stands u l in e (cc)) in
            same_trans (only_other k (free_at u) (g u) apart) (same_sym (only_other u v (g u) e)))
      ]

  spread : (k : ℕ) (stand : Inclusion) → inclusion request k ≡ stand → Same (at_free g stand) (sum_below (length request.free) (λ u. times (only (free_at u) k) (g u)))
  spread k Certain is = same_sym (none_there k Certain is (λ u e. cc))
  spread k Never is = same_sym (none_there k Never is (λ u e. cc))
  spread k (Free v) is =
      same_sym (same_trans (sum_same (length request.free) (λ u. times (only (free_at u) k) (g u)) (λ u. times (only v u) (g u)) (one_there k v is))
      (only_sum (length request.free) v g (free_within request k v is)))

  -- the sum over all units is that over the free ones
  pub sum_free : Same (sum_below n (λ k. at_free g (inclusion request k))) (sum_below (length request.free) g)
  sum_free =
      same_trans (sum_same n (λ k. at_free g (inclusion request k)) (λ k. sum_below (length request.free) (λ u. times (only (free_at u) k) (g u))) (λ k _. spread k (inclusion request k) refl))
      (same_trans (sum_exchange n (length request.free) (λ k u. times (only (free_at u) k) (g u)))
      (sum_same (length request.free) (λ u. sum_below n (λ k. times (only (free_at u) k) (g u))) g (λ u l. only_sum n (free_at u) (λ _. g u) (inside u l))))

  -- what each unit adds is what the free units add, and something else
  pub sum_apart : (f h : ℕ → Fraction) → ((k : ℕ) → k < n → Same (f k) (plus (at_free g (inclusion request k)) (h k))) → Same (sum_below n f) (plus (sum_below (length request.free) g) (sum_below n h))
  sum_apart f h each =
      same_trans (sum_same n f (λ k. plus (at_free g (inclusion request k)) (h k)) each)
      (same_trans (sum-plus n (λ k. at_free g (inclusion request k)) h) (plus_same sum_free (same_refl (sum_below n h))))
