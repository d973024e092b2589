-- The steps of an estimate, up to the first that is too wide.
use Rattle.std.proofs.Common.{◌≡◌, List, ℤ, Result, Ok, Err, IsErr, refl, ap, ◌∙◌}
use Rattle.smp_frac.specs.{declared.fractions.Frac.{Frac}, declared.fractions.Wide.{Wide}, declared.signed.Signed.{Signed}, Faults.{◌>>=◌}}
use Rattle.smp_weights.specs.{Arithmetic.{sum_of, difference_of}, Chosen.{Chosen}}
use Rattle.smp_weights.specs.Totals.{term_of, with_term, total_of, gains, losses, estimate_of}

-- any `Wide` is the same
pub is_wide : {A : Type 0} (r : Result A Wide) (w : Wide) → IsErr r → r ≡ Err w
is_wide (Ok a) w h = absurd (cc h)
is_wide (Err v) w h = refl

module _ (total : Frac) (u : Chosen ℤ) where
  pub wide_term : (w : Wide) → Err w ≡ term_of u → Err w ≡ with_term total u
  wide_term w term = ap (λ (r : Result Frac Wide). r >>= sum_of total) term

  pub sum_is-with_term : (t : Frac) → Ok t ≡ term_of u → sum_of total t ≡ with_term total u
  sum_is-with_term t term = ap (λ (r : Result Frac Wide). r >>= sum_of total) term

module _ (us : List (Chosen ℤ)) where
  abbrev less_below : Frac → Result Signed Wide
  less_below p = total_of (losses us) >>= (λ below. difference_of p below)

  pub wide_above : (w : Wide) → Err w ≡ total_of (gains us) → Err w ≡ estimate_of us
  wide_above w above = ap (λ (r : Result Frac Wide). r >>= less_below) above

  sum_above : (p : Frac) → Ok p ≡ total_of (gains us) → less_below p ≡ estimate_of us
  sum_above p above = ap (λ (r : Result Frac Wide). r >>= less_below) above

  pub wide_below : (p : Frac) (w : Wide) → Ok p ≡ total_of (gains us) → Err w ≡ total_of (losses us) → Err w ≡ estimate_of us
  wide_below p w above below = ap (λ (r : Result Frac Wide). r >>= difference_of p) below ∙ sum_above p above

  pub estimate_is : (p q : Frac) (answer : Result Signed Wide) → Ok p ≡ total_of (gains us) → Ok q ≡ total_of (losses us) → answer ≡ difference_of p q → answer ≡ estimate_of us
  estimate_is p q answer above below less =
      less ∙ ap (λ (r : Result Frac Wide). r >>= difference_of p) below ∙ sum_above p above
