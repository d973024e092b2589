-- When there is a request for given probabilities, and when there is none.
use Rattle.std.proofs.Common.{◌≡◌, ℕ, ◌<◌, ◌≤◌, true, true≢false, List, None, Err, Result, is_ok, nat_lt, inl, inr, ap, refl, sym, ◌∙◌}
use Rattle.std.proofs.lemmas.Bool.{cases_lt, le-ltb, lt-ltb}
use Rattle.smp_frac.specs.declared.fractions.Frac.{Frac}
use Rattle.smp_prob.specs.{Given.{common_multiple, largest_multiple}, declared.faults.GivenFault.{GivenFault}}
use Rattle.smp_prob.specs.declared.faults.GivenFault.TheVariants.{Denominator, NoMemory}
use Rattle.smp_prob.specs.declared.probabilities.GivenRequest.{GivenRequest}
use Rattle.smp_strata.specs.Misfits.{when}
use Rattle.smp_strata.specs.declared.misfit.Misfit.TheVariants as misfits

module _ (probs : List Frac) where
  -- there is one where the denominators have a common multiple within the limit
  pub common : (name : List ℕ) (made : Result GivenRequest GivenFault) → is_ok made ≡ true → (largest_multiple < common_multiple probs → made ≡ Err Denominator)
      → when (nat_lt largest_multiple (common_multiple probs)) (misfits.Denominator name) ≡ None
  common name made ok refused =
      elim (cases_lt largest_multiple (common_multiple probs)) [
        | inl l ↦ absurd (true≢false (sym ok ∙ ap is_ok (refused l)))
        | inr g ↦ rw (le-ltb largest_multiple (common_multiple probs) g) refl
      ]

  -- and none where they haven't
  pub too_large : (fault : GivenFault) → fault ≡ Denominator → (common_multiple probs ≤ largest_multiple → fault ≡ NoMemory) → nat_lt largest_multiple (common_multiple probs) ≡ true
  too_large fault is made =
      elim (cases_lt largest_multiple (common_multiple probs)) [
        | inl l ↦ lt-ltb largest_multiple (common_multiple probs) l
        | inr g ↦ absurd (not_both (sym is ∙ made g))
      ]
    where
      not_both : Denominator ≡ NoMemory → ⊥
      not_both e = cc
