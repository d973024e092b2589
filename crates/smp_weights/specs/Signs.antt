-- A number below zero stays one in lowest terms.
use Rattle.std.specs.Prelude.{◌≡◌, ℕ, ◌≤◌, ℤ, pos, negsuc, true, false}
use Rattle.std.specs.Int.{is_negative}
use Rattle.std.proofs.Common.{sym, ◌∙◌, zero-le, suc-le-suc}
use Rattle.std.proofs.lemmas.Bool.{le-ltb, true≢false}
use Rattle.smp_frac.specs.LowestTerms.{lowest_terms}
use Rattle.smp_frac.proofs.LowestTerms.{lowest_terms-positive}

pub not_negative : (n : ℕ) → is_negative (pos n) ≡ false
not_negative n = le-ltb n 0 zero-le

-- the numerator of a number below zero
pub numerator_positive : (z : ℤ) (d : ℕ) (some : 1 ≤ d) → is_negative z ≡ true →
    1 ≤ (lowest_terms (record { num = z; den = d; positive = some })).num
numerator_positive (pos n) d some below = absurd (true≢false (sym below ∙ not_negative n))
numerator_positive (negsuc n) d some below =
    lowest_terms-positive (record { num = negsuc n; den = d; positive = some }) (suc-le-suc zero-le)
