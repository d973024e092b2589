-- How many first stage units are expected of a stratum.
use Rattle.std.proofs.{Common.{◌≡◌, ℕ, List, [], length, get_or, Option, Some, None, arith, ap, ◌∙◌}, lemmas.List.{get_or-map, length-map}}
use Rattle.std.specs.Prelude.{IfSome}
use Rattle.smp_frac.specs.{Fractions.{Same, sum_below, whole}, declared.fractions.Frac.{Frac}, Exact.{fraction}}
use Rattle.smp_frac.proofs.Arithmetic.{sum_same}
use Rattle.smp_prob.specs.{Given.{expected_size, given_fraction}, Inclusions.{asked_fraction}, declared.requests.Request.{Request}}
use Rattle.smp_design.specs.declared.design.Design.{Design}
use Rattle.smp_frame.specs.declared.frame.Unit as unit
use Rattle.smp_strata.specs.{Clusters.{clusters_in, first_row}, Plans.{first_probs}, Rows.{prob_at}, Kept.Built.{FirstAsks}}

-- with given probabilities, those of the request add up to the expected size
pub given_size : (design : Design) (units : List unit.Unit) (k : ℕ) (request : Request) (prob : Option (List ℕ)) → design.columns.prob ≡ prob → FirstAsks design units k request
    → IfSome prob (λ column. Same (sum_below (length (clusters_in design units k)) (asked_fraction request)) (expected_size (first_probs design units k)))
given_size design units k request None is asks = tt
given_size design units k request (Some column) is asks =
    let cs : List (List ℕ) = clusters_in design units k in
    let prob : List ℕ → Frac = λ rows. prob_at units (first_row rows) in
    let long : length (first_probs design units k) ≡ length cs = length-map cs prob in
    rw long (sum_same (length cs) (asked_fraction request) (given_fraction (first_probs design units k))
    (λ u l. (let value : given_fraction (first_probs design units k) u ≡ fraction (prob (get_or cs u [])) =
    get_or-map fraction (first_probs design units k) u (prob []) (whole 0) (omega (arith, l, long)) ∙ ap fraction (get_or-map prob cs u [] (prob []) l) in
    rw value (rw is at (asks u l)))))
