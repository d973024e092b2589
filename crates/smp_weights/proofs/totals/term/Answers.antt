use Rattle.std.proofs.Common.{ap, ap₂, subst, ℕ, ◌∙◌, to_z-of_z, unsigned_abs}
use Rattle.smp_frac.specs.{Fractions.{Same, whole, integer}, Exact.{fraction}}
use Rattle.smp_weights.specs.{Arithmetic.{product_of}, Chosen.{weight}}
use Rattle.smp_frac.proofs.LowestTerms.{same-lowest_terms}
use Rattle.smp_weights.proofs.Arithmetic.{product_is}
use Rattle.smp_weights.proofs.totals.term.Goals as goal

pub returns : goal.returns
returns c =
    let value = c.unsigned_abs.ensures.value ∙ ap unsigned_abs (to_z-of_z c.ranges.value) in
    let over_one = rw c.unwrap-size.ensures at c.new.ensures.value in
    let size : Same (fraction c.unwrap-size.result) (whole (unsigned_abs c.args.value)) =
    subst (λ (n : ℕ). Same (fraction c.unwrap-size.result) (whole n)) value (record { cross = over_one.cross }) in
    product_is c.unwrap-size.result c.weight_of.result c.mul.result c.mul.ensures.value c.mul.ensures.fits c.mul.ensures.wide
    ∙ ap₂ product_of (same-lowest_terms c.unwrap-size.result (integer c.args.value) size) (same-lowest_terms c.weight_of.result (weight c.args.asked) c.weight_of.ensures)
