use Rattle.std.proofs.Common.{◌≡◌, ◌∙◌, ◌<◌, ℕ, List, length, get_or, map, arith, refl, sym}
use Rattle.std.proofs.lemmas.List.{ext_get_or, get_or-map, length-map}
use Rattle.smp_brewer.specs.Kept.Sizes.{share_of}
use Rattle.smp_brewer.proofs.offers.Offers.fill.Goals as goal

shares_are : (share : ℕ → ℕ) (numer sizes : List ℕ) → length numer ≡ length sizes → ((k : ℕ) → k < length sizes → get_or numer k 0 ≡ share (get_or sizes k 0)) → numer ≡ map share sizes
shares_are share numer sizes count each =
    ext_get_or 0 numer (map share sizes) (count ∙ sym (length-map sizes share)) (λ k h. let here : k < length sizes = omega arith in each k here ∙ sym (get_or-map share sizes k 0 0 here))

pub returns : goal.returns
returns c =
    let numer_are = shares_are (share_of c.total-total.result c.args.self.now.draws) c.loop-unit.values.numer c.args.self.now.sizes c.loop-unit.invariant.0 (λ k h. c.loop-unit.invariant.1 k (omega arith)) in
    rw (c.set_denominator.ensures, numer_are, c.total-total.ensures) refl
