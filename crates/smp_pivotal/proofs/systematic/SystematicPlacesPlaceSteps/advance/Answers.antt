use Rattle.std.proofs.Common.{◌<◌, ◌∙◌, sym}
use Rattle.smp_split.specs.{Parts.{equal_parts}, Trees.{weight_sum}, Laws.Parts.{weight_sum-equal, picked-equal}}
use Rattle.smp_pivotal.specs.Systematic.{sampled}
use Rattle.smp_pivotal.proofs.systematic.SystematicPlacesPlaceSteps.advance.Goals as goal

pub take_sample-requires-clause-within : goal.take_sample-requires-clause-within
take_sample-requires-clause-within c =
    let within : c.args.draw < weight_sum (equal_parts c.self.inside.values.den (sampled c.self.inside.values)) = rw (← c.self.view_is) at c.requires.within in
    rw (weight_sum-equal (sampled c.self.inside.values) c.self.inside.values.den) at within

pub returns : goal.returns
returns c =
    let within : c.args.draw < weight_sum (equal_parts c.self.inside.values.den (sampled c.self.inside.values)) = rw (← c.self.view_is) at c.requires.within in
    let less : c.args.draw < c.self.inside.values.den = rw (weight_sum-equal (sampled c.self.inside.values) c.self.inside.values.den) at within in
    rw (← c.self.view_is) (c.take_sample.ensures ∙ sym (picked-equal (sampled c.self.inside.values) c.self.inside.values c.self.inside.values.den c.args.draw less))
