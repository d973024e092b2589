use Rattle.std.proofs.Common.{◌∙◌, sym}
use Rattle.smp_split.specs.Laws.Parts.{weight_sum-equal}
use Rattle.smp_pivotal.specs.Systematic.{sampled}
use Rattle.smp_pivotal.proofs.systematic.SystematicPlacesPlaceSteps.bound.Goals as goal

pub returns : goal.returns
returns c = c.denominator.ensures ∙ rw (← c.self.view_is) (sym (weight_sum-equal (sampled c.self.inside.values) c.self.inside.values.den))
