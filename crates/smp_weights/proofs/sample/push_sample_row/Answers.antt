use Rattle.std.proofs.Common.{rules}
use Rattle.smp_frac.specs.Exact.{fraction}
use Rattle.smp_frac.proofs.Texts.{fraction_text-same}
use Rattle.smp_weights.specs.Chosen.{weight}
use Rattle.smp_weights.proofs.sample.push_sample_row.Goals as goal

pub returns : goal.returns
returns c =
    let same = fraction_text-same (fraction c.weight_of.result) (weight c.args.asked) c.weight_of.ensures in rw (← same) (search rules)
