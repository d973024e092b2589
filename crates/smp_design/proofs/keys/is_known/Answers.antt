use Rattle.std.proofs.Common.{◌∙◌}
use Rattle.smp_design.proofs.FirstKeys.{among_refs}
use Rattle.smp_design.proofs.keys.is_known.Goals as goal

pub returns : goal.returns
returns c = c.contains.ensures.value ∙ among_refs c.args.known.now c.args.key.now
