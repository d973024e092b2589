use Rattle.std.proofs.Common.{not, map}
use Rattle.smp_design.specs.Keys.{is_among}
use Rattle.smp_design.proofs.FirstKeys.{first_of}
use Rattle.smp_design.proofs.keys.unknown_key.Goals as goal

pub returns : goal.returns
returns c = first_of (λ k. not (is_among (map (λ k. k.now) c.args.known.now) k)) c.args.table.now.entries c.find_unknown_key.result c.find_unknown_key.ensures.found c.find_unknown_key.ensures.ordered
