use Rattle.smp_design.proofs.DesignBounds.{read_is_design}
use Rattle.smp_design.proofs.reading.read_design.Goals as goal

pub returns-clause-bounds : goal.returns-clause-bounds
returns-clause-bounds c = read_is_design c.args.bytes.now c.checked_design.result c.checked_design.ensures.reads c.checked_design.ensures.ascending
