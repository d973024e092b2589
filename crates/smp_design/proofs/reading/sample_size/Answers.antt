use Rattle.std.proofs.Common.{codes}
use Rattle.smp_design.proofs.QuotasOf.{good-ascend}
use Rattle.smp_design.proofs.reading.sample_size.Goals as goal

pub returns-clause-ascending : goal.returns-clause-ascending
returns-clause-ascending c = rw c.quotas_or_none.ensures (good-ascend (codes "sizes") c.in_ok-optional_quotas_at.field-0 c.in_ok-sizes.sizes c.in_ok-optional_quotas_at.ensures.ascending c.in_ok-sizes.ensures)
