use Rattle.smp_design.proofs.Rows.{bare_unless_needed}
use Rattle.smp_methods.proofs.{Columns.{takes_none}, Wholes.{needs_whole}}
use Rattle.smp_cases.proofs.running.start.Goals as goal

pub new-requires-clause-whole : goal.new-requires-clause-whole
new-requires-clause-whole c = needs_whole c.without_values-procedure.result c.args.request.now c.requires.whole

pub new-requires-clause-values : goal.new-requires-clause-values
new-requires-clause-values c =
    rw c.without_values-procedure.ensures (takes_none c.args.method c.args.request.now (bare_unless_needed c.args.method c.requires.method))
