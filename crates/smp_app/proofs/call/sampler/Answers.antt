use Rattle.smp_app.proofs.{Ends.{exact_says, says, is_answer}, Headline.{headline}}
use Rattle.smp_app.proofs.call.sampler.Goals as goal

pub returns-clause-headline : goal.returns-clause-headline
returns-clause-headline g c =
    headline c.report.result _ _ _ (says _ _ _ _ _ _ c.work-status.ensures.puts c.work-status.ensures.shortages c.work-status.ensures.says c.report.ensures.line)
    (exact_says _ _ _ _ _ _ c.report.ensures.line c.work-status.ensures.exact)

pub returns-clause-answer : goal.returns-clause-answer
returns-clause-answer g c =
    is_answer c.report.result _ _ _ (says _ _ _ _ _ _ c.work-status.ensures.puts c.work-status.ensures.shortages c.work-status.ensures.says c.report.ensures.line)
