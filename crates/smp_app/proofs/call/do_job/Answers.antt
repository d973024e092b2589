use Rattle.std.proofs.Common.{Err, inr, refl, ap}
use Rattle.smp_status.specs.declared.status.Status.TheVariants.{Done}
use Rattle.smp_app.specs.{Deliveries.{outputs_view}, Kept.Stages.{job_view}}
use Rattle.smp_app.proofs.Ends.{error_says, all_done, exact_done, exact_error, stopped_by}
use Rattle.smp_app.proofs.call.do_job.Goals as goal

pub returns-in-Err-clause-says : goal.returns-in-Err-clause-says
returns-in-Err-clause-says g c words asked =
    let reads = c.in-Err.ensures.reads in
    error_says _ (job_view c.args.job.now) _ _ asked (g.K.Store.asked c.args.store.now) (g.K.Store.asked c.outputs_from.new.store) _ c.in-Err.status reads.kinds reads.follows reads.cause
    (record { files = reads.same; put = refl })

pub returns-in-Ok-deliver-clause-says : goal.returns-in-Ok-deliver-clause-says
returns-in-Ok-deliver-clause-says g c words asked =
    all_done _ (job_view c.args.job.now) _ _ asked _ c.in-Ok.ensures.reads.same (outputs_view c.in-Ok.outputs) c.in-Ok.ensures.reads.follows
    c.in-Ok-deliver.ensures.files c.in-Ok-deliver.ensures.written

pub returns-in-Err-Failed-clause-says : goal.returns-in-Err-Failed-clause-says
returns-in-Err-Failed-clause-says g c words asked =
    stopped_by _ (job_view c.args.job.now) _ _ asked _ c.in-Ok.ensures.reads.same (outputs_view c.in-Ok.outputs) c.in-Ok.ensures.reads.follows
    (g.K.Store.write_faults c.args.store.now) (g.K.Store.write_faults c.outputs_from.new.store) _ _ c.in-Ok.ensures.reads.writes c.in-Ok.ensures.named (c.in-Err-Failed.ensures.failed (ap Err c.in-Err-Failed.field-0-is))

pub returns-clause-says : goal.returns-clause-says
returns-clause-says g c words asked =
    inr (inr
    (stopped_by _ (job_view c.args.job.now) _ _ asked _ c.in-Ok.ensures.reads.same (outputs_view c.in-Ok.outputs) c.in-Ok.ensures.reads.follows
    (g.K.Store.write_shortages c.args.store.now) (g.K.Store.write_shortages c.outputs_from.new.store) _ _ c.in-Ok.ensures.reads.shortages c.in-Ok.ensures.named (c.in-Err-NoMemory.ensures.short (ap Err c.in-Err-NoMemory.field-0-is))))

pub returns-in-Err-clause-exact : goal.returns-in-Err-clause-exact
returns-in-Err-clause-exact g c words asked =
    exact_error words (job_view c.args.job.now) _ asked _ c.in-Err.status c.in-Err.ensures.reads.kinds c.in-Err.ensures.exact

pub returns-in-Ok-deliver-clause-exact : goal.returns-in-Ok-deliver-clause-exact
returns-in-Ok-deliver-clause-exact g c words asked = exact_done words (job_view c.args.job.now) _ asked Done c.in-Ok.ensures.exact
