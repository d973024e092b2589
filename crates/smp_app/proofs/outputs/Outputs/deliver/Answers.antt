use Rattle.std.proofs.Common.{refl, rules}
use Rattle.smp_io.specs.Sink.{AppendsFront}
use Rattle.smp_io.specs.declared.fault.StoreFault.TheVariants as faults
use Rattle.smp_app.specs.Deliveries.{outputs_view, AtFile, AtPut}
use Rattle.smp_app.proofs.Deliveries.{of_err}
use Rattle.smp_app.proofs.outputs.Outputs.deliver.Goals as goal

pub returns-in_err-write_files-clause-failed : goal.returns-in_err-write_files-clause-failed
returns-in_err-write_files-clause-failed g c failed =
    let fails = rw c.as_slice.ensures.value at c.in_err-write_files.ensures.failed (search (rules, failed, c.from_residual.ensures)) in
    record { stops = AtFile fails.stop refl; cause = fails.cause }

pub returns-in_err-write_files-clause-short : goal.returns-in_err-write_files-clause-short
returns-in_err-write_files-clause-short g c short =
    let fails = rw c.as_slice.ensures.value at c.in_err-write_files.ensures.short (search (rules, short, c.from_residual.ensures)) in
    record { stops = AtFile fails.stop refl; cause = fails.cause }

pub returns-clause-failed : goal.returns-clause-failed
returns-clause-failed g c failed =
    let front : AppendsFront c.as_slice-2.result.now (g.S.Sink.written c.args.out.now) (g.S.Sink.written c.put.new.self) = of_err c.put.result faults.Failed _ failed c.put.ensures.err in
    let own : AppendsFront (outputs_view c.args.self.now).put (g.S.Sink.written c.args.out.now) (g.S.Sink.written c.put.new.self) = rw c.as_slice-2.ensures at front in
    record { stops = AtPut (rw c.as_slice.ensures.value at c.in_ok-write_files.ensures.ok) own; cause = c.put.ensures.cause failed }

pub returns-clause-short : goal.returns-clause-short
returns-clause-short g c short =
    let front : AppendsFront c.as_slice-2.result.now (g.S.Sink.written c.args.out.now) (g.S.Sink.written c.put.new.self) = of_err c.put.result faults.NoMemory _ short c.put.ensures.err in
    let own : AppendsFront (outputs_view c.args.self.now).put (g.S.Sink.written c.args.out.now) (g.S.Sink.written c.put.new.self) = rw c.as_slice-2.ensures at front in
    record { stops = AtPut (rw c.as_slice.ensures.value at c.in_ok-write_files.ensures.ok) own; cause = c.put.ensures.short short }
