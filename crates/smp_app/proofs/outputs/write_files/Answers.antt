use Rattle.std.proofs.Common.{◌≡◌, length, ap, arith, rules}
use Rattle.smp_app.proofs.Deliveries.{on_err, stops_at, fails_at}
use Rattle.smp_app.proofs.outputs.write_files.Goals as goal

pub returns-in_err-write-clause-err : goal.returns-in_err-write-clause-err
returns-in_err-write-clause-err g c =
    on_err c.from_residual.result _
    (stops_at c.args.files.now c.loop-file.file-index c.file-item.result (omega arith) c.file-item.is _ c.as_str.ensures (g.K.Store.files c.args.store.now) (g.K.Store.files c.loop-file.store) (g.K.Store.files c.write.new.self) c.loop-file.invariant.written
    c.in_err-write.ensures.others)

pub returns-in_err-write-clause-failed : goal.returns-in_err-write-clause-failed
returns-in_err-write-clause-failed g c failed =
    fails_at c.args.files.now c.loop-file.file-index c.file-item.result (omega arith) c.file-item.is _ c.as_str.ensures (g.K.Store.files c.args.store.now) (g.K.Store.files c.loop-file.store) (g.K.Store.files c.write.new.self) c.loop-file.invariant.written
    c.in_err-write.ensures.others (g.K.Store.write_faults c.args.store.now) (g.K.Store.write_faults c.loop-file.store) (g.K.Store.write_faults c.write.new.self) (c.loop-file.invariant.writes c.file-item.result.name) (c.in_err-write.ensures.cause (search (rules, failed, c.from_residual.ensures)))

pub returns-in_err-write-clause-short : goal.returns-in_err-write-clause-short
returns-in_err-write-clause-short g c short =
    fails_at c.args.files.now c.loop-file.file-index c.file-item.result (omega arith) c.file-item.is _ c.as_str.ensures (g.K.Store.files c.args.store.now) (g.K.Store.files c.loop-file.store) (g.K.Store.files c.write.new.self) c.loop-file.invariant.written
    c.in_err-write.ensures.others (g.K.Store.write_shortages c.args.store.now) (g.K.Store.write_shortages c.loop-file.store) (g.K.Store.write_shortages c.write.new.self) (c.loop-file.invariant.shortages c.file-item.result.name) (c.in_err-write.ensures.short (search (rules, short, c.from_residual.ensures)))

pub returns-in_err-write-clause-idle : goal.returns-in_err-write-clause-idle
returns-in_err-write-clause-idle g c none = absurd (let empty : length c.args.files.now ≡ 0 = ap length none in omega arith)
