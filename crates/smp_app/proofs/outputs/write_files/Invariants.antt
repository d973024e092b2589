use Rattle.std.proofs.Common.{◌≡◌, [], take, option_map}
use Rattle.smp_io.specs.Counts.{NeverFalls}
use Rattle.smp_app.specs.Deliveries.{with_files}
use Rattle.smp_app.proofs.outputs.write_files.Given as goal

abbrev pub invariant-loop-file : goal.invariant-loop-file
invariant-loop-file g l = record {
  written : g.K.Store.files l.store ≡ option_map (with_files (take l.file-index l.files)) (g.K.Store.files l.fn.store);
  reads : NeverFalls (g.K.Store.read_faults l.fn.store) (g.K.Store.read_faults l.store);
  writes : NeverFalls (g.K.Store.write_faults l.fn.store) (g.K.Store.write_faults l.store);
  shortages : NeverFalls (g.K.Store.write_shortages l.fn.store) (g.K.Store.write_shortages l.store);
  asked : g.K.Store.asked l.store ≡ g.K.Store.asked l.fn.store;
  idle : l.files ≡ [] → l.store ≡ l.fn.store;
}
