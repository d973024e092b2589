use Rattle.std.proofs.Common.{refl}
use Rattle.smp_log.proofs.Paths.{run_full_path}
use Rattle.smp_log.proofs.section_laws.runs_are_genuine.Goals as goal

pub returns : goal.returns
returns g c path leaf left ran =
    let run = c.args.run.now in
    let full = run_full_path (g.S.Splitting.method run).tree (g.S.Splitting.method run).belongs (g.S.Splitting.method run).lawful c.args.state.now leaf path c.requires g.D.Draws.source c.args.draws.now left ran in
    record {
      has_leaf = record { leaf = leaf; full = full };
      genuine = record { path = path; full = full; text = refl };
    }
