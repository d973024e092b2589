use Rattle.std.proofs.Common.{[], ◌∷◌}
use Rattle.smp_plan.proofs.{Designs.{quick_is_design}, Names.{first_distinct}}
use Rattle.smp_app.proofs.job.quick_job.Goals as goal

pub returns-clause-is_job : goal.returns-clause-is_job
returns-clause-is_job c =
    let a = c.args.arguments.now in
    record {
      distinct = first_distinct (a.frame ∷ a.tape ∷ []) (a.out ∷ []) c.requires.distinct;
      design = quick_is_design a.n c.requires.sized.0 c.requires.sized.1;
      frame = tt;
      work = tt;
    }
