use Rattle.std.proofs.Common.{Some, ap, sym, ◌∙◌}
use Rattle.std.specs.Prelude.{option_map}
use Rattle.smp_app.specs.Commands.{job_of}
use Rattle.smp_app.proofs.call.carry_out.Goals as goal

pub returns-in-Ok-clause-says : goal.returns-in-Ok-clause-says
returns-in-Ok-clause-says g c words asked = c.do_job.ensures.says words (ap (option_map job_of) asked ∙ ap Some (sym c.in-Ok.ensures.job))

pub returns-in-Ok-clause-exact : goal.returns-in-Ok-clause-exact
returns-in-Ok-clause-exact g c words asked = c.do_job.ensures.exact words (ap (option_map job_of) asked ∙ ap Some (sym c.in-Ok.ensures.job))
