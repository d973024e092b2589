use Rattle.std.proofs.Common.{◌≡◌, Err, None, ap, sym, subst}
use Rattle.smp_tape.specs.declared.draws.DrawFault.{DrawFault}
use Rattle.smp_log.specs.SectionLogs.{steps_of}
use Rattle.smp_log.proofs.{Paths.{run_full_path}, Placed.{none_placed}}
use Rattle.smp_split.specs.Runs.{run}
use Rattle.smp_twostage.specs.{Selections.{BelongsToCovered, covered_tree, strata_sections}, Laws.Wholes.{covered_lawful}}
use Rattle.smp_app.specs.{Drawn.{tree_of, start_of}, Kept.Stages.{RefusedAt}}
use Rattle.smp_plan.specs.Planned.{plan_view}
use Rattle.smp_app.proofs.Selections.{belongs, told_is, tree_is, start_is, stop_is, ends_at_leaf, ends_refused, lines_so, walked_all}
use Rattle.smp_app.proofs.selection.walk_from.Goals as goal

pub walk-requires : goal.walk-requires
walk-requires g c = belongs c.args.plan.now.plan None c.args.started c.requires.started

pub returns-in-Ok-clause-ends : goal.returns-in-Ok-clause-ends
returns-in-Ok-clause-ends g c =
    let plan = c.args.plan.now in
    let walked = c.in-Ok.ensures.arrived in
    ends_at_leaf g.D.Draws.source (plan_view plan) _ (tree_is plan c.requires.planned c.args.started.whole c.requires.started.whole)
    c.args.started.state (start_is plan c.requires.planned c.args.started.state c.requires.started.state) c.args.draws.now
    c.walk.new.state _ walked.path c.walk.new.draws walked.ran (rw c.new-lines.ensures at walked.told)

pub returns-in-Ok-clause-walked : goal.returns-in-Ok-clause-walked
returns-in-Ok-clause-walked g c =
    let plan = c.args.plan.now in
    let whole = c.args.started.whole in
    let start = c.args.started.state in
    let walked = c.in-Ok.ensures.arrived in
    let here = belongs plan.plan None c.args.started c.requires.started in
    let told : steps_of c.walk.new.trace ≡ walked.path = told_is (rw c.new-lines.ensures at walked.told) in
    let full = run_full_path (covered_tree whole) (BelongsToCovered whole) (covered_lawful whole) start c.walk.new.state walked.path here g.D.Draws.source c.args.draws.now c.walk.new.draws walked.ran in
    walked_all plan c.requires.planned c.args.started c.requires.started c.walk.new.state c.walk.ensures.belongs walked.path c.walk.new.trace full told
    (lines_so plan c.requires.planned None c.args.started c.requires.started c.walk.new.state walked.path c.walk.new.trace (c.in-Ok.ensures.kept start (none_placed (covered_tree whole) (strata_sections whole) start c.new-lines.result c.new-lines.ensures)) told)

pub bound-bound-requires-clause-going : goal.bound-bound-requires-clause-going
bound-bound-requires-clause-going g c =
    let r = c.in-Err-Draw.ensures.refused c.in-Err-Draw.fault (ap Err c.in-Err-Draw.field-0-is) in
    let here = belongs c.args.plan.now.plan None c.args.started c.requires.started in
    (stop_is g.D.Draws.source c.args.started.whole c.args.started.state here c.args.draws.now c.walk.new.state r.path c.in-Err-Draw.fault c.walk.new.draws r.ran).going

pub returns-in-Err-Draw-clause-ends : goal.returns-in-Err-Draw-clause-ends
returns-in-Err-Draw-clause-ends g c =
    let plan = c.args.plan.now in
    let r = c.in-Err-Draw.ensures.refused c.in-Err-Draw.fault (ap Err c.in-Err-Draw.field-0-is) in
    subst (λ (fault : DrawFault). RefusedAt (plan_view plan) (run g.D.Draws.source (tree_of (plan_view plan)) (start_of (plan_view plan)) c.args.draws.now) c.walk.new.state fault c.bound-bound.result c.walk.new.draws)
    (sym c.in-Err-Draw.fault-is)
    (ends_refused g.D.Draws.source (plan_view plan) _ (tree_is plan c.requires.planned c.args.started.whole c.requires.started.whole)
    c.args.started.state (start_is plan c.requires.planned c.args.started.state c.requires.started.state) c.args.draws.now
    c.walk.new.state r.path c.in-Err-Draw.fault c.walk.new.draws c.bound-bound.result c.bound-bound.ensures r.ran)
