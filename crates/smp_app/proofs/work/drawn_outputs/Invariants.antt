use Rattle.std.proofs.Common.{◌≡◌, ◌++◌, drop, map}
use Rattle.smp_app.specs.{Commands.{written_by}, Kept.Stages.{file_view, selection_view}}
use Rattle.smp_plan.specs.Planned.{plan_view}
use Rattle.smp_app.proofs.work.drawn_outputs.Given as goal

abbrev pub invariant-loop-file : goal.invariant-loop-file
invariant-loop-file l =
    let line = written_by (selection_view (plan_view l.plan) l.selection) in
    l.written.items ++ map line (map file_view (drop l.file-index l.files)) ≡ map line (map file_view l.files)
