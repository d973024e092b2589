use Rattle.smp_split.proofs.OwnStages.{is_part}
use Rattle.smp_split.specs.Methods.{owns, trees}
use Rattle.smp_split.proofs.stage_laws.own_stages_are_a_part.Goals as goal

pub returns : goal.returns
returns g c before n h own all within size are =
    let whole = c.args.stages.now in
    let part = c.args.part.now in
    is_part (trees g.D.Splitting.method) (owns g.D.Splitting.method) whole.stages.items whole.seats.items _ (λ s here. here) before n all h within part.stages.items part.seats.items own are part.staged size
