use Rattle.std.proofs.Common.{◌≡◌, ℕ, List, ◌∷◌, [], ◌++◌, OnOk, Some, length, sym, ap, subst, ◌∙◌}
use Rattle.smp_design.specs.{declared.procedure.Procedure.{Procedure}, Procedures.{without_values}}
use Rattle.smp_design.proofs.Rows.{bare}
use Rattle.smp_methods.specs.Designs.{design_of}
use Rattle.smp_methods.proofs.{Columns.{takes_none}, Wholes.{needs_whole}}
use Rattle.smp_twostage.specs.Selections.{Selecting}
use Rattle.smp_twostage.proofs.made.Made.push_second.Goals as goal

pub start_stage-requires-clause-whole : goal.start_stage-requires-clause-whole
start_stage-requires-clause-whole c = (let over = rw (← c.get.ensures, c.in-Some.is) at c.requires.first.over in needs_whole c.without_values-procedure.result c.in-Some.request.now over.whole)

pub start_stage-requires-clause-values : goal.start_stage-requires-clause-values
start_stage-requires-clause-values c = rw c.without_values-procedure.ensures (takes_none c.args.method c.in-Some.request.now (bare c.args.method c.requires.method))

pub returns-clause-stages : goal.returns-clause-stages
returns-clause-stages c =
    let request = c.in-Some.request.now in
    let way = without_values c.args.method in
    let rows : ℕ = length c.args.first.now.rows in
    let second : c.args.first.now.second ≡ Some request = sym (rw c.in-Some.is at c.get.ensures) in
    let made : ◌≡◌ {A = Selecting} c.in_ok-started.started.design (record { units = rows; request = request; design = design_of way request [] [] }) =
    c.in_ok-started.ensures.design ∙ ap (λ (xs : List ℕ). record { units = length xs; request = request; design = design_of c.without_values-procedure.result request [] [] }) c.as_slice-rows.ensures
    ∙ ap (λ (p : Procedure). record { units = rows; request = request; design = design_of p request [] [] }) c.without_values-procedure.ensures in
    rw second
    (subst (λ (s : Selecting). OnOk c.push.result (c.push.new.self.stages.items ≡ c.args.self.now.stages.items ++ record { design = s; within = Some c.args.within } ∷ [])) made c.push.ensures.stages)
