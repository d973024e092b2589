use Rattle.std.proofs.{Common.{◌≡◌, ℕ, List, map, Ok, Err, [], ap, subst, ◌∙◌, rules}, lemmas.List.{append-nil}}
use Rattle.smp_status.specs.declared.status.Status.TheVariants.{NoMemory}
use Rattle.smp_app.specs.{Commands.{source_names, Draws, outputs_by}, Verdict.{work_stage, drawn_stage}, Deliveries.{Outputs, names_of}}
use Rattle.smp_plan.specs.{Reads.{Reads, told}, Planned.{plan_view}}
use Rattle.smp_app.specs.Kept.Stages.{draw_view, drawn_text, file_view, selection_view}
use Rattle.smp_plan.proofs.Steps.{read_for, stops}
use Rattle.smp_app.proofs.{Selections.{is_listed}, Stages.{names_written}}
use Rattle.smp_app.proofs.work.work_outputs.Goals as goal

pub returns-in_err-selection-in-Draws-clause-reads : goal.returns-in_err-selection-in-Draws-clause-reads
returns-in_err-selection-in-Draws-clause-reads g c =
    let error = c.in_err-selection-in-Draws.field-0.0 in
    let ends : c.from_residual-in_err-selection-in-Draws.result ≡ Err error = search (rules, c.from_residual-in_err-selection-in-Draws.ensures) in
    let plan = plan_view c.args.plan.now in
    let source = draw_view c.in-Draws.from in
    let files = map file_view c.in-Draws.files.items in
    let put = drawn_text c.in-Draws.put in
    rw (ends, c.in-Draws.is)
    (subst (λ (names : List (List ℕ)). Reads names (work_stage (Draws source files put) plan) (Err error) (told g.K.Store.files g.K.Store.read_faults g.K.Store.write_faults g.K.Store.write_shortages g.K.Store.asked c.args.store.now) (told g.K.Store.files g.K.Store.read_faults g.K.Store.write_faults g.K.Store.write_shortages g.K.Store.asked c.selection_from.new.store))
    (append-nil (source_names source))
    (stops (source_names source) [] (drawn_stage plan source) (λ drawn fs. Ok (outputs_by files put drawn)) _ _ error c.in_err-selection-in-Draws.ensures.reads))

pub returns-in_err-drawn_outputs-in-Draws-clause-reads : goal.returns-in_err-drawn_outputs-in-Draws-clause-reads
returns-in_err-drawn_outputs-in-Draws-clause-reads g c =
    let ends : c.from_residual-in_err-drawn_outputs-in-Draws.result ≡ Err NoMemory = search (rules, c.from_residual-in_err-drawn_outputs-in-Draws.ensures) in
    rw (ends, c.in-Draws.is) (read_for c.in_ok-selection-in-Draws.ensures.reads (λ fs told. tt) tt tt)

pub returns-in_ok-drawn_outputs-in-Draws-clause-named : goal.returns-in_ok-drawn_outputs-in-Draws-clause-named
returns-in_ok-drawn_outputs-in-Draws-clause-named g c =
    let drawn = selection_view (plan_view c.args.plan.now) c.in_ok-selection-in-Draws.selection in
    rw c.in-Draws.is
    (ap (λ (o : Outputs). names_of o.files) (rw c.as_slice.ensures.value at c.in_ok-drawn_outputs-in-Draws.ensures) ∙ names_written drawn _)

pub returns-in_ok-drawn_outputs-in-Draws-clause-exact : goal.returns-in_ok-drawn_outputs-in-Draws-clause-exact
returns-in_ok-drawn_outputs-in-Draws-clause-exact g c fs held =
    let selection = c.in_ok-selection-in-Draws.selection in
    rw c.in-Draws.is (record {
      drawn = selection_view (plan_view c.args.plan.now) selection;
      is_drawn = c.in_ok-selection-in-Draws.ensures.reads.follows fs (rw c.in-Draws.is at held);
      by_plan = c.in_ok-selection-in-Draws.ensures.selection.drawn;
    })

pub returns-in_ok-bytes-in-Lists-clause-exact : goal.returns-in_ok-bytes-in-Lists-clause-exact
returns-in_ok-bytes-in-Lists-clause-exact g c fs held = rw c.in-Lists.is (is_listed c.args.plan.now c.requires.planned)
