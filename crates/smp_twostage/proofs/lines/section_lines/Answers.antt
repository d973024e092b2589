use Rattle.std.proofs.Common.{◌≡◌, ◌+◌, List, ℕ, IfOk, map, sym, ap, subst, ◌∙◌}
use Rattle.std.specs.Prelude.{string_bytes}
use Rattle.smp_twostage.specs.{DrawnLines.{AreTold, Drawn, drawn_lines}, Lines.{told}}
use Rattle.smp_design.specs.declared.procedure.Procedure.{Procedure}
use Rattle.smp_twostage.proofs.{SeatsTold.{are_told, told_found}, lines.section_lines.Goals.{After-as_slice-3}}
use Rattle.smp_twostage.proofs.lines.section_lines.Goals as goal

-- what was gathered is what is told of the section
gathered : (c : After-as_slice-3)
    → ◌≡◌ {A = Drawn} (record { number = c.args.section + 1; left = c.left.result; columns = c.procedure.result.balance; values = map (λ v. v.now) c.as_slice.result.now; asked = c.as_slice-2.result.now; chosen = c.as_slice-3.result.now })
    (told c.args.whole.now c.args.state.now.states c.args.section)
gathered c =
    told_found c.args.whole.now c.args.section c.requires.state.drawable c.requires.within c.requires.covered c.requires.balance c.args.state.now.states c.plan-plan.result.now c.plan-plan.ensures
    c.left.result c.procedure.result.balance (map (λ v. v.now) c.as_slice.result.now) c.as_slice-2.result.now c.as_slice-3.result.now
    c.left.ensures (ap (λ (way : Procedure). way.balance) c.procedure.ensures) (ap (map (λ v. v.now)) c.as_slice.ensures.value ∙ c.in_ok-values.ensures) (c.as_slice-2.ensures.value ∙ c.in_ok-asked.ensures)
    (c.as_slice-3.ensures.value ∙ c.in_ok-chosen.ensures)

pub drawn_lines-requires : goal.drawn_lines-requires
drawn_lines-requires c =
    subst AreTold (sym (gathered (goal.at.drawn_lines-requires c).After-as_slice-3))
    (are_told c.args.whole.now c.args.section c.requires.state.drawable c.requires.within c.requires.covered c.requires.balance c.args.state.now.states)

pub returns : goal.returns
returns c =
    subst (λ (t : List ℕ). IfOk c.drawn_lines.result (λ text. string_bytes text ≡ t)) (ap drawn_lines (gathered (goal.at.returns c).After-as_slice-3)) c.drawn_lines.ensures
