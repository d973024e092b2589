use Rattle.std.proofs.Common.{◌≡◌, ◌<◌, ◌≤◌, ℕ, true, false, arith, sym, ap, ◌∙◌}
use Rattle.std.specs.{Prelude.{string_bytes}, List.{flat_map}}
use Rattle.smp_design.specs.{declared.procedure.Procedure.{Procedure}, Words.{balances}}
use Rattle.smp_strata.specs.Plans.{Plan}
use Rattle.smp_twostage.specs.{Kept.Stages.{section_lines}, Lines.{told_sections}, Selections.{all_of, covers, section_count}}
use Rattle.smp_twostage.proofs.Numbers.{line_more, line_passed, lines_all}
use Rattle.smp_twostage.proofs.lines.balance_lines.Goals.{then-covers+in_ok-push_lines, else-covers}
use Rattle.smp_twostage.proofs.lines.balance_lines.Goals as goal

pub loop-section-preserved : goal.loop-section-preserved
loop-section-preserved c =
    let whole = c.args.whole.now in
    let states = c.args.state.now.states in
    let n : ℕ = section_count (all_of whole.plan) in
    let i = c.loop-section.section in
    let old = string_bytes c.loop-section.text in
    let all = flat_map (section_lines whole states) (told_sections whole) in
    let within : i < n = omega (arith, c.loop-section-test.true, c.section_count-section-end.ensures, ap (λ (p : Plan). section_count (all_of p)) c.plan-plan.ensures) in
    elim c.if-covers.branch [
      | then-covers+in_ok-push_lines w ↦
          (let passes : covers whole i ≡ true = sym c.covers.ensures ∙ w.if-covers.true in
          line_more (section_lines whole states) (covers whole) n i old all within passes _ (ap string_bytes w.text-is ∙ w.in_ok-push_lines.ensures) c.loop-section.invariant)
      | else-covers w ↦
          (let fails : covers whole i ≡ false = sym c.covers.ensures ∙ w.if-covers.false in
          let same = line_passed (section_lines whole states) (covers whole) n i old all within fails c.loop-section.invariant in
          rw w.text-is same)
    ]

pub returns : goal.returns
returns c =
    let whole = c.args.whole.now in
    let n : ℕ = section_count (all_of whole.plan) in
    let ended : n ≤ c.loop-section.section = omega (arith, c.loop-section-test.false, c.section_count-section-end.ensures, ap (λ (p : Plan). section_count (all_of p)) c.plan-plan.ensures) in
    let said : c.balances.result ≡ balances whole.plan.procedure.method = c.balances.ensures ∙ ap (λ (way : Procedure). balances way.method) (c.procedure.ensures ∙ ap (λ (p : Plan). p.procedure) c.plan-plan.ensures) in
    let on : balances whole.plan.procedure.method ≡ true = sym said ∙ c.if-not-balances.false in
    rw on (lines_all (section_lines whole c.args.state.now.states) (covers whole) n c.loop-section.section (string_bytes c.loop-section.text) _ ended c.loop-section.invariant)
