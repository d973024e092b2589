use Rattle.std.proofs.Common.{◌≡◌, ℕ, ◌<◌, ◌≤◌, ◌++◌, true, false, length, arith, sym, ap, ◌∙◌, codes}
use Rattle.std.specs.{Prelude.{string_bytes}, Fmt.{decimal}}
use Rattle.smp_strata.specs.Plans.{Plan}
use Rattle.smp_twostage.specs.{Covered.{covered_left}, Selections.{Coverage, covers}}
use Rattle.smp_app.specs.{Drawn.{covered}, Kept.Stages.{selection_view}, Texts.{left_text, lefts_text}}
use Rattle.smp_plan.specs.{Plans.{survey_plan}, Planned.{plan_view}}
use Rattle.smp_twostage.proofs.Numbers.{line_more, line_passed, lines_all}
use Rattle.smp_app.proofs.texts.lefts_text.Goals.{then-covers+in_ok-push_left, else-covers}
use Rattle.smp_app.proofs.texts.lefts_text.Goals as goal

pub loop-stratum-preserved : goal.loop-stratum-preserved
loop-stratum-preserved c =
    let plan = c.args.plan.now in
    let selection = c.args.selection.now in
    let drawn = selection_view (plan_view plan) selection in
    let n = length (survey_plan (plan_view plan)).strata in
    let i = c.loop-stratum.stratum in
    let old = string_bytes c.loop-stratum.text in
    let within : i < n = omega (arith, c.loop-stratum-test.true, c.strata-stratum-end.ensures, ap (λ (p : Plan). length p.strata) c.requires.planned.parts_are) in
    let seen : covers selection.whole i ≡ covers (covered drawn) i = ap (λ (w : Coverage). covers w i) c.requires.selection.whole in
    elim c.if-covers.branch [
      | then-covers+in_ok-push_left w ↦
          (let passes : covers (covered drawn) i ≡ true = sym seen ∙ sym c.covers.ensures ∙ w.if-covers.true in
          let left : w.left.result ≡ covered_left (covered drawn) selection.state.states i = w.left.ensures ∙ ap (λ (o : Coverage). covered_left o selection.state.states i) c.requires.selection.whole in
          line_more (left_text drawn) (covers (covered drawn)) n i old (lefts_text drawn) within passes _
          (ap string_bytes w.text-is ∙ w.in_ok-push_left.ensures ∙ ap (λ (k : ℕ). old ++ (codes " " ++ decimal k)) left) c.loop-stratum.invariant)
      | else-covers w ↦
          (let fails : covers (covered drawn) i ≡ false = sym seen ∙ sym c.covers.ensures ∙ w.if-covers.false in
          let same = line_passed (left_text drawn) (covers (covered drawn)) n i old (lefts_text drawn) within fails c.loop-stratum.invariant in
          rw w.text-is same)
    ]

pub returns : goal.returns
returns c =
    let plan = c.args.plan.now in
    let drawn = selection_view (plan_view plan) c.args.selection.now in
    let n = length (survey_plan (plan_view plan)).strata in
    let ended : n ≤ c.loop-stratum.stratum = omega (arith, c.loop-stratum-test.false, c.strata-stratum-end.ensures, ap (λ (p : Plan). length p.strata) c.requires.planned.parts_are) in
    lines_all (left_text drawn) (covers (covered drawn)) n c.loop-stratum.stratum (string_bytes c.loop-stratum.text) _ ended c.loop-stratum.invariant
