use Rattle.std.proofs.{Common.{◌≡◌, get_or, true, false, pos, SFits, to_z-of_z, rules, sym, refl, ◌∙◌}, lemmas.List.{drop_all}}
use mir.Syntax.{w64}
use Rattle.smp_frac.specs.Fractions.{whole}
use Rattle.smp_weights.specs.Totals.{has_sign}
use Rattle.smp_frac.proofs.LowestTerms.{same-lowest_terms}
use Rattle.smp_weights.proofs.{Steps.{is_wide}, Counted.{counted, left_out}}
use Rattle.smp_weights.proofs.totals.total.Goals.{then-chosen-place+then-has_sign+in_ok-total, else-chosen-place, else-chosen-place-via-then-chosen-place+else-has_sign, else-chosen-place-via-else-chosen-place}
use Rattle.smp_weights.proofs.totals.total.Goals as goal

pub loop-place-init : goal.loop-place-init
loop-place-init c =
    let none = rw c.unwrap-total.ensures at c.new.ensures.value in
    rw (same-lowest_terms c.unwrap-total.result (whole 0) (record { cross = none.cross })) refl

pub loop-place-preserved : goal.loop-place-preserved
loop-place-preserved c =
    let fits : SFits w64 (get_or c.args.values.now c.loop-place.place (pos 0)) = search rules in
    elim c.if-chosen-place.branch [
      | then-chosen-place+then-has_sign+in_ok-total w ↦
          (let sign = sym (rw (to_z-of_z fits) at w.has_sign.ensures) ∙ w.if-has_sign.true in
          let step = counted c.args.minus c.args.values.now c.args.asked.now c.args.chosen.now c.loop-place.place c.loop-place-test.true c.requires.asked c.requires.chosen w.index-asked-place.result w.index-asked-place.is w.if-chosen-place.true sign in
          let added = rw (to_z-of_z fits) at w.in_ok-total.ensures in
          rw w.total-is (rw (step, ← added) at c.loop-place.invariant))
      | else-chosen-place w ↦
          (let sign : get_or c.args.chosen.now c.loop-place.place false ≡ true → has_sign c.args.minus (get_or c.args.values.now c.loop-place.place (pos 0)) ≡ false = λ taken.
          elim w.else-chosen-place.branch [
            | else-chosen-place-via-then-chosen-place+else-has_sign v ↦ sym (rw (to_z-of_z fits) at v.has_sign.ensures) ∙ v.if-has_sign.false
            | else-chosen-place-via-else-chosen-place v ↦ absurd (cc (taken, v.if-chosen-place.false))
          ] in
          let step = left_out c.args.minus c.args.values.now c.args.asked.now c.args.chosen.now c.loop-place.place c.loop-place-test.true c.requires.asked c.requires.chosen sign in
          rw w.total-is (rw step at c.loop-place.invariant))
    ]

pub returns : goal.returns
returns c = rw (drop_all c.loop-place.place c.args.values.now c.loop-place-test.false) at c.loop-place.invariant

pub returns-in_err-total : goal.returns-in_err-total
returns-in_err-total c =
    let fits : SFits w64 (get_or c.args.values.now c.loop-place.place (pos 0)) = search rules in
    let sign = sym (rw (to_z-of_z fits) at c.has_sign.ensures) ∙ c.if-has_sign.true in
    let step = counted c.args.minus c.args.values.now c.args.asked.now c.args.chosen.now c.loop-place.place c.loop-place-test.true c.requires.asked c.requires.chosen c.index-asked-place.result c.index-asked-place.is c.if-chosen-place.true sign in
    let stopped = rw (to_z-of_z fits) at c.in_err-total.ensures in
    rw (is_wide c.from_residual.result c.in_err-total.field-0.0 c.from_residual.ensures.0) (rw (step, ← stopped) at c.loop-place.invariant)
