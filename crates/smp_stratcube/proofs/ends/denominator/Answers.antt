use Rattle.std.proofs.{Common.{◌≡◌, ℕ, Option, Some, fold, take, arith, get_or, sym, ap, ap₂, ◌∙◌}, lemmas.List.Sums.{fold_more}}
use Rattle.smp_stratcube.specs.{Units.{first}, Values.{value}}
use Rattle.smp_stratcube.specs.{Kept.Gates.{gated, gathered, with_unit}, Kept.Fronts.{front_units}}
use Rattle.smp_stratcube.proofs.Ending.{line_held}
use Rattle.smp_stratcube.proofs.ends.denominator.Goals as goal

pub loop-place-preserved : goal.loop-place-preserved
loop-place-preserved c =
    let us = c.args.front.now.units in
    let units = c.args.units.now in (
      c.with_value-common.ensures.is ∙ ap₂ (with_unit (first units (get_or us c.loop-place.place 0))) c.at.ensures c.loop-place.invariant.0
          ∙ sym (fold_more (λ (m : Option ℕ) k. with_unit (first units k) (value c.args.values.now k) m) (Some 1) us c.loop-place.place 0 (omega (arith, c.requires.front.short))),
      c.with_value-common.ensures.some,
    )

pub loop-entry-preserved : goal.loop-entry-preserved
loop-entry-preserved c =
    let us = c.args.line.now.units in
    let units = c.args.units.now in
    let start = gathered units (value c.args.values.now) (Some 1) (front_units c.args.front.now) in (
      c.within_gate-common.ensures.is ∙ ap₂ gated c.loop-entry.invariant.0 c.first.ensures.is
          ∙ sym (fold_more (λ (m : Option ℕ) k. gated m (first units k)) start us c.loop-entry.entry 0 (omega (arith, c.requires.padded.places))),
      c.within_gate-common.ensures.some,
    )

pub returns : goal.returns
returns c =
    let units = c.args.units.now in
    let start = gathered units (value c.args.values.now) (Some 1) (front_units c.args.front.now) in
    let done : c.loop-entry.entry ≡ c.args.line.now.number = omega arith in
    c.loop-entry.invariant.0 ∙ ap (λ n. fold (λ (m : Option ℕ) k. gated m (first units k)) start (take n c.args.line.now.units)) done
    ∙ line_held units c.requires.are c.args.values.now c.args.front.now c.requires.values c.requires.front (take c.args.line.now.number c.args.line.now.units)
