use Rattle.std.proofs.Common.{arith, ◌≡◌, ◌+◌, ◌≤◌, ◌^◌, ℕ, List, take, sym, ap, ap₂, ◌∙◌, subst}
use Rattle.smp_prob.specs.Given.{least_multiple}
use Rattle.smp_stratcube.specs.{declared.values.Value.{Value}, declared.fronts.Front.{Front}, Units.{Units}}
use Rattle.smp_stratcube.specs.{Kept.Fronts.{front_units}, Kept.Pairs.{common_in}}
use Rattle.smp_stratcube.proofs.Behinds.{have_common, some_behind}
use Rattle.smp_stratcube.proofs.Pairing.{common_here, common_most, common_past, common_some, none_on, other_on, some_on}
use Rattle.smp_stratcube.proofs.pairs.stratum_common.Goals as goal
use Rattle.smp_stratcube.proofs.pairs.stratum_common.Goals.{then-stratum, else-stratum, else-front-len-via-then-front-len+else-stratum-2, else-front-len-via-else-front-len}

pub least_multiple-common-requires-clause-within : goal.least_multiple-common-requires-clause-within
least_multiple-common-requires-clause-within c =
    let here = common_here c.args.units.now c.args.values.now c.requires.pairing c.args.front.now c.requires.front (omega (arith, c.requires.front.short)) c.args.stratum c.loop-place.place (omega arith) (sym c.stratum.ensures ∙ c.if-stratum.true) in
    subst (λ (n : ℕ). n ≤ 2 ^ 80) (here ∙ ap₂ (λ (m : ℕ) (v : Value). least_multiple m v.at.den) (sym c.loop-place.invariant.0) (sym c.at.ensures))
    (common_most c.args.units.now c.args.values.now c.requires.pairing c.args.front.now c.requires.front (omega (arith, c.requires.front.short)) c.args.stratum (c.loop-place.place + 1) (omega arith))

pub loop-place-preserved : goal.loop-place-preserved
loop-place-preserved c =
    let units = c.args.units.now in
    let values = c.args.values.now in
    let us = c.args.front.now.units in
    let j = c.loop-place.place in
    let some = common_some units values c.requires.pairing c.args.front.now c.requires.front (omega (arith, c.requires.front.short)) c.args.stratum (take (j + 1) us) in
    elim c.if-stratum.branch [
      | then-stratum w ↦
          (let is : c.if-stratum.common ≡ common_in units values c.args.stratum (take (j + 1) us) =
          w.common-is ∙ w.least_multiple-common.ensures ∙ ap₂ (λ (m : ℕ) (v : Value). least_multiple m v.at.den) c.loop-place.invariant.0 w.at.ensures
          ∙ sym (common_here units values c.requires.pairing c.args.front.now c.requires.front (omega (arith, c.requires.front.short)) c.args.stratum j (omega arith) (sym c.stratum.ensures ∙ w.if-stratum.true)) in
          (is, rw is some))
      | else-stratum w ↦
          (let is : c.if-stratum.common ≡ common_in units values c.args.stratum (take (j + 1) us) =
          w.common-is ∙ c.loop-place.invariant.0
          ∙ sym (common_past units values c.requires.pairing c.args.front.now c.requires.front (omega (arith, c.requires.front.short)) c.args.stratum j (omega arith) (λ e. w.if-stratum.false (c.stratum.ensures ∙ e))) in
          (is, rw is some))
    ]

-- the units of the front are all looked at
done : (units : Units) (values : List Value) (h : ℕ) (front : Front) (common place : ℕ) → place ≡ front.number → common ≡ common_in units values h (take place front.units) → common ≡ common_in units values h (front_units front)
done units values h front common place e is = is ∙ ap (λ k. common_in units values h (take k front.units)) e

pub least_multiple-requires-clause-b : goal.least_multiple-requires-clause-b
least_multiple-requires-clause-b c = some_behind c.args.units.now.members (have_common c.args.units.now c.requires.pairing.are) c.args.front.now.place c.behind.result c.behind.ensures

pub least_multiple-requires-clause-within : goal.least_multiple-requires-clause-within
least_multiple-requires-clause-within c =
    (let e = some_on c.args.units.now c.args.values.now c.requires.pairing c.args.front.now c.requires.front (omega (arith, c.requires.front.short)) c.args.stratum (omega (arith, c.if-front-len.true, c.len.ensures, c.requires.pairing.values.count)) (sym c.stratum-then-front-len.ensures ∙ c.if-stratum-2.true) c.behind.result c.behind.ensures in
    let n = c.requires.pairing.narrow c.args.stratum in
    subst (λ m. least_multiple m c.behind.result ≤ 2 ^ 80) (sym (done c.args.units.now c.args.values.now c.args.stratum c.args.front.now c.loop-place.common c.loop-place.place (omega arith) c.loop-place.invariant.0)) (subst (λ m. m ≤ 2 ^ 80) e n))

pub returns-then-stratum-2 : goal.returns-then-stratum-2
returns-then-stratum-2 c =
    c.least_multiple.ensures ∙ ap (λ m. least_multiple m c.behind.result) (done c.args.units.now c.args.values.now c.args.stratum c.args.front.now c.loop-place.common c.loop-place.place (omega arith) c.loop-place.invariant.0) ∙ sym (some_on c.args.units.now c.args.values.now c.requires.pairing c.args.front.now c.requires.front (omega (arith, c.requires.front.short)) c.args.stratum (omega (arith, c.if-front-len.true, c.len.ensures, c.requires.pairing.values.count)) (sym c.stratum-then-front-len.ensures ∙ c.if-stratum-2.true) c.behind.result c.behind.ensures)

pub returns-else-front-len : goal.returns-else-front-len
returns-else-front-len c =
    elim c.else-front-len.branch [
      | else-front-len-via-then-front-len+else-stratum-2 w ↦
          (done c.args.units.now c.args.values.now c.args.stratum c.args.front.now c.loop-place.common c.loop-place.place (omega arith) c.loop-place.invariant.0) ∙ sym (none_on c.args.units.now c.args.values.now c.requires.pairing c.args.front.now c.requires.front (omega (arith, c.requires.front.short)) c.args.stratum (other_on c.args.units.now c.requires.pairing.are c.args.values.now c.requires.pairing.values.count c.args.front.now c.requires.front (omega (arith, c.requires.front.short)) c.args.stratum c.requires.within (λ l e. w.if-stratum-2.false (w.stratum-then-front-len.ensures ∙ e))))
      | else-front-len-via-else-front-len w ↦
          (done c.args.units.now c.args.values.now c.args.stratum c.args.front.now c.loop-place.common c.loop-place.place (omega arith) c.loop-place.invariant.0) ∙ sym (none_on c.args.units.now c.args.values.now c.requires.pairing c.args.front.now c.requires.front (omega (arith, c.requires.front.short)) c.args.stratum (other_on c.args.units.now c.requires.pairing.are c.args.values.now c.requires.pairing.values.count c.args.front.now c.requires.front (omega (arith, c.requires.front.short)) c.args.stratum c.requires.within (λ l e. absurd (omega (arith, l, w.if-front-len.false, c.len.ensures, c.requires.pairing.values.count)))))
    ]
