use Rattle.std.proofs.Common.{◌≡◌, ◌∙◌, map, nat_lt, sym, refl, rules, arith, length, true, false, Global, Vec, None, Some, Err, [], inl, inr, ap}
use Rattle.std.specs.List.{range_with_len}
use Rattle.std.proofs.{lemmas.Bool.{cases_eq}, lemmas.List.FromFn.{length-map-range_with_len, map-range_with_len_more}}
use Rattle.smp_design.specs.Words.{row}
use Rattle.smp_prob.specs.{Given.{common_multiple, largest_multiple}, declared.probabilities.GivenRequest.{GivenRequest}}
use Rattle.smp_strata.specs.{Clusters.{stratum_name, stratum_names}, Misfits.{denominator, not_whole, sum_of, when}, Plans.{first_probs}}
use Rattle.smp_strata.specs.{declared.begun.Begun.{Begun}, declared.misfit.Misfit.TheVariants.{Denominator}, Kept.Built.{bare}}
use Rattle.smp_strata.proofs.{FirstRequests.{by_given, given_is, given_probs, is_stratum}, Founds.{found_at, neither, none_more}}
use Rattle.smp_strata.proofs.{Laid.{all_looked_at, all_rows, here, in_members, members_within, name, probs, there}, Members.{wholes_are}}
use Rattle.smp_strata.proofs.MisfitOrder.{or_first, or_then, passed}
use Rattle.smp_strata.proofs.requests.strata_by_probs.Goals.{then-draws_whole+in_ok-all_whole, else-draws_whole}
use Rattle.smp_strata.proofs.requests.strata_by_probs.Goals as goal

pub index-name-requires : goal.index-name-requires
index-name-requires c = omega (arith, c.loop-stratum-test.true, c.len-stratum-end.ensures)

pub index-requires : goal.index-requires
index-requires c = in_members c.requires.layout c.loop-stratum.stratum (there c.requires.layout c.loop-stratum.stratum _ c.loop-stratum-test.true c.len-stratum-end.ensures)

pub probs_at-requires-clause-within : goal.probs_at-requires-clause-within
probs_at-requires-clause-within c =
    let number = there c.requires.layout c.loop-stratum.stratum _ c.loop-stratum-test.true c.len-stratum-end.ensures in
    rw c.as_slice-members.ensures (members_within c.requires.layout c.loop-stratum.stratum number c.index.result.now c.index.ensures)

pub given_request-requires : goal.given_request-requires
given_request-requires c =
    let number = there c.requires.layout c.loop-stratum.stratum _ c.loop-stratum-test.true c.len-stratum-end.ensures in
    rw (c.deref.ensures.value, c.in_ok-probs.ensures, c.as_slice-members.ensures, probs c.requires.layout c.loop-stratum.stratum number c.index.result.now c.index.ensures)
    (given_probs c.args.design.now c.args.units.now c.requires.layout.frame (all_rows c.requires.layout) c.loop-stratum.stratum)

pub returns-in_err-given-clause-misfit : goal.returns-in_err-given-clause-misfit
returns-in_err-given-clause-misfit c =
    let k = c.loop-stratum.stratum in
    let number = there c.requires.layout k _ c.loop-stratum-test.true c.len-stratum-end.ensures in
    let said = rw (
      c.deref.ensures.value,
      c.in_ok-probs.ensures,
      c.as_slice-members.ensures,
      probs c.requires.layout k number c.index.result.now c.index.ensures,
      name c.requires.layout k number c.index-name.result.now c.index-name.ensures,
    ) at c.in_err-given.ensures.misfit in
    let same : c.from_residual-in_err-given.result ≡ Err c.in_err-given.field-0.0 = search rules in
    rw same (passed GivenRequest (Vec Begun Global) c.in_err-given.field-0.0 _ _ said (λ m is. or_first (denominator c.args.design.now c.args.units.now) _ m
    (found_at (λ j. when (nat_lt largest_multiple (common_multiple (first_probs c.args.design.now c.args.units.now j))) (Denominator (stratum_name c.args.units.now j)))
    (length (stratum_names c.args.units.now)) k m c.loop-stratum.invariant.none is (here c.requires.layout k number))))

pub loop-stratum-preserved : goal.loop-stratum-preserved
loop-stratum-preserved c =
    let k = c.loop-stratum.stratum in
    let number = there c.requires.layout k _ c.loop-stratum-test.true c.len-stratum-end.ensures in
    let first = probs c.requires.layout k number c.index.result.now c.index.ensures in
    let named = name c.requires.layout k number c.index-name.result.now c.index-name.ensures in
    let fits = rw (c.deref.ensures.value, c.in_ok-probs.ensures, c.as_slice-members.ensures, first, named) at c.in_ok-given.ensures.misfit in
    let made = rw (c.deref.ensures.value, c.in_ok-probs.ensures, c.as_slice-members.ensures, first) at c.in_ok-given.ensures.request in
    let sum = rw (c.deref.ensures.value, c.in_ok-probs.ensures, c.as_slice-members.ensures, first) at c.in_ok-given.ensures.expected in
    let value = made.value ∙ given_is c.args.design.now c.args.units.now c.args.design.now.columns.prob c.requires.given k in
    record {
      bare = rw c.in_ok-push-2.ensures.items (rw (
        c.loop-stratum.invariant.bare,
        c.in_ok-new.ensures,
        is_stratum _ (bare c.args.design.now c.args.units.now k) named refl value,
      )
          (sym (map-range_with_len_more (bare c.args.design.now c.args.units.now) 0 k k (omega arith))));
      sums = rw c.in_ok-push.ensures.items (rw (c.loop-stratum.invariant.sums, sum)
          (sym (map-range_with_len_more (λ j. sum_of (first_probs c.args.design.now c.args.units.now j)) 0 k k (omega arith))));
      requests = λ j l. elim (cases_eq j k) [
        | inl e ↦ rw (e, ← value) made
        | inr d ↦ c.loop-stratum.invariant.requests j (omega (arith, l, d))
      ];
      none = none_more (λ j. when (nat_lt largest_multiple (common_multiple (first_probs c.args.design.now c.args.units.now j))) (Denominator (stratum_name c.args.units.now j))) k c.loop-stratum.invariant.none fits;
    }

pub all_whole-requires : goal.all_whole-requires
all_whole-requires c =
    let all = all_looked_at c.requires.layout c.loop-stratum.stratum _ c.loop-stratum.auto.stratum-end c.loop-stratum-test.false c.len-stratum-end.ensures in
    let long : length c.loop-stratum.sums.items ≡ c.loop-stratum.stratum =
    ap length c.loop-stratum.invariant.sums ∙ length-map-range_with_len (λ j. sum_of (first_probs c.args.design.now c.args.units.now j)) 0 c.loop-stratum.stratum in
    rw (c.deref-then-draws_whole-2.ensures.value, c.deref-then-draws_whole.ensures.value) (omega (arith, long, all, ap length c.requires.layout.names))

pub returns-in_err-all_whole-clause-misfit : goal.returns-in_err-all_whole-clause-misfit
returns-in_err-all_whole-clause-misfit c =
    let all = all_looked_at c.requires.layout c.loop-stratum.stratum _ c.loop-stratum.auto.stratum-end c.loop-stratum-test.false c.len-stratum-end.ensures in
    let fits : denominator c.args.design.now c.args.units.now ≡ None = rw all at c.loop-stratum.invariant.none in
    let whole : (row c.args.design.now.procedure.method).draws_whole ≡ true = sym c.draws_whole.ensures ∙ c.if-draws_whole.true in
    let names = c.deref-then-draws_whole.ensures.value ∙ c.requires.layout.names in
    let sums : c.deref-then-draws_whole-2.result.now ≡ map (λ k. sum_of (first_probs c.args.design.now c.args.units.now k)) (range_with_len 0 (length c.deref-then-draws_whole.result.now)) =
    c.deref-then-draws_whole-2.ensures.value ∙ c.loop-stratum.invariant.sums
    ∙ ap (λ n. map (λ k. sum_of (first_probs c.args.design.now c.args.units.now k)) (range_with_len 0 n)) (all ∙ sym (ap length names)) in
    let same : c.from_residual-in_err-all_whole.result ≡ Err c.in_err-all_whole.field-0.0 = search rules in
    rw same (passed (Unit {0}) (Vec Begun Global) c.in_err-all_whole.field-0.0 _ _ (c.in_err-all_whole.ensures (sum_of [])) (λ m is. or_then (denominator c.args.design.now c.args.units.now) _ (Some m) fits
    (rw whole (sym (wholes_are c.args.design.now c.args.units.now (all_rows c.requires.layout) c.deref-then-draws_whole.result.now c.deref-then-draws_whole-2.result.now names sums (sum_of [])) ∙ is))))

pub returns-clause-misfit : goal.returns-clause-misfit
returns-clause-misfit c =
    let all = all_looked_at c.requires.layout c.loop-stratum.stratum _ c.loop-stratum.auto.stratum-end c.loop-stratum-test.false c.len-stratum-end.ensures in
    let fits : denominator c.args.design.now c.args.units.now ≡ None = rw all at c.loop-stratum.invariant.none in
    or_then (denominator c.args.design.now c.args.units.now) (not_whole c.args.design.now c.args.units.now) None fits (elim c.if-draws_whole.branch [
      | then-draws_whole+in_ok-all_whole w ↦
          (let whole : (row c.args.design.now.procedure.method).draws_whole ≡ true = sym c.draws_whole.ensures ∙ w.if-draws_whole.true in
          let names = w.deref-then-draws_whole.ensures.value ∙ c.requires.layout.names in
          let sums : w.deref-then-draws_whole-2.result.now ≡ map (λ k. sum_of (first_probs c.args.design.now c.args.units.now k)) (range_with_len 0 (length w.deref-then-draws_whole.result.now)) =
          w.deref-then-draws_whole-2.ensures.value ∙ c.loop-stratum.invariant.sums
          ∙ ap (λ n. map (λ k. sum_of (first_probs c.args.design.now c.args.units.now k)) (range_with_len 0 n)) (all ∙ sym (ap length names)) in
          rw whole (sym (wholes_are c.args.design.now c.args.units.now (all_rows c.requires.layout) w.deref-then-draws_whole.result.now w.deref-then-draws_whole-2.result.now names sums (sum_of [])) ∙ w.in_ok-all_whole.ensures (sum_of [])))
      | else-draws_whole w ↦
          (let whole : (row c.args.design.now.procedure.method).draws_whole ≡ false = sym c.draws_whole.ensures ∙ w.if-draws_whole.false in
          rw whole refl)
    ])

pub returns-clause-bare : goal.returns-clause-bare
returns-clause-bare c =
    rw (all_looked_at c.requires.layout c.loop-stratum.stratum _ c.loop-stratum.auto.stratum-end c.loop-stratum-test.false c.len-stratum-end.ensures) at c.loop-stratum.invariant.bare

pub returns-clause-requests : goal.returns-clause-requests
returns-clause-requests c =
    let all = all_looked_at c.requires.layout c.loop-stratum.stratum _ c.loop-stratum.auto.stratum-end c.loop-stratum-test.false c.len-stratum-end.ensures in
    let none = (neither (denominator c.args.design.now c.args.units.now) (not_whole c.args.design.now c.args.units.now) (returns-clause-misfit c)).1 in
    let requests = rw all at c.loop-stratum.invariant.requests in
    λ k l. by_given c.args.design.now c.args.units.now c.requires.layout.design c.requires.given none k l _ (requests k l)
