use Rattle.std.proofs.Common.{◌≡◌, ◌∙◌, ◌<◌, ◌^◌, ℕ, List, map, sym, refl, rules, arith, length, Global, Vec, None, Some, Err, inl, inr}
use Rattle.std.specs.Vec.{vec_len}
use Rattle.std.proofs.{lemmas.Bool.{cases_eq}, lemmas.List.{length-map}, lemmas.List.Elements.{All-map}}
use Rattle.std.proofs.lemmas.List.FromFn.{map-range_with_len_more}
use Rattle.smp_design.specs.declared.design.Design.{Design}
use Rattle.smp_frame.specs.declared.frame.Unit as unit
use Rattle.smp_strata.specs.{Rows.{size_of}, Clusters.{clusters, stratum_name, stratum_names}, Kept.Built.{bare}, Kept.Layouts.{IsLaidOut}}
use Rattle.smp_strata.specs.{Plans.{first_sizes, sample_size, sample_sizes, sizes_by}, declared.begun.Begun.{Begun}}
use Rattle.smp_strata.specs.{declared.layout.Strata.{Strata}, Misfits.{no_size, short}}
use Rattle.smp_strata.proofs.{Totals.{how_many}, Members.{count_all, length_samples, names_few, sizes_small, some_all, total_is}}
use Rattle.smp_strata.proofs.{FirstRequests.{asked, by_sizes, enough_positive, is_stratum, some_size}, Founds.{found_at, none_more}}
use Rattle.smp_strata.proofs.Laid.{all_looked_at, all_rows, counts, groups, here, in_members, members_few, members_within, name, sample, sampled, sizes, there}
use Rattle.smp_strata.proofs.MisfitOrder.{or_first, or_then, passed}
use Rattle.smp_strata.proofs.requests.strata_by_sizes.Goals as goal

module _ {design : Design} {units : List unit.Unit} {clustered : List (List ℕ)} {strata : Strata} (layout : IsLaidOut design units clustered strata) where
  samples_are : {names members : List (List ℕ)} {samples : List ℕ} → names ≡ strata.names.items → members ≡ strata.members.items → samples ≡ sizes_by design.n design.sizes names (map length members) → samples ≡ sample_sizes design units
  samples_are same_names same_members is = is ∙ rw (same_names, layout.names, same_members, counts layout) refl

pub sample_sizes-requires-clause-few : goal.sample_sizes-requires-clause-few
sample_sizes-requires-clause-few c =
    rw c.deref-2.ensures.value (omega (arith, how_many _ _ _ _ (groups c.requires.layout), names_few c.args.design.now c.args.units.now (all_rows c.requires.layout), c.requires.layout.frame.few))

pub sample_sizes-requires-clause-some : goal.sample_sizes-requires-clause-some
sample_sizes-requires-clause-some c =
    rw c.deref-2.ensures.value (omega (arith, total_is c.args.design.now c.args.units.now (all_rows c.requires.layout) c.args.strata.now.members.items c.args.strata.now.places.items (groups c.requires.layout), some_all c.args.design.now.second c.args.units.now c.requires.layout.frame.some))

pub sample_sizes-requires-clause-total : goal.sample_sizes-requires-clause-total
sample_sizes-requires-clause-total c =
    rw c.deref-2.ensures.value (omega (arith, total_is c.args.design.now c.args.units.now (all_rows c.requires.layout) c.args.strata.now.members.items c.args.strata.now.places.items (groups c.requires.layout), count_all c.args.design.now.second c.args.units.now, c.requires.layout.frame.few))

pub all_have_sizes-requires : goal.all_have_sizes-requires
all_have_sizes-requires c =
    let samples = samples_are c.requires.layout c.deref.ensures.value c.deref-2.ensures.value c.in_ok-samples.ensures.value in
    rw (c.deref-4.ensures.value, samples, c.deref-3.ensures.value, c.requires.layout.names) (length_samples c.args.design.now c.args.units.now (all_rows c.requires.layout))

pub returns-in_err-all_have_sizes-clause-misfit : goal.returns-in_err-all_have_sizes-clause-misfit
returns-in_err-all_have_sizes-clause-misfit c =
    let samples = samples_are c.requires.layout c.deref.ensures.value c.deref-2.ensures.value c.in_ok-samples.ensures.value in
    let said = rw (c.deref-4.ensures.value, samples, c.deref-3.ensures.value, c.requires.layout.names) at c.in_err-all_have_sizes.ensures in
    let same : c.from_residual-in_err-all_have_sizes.result ≡ Err c.in_err-all_have_sizes.field-0.0 = search rules in
    rw same (passed (Unit {0}) (Vec Begun Global) c.in_err-all_have_sizes.field-0.0 _ _ said (or_first (no_size c.args.design.now c.args.units.now) _))

pub cluster_sizes-requires-clause-small : goal.cluster_sizes-requires-clause-small
cluster_sizes-requires-clause-small c = rw c.requires.layout.rows (sizes_small c.args.design.now c.args.units.now c.requires.small)

pub index-requires : goal.index-requires
index-requires c = in_members c.requires.layout c.loop-stratum.stratum (there c.requires.layout c.loop-stratum.stratum _ c.loop-stratum-test.true c.len-stratum-end.ensures)

pub index-n-requires : goal.index-n-requires
index-n-requires c =
    let number = there c.requires.layout c.loop-stratum.stratum _ c.loop-stratum-test.true c.len-stratum-end.ensures in
    let samples = samples_are c.requires.layout c.deref.ensures.value c.deref-2.ensures.value c.in_ok-samples.ensures.value in
    let long : length c.in_ok-samples.samples.items ≡ vec_len c.in_ok-samples.samples = search rules in
    omega (arith, long, sampled c.requires.layout c.loop-stratum.stratum number c.in_ok-samples.samples.items samples)

pub index-requires-in-loop-stratum : goal.index-requires-in-loop-stratum
index-requires-in-loop-stratum c = omega (arith, c.loop-stratum-test.true, c.len-stratum-end.ensures)

pub sized_stratum-requires-clause-within : goal.sized_stratum-requires-clause-within
sized_stratum-requires-clause-within c =
    let number = there c.requires.layout c.loop-stratum.stratum _ c.loop-stratum-test.true c.len-stratum-end.ensures in
    rw (c.as_slice-members.ensures, c.deref-in-loop-stratum.ensures.value, c.in_ok-sizes.ensures, length-map c.args.clusters.now.rows (size_of c.args.units.now))
    (members_within c.requires.layout c.loop-stratum.stratum number c.index.result.now c.index.ensures)

pub sized_stratum-requires-clause-few : goal.sized_stratum-requires-clause-few
sized_stratum-requires-clause-few c =
    let number = there c.requires.layout c.loop-stratum.stratum _ c.loop-stratum-test.true c.len-stratum-end.ensures in
    rw c.as_slice-members.ensures (members_few c.requires.layout c.loop-stratum.stratum number c.index.result.now c.index.ensures)

pub sized_stratum-requires-clause-small : goal.sized_stratum-requires-clause-small
sized_stratum-requires-clause-small c =
    rw (c.deref-in-loop-stratum.ensures.value, c.in_ok-sizes.ensures, c.requires.layout.rows)
    (λ i l. All-map (λ z. z < 2 ^ 31) (size_of c.args.units.now) (clusters c.args.design.now.second c.args.units.now) (sizes_small c.args.design.now c.args.units.now c.requires.small) i 0 l)

pub sized_stratum-requires-clause-some : goal.sized_stratum-requires-clause-some
sized_stratum-requires-clause-some c =
    let number = there c.requires.layout c.loop-stratum.stratum _ c.loop-stratum-test.true c.len-stratum-end.ensures in
    let samples = samples_are c.requires.layout c.deref.ensures.value c.deref-2.ensures.value c.in_ok-samples.ensures.value in
    let none : no_size c.args.design.now c.args.units.now ≡ None = rw (c.deref-4.ensures.value, samples, c.deref-3.ensures.value, c.requires.layout.names) at c.in_ok-all_have_sizes.ensures in
    rw (sample c.requires.layout c.loop-stratum.stratum number c.in_ok-samples.samples.items samples c.index-n.result.now c.index-n.ensures)
    (some_size c.args.design.now c.args.units.now none c.loop-stratum.stratum (here c.requires.layout c.loop-stratum.stratum number))

pub returns-in_err-sized_stratum-clause-misfit : goal.returns-in_err-sized_stratum-clause-misfit
returns-in_err-sized_stratum-clause-misfit c =
    let k = c.loop-stratum.stratum in
    let number = there c.requires.layout k _ c.loop-stratum-test.true c.len-stratum-end.ensures in
    let samples = samples_are c.requires.layout c.deref.ensures.value c.deref-2.ensures.value c.in_ok-samples.ensures.value in
    let none : no_size c.args.design.now c.args.units.now ≡ None = rw (c.deref-4.ensures.value, samples, c.deref-3.ensures.value, c.requires.layout.names) at c.in_ok-all_have_sizes.ensures in
    let n = sample c.requires.layout k number c.in_ok-samples.samples.items samples c.index-n.result.now c.index-n.ensures in
    let said = rw (
      c.as_slice-members.ensures,
      c.deref-in-loop-stratum.ensures.value,
      c.in_ok-sizes.ensures,
      sizes c.requires.layout k number c.index.result.now c.index.ensures,
      name c.requires.layout k number c.index-in-loop-stratum.result.now c.index-in-loop-stratum.ensures,
      n,
    ) at c.in_err-sized_stratum.ensures.misfit in
    let same : c.from_residual-in_err-sized_stratum.result ≡ Err c.in_err-sized_stratum.field-0.0 = search rules in
    rw same (passed Begun (Vec Begun Global) c.in_err-sized_stratum.field-0.0 _ _ said (λ m is. or_then (no_size c.args.design.now c.args.units.now) _ (Some m) none
    (found_at (λ j. short (stratum_name c.args.units.now j) (first_sizes c.args.design.now c.args.units.now j) (sample_size c.args.design.now c.args.units.now j))
    (length (stratum_names c.args.units.now)) k m c.loop-stratum.invariant.none is (here c.requires.layout k number))))

pub loop-stratum-preserved : goal.loop-stratum-preserved
loop-stratum-preserved c =
    let k = c.loop-stratum.stratum in
    let number = there c.requires.layout k _ c.loop-stratum-test.true c.len-stratum-end.ensures in
    let samples = samples_are c.requires.layout c.deref.ensures.value c.deref-2.ensures.value c.in_ok-samples.ensures.value in
    let none : no_size c.args.design.now c.args.units.now ≡ None = rw (c.deref-4.ensures.value, samples, c.deref-3.ensures.value, c.requires.layout.names) at c.in_ok-all_have_sizes.ensures in
    let n = sample c.requires.layout k number c.in_ok-samples.samples.items samples c.index-n.result.now c.index-n.ensures in
    let first = sizes c.requires.layout k number c.index.result.now c.index.ensures in
    let named = name c.requires.layout k number c.index-in-loop-stratum.result.now c.index-in-loop-stratum.ensures in
    let fits = rw (c.as_slice-members.ensures, c.deref-in-loop-stratum.ensures.value, c.in_ok-sizes.ensures, first, named, n) at c.in_ok-sized_stratum.ensures.misfit in
    let made = rw (c.as_slice-members.ensures, c.deref-in-loop-stratum.ensures.value, c.in_ok-sizes.ensures, first, n) at c.in_ok-sized_stratum.ensures.request in
    let some = some_size c.args.design.now c.args.units.now none k (here c.requires.layout k number) in
    let is = by_sizes c.args.design.now c.args.units.now c.requires.sized k some
    (enough_positive (stratum_name c.args.units.now k) (first_sizes c.args.design.now c.args.units.now k) (sample_size c.args.design.now c.args.units.now k) fits)
    c.in_ok-sized_stratum.field-0.request made in
    record {
      bare = rw c.in_ok-push.ensures.items (rw (
        c.loop-stratum.invariant.bare,
        is_stratum c.in_ok-sized_stratum.field-0 (bare c.args.design.now c.args.units.now k) (c.in_ok-sized_stratum.ensures.bare.0 ∙ named) c.in_ok-sized_stratum.ensures.bare.1 is.value,
      )
          (sym (map-range_with_len_more (bare c.args.design.now c.args.units.now) 0 k k (omega arith))));
      requests = λ j l. elim (cases_eq j k) [
        | inl e ↦ rw e (asked c.args.design.now c.args.units.now k c.in_ok-sized_stratum.field-0.request is)
        | inr d ↦ c.loop-stratum.invariant.requests j (omega (arith, l, d))
      ];
      none = none_more (λ j. short (stratum_name c.args.units.now j) (first_sizes c.args.design.now c.args.units.now j) (sample_size c.args.design.now c.args.units.now j)) k c.loop-stratum.invariant.none fits;
    }

pub returns-clause-misfit : goal.returns-clause-misfit
returns-clause-misfit c =
    let samples = samples_are c.requires.layout c.deref.ensures.value c.deref-2.ensures.value c.in_ok-samples.ensures.value in
    let none : no_size c.args.design.now c.args.units.now ≡ None = rw (c.deref-4.ensures.value, samples, c.deref-3.ensures.value, c.requires.layout.names) at c.in_ok-all_have_sizes.ensures in
    or_then (no_size c.args.design.now c.args.units.now) _ None none
    (rw (all_looked_at c.requires.layout c.loop-stratum.stratum _ c.loop-stratum.auto.stratum-end c.loop-stratum-test.false c.len-stratum-end.ensures) at c.loop-stratum.invariant.none)

pub returns-clause-requests : goal.returns-clause-requests
returns-clause-requests c =
    rw (all_looked_at c.requires.layout c.loop-stratum.stratum _ c.loop-stratum.auto.stratum-end c.loop-stratum-test.false c.len-stratum-end.ensures) at c.loop-stratum.invariant.requests

pub returns-clause-bare : goal.returns-clause-bare
returns-clause-bare c =
    rw (all_looked_at c.requires.layout c.loop-stratum.stratum _ c.loop-stratum.auto.stratum-end c.loop-stratum-test.false c.len-stratum-end.ensures) at c.loop-stratum.invariant.bare

pub returns-clause-allocated : goal.returns-clause-allocated
returns-clause-allocated c =
    let samples = samples_are c.requires.layout c.deref.ensures.value c.deref-2.ensures.value c.in_ok-samples.ensures.value in
    rw (c.deref-2.ensures.value, counts c.requires.layout, samples) at c.in_ok-samples.ensures.rule
