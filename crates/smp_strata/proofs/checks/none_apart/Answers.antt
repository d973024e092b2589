use Rattle.std.proofs.Common.{◌≡◌, ◌<◌, ◌∙◌, ap, sym, arith, length, not, refl, ℕ, List, [], true, false, rules, inl, inr}
use Rattle.std.specs.Str.{bytes_eq}
use Rattle.std.proofs.{lemmas.Bool.{cases_eq}, lemmas.List.{length-map, get_or-map}, lemmas.List.FromFn.{length-map-range_with_len}}
use Rattle.smp_frame.specs.declared.frame.Unit as unit
use Rattle.smp_strata.specs.{Clusters.{in_psu, psu_names}, Rows.{psu_at, stratum_at}, Misfits.{is_apart, when}, Kept.Layouts.{psu_number}}
use Rattle.smp_strata.specs.declared.misfit.Misfit.TheVariants.{UnitInTwo}
use Rattle.smp_strata.proofs.{Appearances.{same_text}, ClusterRows.{number_at, psu_within}, Founds.{none_more, found_at}}
use Rattle.smp_strata.proofs.Apart.{first_of, first_is, first_there, home_is, some_in, apart_is}
use Rattle.smp_strata.proofs.checks.none_apart.Goals as goal

pub first_with-first-requires-clause-row : goal.first_with-first-requires-clause-row
first_with-first-requires-clause-row c =
    omega (arith, c.loop-row-test.true, ap length c.requires.homes, length-map-range_with_len (psu_number c.args.units.now) 0 (length c.args.units.now))

pub first_with-first-requires-clause-home : goal.first_with-first-requires-clause-home
first_with-first-requires-clause-home c =
    rw (c.requires.homes, number_at c.args.units.now (psu_number c.args.units.now) c.loop-row.row c.loop-row-test.true, c.requires.rows, length-map (psu_names c.args.units.now) (in_psu c.args.units.now))
    (psu_within c.args.units.now c.loop-row.row c.loop-row-test.true)

pub first_with-first-requires-clause-some : goal.first_with-first-requires-clause-some
first_with-first-requires-clause-some c =
    rw (c.requires.rows, c.requires.homes, home_is c.args.units.now c.args.second c.loop-row.row [] c.loop-row-test.true) (some_in c.args.units.now c.loop-row.row c.loop-row-test.true)

pub same_stratum-requires-clause-row : goal.same_stratum-requires-clause-row
same_stratum-requires-clause-row c =
    let first = first_there c.args.units.now c.args.second c.requires.rows c.requires.homes c.loop-row.row c.loop-row-test.true c.first_with-first.ensures in
    let before = (first_is c.args.units.now c.loop-row.row c.loop-row-test.true).1 in
    omega (arith, c.loop-row-test.true, first, before)

pub returns-then-not-same_stratum : goal.returns-then-not-same_stratum
returns-then-not-same_stratum c =
    let units : List unit.Unit = c.args.units.now in
    let k : ℕ = c.loop-row.row in
    let here : k < length units = c.loop-row-test.true in
    let first : c.first_with-first.result ≡ first_of units k = first_there units c.args.second c.requires.rows c.requires.homes k here c.first_with-first.ensures in
    let test : c.same_stratum.result ≡ false = search rules in
    let apart : is_apart units k ≡ true = apart_is units k here c.loop-row.invariant.together
    ∙ rw (← first, ← c.same_stratum.ensures, test) refl in
    let psu : c.in_ok-copy.field-0 ≡ psu_at units k = c.in_ok-copy.ensures
    ∙ sym (get_or-map (λ (u : unit.Unit). u.psu) units k c.index-units-row.result [] here) in
    found_at (λ row. when (is_apart units row) (UnitInTwo (psu_at units row))) (length units) k _ c.loop-row.invariant.none (rw (apart, psu) refl) here

pub loop-row-preserved : goal.loop-row-preserved
loop-row-preserved c =
    let units : List unit.Unit = c.args.units.now in
    let k : ℕ = c.loop-row.row in
    let here : k < length units = c.loop-row-test.true in
    let first : c.first_with-first.result ≡ first_of units k = first_there units c.args.second c.requires.rows c.requires.homes k here c.first_with-first.ensures in
    let test : c.same_stratum.result ≡ true = search rules in
    let same : bytes_eq (stratum_at units (first_of units k)) (stratum_at units k) ≡ true = rw (← first) (sym c.same_stratum.ensures ∙ test) in
    let apart : is_apart units k ≡ false = apart_is units k here c.loop-row.invariant.together ∙ ap not same in
    record {
      none = none_more (λ row. when (is_apart units row) (UnitInTwo (psu_at units row))) k c.loop-row.invariant.none (rw apart refl);
      together = λ earlier l. elim (cases_eq earlier k) [
        | inl e ↦ rw e (same_text (stratum_at units (first_of units k)) (stratum_at units k) same)
        | inr d ↦ c.loop-row.invariant.together earlier (omega (arith, l, d))
      ];
    }
