use Rattle.std.proofs.Common.{◌≡◌, ◌∙◌, ◌<◌, ℕ, List, Global, Vec, None, All, Err, ap, refl, subst, rules, length, get_or}
use Rattle.smp_design.specs.declared.design.Design.{Design}
use Rattle.smp_frame.specs.declared.frame.Unit as unit
use Rattle.smp_strata.specs.{Clusters.{clusters}, Misfits.{unit_in_two}, declared.begun.Begun.{Begun}, declared.layout.Strata.{Strata}}
use Rattle.smp_strata.specs.{declared.plan.Plan.{Plan}, Kept.Built.{AreBuilt, AreSeats, seat_by}}
use Rattle.smp_strata.specs.declared.strata.Seat as seat
use Rattle.smp_strata.specs.declared.strata.Stratum as stratum
use Rattle.smp_strata.specs.Kept.Layouts.{AreGroups, IsLaidOut, homes_of}
use Rattle.smp_strata.proofs.Asking.{are_strata, are_whole, asks_as_frame, draws_as_asked, have_balance, have_points, long_homes, seated_by, seats_are}
use Rattle.smp_strata.proofs.{Laid.{all_rows, groups}, MisfitOrder.{passed}}
use Rattle.smp_strata.proofs.building.planned.Goals as goal

module _ {design : Design} {units : List unit.Unit} {clustered : List (List ℕ)} {strata : Strata} (layout : IsLaidOut design units clustered strata) where
  row_groups : {homes places : List ℕ} → homes ≡ homes_of design.second units → AreGroups homes (length clustered) clustered places → AreGroups (homes_of design.second units) (length (clusters design.second units)) (clusters design.second units) places
  row_groups same are = rw (same, layout.rows) at are

  seated : {list : List stratum.Stratum} {homes places : List ℕ} {seats : List seat.Seat} → unit_in_two design.second units ≡ None → AreBuilt design units list → homes ≡ homes_of design.second units → AreGroups homes (length clustered) clustered places → length seats ≡ length homes
      → ((row : ℕ) (d : seat.Seat) → row < length homes → get_or seats row d ≡ seat_by strata.homes.items strata.places.items homes places row) → AreSeats list seats
  seated {list} {homes} {places} {seats} together built same row_are long each =
      let by = rw (layout.strata_homes, layout.rows, same) at each in
      seats_are design units (all_rows layout) list built places (row_groups same row_are) (long_homes design.second units) together strata.members.items strata.places.items (groups layout) seats (long ∙ ap length same) by

pub invariant_of-result : goal.invariant_of-result
invariant_of-result c =
    let built = c.in_ok-begun.ensures.built in (
      rw (c.second_method-second.ensures, c.in_ok-finished.ensures) (are_strata _ _ (all_rows c.requires.layout) c.in_ok-begun.begun.items built),
      rw c.in_ok-finished.ensures (seated c.requires.layout c.in_ok-begun.ensures.together built c.requires.homes c.requires.row_groups c.in_ok-seats.ensures.length c.in_ok-seats.ensures.each),
    )

pub returns-clause-plan : goal.returns-clause-plan
returns-clause-plan c =
    let long = c.in_ok-seats.ensures.length ∙ ap length c.requires.homes ∙ long_homes c.args.design.now.second c.args.units.now in
    rw (c.second_method-second.ensures, long, c.in_ok-finished.ensures, c.in_ok-begun.ensures.built.are) refl

pub returns-clause-sound : goal.returns-clause-sound
returns-clause-sound c =
    let list = c.in_ok-begun.begun.items in
    let built = c.in_ok-begun.ensures.built in
    rw (c.second_method-second.ensures, c.in_ok-finished.ensures) record {
      strata = are_strata _ _ (all_rows c.requires.layout) list built;
      whole = are_whole _ _ (all_rows c.requires.layout) list built;
      balance = subst (λ n. All (λ s. All (λ f. length f.balance ≡ n) s.units) list) c.requires.layout.design.balance (have_balance _ _ (all_rows c.requires.layout) list built);
      points = subst (λ n. All (λ s. All (λ f. length f.point ≡ n) s.units) list) c.requires.layout.design.near (have_points _ _ (all_rows c.requires.layout) list built);
      seated = seated_by list c.in_ok-seats.seats.items (seated c.requires.layout c.in_ok-begun.ensures.together built c.requires.homes c.requires.row_groups c.in_ok-seats.ensures.length c.in_ok-seats.ensures.each);
    }

pub returns-clause-asked : goal.returns-clause-asked
returns-clause-asked c =
    rw c.in_ok-finished.ensures (asks_as_frame c.args.design.now c.args.units.now (all_rows c.requires.layout) c.in_ok-begun.begun.items c.in_ok-begun.ensures.built
    c.args.clusters.now.places (row_groups c.requires.layout c.requires.homes c.requires.row_groups) (long_homes c.args.design.now.second c.args.units.now)
    c.in_ok-begun.ensures.together c.args.strata.now.members.items c.args.strata.now.places.items (groups c.requires.layout))

pub returns-clause-drawn : goal.returns-clause-drawn
returns-clause-drawn c =
    rw c.in_ok-finished.ensures (draws_as_asked c.args.design.now c.args.units.now (all_rows c.requires.layout) c.in_ok-begun.begun.items c.in_ok-begun.ensures.built)

pub returns-in_err-begun-clause-misfit : goal.returns-in_err-begun-clause-misfit
returns-in_err-begun-clause-misfit c =
    let same : c.from_residual.result ≡ Err c.in_err-begun.field-0.0 = search rules in
    rw same (passed (Vec Begun Global) Plan c.in_err-begun.field-0.0 _ _ c.in_err-begun.ensures.misfit (λ m is. is))
