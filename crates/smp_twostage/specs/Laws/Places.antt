-- The place of each row in a plan.
use Rattle.std.proofs.Common.{◌≡◌, ℕ, true, nat_eq, List, Option, Some, None, refl, sym, ap, ◌∙◌}
use Rattle.std.specs.List.{slice_get, list_any}
use Rattle.std.proofs.lemmas.Bool.{eqb-true, eq-eqb}
use Rattle.smp_strata.specs.Seats.{IsSeat, row_at}
use Rattle.smp_strata.specs.declared.strata.FirstUnit.{FirstUnit}
use Rattle.smp_strata.specs.declared.strata.Seat.{Seat}
use Rattle.smp_strata.specs.declared.strata.Stratum.{Stratum}
use Rattle.smp_twostage.specs.Selections.{unit_has, place_of}
use Rattle.smp_twostage.specs.Laws.Lists.{FirstThat, any_that, first_that}

-- the stratum and the first stage unit of a seat
pub record StandsIn (strata : List Stratum) (row : ℕ) (seat : Seat) : Type 0 where
  pub stratum : Stratum
  pub unit : FirstUnit
  pub is_stratum : slice_get strata seat.stratum ≡ Some stratum
  pub is_unit : slice_get stratum.units seat.unit ≡ Some unit
  pub is_row : slice_get unit.rows seat.place ≡ Some row

module _ (strata : List Stratum) (row : ℕ) where
  in_unit : (seat : Seat) (s : Stratum) (u : Option FirstUnit) → slice_get strata seat.stratum ≡ Some s
      → slice_get s.units seat.unit ≡ u → row_at strata seat ≡ Some row → StandsIn strata row seat
  in_unit seat s (Some u) is_s is_u is = record { stratum = s; unit = u; is_stratum = is_s; is_unit = is_u; is_row = rw (is_s, is_u) at is }
  in_unit seat s None is_s is_u is = absurd (let none : None ≡ Some row = rw (is_s, is_u) at is in cc)

  in_stratum : (seat : Seat) (s : Option Stratum) → slice_get strata seat.stratum ≡ s
      → row_at strata seat ≡ Some row → StandsIn strata row seat
  in_stratum seat (Some s) is_s is = in_unit seat s (slice_get s.units seat.unit) is_s refl is
  in_stratum seat None is_s is = absurd (let none : None ≡ Some row = rw is_s at is in cc)

  pub stands_in : (seat : Seat) → IsSeat strata row seat → StandsIn strata row seat
  stands_in seat is = in_stratum seat (slice_get strata seat.stratum) refl is.there

  -- ---- the search finds a seat where there is one

  same_row : nat_eq row row ≡ true
  same_row = eq-eqb row row refl

  pub place_is_seat : (seat : Seat) → IsSeat strata row seat → IsSeat strata row (place_of strata row)
  place_is_seat seat is =
      let at = stands_in seat is in
      let has : list_any (nat_eq row) at.unit.rows ≡ true = any_that (nat_eq row) at.unit.rows seat.place row at.is_row same_row in
      let here : list_any (unit_has row) at.stratum.units ≡ true =
      any_that (unit_has row) at.stratum.units seat.unit at.unit at.is_unit has in
      let s : FirstThat (λ (s : Stratum). list_any (unit_has row) s.units) strata =
      first_that (λ (s : Stratum). list_any (unit_has row) s.units) strata
      (any_that (λ (s : Stratum). list_any (unit_has row) s.units) strata seat.stratum at.stratum at.is_stratum here) in
      let u : FirstThat (unit_has row) s.found.units = first_that (unit_has row) s.found.units s.passes in
      let r : FirstThat (nat_eq row) u.found.rows = first_that (nat_eq row) u.found.rows u.passes in
      let same : row ≡ r.found = eqb-true row r.found r.passes in
      record { there = rw (s.there, u.there) (r.there ∙ ap Some (sym same)) }
