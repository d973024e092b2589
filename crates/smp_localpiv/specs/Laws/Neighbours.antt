-- A unit that may meet another one has a neighbour, which is fractional too.
use Rattle.std.proofs.Common.{◌≡◌, ◌≢◌, ℕ, ◌<◌, true, false, not, nat_eq, Some, length, map, get_or, set, refl, sym, ap}
use Rattle.std.proofs.Common.{◌∙◌, arith}
use Rattle.std.specs.Prelude.{unwrap_or}
use Rattle.std.proofs.Math.ListN as lists
use Rattle.std.proofs.lemmas.Bool.{and_parts, and_from, ne_eqb, eqb-false, not-true}
use Rattle.smp_near.specs.Nearest.{is_other, nearest}
use Rattle.smp_near.proofs.Neighbours.{Neighbour, neighbour}
use Rattle.smp_values.specs.Values.{fractional, fractional_count, is_fractional}
use Rattle.smp_values.proofs.Units.{Passes, some_passes, fractional_within, others_count, other_of}
use Rattle.smp_localpiv.specs.Local as local
use Rattle.smp_localpiv.specs.Local.{Local, MayMeet, points_of}

-- the neighbour is another fractional unit, and the one that the points give
pub record IsMet (s : Local) (unit : ℕ) : Type 0 where
  pub unit_open : is_fractional s.state unit ≡ true
  pub other_open : is_fractional s.state (local.neighbour s unit) ≡ true
  pub apart : unit ≢ local.neighbour s unit
  pub unit_in : unit < length s.state.numer
  pub other_in : local.neighbour s unit < length s.state.numer
  pub given : nearest (points_of s) unit ≡ Some (local.neighbour s unit)

module _ (s : Local) where
  -- the living points are those of the fractional units
  living_is : (unit : ℕ) → get_or (map (fractional s.state.den) s.state.numer) unit false ≡ is_fractional s.state unit
  living_is unit = lists.get_or-map (fractional s.state.den) s.state.numer unit 0

  other_is : (unit k : ℕ) → is_fractional s.state k ≡ true → k ≢ unit → is_other (points_of s) unit k ≡ true
  other_is unit k h ne = and_from (not (nat_eq k unit))
      (get_or (map (fractional s.state.den) s.state.numer) k false) (rw (ne_eqb k unit ne) refl) (living_is k ∙ h)

  met_at : (unit : ℕ) → is_fractional s.state unit ≡ true → (near : Neighbour (points_of s) unit)
      → local.neighbour s unit ≡ near.j → IsMet s unit
  met_at unit h near same =
      let parts = and_parts (not (nat_eq near.j unit)) (get_or (map (fractional s.state.den) s.state.numer) near.j false) near.is.other in
      let other : is_fractional s.state near.j ≡ true = sym (living_is near.j) ∙ parts.1 in
      let differs : near.j ≢ unit = eqb-false near.j unit (not-true (nat_eq near.j unit) parts.0) in
      record {
        unit_open = h;
        other_open = rw same other;
        apart = λ e. differs (sym (e ∙ same));
        unit_in = fractional_within s.state unit h;
        other_in = rw same (fractional_within s.state near.j other);
        given = near.given ∙ ap (λ j. Some j) (sym same);
      }

  pub met : (unit : ℕ) → MayMeet s.state unit → IsMet s unit
  met unit may =
      let few : 1 < fractional_count s.state = may.another in
      let some : Passes (fractional s.state.den) (set s.state.numer unit 0) 0 =
      some_passes (fractional s.state.den) 0 (set s.state.numer unit 0)
      (omega (arith, others_count s.state unit may.open_at)) in
      let another = other_of s.state unit may.open_at some.place some.passes in
      let near = neighbour (points_of s) unit some.place (other_is unit some.place another.1 another.0) in
      met_at unit may.open_at near (ap (λ o. unwrap_or o unit) near.given)
