-- The search of the cube goes in the order of the frame, so after a move it begins with what is left of the units that it began with and went through.
use Rattle.std.proofs.Common.{◌≡◌, ◌≢◌, ℕ, Bool, true, false, List, ◌++◌, take, drop, length, arith, sym, ap, ◌∙◌, subst, inl, inr, max}
use Rattle.std.specs.List.{filter, range_with_len}
use Rattle.std.proofs.{lemmas.Bool.{cases_lt}, lemmas.List.{take-append-drop, take-take}, lemmas.List.Kept.{AllPairs-filter}}
use Rattle.std.proofs.lemmas.List.Elements.{filter-append, filter_passes}
use Rattle.smp_prob.specs.Shares.{Shares}
use Rattle.smp_split.specs.Trees.{EachPart}
use Rattle.smp_values.specs.Values.{fractional_units, is_fractional}
use Rattle.smp_moves.specs.{Cubes.{flying, pairing, flight_parts, values_in}, Moves.{Move, Next, independent, move}}
use Rattle.smp_moves.proofs.{Entries.{frame_order as in_frame, order_front}, Filtered.{filter_twice}, Flights.{flies_not, no_choice}}
use Rattle.smp_flight.specs.{Kept.Windows.{is_in}, Laws.Nexts.{IsKnown}, Selections.{Balancing, IsBalancing, shares_cube}}
use Rattle.smp_flight.specs.{States.{Flight, IsFlight, Units}, Steps.{chosen, next, next_on}, Laws.ByOrder.{ends_at, knows}}
use Rattle.smp_flight.proofs.{Free.{in_filter, out_filter}, NeverWide.{IsNextFront, KeepsFront}}
use Rattle.smp_flight.specs.{Laws.Firsts.{changed_in, in_front, within_front, in_take}, Cube.{cube_kind, cube_of}}
use Rattle.smp_split.specs.declared.kind.Kind.TheVariants as kind

-- a search begins with these units
abbrev pub IsFront : Balancing → List ℕ → Type 0
IsFront s held = (rest : List ℕ) × (fractional_units (values_in s) ≡ held ++ rest)

-- no unit is chosen
never_chosen : (units : Units) (s : Balancing) → cube_kind units s ≢ kind.Choose
never_chosen units (flying f left) e = flies_not (next units f) e
never_chosen units (pairing s left) e = no_choice (fractional_units s) e

module _ (units : Units) (f : Flight) (left : ℕ) (ok : IsFlight units f) (held : List ℕ) (begins : IsFront (flying f left) held) (m : Move) (is : next units f ≡ move m) where
  abbrev us : List ℕ
  us = fractional_units f.values

  it : IsKnown units f us m
  it = knows units f left us ok (in_frame f.values) m is

  module _ (plus : Bool) where
    abbrev t : Shares
    t = (chosen units f m plus).values

    fewer : (k : ℕ) → is_fractional t k ≡ true → is_fractional f.values k ≡ true
    fewer = (ends_at units f left us ok (in_frame f.values) m is plus).fewer

    -- those that are fractional are what is left of the fractional ones
    still : fractional_units t ≡ filter (is_fractional t) us
    still =
        ap (λ n. filter (is_fractional t) (range_with_len 0 n)) (ends_at units f left us ok (in_frame f.values) m is plus).moved.same_length
        ∙ sym (filter_twice (is_fractional f.values) (is_fractional t) fewer (range_with_len 0 (length f.values.numer)))

    -- what is left of so many of the first that it has all of these
    next_front : IsNextFront (cube_of units) IsFront held m (flying (chosen units f m plus) left)
    next_front =
        let c : ℕ = length it.circuit in
        let n : ℕ = max (length held) (length it.circuit) in
        record {
          list = filter (is_fractional t) (take n us);
          is_front = (filter (is_fractional t) (drop n us), still ∙ ap (filter (is_fractional t)) (sym (take-append-drop n us)) ∙ filter-append (is_fractional t) (take n us) (drop n us));
          order = record {
            going = filter_passes (is_fractional t) (take n us);
            distinct = AllPairs-filter (λ k l. k ≢ l) (is_fractional t) (take n us) (order_front f.values us (in_frame f.values) n).distinct;
          };
          alone = λ k h.
              (let x = (out_filter (is_fractional t) (take n us) k h).0 in
              elim (cases_lt (length held) (length it.circuit)) [
                | inl l ↦ (let e : max (length held) (length it.circuit) ≡ length it.circuit = omega (arith, l) in inr (subst (λ (xs : List ℕ). is_in xs k ≡ true) (ap (λ i. take i us) e ∙ sym it.is.direction.prefix) x))
                | inr g ↦ inl (within_front n held begins.0 k (omega (arith, g)) (subst (λ (xs : List ℕ). is_in (take n xs) k ≡ true) begins.1 x))
              ]);
          all = λ k e h. in_filter (is_fractional t) (take n us) k (elim h [
            | inl x ↦ subst (λ (xs : List ℕ). is_in (take n xs) k ≡ true) (sym begins.1) (in_front n held begins.0 k (omega arith) x)
            | inr some ↦ in_take c (take n us) k (subst (λ (xs : List ℕ). is_in xs k ≡ true) (it.is.direction.prefix ∙ sym (take-take c n us (omega arith))) (changed_in m.direction k some))
          ]) e;
        }

  both_fronts : EachPart (λ p. IsNextFront (cube_of units) IsFront held m p.state) (flight_parts (shares_cube units) f left (move m))
  both_fronts = (next_front true, (next_front false, tt))

module _ (units : Units) where
  same_flight : (f g : Flight) (k left : ℕ) → ◌≡◌ {A = Balancing} (flying f k) (flying g left) → f ≡ g
  same_flight f g k left e = cc

  dropped_front : (s : Balancing) (held : List ℕ) → IsFront s held → (f : Flight) (left : ℕ) → s ≡ flying f left → next_on units (fractional_units (values_in s)) f ≡ independent → EachPart (λ p. IsFront p.state held) ((cube_of units).tree.parts s)
  dropped_front (pairing t k) held front f left e is = absurd (cc)
  dropped_front (flying g k) held front f left e is =
      let same : g ≡ f = same_flight g f k left e in
      let here : next units g ≡ independent = subst (λ (x : Flight). next_on units (fractional_units g.values) x ≡ independent) (sym same) is in
      subst (λ (a : Next). EachPart (λ p. IsFront p.state held) (flight_parts (shares_cube units) g k a)) (sym here) (front, tt)

  moved_front : (s : Balancing) (held : List ℕ) → IsBalancing units s → IsFront s held → (f : Flight) (left : ℕ) → s ≡ flying f left → (m : Move) → next_on units (fractional_units (values_in s)) f ≡ move m →
      EachPart (λ p. IsNextFront (cube_of units) IsFront held m p.state) ((cube_of units).tree.parts s)
  moved_front (pairing t k) held ok front f left e m is = absurd (cc)
  moved_front (flying g k) held ok front f left e m is =
      let same : g ≡ f = same_flight g f k left e in
      let here : next units g ≡ move m = subst (λ (x : Flight). next_on units (fractional_units g.values) x ≡ move m) (sym same) is in
      subst (λ (a : Next). EachPart (λ p. IsNextFront (cube_of units) IsFront held m p.state) (flight_parts (shares_cube units) g k a)) (sym here) (both_fronts units g k ok held front m here)

  pub keeps_front : KeepsFront (cube_of units) IsFront (IsBalancing units)
  keeps_front = record {
    begins = λ s held ok front f left e. front;
    chosen = λ s held ok front k. absurd (never_chosen units s k);
    dropped = λ s held ok front f left e is k. dropped_front s held front f left e is;
    moved = λ s held ok front f left e m is k. moved_front s held ok front f left e m is;
  }
