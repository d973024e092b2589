-- The search of the local cube begins with the touched units.
use Rattle.std.proofs.Common.{◌≡◌, ◌≢◌, ℕ, Bool, true, false, not, nat_eq, ◌||◌, ◌⊎◌, ℤ, List, [], ◌∷◌, ◌++◌, pos, Option, Some, None, refl, sym, ap, ◌∙◌, subst, inl, inr}
use Rattle.std.specs.{Prelude.{option_map, unwrap_or}, Int.RustNames.{unsigned_abs}, List.{filter}}
use Rattle.std.proofs.{lemmas.Bool.{cases_Bool, ne_eqb, or_left, or_right, true≢false}, lemmas.List.Elements.{All-filter}}
use Rattle.std.proofs.lemmas.List.Kept.{AllPairs-filter}
use Rattle.smp_near.specs.Nearest.{neighbours}
use Rattle.smp_kernel.proofs.Ring.{abs_zero}
use Rattle.smp_prob.specs.Shares.{Shares}
use Rattle.smp_split.specs.{Trees.{Part, EachPart}, declared.kind.Kind.{Kind}, Laws.Parts.{each_equal}}
use Rattle.smp_split.specs.declared.kind.Kind.TheVariants as kind
use Rattle.smp_values.specs.Values.{fractional_at, fractional_count, fractional_units, is_fractional}
use Rattle.smp_moves.specs.{Cubes.{flying, pairing, flight_kind, values_in}, Moves.{IsLine, Move, Next, entry_of, independent, move, wide}}
use Rattle.smp_moves.proofs.{Entries.{frame_order}, Flights.{flies_not, no_choice}}
use Rattle.smp_flight.specs.{Kept.Windows.{is_in}, Selections.{Balancing, IsBalancing}, States.{Flight, IsFlight, Units}}
use Rattle.smp_flight.specs.{Steps.{chosen, next_on}, Laws.ByOrder.{knows}, Laws.Firsts.{changed_in, fractional_in}}
use Rattle.smp_flight.proofs.{NeverWide.{IsNextFront, KeepsFront}, Free.{out_filter, in_filter}}
use Rattle.smp_localcube.specs.Local.{AreCarried, IsCarried, IsLocal, Local, after, head_of, is_one_of, local_of, next_from, order_around, order_from, kind_from, parts_from, parts_in_flight, untouched}
use Rattle.smp_localcube.specs.{Kept.States.{next_around}, Laws.Splits.{order_whole}}

abbrev kind_of : Option Next → Kind
kind_of next = unwrap_or (option_map flight_kind next) kind.Choose

abbrev pub IsFront : Local → List ℕ → Type 0
IsFront s held = held ≡ s.touched

-- ---- where a search begins

begins_with : (coords : List (List ℤ)) (touched : List ℕ) (chosen : Option ℕ) (values : Shares) →
    (rest : List ℕ) × (unwrap_or (option_map (order_around coords values touched) (head_of touched chosen)) (fractional_units values) ≡ touched ++ rest)
begins_with coords [] chosen values = (unwrap_or (option_map (order_around coords values []) chosen) (fractional_units values), refl)
begins_with coords (u ∷ touched) chosen values = (neighbours (untouched coords values (u ∷ touched)) u, refl)

module _ (units : Units) (s : Local) where
  abbrev Stays : List (Part Local) → Type 0
  Stays parts = EachPart (λ p. s.touched ≡ p.state.touched) parts

  -- ---- a choice touches nothing
  module _ (f : Flight) (left : ℕ) where
    choice_stays : (next : Option Next) → kind_of next ≡ kind.Choose → Stays (parts_in_flight units s f left next)
    choice_stays None k = each_equal (λ place. record s { chosen = Some (fractional_at f.values place) }) (λ p. s.touched ≡ p.state.touched) (fractional_count f.values) (λ place _. refl)
    choice_stays (Some next) k = absurd (flies_not next k)

    -- ---- nor does a dropped row
    drop_stays : (next : Option Next) → kind_of next ≡ kind.Drop → Stays (parts_in_flight units s f left next)
    drop_stays None k = absurd (let z : kind.Choose ≡ kind.Drop = k in cc)
    drop_stays (Some (move m)) k = absurd (let z : kind.Flight ≡ kind.Drop = k in cc)
    drop_stays (Some independent) k = (refl, tt)
    drop_stays (Some wide) k = absurd (let z : kind.Wide ≡ kind.Drop = k in cc)

    -- ---- a move touches what it changes
    module _ (m : Move) (line : IsLine f.values m.direction) where
      abbrev is_carried : ℕ → Bool
      is_carried k = is_one_of s.touched k || not (nat_eq (unsigned_abs (entry_of m.direction k)) 0)

      changed : (k : ℕ) → not (nat_eq (unsigned_abs (entry_of m.direction k)) 0) ≡ true → entry_of m.direction k ≢ pos 0
      changed k h z = true≢false (sym h ∙ ap (λ e. not (nat_eq (unsigned_abs e) 0)) z)

      carried_or : (k : ℕ) → is_carried k ≡ true → (is_in s.touched k ≡ true) ⊎ (is_in m.direction.units k ≡ true)
      carried_or k h =
          elim (cases_Bool (is_one_of s.touched k)) [
            | inl t ↦ inl t
            | inr n ↦ inr (changed_in m.direction k (changed k (rw n at h)))
          ]

      carried_by : (k : ℕ) → (is_in s.touched k ≡ true) ⊎ (entry_of m.direction k ≢ pos 0) → is_carried k ≡ true
      carried_by k (inl t) = or_left (is_one_of s.touched k) (not (nat_eq (unsigned_abs (entry_of m.direction k)) 0)) t
      carried_by k (inr ne) =
          or_right (is_one_of s.touched k) (not (nat_eq (unsigned_abs (entry_of m.direction k)) 0))
          (ap not (ne_eqb (unsigned_abs (entry_of m.direction k)) 0 (λ z. ne (abs_zero (entry_of m.direction k) z))))

      next_front : (t : Balancing) → IsNextFront (local_of units) IsFront s.touched m (after s (move m) t)
      next_front t =
          let v : Shares = values_in t in
          record {
            list = filter is_carried (fractional_units (values_in t));
            is_front = refl;
            order = record {
              going = All-filter is_carried (λ k. is_fractional (values_in t) k ≡ true) (fractional_units (values_in t)) (frame_order (values_in t)).going;
              distinct = AllPairs-filter (λ k l. k ≢ l) is_carried (fractional_units (values_in t)) (frame_order (values_in t)).distinct;
            };
            alone = λ k h. carried_or k (out_filter is_carried (fractional_units (values_in t)) k h).1;
            all = λ k e h. in_filter is_carried (fractional_units (values_in t)) k (fractional_in (values_in t) k e) (carried_by k h);
          }

    move_touches : IsFlight units f → IsCarried f.values s.touched s.chosen → (m : Move) → (head : Option ℕ) → head_of s.touched s.chosen ≡ head →
        kind_of (option_map (next_around units s.coords f s.touched) head) ≡ kind.Flight → next_on units (unwrap_or (option_map (order_around s.coords f.values s.touched) head) (fractional_units f.values)) f ≡ move m →
        EachPart (λ p. IsNextFront (local_of units) IsFront s.touched m p.state) (parts_in_flight units s f left (option_map (next_around units s.coords f s.touched) head))
    move_touches ok carried m None e k is = absurd (let z : kind.Choose ≡ kind.Flight = k in cc)
    move_touches ok carried m (Some head) e k is =
        let line : IsLine f.values m.direction = (knows units f left (order_around s.coords f.values s.touched head) ok (order_whole s f head carried e).is_order m is).line in
        subst (λ (a : Next). EachPart (λ p. IsNextFront (local_of units) IsFront s.touched m p.state) (parts_in_flight units s f left (Some a))) (sym is)
        (next_front m line (flying (chosen units f m true) left), (next_front m line (flying (chosen units f m false) left), tt))

  choice_at : (at : Balancing) → kind_from units s at ≡ kind.Choose → Stays (parts_from units s at)
  choice_at (flying f left) k = choice_stays f left (next_from units s f) k
  choice_at (pairing t left) k = absurd (no_choice (fractional_units t) k)

-- so its searches begin with what moves have changed
pub keeps_front : (units : Units) → KeepsFront (local_of units) IsFront (IsLocal units)
keeps_front units = record {
  begins = λ s held ok front f left e.
      (let b = begins_with s.coords s.touched s.chosen f.values in (b.0, ap (order_from s) e ∙ b.1 ∙ ap (λ us. us ++ b.0) (sym front)));
  chosen = λ s held ok front k. subst (λ (us : List ℕ). EachPart (λ p. us ≡ p.state.touched) (parts_from units s s.at)) (sym front) (choice_at units s s.at k);
  dropped = λ s held ok front f left e is k.
      subst (λ (us : List ℕ). EachPart (λ p. us ≡ p.state.touched) (parts_from units s s.at)) (sym front)
      (subst (λ (b : Balancing). EachPart (λ p. s.touched ≡ p.state.touched) (parts_from units s b)) (sym e)
      (drop_stays units s f left (next_from units s f) (subst (λ (b : Balancing). kind_from units s b ≡ kind.Drop) e k)));
  moved = λ s held ok front f left e m is k.
      subst (λ (us : List ℕ). EachPart (λ p. IsNextFront (local_of units) IsFront us m p.state) (parts_from units s s.at)) (sym front)
      (subst (λ (b : Balancing). EachPart (λ p. IsNextFront (local_of units) IsFront s.touched m p.state) (parts_from units s b)) (sym e)
      (move_touches units s f left (subst (IsBalancing units) e ok.state) (subst (λ (b : Balancing). AreCarried b s.touched s.chosen) e ok.carried) m (head_of s.touched s.chosen) refl
      (subst (λ (b : Balancing). kind_from units s b ≡ kind.Flight) e k)
      (subst (λ (b : Balancing). next_on units (order_from s b) f ≡ move m) e is)));
}
