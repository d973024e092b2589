-- The splits of the local cube are lawful, and its steps are those of flight and landing beside its choices.
use Rattle.std.proofs.Common.{◌≡◌, ◌≢◌, ℕ, ◌<◌, ◌≤◌, false, ℤ, nat_eq, not, ◌||◌}
use Rattle.std.proofs.Common.{List, [], ◌∷◌, Option, Some, None, length, refl, sym, subst, ap, arith, ◌∙◌}
use Rattle.std.specs.Prelude.{option_map, unwrap_or}
use Rattle.std.specs.Int.RustNames.{unsigned_abs}
use Rattle.std.proofs.lemmas.Bool.{eqb-false}
use Rattle.std.proofs.lemmas.List.Sums.{count_by-le-length}
use Rattle.std.proofs.lemmas.Simd.{map-map}
use Rattle.smp_frac.specs.Limits.{most_denominator}
use Rattle.smp_frac.proofs.Arithmetic.{same_refl}
use Rattle.smp_prob.specs.Shares.{Shares}
use Rattle.smp_split.specs.Lenses.{as_unit}
use Rattle.smp_split.specs.Parts.{equal_parts, moved}
use Rattle.smp_split.specs.declared.kind.Kind.{Kind}
use Rattle.smp_split.specs.declared.kind.Kind.TheVariants as kind
use Rattle.smp_split.specs.Trees.{EachPart, Part, IsPart, Lawful, LawfulParts, weight_sum}
use Rattle.smp_split.specs.Laws.Lenses.{parts_through}
use Rattle.smp_split.specs.Laws.Parts.{each_equal, moved-same, weight_sum-equal, weighted-same}
use Rattle.smp_values.specs.Steps.{pivotal_parts, steps_tree}
use Rattle.smp_values.specs.Values.{IsValues, fractional, fractional_at, fractional_count, fractional_units, is_settled}
use Rattle.smp_values.specs.Values.{value_at}
use Rattle.smp_values.proofs.Pivotal.{steps_lawful}
use Rattle.smp_values.proofs.Units.{fractional_at_is}
use Rattle.smp_moves.specs.Moves.{Move, entry_of, Next, move, independent, wide}
use Rattle.smp_moves.specs.Cubes.{flight_kind, flight_parts, flying, landed, pairing, rank_in, tree_by, values_in}
use Rattle.smp_moves.specs.Kept.Computed.{dropped}
use Rattle.smp_moves.proofs.Flights.{lone_split}
use Rattle.smp_flight.specs.Selections.{Balancing, GoesOn, IsBalancing, IsSelection, IsWholeOrder, chooses, flies, shares_cube}
use Rattle.smp_flight.specs.States.{Flight, Units}
use Rattle.smp_flight.specs.Steps.{next_on}
use Rattle.smp_flight.specs.Laws.ByOrder.{dropped_flight, end_lawful, move_split, some_row}
use Rattle.smp_flight.specs.Laws.WholeOrders.{frame_whole}
use Rattle.smp_localcube.specs.Local.{AreCarried, IsCarried, IsLocal, Local, after, head_of, is_one_of, local_of, local_tree}
use Rattle.smp_localcube.specs.Local.{order_around, parts_from, parts_in_flight}
use Rattle.smp_localcube.specs.Kept.States.{next_around}
use Rattle.smp_localcube.specs.Laws.Orders.{filter_again, has_head, whole}

-- ---- the head

pub no_head : (touched : List ℕ) (chosen : Option ℕ) → head_of touched chosen ≡ None → (touched ≡ []) × (chosen ≡ None)
no_head [] chosen e = (refl, e)
no_head (u ∷ touched) chosen e = absurd (cc)

-- the search of a state goes through all fractional units
pub order_whole : (s : Local) (f : Flight) (head : ℕ) → IsCarried f.values s.touched s.chosen
    → head_of s.touched s.chosen ≡ Some head → IsWholeOrder f.values (order_around s.coords f.values s.touched head)
order_whole s f head carried is = whole s.coords f.values s.touched head (has_head f.values s.touched s.chosen head carried is)

-- the parts of flight and landing are those of a state's step
there_again : (s : Local) (next : Next) (ps : List (Part Balancing)) → moved (λ t. t.at) (moved (after s next) ps) ≡ ps
there_again s (move m) ps = map-map _ _ ps ∙ moved-same ps
there_again s independent ps = map-map _ _ ps ∙ moved-same ps
there_again s wide ps = map-map _ _ ps ∙ moved-same ps

-- what the touched units are after a move
carried_after : (s : Local) (m : Move) (t : Balancing) → AreCarried t (after s (move m) t).touched None
carried_after s m (flying f left) = record {
  touched_are = filter_again (λ k. is_one_of s.touched k || not
      (nat_eq (unsigned_abs (entry_of m.direction k)) 0)) (fractional_units f.values);
  chosen_is = tt;
}
carried_after s m (pairing t left) = tt

module _ (units : Units) (coords : List (List ℤ)) (touched : List ℕ) (chosen : Option ℕ) where
  abbrev state : Balancing → Local
  state b = record { coords = coords; at = b; touched = touched; chosen = chosen }

  abbrev IsSplit : Balancing → List (Part Local) → Type 0
  IsSplit b = LawfulParts (local_tree units) (IsLocal units) (state b)

  -- ---- in flight

  module _ (f : Flight) (left : ℕ) where
    abbrev here : Local
    here = state (flying f left)

    -- the parts, the kind and the order by a head
    abbrev parts_at : Option ℕ → List (Part Local)
    parts_at h = parts_in_flight units here f left (option_map (next_around units coords f touched) h)

    abbrev kind_at : Option ℕ → Kind
    kind_at h = unwrap_or (option_map flight_kind (option_map (next_around units coords f touched) h)) kind.Choose

    abbrev order_at : Option ℕ → List ℕ
    order_at h = unwrap_or (option_map (order_around coords f.values touched) h) (fractional_units f.values)

    module _ (ok : IsLocal units here) (going : is_settled f.values ≡ false) where
      step_through : (order : List ℕ) → IsWholeOrder f.values order → (a : Next) → next_on units order f ≡ a
          → IsSplit (flying f left) (moved (after here a) (flight_parts (shares_cube units) f left a))
      step_through order w (move m) is =
          parts_through (tree_by (shares_cube units) (λ _. independent)) (IsBalancing units) (local_tree units) (IsLocal units)
          (after here (move m)) as_unit (flying f left) here
          (record {
            within = λ k h. h;
            part = λ p q. (let falls : rank_in fractional_count p.state < rank_in fractional_count (flying f left) = q.falls in
                record {
                  heavy = q.heavy;
                  falls = omega (arith, falls);
                  member = record { state = q.member; carried = carried_after here m p.state };
                });
            value = λ k h. same_refl (value_at f.values k);
            values = λ t b k h. same_refl (value_at (values_in t) k);
          }) (flight_parts (shares_cube units) f left (move m)) (move_split units f left order ok.state w.is_order m is (λ _. independent))
      step_through order w independent is =
          let some = some_row units f left order ok.state w is going in
          lone_split (local_tree units) (IsLocal units) here (state (flying (dropped f) (landed (fractional_count f.values) left)))
          (λ k. refl) (omega (arith, some)) (record { state = dropped_flight units f left order ok.state w; carried = ok.carried })
      step_through order w wide is =
          lone_split (local_tree units) (IsLocal units) here (state (pairing f.values (landed (fractional_count f.values) left)))
          (λ k. refl) (omega arith) (record { state = ok.state.values; carried = tt })

      -- a choice, after which the values are what they were
      choice_through : chosen ≡ None → IsSplit (flying f left) (parts_in_flight units here f left None)
      choice_through none =
          let some : fractional_count f.values ≢ 0 = eqb-false (fractional_count f.values) 0 going in
          let to : ℕ → Local = λ place. record here { chosen = Some (fractional_at f.values place) } in
          let total : weight_sum (equal_parts (fractional_count f.values) to) ≡ fractional_count f.values =
          weight_sum-equal to (fractional_count f.values) in
          let most : fractional_count f.values ≤ length f.values.numer = count_by-le-length (fractional f.values.den) f.values.numer in
          record {
            some = omega (arith, some);
            narrow = omega (arith, ok.state.values.count, ok.state.are.few);
            each = each_equal to (IsPart (local_tree units) (IsLocal units) here) (fractional_count f.values)
                (λ place h. record {
                  heavy = omega arith;
                  falls = rw none (omega arith);
                  member = record {
                    state = ok.state;
                    carried = record {
                      touched_are = ok.carried.touched_are;
                      chosen_is = fractional_at_is f.values place h;
                    };
                  };
                });
            even = λ k h.
                weighted-same (λ t. value_at (values_in t.at) k) (value_at f.values k) (parts_in_flight units here f left None)
                (each_equal to (λ p. value_at (values_in p.state.at) k ≡ value_at f.values k)
                (fractional_count f.values) (λ place _. refl));
          }

      flight_through : (head : Option ℕ) → head_of touched chosen ≡ head → IsSplit (flying f left) (parts_at head)
      flight_through None is = choice_through (no_head touched chosen is).1
      flight_through (Some head) is =
          step_through (order_around coords f.values touched head) (order_whole here f head ok.carried is)
          (next_around units coords f touched head) refl

    flight_goes : IsCarried f.values touched chosen → (head : Option ℕ) → head_of touched chosen ≡ head
        → GoesOn (local_of units) here
    flight_goes carried None is =
        chooses (ap kind_at is)
        (subst (λ (h : Option ℕ). EachPart (λ p. p.state.at ≡ flying f left) (parts_at h)) (sym is)
        (each_equal (λ place. record here { chosen = Some (fractional_at f.values place) }) (λ p. p.state.at ≡ flying f left)
        (fractional_count f.values) (λ place _. refl)))
    flight_goes carried (Some head) is =
        let next = next_around units coords f touched head in
        flies (subst (λ (h : Option ℕ). IsWholeOrder f.values (order_at h)) (sym is) (order_whole here f head carried is))
        (subst (λ (h : Option ℕ). kind_at h ≡ flight_kind (next_on units (order_at h) f)) (sym is) refl)
        (subst (λ (h : Option ℕ). moved (λ t. t.at) (parts_at h)
        ≡ flight_parts (shares_cube units) f left (next_on units (order_at h) f))
        (sym is) (there_again here next (flight_parts (shares_cube units) f left next)))

  -- ---- in pivotal steps

  pairing_through : (t : Shares) (left : ℕ) → IsLocal units (state (pairing t left)) → is_settled t ≡ false
      → IsSplit (pairing t left) (moved (λ v. state (pairing v left)) (pivotal_parts t))
  pairing_through t left ok going =
      parts_through (steps_tree (length units.sizes)) (IsValues (length units.sizes) most_denominator)
      (local_tree units) (IsLocal units) (λ v. state (pairing v left)) as_unit t (state (pairing t left))
      (record {
        within = λ k h. h;
        part = λ p q. (let falls : fractional_count p.state < fractional_count t = q.falls in
            record { heavy = q.heavy; falls = omega arith; member = record { state = q.member; carried = tt } });
        value = λ k h. same_refl (value_at t k);
        values = λ v b k h. same_refl (value_at v k);
      }) (pivotal_parts t) ((steps_lawful (length units.sizes)).split t ok.state going)

  -- ---- all states

  split_from : (b : Balancing) → IsLocal units (state b) → is_settled (values_in b) ≡ false
      → IsSplit b (parts_from units (state b) b)
  split_from (flying f left) ok going = flight_through f left ok going (head_of touched chosen) refl
  split_from (pairing t left) ok going = pairing_through t left ok going

  goes_from : (b : Balancing) → AreCarried b touched chosen → GoesOn (local_of units) (state b)
  goes_from (flying f left) carried = flight_goes f left carried (head_of touched chosen) refl
  goes_from (pairing t left) carried = flies (frame_whole t) refl (map-map _ _ (pivotal_parts t))

pub local_lawful : (units : Units) → Lawful (local_tree units) (IsLocal units)
local_lawful units = record {
  split = λ s ok going. split_from units s.coords s.touched s.chosen s.at ok going;
  end = λ s ok done. end_lawful units (λ _. independent) s.at ok.state done;
}

pub is_local_cube : (units : Units) → IsSelection (local_of units) (IsLocal units)
is_local_cube units = record {
  lawful = local_lawful units;
  units = refl;
  done = λ s. refl;
  value = λ s. refl;
  selected = λ s. refl;
  member = λ s ok. ok.state;
  step = λ s ok. goes_from units s.coords s.touched s.chosen s.at ok.carried;
}
