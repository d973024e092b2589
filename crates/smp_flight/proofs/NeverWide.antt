-- A selection whose numbers are small goes over to pivotal steps on no path, where its searches begin with what moves have changed.
use Rattle.std.proofs.Common.{◌≡◌, ◌≢◌, ℕ, suc, ◌-◌, ◌≤◌, Bool, true, false, ◌⊎◌, List, [], ◌∷◌, ◌++◌, pos, neg_ℤ, length, arith, refl, sym, ap, ◌∙◌, subst, inl, inr}
use Rattle.std.proofs.lemmas.List.{get_or_past}
use Rattle.smp_kernel.specs.RowReduction.{cut, AreIndependent}
use Rattle.smp_prob.specs.Shares.{Shares}
use Rattle.smp_split.specs.{Parts.{moved}, Paths.{Entry, Leads}, Trees.{Part, EachPart}, Laws.Steps.{leads_belong, leads_keep}}
use Rattle.smp_values.specs.Values.{fractional_units, is_fractional, is_settled}
use Rattle.smp_moves.specs.{Cubes.{flying, pairing, values_in, flight_kind, flight_parts}, Kept.Computed.{dropped}, Ends.{end_of}}
use Rattle.smp_moves.specs.{Moves.{IsOrder, Move, Next, chosen_line, entry_of, independent, move, turned, wide}, Steps.{IsNext}}
use Rattle.smp_moves.proofs.{Entries.{turned_line}, Evens.{entry_of_turned}}
use Rattle.smp_flight.specs.{Kept.Windows.{is_in}, Laws.Nexts.{IsKnown}, Moves.{setting_of}, Narrow.{IsNarrow}, Laws.ByOrder.{some_row}}
use Rattle.smp_flight.specs.Selections.{Balancing, GoesOn, IsBalancing, IsSelection, IsWholeOrder, Selection, chooses, flies, kind_by, parts_by, shares_cube, starting}
use Rattle.smp_flight.specs.{States.{Units, Flight, IsFlight, IsUnits, columns_of, row_count}, Steps.{end_at_is, next_on, stepping}}
use Rattle.smp_flight.proofs.{Gained.{start_adds}, Held.{IsHeld, against_it, along_it, next_held, not_by_denominator}, Seen.{each_unmoved}}
use Rattle.smp_flight.proofs.Narrow.{by_denominator}
use Rattle.smp_flight.specs.{Laws.NextProperties.{independent_columns, known, next_is}, Laws.WholeOrders.{independent_in_frame_order}}
use Rattle.smp_flight.specs.Laws.MoveTotals.{circuit_count}
use Rattle.smp_split.specs.declared.kind.Kind.TheVariants as kind
use Rattle.smp_flight.specs.States as flights

each_both : {State : Type 0} (P Q R : Part State → Type 0) → ((p : Part State) → P p → Q p → R p) → (ps : List (Part State)) → EachPart P ps → EachPart Q ps → EachPart R ps
each_both P Q R h [] a b = tt
each_both P Q R h (p ∷ ps) a b = (h p a.0 b.0, each_both P Q R h ps a.1 b.1)

-- ---- what a selection owes for it: which units its searches begin with
module _ {State : Type 0} (c : Selection State) (front : State → List ℕ → Type 0) where
  -- At an end of a move a search begins with fractional units, those that the move has changed among them, and those that it began with before;
  -- and with no other that it didn't go through.
  pub record IsNextFront (held : List ℕ) (m : Move) (s : State) : Type 0 where
    pub list : List ℕ
    pub is_front : front s list
    pub order : IsOrder (values_in (c.seen s)) list
    pub alone : (k : ℕ) → is_in list k ≡ true → (is_in held k ≡ true) ⊎ (is_in m.direction.units k ≡ true)
    pub all : (k : ℕ) → is_fractional (values_in (c.seen s)) k ≡ true → (is_in held k ≡ true) ⊎ (entry_of m.direction k ≢ pos 0) → is_in list k ≡ true

  pub record KeepsFront (belongs : State → Type 0) : Type 0 where
    pub begins : (s : State) (held : List ℕ) → belongs s → front s held → (f : Flight) (left : ℕ) → c.seen s ≡ flying f left → (rest : List ℕ) × (c.order s ≡ held ++ rest)
    pub chosen : (s : State) (held : List ℕ) → belongs s → front s held → c.tree.kind s ≡ kind.Choose → EachPart (λ p. front p.state held) (c.tree.parts s)
    pub dropped : (s : State) (held : List ℕ) → belongs s → front s held → (f : Flight) (left : ℕ) → c.seen s ≡ flying f left → next_on c.units (c.order s) f ≡ independent →
        c.tree.kind s ≡ kind.Drop → EachPart (λ p. front p.state held) (c.tree.parts s)
    pub moved : (s : State) (held : List ℕ) → belongs s → front s held → (f : Flight) (left : ℕ) → c.seen s ≡ flying f left → (m : Move) → next_on c.units (c.order s) f ≡ move m →
        c.tree.kind s ≡ kind.Flight → EachPart (λ p. IsNextFront held m p.state) (c.tree.parts s)

-- ---- one step
module _ (units : Units) (are : IsUnits units) (n : IsNarrow units) where
  abbrev pub HeldAt : Balancing → List ℕ → Type 0
  HeldAt (flying f left) held = IsHeld units are n f held
  HeldAt (pairing s left) held = ⊥

  -- such units as a move leaves are held there
  abbrev pub HoldsNext : List ℕ → Move → Balancing → Type 0
  HoldsNext held m b =
      (list : List ℕ) → IsOrder (values_in b) list → ((k : ℕ) → is_in list k ≡ true → (is_in held k ≡ true) ⊎ (is_in m.direction.units k ≡ true)) →
      ((k : ℕ) → is_fractional (values_in b) k ≡ true → (is_in held k ≡ true) ⊎ (entry_of m.direction k ≢ pos 0) → is_in list k ≡ true) → HeldAt b list

  module _ (f : Flight) (left : ℕ) (ok : IsFlight units f) (order : List ℕ) (whole_order : IsWholeOrder f.values order) (held rest : List ℕ) (split : order ≡ held ++ rest) (h : IsHeld units are n f held) where
    pub no_wide : next_on units order f ≢ wide
    no_wide e =
        not_by_denominator units are n f ok order whole_order.is_order held rest split h
        (by_denominator units n f order ok whole_order.is_order (subst (IsNext (setting_of units) f order) e (next_is units f order ok whole_order.is_order)))

    pub dropped_held : next_on units order f ≡ independent → is_settled f.values ≡ false → IsHeld units are n (dropped f) held
    dropped_held e going =
        let some : 1 ≤ f.rows = some_row units f left order ok whole_order e going in
        let same : f.rows ≡ suc (f.rows - 1) = omega (arith, some) in
        record {
          order = h.order;
          touched = h.touched;
          adds = λ row l. h.adds row (omega (arith, l));
          free = inr (subst (λ (r : ℕ). AreIndependent r (cut r (columns_of units (fractional_units f.values)))) same
              (independent_in_frame_order units f.rows f.values order whole_order (independent_columns units f order e)));
        }

    module _ (m : Move) (e : next_on units order f ≡ move m) where
      k : IsKnown units f order m
      k = known units f order ok whole_order.is_order m e

      count : length m.direction.units ≡ length k.circuit
      count = circuit_count units f order k.circuit k.finds m.direction.units k.is.direction.prefix

      turned_entry : (i : ℕ) → entry_of (turned m.direction) i ≢ pos 0 → entry_of m.direction i ≢ pos 0
      turned_entry i ne z = ne (entry_of_turned m.direction i ∙ ap neg_ℤ z)

      end_held : (plus : Bool) → HoldsNext held m (flying (record { values = end_of units.requested.den f.values (chosen_line m plus); rows = f.rows; fixed = f.fixed }) left)
      end_held true list ordered alone all =
          next_held units are n f ok order whole_order.is_order held rest split h k.circuit k.finds m.direction
          (along_it units order k.circuit m.direction k.is.direction count) k.line list ordered alone all
      end_held false list ordered alone all =
          next_held units are n f ok order whole_order.is_order held rest split h k.circuit k.finds (turned m.direction)
          (against_it units order k.circuit m.direction k.is.direction count) (turned_line f.values m.direction k.line) list ordered alone
          (λ i t x. all i t (elim x [ inl a ↦ inl a | inr ne ↦ inr (turned_entry i ne) ]))

      chosen_held : (plus : Bool) → HoldsNext held m (flying (record { values = stepping.end_at units f.values (chosen_line m plus); rows = f.rows; fixed = f.fixed }) left)
      chosen_held plus =
          subst (λ (x : Shares). HoldsNext held m (flying (record { values = x; rows = f.rows; fixed = f.fixed }) left)) (sym (end_at_is units f.values (chosen_line m plus))) (end_held plus)

      pub both_held : EachPart (λ p. HoldsNext held m p.state) (flight_parts (shares_cube units) f left (move m))
      both_held = (chosen_held true, (chosen_held false, tt))

-- ---- each path
module _ {State : Type 0} (c : Selection State) (belongs : State → Type 0) (is : IsSelection c belongs) (front : State → List ℕ → Type 0) (keeps : KeepsFront c front belongs) (are : IsUnits c.units) (n : IsNarrow c.units) where
  record Holds (s : State) : Type 0 where
    held : List ℕ
    is_front : front s held
    holds : HeldAt c.units are n (c.seen s) held

  module _ (s : State) (ok : belongs s) (h : Holds s) (w : IsWholeOrder (values_in (c.seen s)) (c.order s)) (f : Flight) (left : ℕ) (e : c.seen s ≡ flying f left) where
    is_flight : IsFlight c.units f
    is_flight = subst (IsBalancing c.units) e (is.member s ok)

    whole_order : IsWholeOrder f.values (c.order s)
    whole_order = subst (λ b. IsWholeOrder (values_in b) (c.order s)) e w

    holds_it : IsHeld c.units are n f h.held
    holds_it = subst (λ b. HeldAt c.units are n b h.held) e h.holds

    split : (rest : List ℕ) × (c.order s ≡ h.held ++ rest)
    split = keeps.begins s h.held ok h.is_front f left e

    not_wide : next_on c.units (c.order s) f ≢ wide
    not_wide = no_wide c.units are n f left is_flight (c.order s) whole_order h.held split.0 split.1 holds_it

    module _ (going : c.tree.done s ≡ false) (k : c.tree.kind s ≡ kind_by c.units (c.order s) (c.seen s)) (parts : moved c.seen (c.tree.parts s) ≡ parts_by c.units (c.order s) (c.seen s)) where
      kind_is : (a : Next) → next_on c.units (c.order s) f ≡ a → c.tree.kind s ≡ flight_kind a
      kind_is a ea = k ∙ ap (kind_by c.units (c.order s)) e ∙ ap flight_kind ea

      parts_are : (a : Next) → next_on c.units (c.order s) f ≡ a → moved c.seen (c.tree.parts s) ≡ flight_parts (shares_cube c.units) f left a
      parts_are a ea = parts ∙ ap (parts_by c.units (c.order s)) e ∙ ap (flight_parts (shares_cube c.units) f left) ea

      by_next : (a : Next) → next_on c.units (c.order s) f ≡ a → EachPart (λ p. Holds p.state) (c.tree.parts s)
      by_next wide ea = absurd (not_wide ea)
      by_next independent ea =
          let settled : is_settled f.values ≡ false = subst (λ b. is_settled (values_in b) ≡ false) e (sym (is.done s) ∙ going) in
          let here = dropped_held c.units are n f left is_flight (c.order s) whole_order h.held split.0 split.1 holds_it ea settled in
          each_both (λ p. front p.state h.held) (λ p. HeldAt c.units are n (c.seen p.state) h.held) (λ p. Holds p.state) (λ p a b. record { held = h.held; is_front = a; holds = b }) (c.tree.parts s)
          (keeps.dropped s h.held ok h.is_front f left e ea (kind_is independent ea))
          (each_unmoved c.seen (λ b. HeldAt c.units are n b h.held) (c.tree.parts s) (subst (EachPart (λ p. HeldAt c.units are n p.state h.held)) (sym (parts_are independent ea)) (here, tt)))
      by_next (move m) ea =
          let here = both_held c.units are n f left is_flight (c.order s) whole_order h.held split.0 split.1 holds_it m ea in
          each_both (λ p. IsNextFront c front h.held m p.state) (λ p. HoldsNext c.units are n h.held m (c.seen p.state)) (λ p. Holds p.state)
          (λ p a b. record { held = a.list; is_front = a.is_front; holds = b a.list a.order a.alone a.all }) (c.tree.parts s)
          (keeps.moved s h.held ok h.is_front f left e m ea (kind_is (move m) ea))
          (each_unmoved c.seen (HoldsNext c.units are n h.held m) (c.tree.parts s) (subst (EachPart (λ p. HoldsNext c.units are n h.held m p.state)) (sym (parts_are (move m) ea)) here))

  module _ (s : State) (ok : belongs s) (going : c.tree.done s ≡ false) (h : Holds s) where
    by_state : IsWholeOrder (values_in (c.seen s)) (c.order s) → c.tree.kind s ≡ kind_by c.units (c.order s) (c.seen s) → moved c.seen (c.tree.parts s) ≡ parts_by c.units (c.order s) (c.seen s) →
        (b : Balancing) → c.seen s ≡ b → EachPart (λ p. Holds p.state) (c.tree.parts s)
    by_state w k parts (flying f left) e = by_next s ok h w f left e going k parts (next_on c.units (c.order s) f) refl
    by_state w k parts (pairing t left) e = absurd (subst (λ b. HeldAt c.units are n b h.held) e h.holds)

    by_step : GoesOn c s → EachPart (λ p. Holds p.state) (c.tree.parts s)
    by_step (chooses k same) =
        each_both (λ p. front p.state h.held) (λ p. c.seen p.state ≡ c.seen s) (λ p. Holds p.state)
        (λ p a e. record { held = h.held; is_front = a; holds = subst (λ b. HeldAt c.units are n b h.held) (sym e) h.holds }) (c.tree.parts s) (keeps.chosen s h.held ok h.is_front k) same
    by_step (flies w k parts) = by_state w k parts (c.seen s) refl

    kind_there : IsWholeOrder (values_in (c.seen s)) (c.order s) → (b : Balancing) → c.seen s ≡ b → kind_by c.units (c.order s) b ≢ kind.Wide
    kind_there w (flying f left) e = by_kind (next_on c.units (c.order s) f) refl
      where
        by_kind : (a : Next) → next_on c.units (c.order s) f ≡ a → flight_kind a ≢ kind.Wide
        by_kind wide ea x = not_wide s ok h w f left e ea
        by_kind independent ea x = absurd (cc)
        by_kind (move m) ea x = absurd (cc)
    kind_there w (pairing t left) e = absurd (subst (λ b. HeldAt c.units are n b h.held) e h.holds)

    not_over : GoesOn c s → c.tree.kind s ≢ kind.Wide
    not_over (chooses k same) x = absurd (let z : kind.Choose ≡ kind.Wide = sym k ∙ x in cc)
    not_over (flies w k parts) x = kind_there w (c.seen s) refl (sym k ∙ x)

  module _ (from : State) (member : belongs from) (is_start : c.seen from ≡ starting c.units) (first : front from []) where
    -- nothing is touched at the start
    start_held : IsHeld c.units are n (flights.tracked_start c.units).flight []
    start_held = record {
      order = record { going = λ j d l. absurd (omega (arith, l)); distinct = λ i j d l m. absurd (omega (arith, l)) };
      touched = λ k _ t. absurd (t refl);
      adds = start_adds c.units are n.multiple n.of_denominator n.of_sizes (row_count c.units);
      free = inl (λ v rel i. get_or_past v i (pos 0) (omega (arith, rel.0)));
    }

    holds_first : Holds from
    holds_first = record { held = []; is_front = first; holds = subst (λ b. HeldAt c.units are n b []) (sym is_start) start_held }

    pub never_wide : (path : List Entry) (s : State) → Leads c.tree from path s → c.tree.done s ≡ false → c.tree.kind s ≢ kind.Wide
    never_wide path s leads going =
        let ok : belongs s = leads_belong c.tree belongs is.lawful path from s leads member in
        not_over s ok going (leads_keep c.tree belongs is.lawful Holds by_each path from s leads member holds_first) (is.step s ok)
      where
        by_each : (t : State) → belongs t → c.tree.done t ≡ false → Holds t → EachPart (λ p. Holds p.state) (c.tree.parts t)
        by_each t ok going h = by_step t ok going h (is.step t ok)
