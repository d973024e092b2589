-- A state in flight, and what each of its steps rests on.
use Rattle.std.proofs.Common.{◌≡◌, ◌≢◌, ℕ, ◌+◌, ◌<◌, ◌≤◌, Bool, true, false, List, [], Option, Some, None, length, get_or, arith, refl, sym, ap, ◌∙◌, subst}
use Rattle.std.specs.{Prelude.{option_map}, List.{AllPairs, sum}}
use Rattle.std.proofs.lemmas.List.FromFn.{length-map-range_with_len}
use Rattle.smp_near.specs.Nearest.{LivingPoints}
use Rattle.smp_places.specs.Amounts.{sum_before}
use Rattle.smp_split.specs.{Trees.{EachPart, IsPart, Part, picked, weight_sum}, Laws.Parts.{picked-equal, weight_sum-equal}}
use Rattle.smp_values.specs.Values.{fractional_at, fractional_count, is_settled}
use Rattle.smp_moves.specs.{Answers.{IsPadded, line_of}, Courses.{end_of}, Cubes.{flying, values_in}, Kept.Phases.{balancing_of}}
use Rattle.smp_moves.specs.{Moves.{IsLine, Next, move}, declared.phases.Phase.TheVariants.{Flying}}
use Rattle.smp_moves.specs.declared.steps.Next.TheVariants as answers
use Rattle.smp_flight.specs.{Answers.{IsMoveOf, IsNextWindow, move_of}, Laws.ByOrder.{both_ways}, Laws.NextProperties.{known}}
use Rattle.smp_flight.specs.{States.{Flight, Tracked, Units}, Steps.{chosen}, Statements.{GoesBothWays}}
use Rattle.smp_flight.specs.{Landings.{balancing_in}, declared.landing.Landing.{Landing}, declared.steps.Move.{Move as MoveOfPlaces}}
use Rattle.smp_localcube.specs.{Kept.Orders.{is_untouched}, Laws.Splits.{local_lawful, no_head}}
use Rattle.smp_localcube.specs.Local.{IsLocal, Local, after, head_of, local_tree, parts_from, parts_in_flight, untouched}
use Rattle.smp_localcube.specs.Kept.States.{AreTouched, IsReady, IsSearchable, Standing, in_flight, next_around, state_of, touched_in, weights_of}
use Rattle.smp_localcube.proofs.{Around.{carried_now}, Chosen.{found_is, found_open}, Moving.{flown_ready, flown_touched}}
use Rattle.smp_localcube.proofs.Touch.{line_within, untouched_total}

none_head : (f : ℕ → Next) (o : Option ℕ) → None ≡ option_map f o → o ≡ None
none_head f None e = refl
none_head f (Some k) e = absurd (cc)

-- a state in flight, and its parts by its next step
abbrev state : Landing → LivingPoints → Option ℕ → Local
state l = in_flight l.flight l.left

abbrev to : Units → Landing → LivingPoints → Option ℕ → Option Next → List (Part Local)
to units l points held = parts_in_flight units (state l points held) l.flight.flight l.left

-- it is the state that is seen
view : (l : Landing) (points : LivingPoints) (held : Option ℕ) → l.phase ≡ Flying → state l points held ≡ state_of l points held
view l points held aloft = ap (λ p. record { coords = points.coords; at = balancing_of p l.flight.flight l.steps l.left; touched = touched_in l.flight; chosen = held }) (sym aloft)

module _ {units : Units} {l : Landing} {points : LivingPoints} {weights : List ℕ} {held : Option ℕ} where
  -- ---- where a unit is to be chosen
  module _ (is : Standing units l points weights held None) where
    none : head_of (touched_in l.flight) held ≡ None
    none = none_head (next_around units points.coords l.flight.flight (touched_in l.flight)) (head_of (touched_in l.flight) held) is.searched.is

    bare : weights ≡ weights_of (untouched points.coords l.flight.flight.values []).living
    bare = is.ready.weighed ∙ ap weights_of (is.ready.living ∙ ap (λ (t : List ℕ). (untouched points.coords l.flight.flight.values t).living) (no_head (touched_in l.flight) held none).0)

    total : sum weights ≡ fractional_count l.flight.flight.values
    total = ap (λ (ws : List ℕ). sum ws) bare ∙ untouched_total points.coords l.flight.flight.values

    pub choice_sum : sum weights ≡ weight_sum (parts_from units (state_of l points held) (balancing_in l))
    choice_sum =
        total
        ∙ sym (weight_sum-equal (λ place. record (state l points held) { chosen = Some (fractional_at l.flight.flight.values place) }) (fractional_count l.flight.flight.values))
        ∙ ap (λ a. weight_sum (to units l points held a)) is.searched.is
        ∙ ap (λ (x : Local). weight_sum (parts_from units x x.at)) (view l points held is.flying)

    module _ (draw unit : ℕ) (place : unit < length weights) (from : sum_before weights unit ≤ draw) (passes : draw < sum_before weights unit + get_or weights unit 0) where
      pub choice_searchable : IsSearchable units l.flight points (Some unit)
      choice_searchable = record {
        flight = is.here.state;
        carried = carried_now l.flight (Some unit) (found_open points.coords l.flight.flight.values draw unit (rw bare at place) (rw bare at from) (rw bare at passes));
        placed = is.ready.placed;
        living = is.ready.living;
      }

      pub choice_picked : draw < weight_sum (parts_from units (state_of l points held) (balancing_in l)) →
          state_of l points (Some unit) ≡ picked (state_of l points held) (parts_from units (state_of l points held) (balancing_in l)) draw
      choice_picked below =
          sym (view l points (Some unit) is.flying)
          ∙ ap (λ k. record (state l points held) { chosen = Some k }) (found_is points.coords l.flight.flight.values draw unit (rw bare at place) (rw bare at from) (rw bare at passes))
          ∙ sym (picked-equal (λ place. record (state l points held) { chosen = Some (fractional_at l.flight.flight.values place) }) (state l points held) (fractional_count l.flight.flight.values) draw (omega (arith, below, choice_sum, total)))
          ∙ ap (λ a. picked (state l points held) (to units l points held a) draw) is.searched.is
          ∙ ap (λ (x : Local). picked x (parts_from units x x.at) draw) (view l points held is.flying)

  -- ---- where no direction is left
  module _ (is : Standing units l points weights held (Some answers.Independent)) where
    -- a step has a lower rank
    pub row_left : is_settled (values_in (balancing_in l)) ≡ false → 1 ≤ l.flight.flight.rows
    row_left going =
        let still : is_settled l.flight.flight.values ≡ false = subst (λ (x : Local). is_settled (values_in x.at) ≡ false) (sym (view l points held is.flying)) going in
        let each = subst (λ (a : Option Next). EachPart (IsPart (local_tree units) (IsLocal units) (state l points held)) (to units l points held a)) (sym is.searched.is) ((local_lawful units).split (state l points held) is.here still).each in
        omega (arith, each.0.falls)

  -- ---- a move
  module _ {m : MoveOfPlaces} (is : Standing units l points weights held (Some (answers.Move m))) where
    allows : IsMoveOf units l.flight m
    allows = is.searched.allows

    pub move_bound : GoesBothWays (move_of m)
    move_bound = both_ways units l.flight.flight l.left allows.order is.here.state allows.is_order (move_of m) allows.is

    line_ok : IsLine l.flight.flight.values (line_of m.direction)
    line_ok = (known units l.flight.flight allows.order is.here.state allows.is_order (move_of m) allows.is).line

    pub touchable : IsPadded m.direction × (AllPairs (λ k l. k ≢ l) (line_of m.direction).units × (((place : ℕ) → place < m.direction.number → get_or m.direction.units place 0 < length points.living) × (weights ≡ weights_of points.living)))
    touchable = (
      allows.kept.padded,
      (
        line_ok.order.distinct,
        (
          λ place here. omega (arith, line_within l.flight.flight.values m.direction line_ok allows.kept.padded place here, ap length is.ready.living, length-map-range_with_len (is_untouched l.flight.flight.values (touched_in l.flight)) 0 (length l.flight.flight.values.numer)),
          is.ready.weighed,
        ),
      ),
    )

    module _ {t : Tracked} (plus : Bool) (flown : t.flight ≡ chosen units l.flight.flight (move_of m) plus) (next : IsNextWindow l.flight (move_of m).direction t) where
      pub moved_ready : {now : LivingPoints} {new : List ℕ} → length t.flight.values.numer ≡ length l.flight.flight.values.numer → AreTouched points (line_of m.direction) (record { units = []; entries = [] }) now → new ≡ weights_of now.living → IsReady t l.room now new
      moved_ready {now} {new} same touched weighed =
          flown_ready units l.flight t l.left allows.order is.here.state allows.is_order (move_of m) allows.is plus flown next l.room points now weights is.ready touched same new weighed

      -- the state at the end that is chosen
      abbrev there : Flight → Local
      there fl = after (state l points held) (move (move_of m)) (flying fl l.left)

      at_end : (plus : Bool) → there (chosen units l.flight.flight (move_of m) plus) ≡ end_of (state l points held) (to units l points held (Some (move (move_of m)))) plus
      at_end true = refl
      at_end false = refl

      pub moved_there : (now : LivingPoints) → now.coords ≡ points.coords → state_of (record l { flight = t }) now None ≡ end_of (state_of l points held) (parts_from units (state_of l points held) (balancing_in l)) plus
      moved_there now coords =
          sym (view (record l { flight = t }) now None is.flying)
          ∙ ap (λ cs. record { coords = cs; at = flying t.flight l.left; touched = touched_in t; chosen = None }) coords
          ∙ ap (λ (us : List ℕ). record { coords = points.coords; at = flying t.flight l.left; touched = us; chosen = None })
          (flown_touched units l.flight t l.left allows.order is.here.state allows.is_order (move_of m) allows.is plus flown next)
          ∙ ap there flown ∙ at_end plus ∙ ap (λ a. end_of (state l points held) (to units l points held a) plus) is.searched.is
          ∙ ap (λ (x : Local). end_of x (parts_from units x x.at) plus) (view l points held is.flying)
