-- The search around a head.
use Rattle.std.proofs.Common.{◌≡◌, ℕ, ◌+◌, ◌-◌, ◌<◌, ◌≤◌, true, List, [], ◌∷◌, ◌++◌, Option, Some, length, take, length-take, arith, sym, ap, ◌∙◌, subst}
use Rattle.std.specs.{Prelude.{IfSome, option_map}, List.{filter, range_with_len}}
use Rattle.std.proofs.lemmas.Bool.{true≢false}
use Rattle.smp_near.specs.Nearest.{LivingPoints, neighbours}
use Rattle.smp_prob.specs.Shares.{Shares}
use Rattle.smp_values.specs.Values.{fractional_units, is_fractional}
use Rattle.smp_values.proofs.Units.{fractional_within}
use Rattle.smp_flight.specs.{Answers.{AreSearched}, Kept.Windows.{is_in}, Selections.{IsWholeOrder}, States.{Tracked, Units}}
use Rattle.smp_moves.specs.Moves.{IsOrder, Next}
use Rattle.smp_flight.specs.{Steps.{next_on}, Laws.Firsts.{fractional_in, from_each, in_front}}
use Rattle.smp_moves.proofs.{Filtered.{filter_twice}, Entries.{order_front}}
use Rattle.smp_flight.specs.{Laws.NextProperties.{next_on_front}, Laws.WholeOrders.{in_order_going, whole_length}}
use Rattle.smp_localcube.specs.{Local.{IsCarried, front_of, head_of, is_one_of, order_around, untouched}, Kept.States.{IsSearchable, next_around, touched_in}}
use Rattle.smp_localcube.specs.Laws.Orders.{HasHead, filter_again, has_head, whole}
use Rattle.smp_flight.proofs.Free.{in_filter}
use Rattle.smp_localcube.proofs.Rising.{in_all}

module _ (f : Tracked) (ok : IsOrder f.flight.values f.window) where
  -- the touched units are the window in rising order
  pub touched_rising : filter (is_one_of f.window) (range_with_len 0 (length f.flight.values.numer)) ≡ touched_in f
  touched_rising = sym (filter_twice (is_fractional f.flight.values) (is_one_of f.window) (λ k h. in_order_going f.flight.values f.window ok k h) (range_with_len 0 (length f.flight.values.numer)))

  pub window_within : (k : ℕ) → is_one_of f.window k ≡ true → k < length f.flight.values.numer
  window_within k h = fractional_within f.flight.values k (in_order_going f.flight.values f.window ok k h)

  pub window_touched : (k : ℕ) → is_in f.window k ≡ true → is_in (touched_in f) k ≡ true
  window_touched k h = in_filter (is_one_of f.window) (fractional_units f.flight.values) k (fractional_in f.flight.values k (in_order_going f.flight.values f.window ok k h)) h

pub carried_now : (f : Tracked) (chosen : Option ℕ) → IfSome chosen (λ unit. is_fractional f.flight.values unit ≡ true) → IsCarried f.flight.values (touched_in f) chosen
carried_now f chosen is = record { touched_are = filter_again (is_one_of f.window) (fractional_units f.flight.values); chosen_is = is }

-- the points that are living
pub same_points : (points : LivingPoints) (s : Shares) (touched : List ℕ) → points.living ≡ (untouched points.coords s touched).living → points ≡ untouched points.coords s touched
same_points points s touched living = ap (λ alive. record { coords = points.coords; living = alive }) living

-- ---- a search with a head

module _ {units : Units} {f : Tracked} {points : LivingPoints} {chosen : Option ℕ} (ok : IsSearchable units f points chosen) (window_ok : IsOrder f.flight.values f.window) {touched : List ℕ} (rises : touched ≡ filter (is_one_of f.window) (range_with_len 0 (length f.flight.values.numer))) where
  touched_are : touched ≡ touched_in f
  touched_are = rises ∙ touched_rising f window_ok

  pub head_is : head_of (touched_in f) chosen ≡ head_of touched chosen
  head_is = ap (λ t. head_of t chosen) (sym touched_are)

  module _ {head : ℕ} (is : head_of touched chosen ≡ Some head) where
    has : HasHead f.flight.values (touched_in f) head
    has = has_head f.flight.values (touched_in f) chosen head ok.carried (head_is ∙ is)

    pub head_within : head < length points.coords
    head_within = omega (arith, fractional_within f.flight.values head (in_order_going f.flight.values (front_of (touched_in f) head) has.is_order head has.first), ok.placed)

    abbrev around : List ℕ
    around = order_around points.coords f.flight.values (touched_in f) head

    is_whole : IsWholeOrder f.flight.values around
    is_whole = whole points.coords f.flight.values (touched_in f) head has

    -- each touched unit is among the first
    touched_first : (touched others : List ℕ) (most k : ℕ) → length touched ≤ most → is_in touched k ≡ true → is_in (take most (front_of touched head ++ others)) k ≡ true
    touched_first [] others most k h t = absurd (true≢false (sym t))
    touched_first (u ∷ touched) others most k h t = in_front most (u ∷ touched) others k h t

    -- the units of a search of which the first ones are the touched ones, and the others follow from the points
    module _ {front order : List ℕ} {rows number : ℕ} (few : length touched ≤ rows + 1) (front_is : front ≡ front_of touched head) (rows_are : rows ≡ f.flight.rows) (size : length front ≡ number) (short : number ≤ rows + 1)
        (order_is : order ≡ front ++ take (rows + 1 - number) (neighbours points head)) where
      first_are : order ≡ take (f.flight.rows + 1) around
      first_are =
          order_is ∙ in_all front (neighbours points head) number (rows + 1) size short
          ∙ ap (λ n. take (n + 1) (front ++ neighbours points head)) rows_are
          ∙ ap (λ (us : List ℕ). take (f.flight.rows + 1) (us ++ neighbours points head)) (front_is ∙ ap (λ t. front_of t head) touched_are)
          ∙ ap (λ (p : LivingPoints). take (f.flight.rows + 1) (front_of (touched_in f) head ++ neighbours p head)) (same_points points f.flight.values (touched_in f) ok.living)

      pub searched : AreSearched f order
      searched =
          subst (AreSearched f) (sym first_are) (record {
            is_order = order_front f.flight.values around is_whole.is_order (f.flight.rows + 1);
            enough = omega (arith, length-take (f.flight.rows + 1) around, whole_length f.flight.values around is_whole);
            window = from_each (take (f.flight.rows + 1) around) f.window
                (λ k h. touched_first (touched_in f) (neighbours (untouched points.coords f.flight.values (touched_in f)) head) (f.flight.rows + 1) k (omega (arith, few, rows_are, ap length touched_are)) (window_touched f window_ok k h));
          })

      -- so the step that it finds is the next one
      pub found_next : {shape : Units} {answer : Next} → f.flight.fixed ≡ shape → answer ≡ next_on shape order f.flight → Some answer ≡ option_map (next_around f.flight.fixed points.coords f.flight (touched_in f)) (head_of (touched_in f) chosen)
      found_next {shape} {answer} same found =
          ap (λ n. Some n) (found ∙ ap (λ (us : List ℕ). next_on shape us f.flight) first_are ∙ next_on_front shape f.flight around
          ∙ ap (λ (u : Units). next_around u points.coords f.flight (touched_in f) head) (sym same))
          ∙ ap (option_map (next_around f.flight.fixed points.coords f.flight (touched_in f))) (sym (head_is ∙ is))
