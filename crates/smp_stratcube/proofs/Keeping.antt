-- A state after a step: what it is, and what is kept of it.
use Rattle.std.proofs.Common.{◌≡◌, ℕ, ◌+◌, ◌<◌, ◌≤◌, suc, Bool, true, false, Option, Some, None, List, [], length, get_or, arith, refl, sym, ap, ap₂, ◌∙◌, subst, inl, inr, length-take, get_or-take}
use Rattle.std.specs.List.{AllByRecursion}
use Rattle.std.proofs.lemmas.Bool.{cases_Bool, false_from_ne_true, true≢false}
use Rattle.smp_split.specs.{Trees.{EachPart, picked, weight_sum}, Laws.Parts.{picked-moved, weight_sum-moved}, Laws.Steps.{picked_is_part}}
use Rattle.smp_moves.specs.{Courses.{end_of}, Owed.{HasKept}, Cubes.{flying, pairing, values_in}}
use Rattle.smp_stratcube.specs.{Kept.Trees.{flight_parts, strat_parts, weighed_of}, declared.fronts.Front.{Front}, Units.{Units, share}}
use Rattle.smp_stratcube.proofs.{Balances.{paired_kept}, Ahead.{front_before, stays_ahead}, Pairing.{pair_of_front}, Stepped.{off_units}}
use Rattle.smp_moves.specs.{Moves.{Line, Move, Next, chosen_line, move}, Kept.Computed.{direction, IsKnown}}
use Rattle.smp_stratcube.specs.{Kept.Moves.{Answer, IsStep}, Laws.Pairs.{each_of, each_taken, stands_at, step_is}}
use Rattle.smp_moves.specs.{declared.phases.Phase.{Phase}, declared.phases.Phase.TheVariants.{Flying, Pairing}, Kept.Phases.{balancing_of}}
use Rattle.smp_stratcube.specs.{declared.values.Value.{Value}, States.{Balancing, Flight, IsFlying, IsPairing}}
use Rattle.smp_stratcube.specs.{Values.{fractional_units, is_fractional, is_settled, value}, Laws.Ends.{along_still, length_along}}
use Rattle.smp_stratcube.specs.{Kept.Computed.{chosen, moved_values, next, flight_of}, Pairs.{first_pair, paired_parts, step_units}}
use Rattle.smp_stratcube.specs.{Kept.Pairs.{is_one_of, units_by}, Kept.Fronts.{IsAhead, IsFront, front_units}, Moves.{setting_of}}
use Rattle.smp_stratcube.specs.Laws.Nexts.{end_is}
use Rattle.smp_stratcube.specs.Laws.Taken.{length_taken, taken_kept}
use Rattle.smp_stratcube.proofs.Written.{alone, some_front}
use Rattle.smp_moves.proofs.Computed.{known}

-- ---- the values of a state

pub values_of : (p : Phase) (f : Flight) (left : ℕ) → values_in (balancing_of p f f.values left) ≡ f.values
values_of Flying f left = refl
values_of Pairing f left = refl

-- in flight, the units that it is of are the own ones
pub aloft : (p : Phase) (units of : Units) (values : List Value) (rows left : ℕ) → p ≡ Flying → of ≡ units → flying (flight_of units values rows) left ≡ balancing_of p (flight_of of values rows) values left
aloft p units of values rows left flies own = ap₂ (λ q u. balancing_of q (flight_of u values rows) values left) (sym flies) (sym own)

pub settling : (p : Phase) (f : Flight) (values : List Value) (left : ℕ) → p ≡ Pairing → pairing values left ≡ balancing_of p f values left
settling p f values left pairs = ap (λ q. balancing_of q f values left) (sym pairs)

-- the step of its values is kept
pub step_there : (units of : Units) (values vs : List Value) (rows : ℕ) (found : Answer) → units ≡ of → vs ≡ values → IsStep units (flight_of units vs rows) found → IsStep of (flight_of of values rows) found
step_there units of values vs rows found own same is = subst (λ (u : Units). IsStep u (flight_of u values rows) found) own (subst (λ (xs : List Value). IsStep units (flight_of units xs rows) found) same is)

-- ---- the part that a draw picks

-- that at an end of the step, and at the end of a move
pub end_there : (units : Units) (f : Flight) (left : ℕ) (a : Next) → next units f ≡ a → (plus : Bool) → end_of (flying f left) (flight_parts units f left a) plus ≡ end_of (flying f left) (strat_parts units (flying f left)) plus
end_there units f left a e plus = ap (λ n. end_of (flying f left) (flight_parts units f left n) plus) (sym e)

pub move_end : (units : Units) (f : Flight) (left : ℕ) (m : Move) → next units f ≡ move m → (plus : Bool) → flying (chosen units f m plus) left ≡ end_of (flying f left) (strat_parts units (flying f left)) plus
move_end units f left m e true = end_there units f left (move m) e true
move_end units f left m e false = end_there units f left (move m) e false

pub picks_pair : (units : Units) (values : List Value) (left draw : ℕ) → picked (pairing values left) (strat_parts units (pairing values left)) draw ≡ pairing (picked values (paired_parts units values) draw) left
picks_pair units values left draw = picked-moved (λ t. pairing t left) values (paired_parts units values) draw

pub pair_sum : (units : Units) (values : List Value) (left : ℕ) → weight_sum (strat_parts units (pairing values left)) ≡ weight_sum (paired_parts units values)
pair_sum units values left = weight_sum-moved (λ t. pairing t left) (paired_parts units values)

-- ---- the front after a move

module _ (units : Units) (f : Flight) (ok : IsFlying units f) (front : Front) (is : IsFront f.values front) (long : front.number ≤ length front.units) (m : Move) (e : next units f ≡ move m) where
  k : IsKnown (setting_of units) (moved_values units) f (fractional_units f.values) m
  k = known (setting_of units) (moved_values units) f (fractional_units f.values) m e

  abbrev line : Line
  line = direction (share units) (fractional_units f.values) k.circuit

  few : f.rows + 1 ≤ 17
  few = omega (arith, ok.rows_in, ok.are.few_rows)

  -- a line through the units of the direction
  same_behind : (l : Line) → l.units ≡ line.units → (u : ℕ) → front.place ≤ u → value (moved_values units f.values l) u ≡ value f.values u
  same_behind l same u past =
      along_still f.values l _ _ u (off_units units f ok front is long few k.circuit k.finds l.units l.entries same u past)

  pub move_count : (plus : Bool) → length (chosen units f m plus).values ≡ length f.values
  move_count plus = length_along f.values (chosen_line m plus) _ _

  pub move_ahead : (plus : Bool) → IsAhead (chosen units f m plus).values front
  move_ahead plus =
      stays_ahead f.values (moved_values units f.values (chosen_line m plus)) front is long (move_count plus) (end_is units f ok m k plus).fewer (same_behind (chosen_line m plus) (end_is units f ok m k plus).through)

  pub move_flight : (plus : Bool) → IsFlying units (flight_of f.fixed (chosen units f m plus).values f.rows)
  move_flight plus = (end_is units f ok m k plus).flight

-- ---- the front after a pivotal step

module _ (units : Units) (values : List Value) (ok : IsPairing units values) (front : Front) (is : IsFront values front) (long : front.number ≤ length front.units) (going : is_settled values ≡ false) where
  abbrev IsBehindSame : List Value → Type 0
  IsBehindSame new = (length new ≡ length values) × ((k : ℕ) → front.place ≤ k → value new k ≡ value values k)

  in_front_before : (j : ℕ) → j < length (front_units front) → get_or (front_units front) j 0 < front.place
  in_front_before j l =
      let b : j < front.number = omega (arith, l, length-take front.number front.units) in
      subst (λ (u : ℕ). u < front.place) (sym (get_or-take front.number front.units j 0 b)) (front_before values front is long j b)

  -- the units of the step are of the front
  before : (p : Option (ℕ × ℕ)) → first_pair units (fractional_units values) ≡ p → AllByRecursion (λ k. k < front.place) (units_by p (fractional_units values))
  before (Some p) e =
      let at = stands_at units (front_units front) p (pair_of_front units ok.are values ok.values.count front is long ∙ e) in
      (subst (λ (k : ℕ). k < front.place) at.first (in_front_before at.place (omega (arith, at.inside))), (subst (λ (k : ℕ). k < front.place) at.second (in_front_before (suc at.place) at.inside), tt))
  before None e =
      subst (AllByRecursion (λ k. k < front.place)) (sym (alone units values ok front is long going e) ∙ ap (λ p. units_by p (fractional_units values)) e)
      (front_before values front is long 0 (some_front units values ok front is long going), tt)

  kept_behind : EachPart (λ q. IsBehindSame q.state) (paired_parts units values)
  kept_behind =
      let ks : List ℕ = step_units units values in
      let out : (k : ℕ) → front.place ≤ k → is_one_of ks k ≡ false =
      λ k l. false_from_ne_true (is_one_of ks k) (λ t. (let b = each_of (λ k. k < front.place) ks (before (first_pair units (fractional_units values)) refl) k t in omega (arith, b, l))) in
      each_taken units values ks IsBehindSame (λ t. (length_taken (is_one_of ks) values t, λ k l. taken_kept (is_one_of ks) values t k (out k l)))

  module _ (draw : ℕ) (l : draw < weight_sum (paired_parts units values)) where
    abbrev new : List Value
    new = picked values (paired_parts units values) draw

    pub pair_behind : (length (picked values (paired_parts units values) draw) ≡ length values) × ((k : ℕ) → front.place ≤ k → value (picked values (paired_parts units values) draw) k ≡ value values k)
    pair_behind = picked_is_part (λ q. IsBehindSame q.state) IsBehindSame (λ q h. h) values (paired_parts units values) draw kept_behind l

    fewer : (k : ℕ) → is_fractional (picked values (paired_parts units values) draw) k ≡ true → is_fractional values k ≡ true
    fewer k h =
        elim (cases_Bool (is_fractional values k)) [
          | inl t ↦ t
          | inr settled ↦ absurd (let kept = picked_is_part (λ q. HasKept (weighed_of units) (pairing values 0) q.state k) (λ t. is_fractional (values_in t) k ≡ false) (λ q z. z.still) (pairing values 0) (strat_parts units (pairing values 0)) draw
              (paired_kept units values 0 k settled (step_units units values) (step_is units values going)) (subst (λ m. draw < m) (sym (pair_sum units values 0)) l) in
              true≢false (sym h ∙ subst (λ (t : Balancing). is_fractional (values_in t) k ≡ false) (picks_pair units values 0 draw) kept))
        ]

    pub pair_ahead : IsAhead (picked values (paired_parts units values) draw) front
    pair_ahead = stays_ahead values new front is long pair_behind.0 fewer pair_behind.1
