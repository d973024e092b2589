-- A selection starts from the probabilities that are requested.
use Rattle.smp_moves.specs.{Cubes.{values_in}, Moves.{fraction_of}}
use Rattle.std.proofs.Common.{◌≡◌, ℕ, ◌+◌, ◌-◌, ◌*◌, ◌<◌, true, List, ◌++◌, take, length, get_or, arith, sym, ap, ap₂, ◌∙◌, subst}
use Rattle.std.specs.List.{filter, range_with_len}
use Rattle.std.proofs.{lemmas.List.{length-map}, lemmas.List.FromFn.{length-range_with_len, get_or-range_with_len}}
use Rattle.smp_split.specs.Methods.{HasMeans}
use Rattle.smp_split.proofs.Methods.{has_means}
use Rattle.smp_values.specs.Values.{fractional}
use Rattle.smp_values.proofs.Fractional.{is_fractional-between}
use Rattle.smp_stratcube.specs.{declared.fronts.Front.{Front}, declared.values.Value.{Value}, Layers.{AreLayers, Layer, no_layer}}
use Rattle.smp_frac.specs.Fractions.{Same, over}
use Rattle.smp_stratcube.specs.{Units.{Units, IsUnits, member, member_of, share, units_of}, Requests.{AreRequested, offset}}
use Rattle.smp_stratcube.specs.{Kept.Layers.{EachIsLayer}, Laws.Taken.{lowest_same}, Values.{is_fractional, value}, States.{started}}
use Rattle.smp_stratcube.proofs.{Layered.{at_offset, units_are}, Balances.{first_at, started_flying}}
use Rattle.smp_stratcube.specs.{Kept.States.{requested_value}, Method.{method_of}, Kept.Fronts.{IsAhead, units_on}}
use Rattle.smp_moves.proofs.Filtered.{filter_all}

pub strat_means : (units : Units) → IsUnits units → HasMeans (method_of units) (started units)
strat_means units are = has_means (method_of units) (started units) (started_flying units are)

-- all units are fractional, and none is touched
module _ (units : Units) (are : IsUnits units) where
  opened : (k : ℕ) → k < length units.members → is_fractional (values_in (started units)) k ≡ true
  opened k l =
      subst (λ (v : Value). fractional v.at.den v.at.num ≡ true) (sym (first_at units are k)) (is_fractional-between (share units k).den (share units k).num (are.drawn k l) (are.below_one k l))

  -- before any unit was looked at
  pub start_ahead : (front : Front) → front.number ≡ 0 → front.place ≡ 0 → IsAhead (values_in (started units)) front
  start_ahead front none first = record {
    short = omega (arith, none);
    within = omega (arith, first);
    inside = λ j l. absurd (omega (arith, l, none));
    all = ap₂ (λ n p. filter (is_fractional (values_in (started units))) (take n front.units) ++ units_on p (length (values_in (started units)))) none first
        ∙ ap (range_with_len 0) (let e : length (values_in (started units)) - 0 ≡ length (values_in (started units)) = omega arith in e)
        ∙ sym (filter_all (is_fractional (values_in (started units))) (range_with_len 0 (length (values_in (started units)))) all_open);
    fresh = λ k l. ap (λ (v : Value). v.touched) (first_at units are k);
  }
    where
      all_open : (i : ℕ) → i < length (range_with_len 0 (length (values_in (started units)))) → is_fractional (values_in (started units)) (get_or (range_with_len 0 (length (values_in (started units)))) i 0) ≡ true
      all_open i l =
          let n : ℕ = length (values_in (started units)) in
          let b : i < n = omega (arith, l, length-range_with_len 0 n) in
          subst (λ (k : ℕ). is_fractional (values_in (started units)) k ≡ true) (sym (get_or-range_with_len 0 n i 0 b))
          (opened (0 + i) (omega (arith, b, length-map units.members requested_value)))

-- ---- the requested probabilities

pub are_requested : (layers : List Layer) → AreLayers layers → EachIsLayer layers → AreRequested layers (started (units_of layers))
are_requested layers are each h place l m =
    let units : Units = units_of layers in
    let k : ℕ = offset layers h + place in
    let layer : Layer = get_or layers h no_layer in
    let a : ℕ = get_or layer.request.shape place 0 * layer.request.r in
    let at : member (units_of layers) (offset layers h + place) ≡ member_of (length layers) (0 + h) (get_or layers h no_layer) place = at_offset (length layers) 0 layers h place l m in
    let start : value (values_in (started (units_of layers))) (offset layers h + place) ≡ requested_value (member (units_of layers) (offset layers h + place)) = first_at units (units_are layers are each) k in
    let below : a < layer.request.total = (each h l).request.below_one place m in
    subst (λ (v : Value). Same (fraction_of v.at) (over a layer.request.total)) (sym (start ∙ ap requested_value at)) (lowest_same a layer.request.total (omega (arith, below)))
