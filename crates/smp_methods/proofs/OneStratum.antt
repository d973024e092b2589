-- The cube over all strata, of one stratum: as many units are selected in all as in the stratum, and the values are those of the request.
use Rattle.std.proofs.Common.{◌≡◌, ℕ, zero, suc, ◌+◌, ◌*◌, ◌<◌, ◌≤◌, Bool, true, false, ℤ, List, [], ◌∷◌, length, map, get_or, arith, refl, sym, ap, ap₂, subst, ◌∙◌, inl, inr, length-append}
use Rattle.std.specs.{Prelude.{◌&&◌, cond, nat_eq, slice_index_or}, List.{count_by, range_with_len}}
use Rattle.std.proofs.{lemmas.Bool.{cases_lt, eqb-true}, lemmas.List.{get_or_past}, lemmas.List.FromFn.{length-map-range_with_len}}
use Rattle.std.proofs.lemmas.List.Sums.{sum_by-cons}
use Rattle.smp_frac.specs.Fractions.{Same, over, times, whole}
use Rattle.smp_frac.proofs.Arithmetic.{same_refl, same_sym, same_trans, sum_same}
use Rattle.smp_prob.specs.{declared.requests.Request.{Request}, Requests.{IsRequest}}
use Rattle.smp_prob.proofs.Fractions.{length-numerators, numerator_is_free_fraction}
use Rattle.smp_split.specs.{Counts.{selected_count}, Means.{value_sum}, Methods.{HasCount}}
use Rattle.smp_values.specs.Starts.{IsRequested}
use Rattle.smp_values.proofs.Requests.{requested_values}
use Rattle.smp_moves.specs.{Moves.{fraction_of}, Cubes.{values_in}}
use Rattle.smp_flight.specs.Requests.{AreValues}
use Rattle.smp_stratcube.specs.{declared.values.Value.{Value}, Balances.{addend, target}, Counts.{HasCounts, selected_in}}
use Rattle.smp_stratcube.specs.{States.{Balancing, started}, Cube.{strat_tree}, Layers.{AreLayers, AreNumbers, Layer, no_layer, variables}}
use Rattle.smp_stratcube.specs.{Kept.Layers.{width, layer_of}, Requests.{AreRequested}, declared.units.Member.{Member}}
use Rattle.smp_stratcube.specs.Units.{IsUnits, Units, member_of, members_from, nobody, share, stratum, units_of}
use Rattle.smp_stratcube.specs.Values.{is_one, value_at}
use Rattle.smp_stratcube.proofs.{Balances.{first_at}, Layered.{at_offset}}

count_same : (p q : ℕ → Bool) (xs : List ℕ) → ((x : ℕ) → p x ≡ q x) → count_by p xs ≡ count_by q xs
count_same p q [] same = refl
count_same p q (x ∷ xs) same =
    sum_by-cons (λ (y : ℕ). cond (p y) 1 0) x xs
    ∙ ap₂ (λ (b : Bool) n. cond b 1 0 + n) (same x) (count_same p q xs same)
    ∙ sym (sum_by-cons (λ (y : ℕ). cond (q y) 1 0) x xs)

module _ (layer : Layer) where
  abbrev units : Units
  units = units_of (layer ∷ [])

  length_units : length units.members ≡ length layer.request.shape
  length_units =
      let own : List Member = map (member_of 1 0 layer) (range_with_len 0 (length layer.request.shape)) in
      length-append own [] ∙ omega (arith, length-map-range_with_len (member_of 1 0 layer) 0 (length layer.request.shape))

  -- all units are of the first stratum
  in_first : (k : ℕ) → stratum units k ≡ 0
  in_first k =
      elim (cases_lt k (length layer.request.shape)) [
        | inl l ↦
            (let e : k ≡ 0 + k = omega arith in
            ap (λ i. (get_or (members_from 1 0 (layer ∷ [])) i nobody).stratum) e
            ∙ ap (λ (m : Member). m.stratum) (at_offset 1 0 (layer ∷ []) 0 k (omega arith) l))
        | inr past ↦ ap (λ (m : Member). m.stratum) (get_or_past units.members k nobody (omega (arith, past, length_units)))
      ]

  all_selected : (leaf : Balancing) → selected_in units 0 leaf ≡ selected_count (strat_tree units) leaf
  all_selected leaf =
      count_same (λ k. nat_eq (stratum units k) 0 && is_one (values_in leaf) k) (is_one (values_in leaf)) (range_with_len 0 (length units.members))
      (λ k. ap (λ h. nat_eq h 0 && is_one (values_in leaf) k) (in_first k))

  module _ (are : IsUnits units) where
    all_valued : Same (target units 0) (value_sum (strat_tree units) (λ _. whole 1) (started units))
    all_valued =
        sum_same (length units.members) (addend units 0) (λ k. times (whole 1) (value_at (values_in (started units)) k))
        (λ k l. subst (λ (v : Value). Same (addend units 0 k) (times (whole 1) (fraction_of v.at))) (sym (first_at units are k))
        (subst (λ h. Same (times (whole (cond (nat_eq h 0) 1 0)) (fraction_of (share units k))) (times (whole 1) (fraction_of (share units k)))) (sym (in_first k))
        (same_refl (times (whole 1) (fraction_of (share units k))))))

    -- where the values add up to a whole number, that many units are selected
    pub one_count : HasCounts units (started units) → HasCount (strat_tree units) (started units)
    one_count counts n adds path leaf leads done =
        sym (all_selected leaf) ∙ counts 0 n (omega arith) (same_trans all_valued adds) path leaf leads done

-- the values of a request are as many for each unit
pub are_numbers : (values : List (List ℤ)) → AreValues values → AreNumbers values
are_numbers values are = record { same = are.same; few = are.few; within = are.within }

pub are_layers : (request : Request) (values : List (List ℤ)) → IsRequest request → length values ≡ length request.free → AreValues values → AreLayers (layer_of request values ∷ [])
are_layers request values is paired are = record {
  some = omega arith;
  few = omega arith;
  rows = by_count (nat_eq (length values) 0) refl;
  same = λ h. first_same h;
}
  where
    by_values : (b : Bool) → nat_eq (length values) 0 ≡ b → 1 ≤ length request.shape → width (layer_of request values) ≡ variables (layer_of request values ∷ [])
    by_values true none some = (let empty : length values ≡ 0 = eqb-true (length values) 0 none in absurd (omega (arith, empty, some, paired, is.paired)))
    by_values false more some = rw more refl

    first_same : (h : ℕ) → h < 1 → 1 ≤ length (slice_index_or (layer_of request values ∷ []) h no_layer).request.shape → width (slice_index_or (layer_of request values ∷ []) h no_layer) ≡ variables (layer_of request values ∷ [])
    first_same zero l some = by_values (nat_eq (length values) 0) refl some
    first_same (suc h) l some = absurd (omega (arith, l))

    by_count : (b : Bool) → nat_eq (length values) 0 ≡ b → 1 + variables (layer_of request values ∷ []) ≤ 16
    by_count true none = rw none (omega arith)
    by_count false more = rw more (omega (arith, are.few))

-- and each free unit has the value that is requested of it
pub one_requested : (request : Request) (values : List (List ℤ)) → IsRequest request → AreRequested (layer_of request values ∷ []) (started (units_of (layer_of request values ∷ [])))
    → IsRequested (strat_tree (units_of (layer_of request values ∷ []))) request (started (units_of (layer_of request values ∷ [])))
one_requested request values is asked =
    let layer : Layer = layer_of request values in
    requested_values request is (strat_tree (units_of (layer ∷ []))) (started (units_of (layer ∷ [])))
    (length_units layer ∙ is.paired ∙ sym (length-numerators request is))
    (λ k l. (let e : 0 + k ≡ k = omega arith in
    let within : k < length request.free = omega (arith, l, length-numerators request is) in
    same_trans (subst (λ i. Same (value_at (values_in (started (units_of (layer ∷ [])))) i) (over (get_or request.shape k 0 * request.r) request.total)) e
    (asked 0 k (omega arith) (omega (arith, within, is.paired)))) (same_sym (numerator_is_free_fraction request is k within))))
