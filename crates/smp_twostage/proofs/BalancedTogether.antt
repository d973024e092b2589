-- What the cube over all strata balances among the free units, it balances over all units: the certain ones add the same to each total.
use Rattle.std.proofs.Common.{◌≡◌, ℕ, suc, ◌+◌, ◌<◌, ◌≤◌, ◌⊎◌, Bool, true, false, cond, List, [], ◌∷◌, All, length, map, get_or, arith, refl, sym, ◌∙◌, subst, inl, inr}
use Rattle.std.proofs.{lemmas.Bool.{cases_eq, eq-eqb, ne_eqb}, lemmas.List.{get_or-map, length-map}}
use Rattle.std.proofs.lemmas.List.Elements.{All-cons, All-head, All-nil, All-tail}
use Rattle.smp_frac.specs.{Fractions.{Fraction, Same, plus, sum_below, times, whole}, Bounds.{absolute}}
use Rattle.smp_frac.proofs.Arithmetic.{plus_same, same_refl, same_sym, same_trans, times_same, zero-times}
use Rattle.smp_moves.specs.{Owed.{balance_of}, Cubes.{values_in}, Balances.{IsBalanced}}
use Rattle.smp_flight.specs.Totals as free
use Rattle.smp_stratcube.specs.{Balances.{addend, expanded, weighed_of}, States.{Balancing, started}, Kept.Layers.{width, first_of}}
use Rattle.smp_stratcube.specs.{Layers.{AreLayers, IsLayer, Layer, no_layer, variables}, Units.{IsUnits, Units, members_from}}
use Rattle.smp_stratcube.specs.Values.{is_fractional, is_one, value_at}
use Rattle.smp_stratcube.proofs.{Balances.{started_flying, strat_balanced}, Layered.{units_are}}
use Rattle.smp_twostage.specs.Strata.{StratumUnits, AreStratumUnits, column_count, free_units, free_values}
use Rattle.smp_twostage.specs.Totals.{EachFrameIsBalanced, IsBalancedFrame, IsFrame, columns_in, error_bound, estimate, frame_balance, frame_units, known, layers_of, over_frame, total}
use Rattle.smp_twostage.proofs.{Absolute.{absolute_same}, AddedTotals.{is_added}, LayerRuns.{all_units}, BalanceTerms.{cond_same}}
use Rattle.smp_twostage.proofs.Balances.{bound_apart, bound_in, estimate_apart, estimate_in, fixed, free_are_values, known_apart, known_in, one_each, same_length, total_apart, total_in}
use Rattle.smp_twostage.proofs.FrameSums.{ArePaired, both, layer_in, over_plus, over_same}
use Rattle.smp_twostage.proofs.FrameTerms.{Counts, IsIn, added, adds, counted, counts_for, over_units, part_of}

-- ---- the strata as they are drawn from

layer_ok : (s : StratumUnits) → AreStratumUnits s → IsLayer (layer_in s)
layer_ok s ok =
    let values = free_are_values s ok in
    record { request = ok.request; one_each = one_each s ok; numbers = record { same = values.same; few = values.few; within = values.within } }

no_units : StratumUnits
no_units = record { request = record { certain = []; free = []; shape = []; r = 0; total = 0 }; values = [] }

-- so many balancing values has each unit that there is
abbrev Has : ℕ → StratumUnits → Type 0
Has columns s = AreStratumUnits s × (column_count s ≡ columns)

abbrev IsEmpty : StratumUnits → Type 0
IsEmpty s = length s.request.free ≡ 0

variables_are : (columns : ℕ) (frame : List StratumUnits) → All (Has columns) frame → (variables (layers_of frame) ≡ columns) ⊎ (All IsEmpty frame × (variables (layers_of frame) ≡ 0))
variables_are columns [] are = inr (All-nil IsEmpty, refl)
variables_are columns (s ∷ frame) are =
    let own : Has columns s = All-head (Has columns) s frame are in
    let count : length (free_values s) ≡ length s.request.free = one_each s own.0 in
    elim (cases_eq (length s.request.free) 0) [
      | inl none ↦
          rw (eq-eqb (length (free_values s)) 0 (count ∙ none))
          (elim (variables_are columns frame (All-tail (Has columns) s frame are)) [
            | inl all ↦ inl all
            | inr rest ↦ inr (All-cons IsEmpty s frame none rest.0, rest.1)
          ])
      | inr some ↦
          rw (ne_eqb (length (free_values s)) 0 (λ e. some (sym count ∙ e)))
          (inl (same_length s own.0 0 (omega (arith, some)) ∙ own.1))
    ]

no_members : (count h : ℕ) (frame : List StratumUnits) → All AreStratumUnits frame → All IsEmpty frame → length (members_from count h (layers_of frame)) ≡ 0
no_members count h [] ok empty = refl
no_members count h (s ∷ frame) ok empty =
    let own = (All-head AreStratumUnits s frame ok).request.paired in
    let none : length s.request.free ≡ 0 = All-head IsEmpty s frame empty in
    let rest = no_members count (suc h) frame (All-tail AreStratumUnits s frame ok) (All-tail IsEmpty s frame empty) in
    omega (arith, all_units count h (layer_in s) (layers_of frame), rest, own, none)

-- ---- the sums

module _ (frame : List StratumUnits) (is : IsFrame frame) where
  abbrev units : Units
  units = frame_units frame

  abbrev count : ℕ
  count = length (layers_of frame)

  all : length (layers_of frame) ≡ length frame
  all = length-map frame layer_in

  are : All (IsIn (length (layers_of frame))) frame
  are k d l = (let rows = is.rows in record { ok = is.each k d l; few = omega (arith, is.same k d l, rows, all) })

  paired : ArePaired frame
  paired k d l = (is.each k d l).request.paired

  have : All (Has (columns_in frame)) frame
  have k d l = (is.each k d l, is.same k d l)

  -- what is balanced among the free units
  layer_at : (h : ℕ) → h < length (layers_of frame) → get_or (layers_of frame) h no_layer ≡ layer_in (get_or frame h no_units)
  layer_at h l = get_or-map layer_in frame h no_units no_layer (omega (arith, l, all))

  unit_ok : (h : ℕ) → h < length (layers_of frame) → Has (columns_in frame) (get_or frame h no_units)
  unit_ok h l = have h no_units (omega (arith, l, all))

  layers_ok : (h : ℕ) → h < length (layers_of frame) → IsLayer (get_or (layers_of frame) h no_layer)
  layers_ok h l = subst IsLayer (sym (layer_at h l)) (layer_ok (get_or frame h no_units) (unit_ok h l).0)

  variables_most : variables (layers_of frame) ≤ columns_in frame
  variables_most = elim (variables_are (columns_in frame) frame have) [
    | inl e ↦ omega (arith, e)
    | inr e ↦ (let none = e.1 in omega (arith, none))
  ]

  same_width : (h : ℕ) → h < length (layers_of frame) → 1 ≤ length (layer_in (get_or frame h no_units)).request.shape → width (layer_in (get_or frame h no_units)) ≡ variables (layers_of frame)
  same_width h l some =
      let s : StratumUnits = get_or frame h no_units in
      let ok = unit_ok h l in
      let free : 0 < length s.request.free = (let pair = ok.0.request.paired in omega (arith, some, pair)) in
      let own : width (layer_in s) ≡ columns_in frame = same_length s ok.0 0 free ∙ ok.1 in
      elim (variables_are (columns_in frame) frame have) [
        | inl e ↦ own ∙ sym e
        | inr e ↦ (let none : length s.request.free ≡ 0 = e.0 h no_units (omega (arith, l, all)) in absurd (omega (arith, none, free)))
      ]

  layers_are : AreLayers (layers_of frame)
  layers_are =
      let some = is.some in
      let few = is.few in
      let rows = is.rows in
      record {
        some = omega (arith, some, all);
        few = omega (arith, few, all);
        rows = omega (arith, rows, all, variables_most);
        same = λ h l. subst (λ (t : Layer). 1 ≤ length t.request.shape → width t ≡ variables (layers_of frame)) (sym (layer_at h l)) (same_width h l);
      }

  are_units : IsUnits (frame_units frame)
  are_units = units_are (layers_of frame) layers_are layers_ok

  counts : Counts (length (layers_of frame)) (counts_for (length (map first_of (layers_of frame)))) (λ s. free.expanded (free_units s))
  counts =
      subst (λ (n : ℕ). Counts (length (layers_of frame)) (counts_for n) (λ s. free.expanded (free_units s))) (sym (length-map (layers_of frame) first_of)) (counted (length (layers_of frame)))

  adding : Counts (length (layers_of frame)) (adds (length (map first_of (layers_of frame)))) (λ s. free.addend (free_units s))
  adding =
      subst (λ (n : ℕ). Counts (length (layers_of frame)) (adds n) (λ s. free.addend (free_units s))) (sym (length-map (layers_of frame) first_of)) (added (length (layers_of frame)))

  -- what the certain units add
  abbrev certain_part : ℕ → ℕ → StratumUnits → Fraction
  certain_part before row s = fixed s row

  abbrev certain : ℕ → Fraction
  certain row = over_frame certain_part frame row

  -- what the free units add, of a sum, and the certain ones
  with_certain : (part free_part : ℕ → ℕ → StratumUnits → Fraction) → ((before row : ℕ) (s : StratumUnits) → IsIn (length (layers_of frame)) s → Same (part before row s) (plus (free_part before row s) (fixed s row)))
      → (row : ℕ) (sum : Fraction) → Same sum (over_frame free_part frame row) → Same (over_frame part frame row) (plus sum (over_frame certain_part frame row))
  with_certain part free_part each row sum is_sum =
      same_trans (over_same (IsIn (length (layers_of frame))) part (both free_part certain_part) each frame are row)
      (same_trans (over_plus free_part certain_part frame row) (plus_same (same_sym is_sum) (same_refl (over_frame certain_part frame row))))

  module _ (t : Balancing) where
    abbrev by_value : Fraction → ℕ → Fraction
    by_value x i = times x (value_at (values_in t) i)

    abbrev where_one : Fraction → ℕ → Fraction
    where_one x i = cond (is_one (values_in t) i) x (whole 0)

    abbrev where_open : Fraction → ℕ → Fraction
    where_open x i = cond (is_fractional (values_in t) i) (absolute x) (whole 0)

    value_alike : (a b : Fraction) (i : ℕ) → Same a b → Same (by_value a i) (by_value b i)
    value_alike a b i h = times_same h (same_refl (value_at (values_in t) i))

    one_alike : (a b : Fraction) (i : ℕ) → Same a b → Same (where_one a i) (where_one b i)
    one_alike a b i h = cond_same (is_one (values_in t) i) h

    open_alike : (a b : Fraction) (i : ℕ) → Same a b → Same (where_open a i) (where_open b i)
    open_alike a b i h = cond_same (is_fractional (values_in t) i) (absolute_same a b h)

    no_one : (i : ℕ) → Same (where_one (whole 0) i) (whole 0)
    no_one i = either (is_one (values_in t) i)
      where
        either : (b : Bool) → Same (cond b (whole 0) (whole 0)) (whole 0)
        either true = same_refl (whole 0)
        either false = same_refl (whole 0)

    no_open : (i : ℕ) → Same (where_open (whole 0) i) (whole 0)
    no_open i = either (is_fractional (values_in t) i)
      where
        either : (b : Bool) → Same (cond b (absolute (whole 0)) (whole 0)) (whole 0)
        either true = same_refl (whole 0)
        either false = same_refl (whole 0)

    total_is : (row : ℕ) → Same (total frame (value_at (values_in t)) row) (plus ((balance_of (weighed_of units)).total t row) (over_frame certain_part frame row))
    total_is row =
        with_certain (λ before r s. total_in s (λ u. value_at (values_in t) (before + u)) r)
        (part_of by_value value_alike (λ i. zero-times (value_at (values_in t) i)) count (counts_for (length units.firsts)) (λ s. free.expanded (free_units s)) counts)
        (λ before r s in_. total_apart s in_.ok (λ u. value_at (values_in t) (before + u)) r)
        row ((balance_of (weighed_of units)).total t row)
        (over_units by_value value_alike (λ i. zero-times (value_at (values_in t) i)) count (counts_for (length units.firsts)) (λ s. free.expanded (free_units s)) counts frame paired are all row)

    estimate_is : (row : ℕ) → Same (estimate frame (is_one (values_in t)) row) (plus ((balance_of (weighed_of units)).estimate t row) (over_frame certain_part frame row))
    estimate_is row =
        with_certain (λ before r s. estimate_in s (λ u. is_one (values_in t) (before + u)) r)
        (part_of where_one one_alike no_one count (counts_for (length units.firsts)) (λ s. free.expanded (free_units s)) counts)
        (λ before r s in_. estimate_apart s in_.ok (λ u. is_one (values_in t) (before + u)) r)
        row ((balance_of (weighed_of units)).estimate t row)
        (over_units where_one one_alike no_one count (counts_for (length units.firsts)) (λ s. free.expanded (free_units s)) counts frame paired are all row)

    bound_is : (row : ℕ) → Same ((balance_of (weighed_of units)).bound t row) (error_bound frame (is_fractional (values_in t)) row)
    bound_is row =
        same_trans (over_units where_open open_alike no_open count (counts_for (length units.firsts)) (λ s. free.expanded (free_units s)) counts frame paired are all row)
        (over_same (IsIn (length (layers_of frame)))
        (part_of where_open open_alike no_open count (counts_for (length units.firsts)) (λ s. free.expanded (free_units s)) counts)
        (λ before r s. bound_in s (λ u. is_fractional (values_in t) (before + u)) r)
        (λ before r s in_. same_sym (bound_apart s in_.ok (λ u. is_fractional (values_in t) (before + u)) r)) frame are row)

  known_is : (row : ℕ) → Same (known frame row) (plus ((balance_of (weighed_of units)).known row) (over_frame certain_part frame row))
  known_is row =
      with_certain (λ before r s. known_in s r)
      (part_of (λ x i. x) (λ a b i h. h) (λ i. same_refl (whole 0)) count (adds (length units.firsts)) (λ s. free.addend (free_units s)) adding)
      (λ before r s in_. known_apart s in_.ok r)
      row ((balance_of (weighed_of units)).known row)
      (over_units (λ x i. x) (λ a b i h. h) (λ i. same_refl (whole 0)) count (adds (length units.firsts)) (λ s. free.addend (free_units s)) adding frame paired are all row)

  -- rows past those of the free units are there where there are none
  none_past : (row : ℕ) → length (layers_of frame) + variables (layers_of frame) ≤ row → row < length frame + columns_in frame → length units.members ≡ 0
  none_past row past l =
      elim (variables_are (columns_in frame) frame have) [
        | inl e ↦ absurd (omega (arith, past, l, e, all))
        | inr e ↦ no_members count 0 frame is.each e.0
      ]

  none_left : (f g : ℕ → Fraction) (n : ℕ) → n ≡ 0 → Same (sum_below n f) (sum_below n g)
  none_left f g n none = subst (λ (m : ℕ). Same (sum_below m f) (sum_below m g)) (sym none) (same_refl (whole 0))

  nothing_left : (g : ℕ → Fraction) (n : ℕ) → n ≡ 0 → Same (whole 0) (sum_below n g)
  nothing_left g n none = subst (λ (m : ℕ). Same (whole 0) (sum_below m g)) (sym none) (same_refl (whole 0))

  free_balanced : IsBalanced (frame_balance frame) (started (frame_units frame))
  free_balanced =
      let n : ℕ = length units.members in
      is_added (balance_of (weighed_of units)) (λ t. total frame (value_at (values_in t))) (known frame) (λ t. estimate frame (is_one (values_in t))) (λ t. error_bound frame (is_fractional (values_in t)))
      certain (length frame + columns_in frame)
      total_is known_is estimate_is bound_is
      (omega (arith, all, variables_most))
      (λ t row past l. none_left (λ k. times (expanded units row k) (value_at (values_in t) k)) (addend units row) n (none_past row past l))
      (λ t row past l. none_left (λ k. cond (is_one (values_in t) k) (expanded units row k) (whole 0)) (addend units row) n (none_past row past l))
      (λ t row past l. nothing_left (λ k. cond (is_fractional (values_in t) k) (absolute (expanded units row k)) (whole 0)) n (none_past row past l))
      (started units) (strat_balanced units are_units)

  pub is_balanced : IsBalancedFrame frame
  is_balanced = record { own = started_flying units are_units; balanced = free_balanced }

pub each_frame_is_balanced : EachFrameIsBalanced
each_frame_is_balanced frame is = is_balanced frame is
