-- The units of some strata are units that can be balanced.
use Rattle.std.proofs.Common.{◌≡◌, ◌≢◌, ℕ, zero, suc, ◌+◌, ◌-◌, ◌*◌, ◌/◌, ◌^◌, ◌<◌, ◌≤◌, ℤ, pos, List, [], ◌∷◌, ◌++◌, map, set, length, get_or, arith, refl, sym, ap, ◌∙◌, subst, inl, inr, mul-pos, suc-le-suc, le_of_suc-le-suc, length-append}
use Rattle.std.specs.{Int.{IsGcd}, Int.RustNames.{unsigned_abs}, Prelude.{replicate}, List.{range_with_len}}
use Rattle.std.proofs.{lemmas.Bool.{cases_lt}, lemmas.List.Elements.{All-append, All-replicate, All-set, All-take}}
use Rattle.std.proofs.lemmas.List.{get_or-append_right, get_or-map, get_or-replicate, get_or-set_other, get_or-set_same, get_or_append_left, get_or_past, length-map, length-replicate}
use Rattle.std.proofs.{lemmas.List.FromFn.{get_or-map-range_with_len, length-map-range_with_len}, lemmas.Nat.Gcd.{dvd_trans}, Math.Nat.{dvd-mul_left}}
use Prim.Native.Nat.{◌∣◌}
use Rattle.smp_frac.specs.{Fractions.{Same, over, times, whole}, Divisors.{greatest_common_divisor}}
use Rattle.smp_frac.proofs.Arithmetic.{same_trans}
use Rattle.smp_frac.specs.Laws.Gcds.{IsGcd-greatest_common_divisor}
use Rattle.smp_kernel.specs.Vectors.{entry, Within}
use Rattle.smp_prob.proofs.Fractions.{denominator_is, denominator_narrow, denominator_positive}
use Rattle.smp_values.proofs.Fractional.{fractional_is, is_fractional-between}
use Rattle.smp_moves.specs.{declared.lines.Ratio.{Ratio}, Ends.{lowest}, Moves.{fraction_of}}
use Rattle.smp_moves.proofs.{LineEnds.{lowest_is}, LowestTerms.{lowest_scaled}, Proportions.{as_product}}
use Rattle.smp_stratcube.specs.{declared.units.Member.{Member}, Layers.{AreLayers, IsLayer, Layer, no_layer}, Kept.Layers.{first_of}}
use Rattle.smp_stratcube.specs.Units.{IsUnits, column_of, member_of, members_from, nobody, units_of}
use Rattle.smp_stratcube.specs.{Laws.Taken.{lowest_divides, lowest_fractional, lowest_same}, Requests.{offset}}
use Rattle.smp_stratcube.proofs.Stored.{in_front}

-- ---- which unit stands where

module _ (strata h0 : ℕ) (layer : Layer) where
  abbrev pub own : List Member
  own = map (member_of strata h0 layer) (range_with_len 0 (length layer.request.shape))

  pub length-own : length (map (member_of strata h0 layer) (range_with_len 0 (length layer.request.shape))) ≡ length layer.request.shape
  length-own = length-map-range_with_len (member_of strata h0 layer) 0 (length layer.request.shape)

  pub own_at : (k : ℕ) → k < length layer.request.shape → get_or (map (member_of strata h0 layer) (range_with_len 0 (length layer.request.shape))) k nobody ≡ member_of strata h0 layer k
  own_at k l = get_or-map-range_with_len (member_of strata h0 layer) 0 (length layer.request.shape) k k nobody l (omega arith)

-- where each unit of a stratum stands
pub at_offset : (strata h0 : ℕ) (layers : List Layer) (h place : ℕ) → h < length layers → place < length (get_or layers h no_layer).request.shape →
    get_or (members_from strata h0 layers) (offset layers h + place) nobody ≡ member_of strata (h0 + h) (get_or layers h no_layer) place
at_offset strata h0 [] h place l m = absurd (omega (arith, l))
at_offset strata h0 (layer ∷ layers) zero place l m =
    ap (λ i. get_or (own strata h0 layer ++ members_from strata (suc h0) layers) i nobody) (let e : 0 + place ≡ place = omega arith in e)
    ∙ get_or_append_left (own strata h0 layer) (members_from strata (suc h0) layers) nobody place (omega (arith, m, length-own strata h0 layer))
    ∙ own_at strata h0 layer place m
    ∙ ap (λ i. member_of strata i layer place) (let e : h0 ≡ h0 + 0 = omega arith in e)
at_offset strata h0 (layer ∷ layers) (suc h) place l m =
    let n : ℕ = length layer.request.shape in
    let left : n + offset layers h + place - n ≡ offset layers h + place = omega arith in
    get_or-append_right (own strata h0 layer) (members_from strata (suc h0) layers) n (n + offset layers h + place) nobody (length-own strata h0 layer) (omega arith)
    ∙ ap (λ i. get_or (members_from strata (suc h0) layers) i nobody) left
    ∙ at_offset strata (suc h0) layers h place (le_of_suc-le-suc l) m
    ∙ ap (λ i. member_of strata i (get_or layers h no_layer) place) (let e : suc h0 + h ≡ h0 + suc h = omega arith in e)

-- the k-th unit is a unit of a stratum
pub record IsOf (layers : List Layer) (k : ℕ) : Type 0 where
  pub h : ℕ
  pub place : ℕ
  pub in_h : h < length layers
  pub inside : place < length (get_or layers h no_layer).request.shape
  pub at : k ≡ offset layers h + place

pub unit_of : (strata h0 : ℕ) (layers : List Layer) (k : ℕ) → k < length (members_from strata h0 layers) → IsOf layers k
unit_of strata h0 [] k l = absurd (omega (arith, l))
unit_of strata h0 (layer ∷ layers) k l =
    elim (cases_lt k (length layer.request.shape)) [
      | inl b ↦ record { h = 0; place = k; in_h = omega arith; inside = b; at = omega arith }
      | inr b ↦
          (let r = unit_of strata (suc h0) layers (k - length layer.request.shape) (omega (arith, l, b, length-own strata h0 layer, length-append (own strata h0 layer) (members_from strata (suc h0) layers))) in
          record { h = suc r.h; place = r.place; in_h = suc-le-suc r.in_h; inside = r.inside; at = omega (arith, r.at, b) })
    ]

pub unit_is : (strata h0 : ℕ) (layers : List Layer) (k : ℕ) (r : IsOf layers k) → get_or (members_from strata h0 layers) k nobody ≡ member_of strata (h0 + r.h) (get_or layers r.h no_layer) r.place
unit_is strata h0 layers k r = ap (λ i. get_or (members_from strata h0 layers) i nobody) r.at ∙ at_offset strata h0 layers r.h r.place r.in_h r.inside

-- the offsets rise
offset_rises : (layers : List Layer) (g h place : ℕ) → g < h → h < length layers → place < length (get_or layers g no_layer).request.shape → offset layers g + place < offset layers h
offset_rises [] g h place l m b = absurd (omega (arith, m))
offset_rises (layer ∷ layers) zero zero place l m b = absurd (omega (arith, l))
offset_rises (layer ∷ layers) zero (suc h) place l m b = omega (arith, b)
offset_rises (layer ∷ layers) (suc g) zero place l m b = absurd (omega (arith, l))
offset_rises (layer ∷ layers) (suc g) (suc h) place l m b = (let r = offset_rises layers g h place (le_of_suc-le-suc l) (le_of_suc-le-suc m) b in omega (arith, r))

members_few : (strata h0 : ℕ) (layers : List Layer) → ((h : ℕ) → h < length layers → length (get_or layers h no_layer).request.shape ≤ 200000) → length (members_from strata h0 layers) ≤ length layers * 200000
members_few strata h0 [] each = omega arith
members_few strata h0 (layer ∷ layers) each =
    let here = each 0 (omega arith) in
    let rest = members_few strata (suc h0) layers (λ h l. each (suc h) (suc-le-suc l)) in
    omega (arith, here, rest, length-own strata h0 layer, length-append (own strata h0 layer) (members_from strata (suc h0) layers))

-- ---- the column of a unit

module _ (strata h size : ℕ) (xs : List ℤ) (lh : h < strata) (few : strata + length xs ≤ 16) where
  abbrev front : List ℤ
  front = set (replicate strata (pos 0)) h (pos size)

  at_front : (row : ℕ) → row < strata → entry (column_of strata h size xs) row ≡ entry front row
  at_front row l = in_front strata h size xs row (omega (arith, l, few)) l

  pub own_row : entry (column_of strata h size xs) h ≡ pos size
  own_row = at_front h lh ∙ get_or-set_same (replicate strata (pos 0)) h (pos size) (pos 0) (omega (arith, lh, length-replicate strata (pos 0)))

  pub other_row : (row : ℕ) → row < strata → row ≢ h → entry (column_of strata h size xs) row ≡ pos 0
  other_row row l ne =
      at_front row l ∙ get_or-set_other (replicate strata (pos 0)) h row (pos size) (pos 0) ne ∙ get_or-replicate strata row (pos 0) (pos 0) l

  pub small_column : size ≤ 2 ^ 31 - 1 → Within (2 ^ 31 - 1) xs → Within (2 ^ 31 - 1) (column_of strata h size xs)
  small_column le w =
      let P : ℤ → Type 0 = λ x. unsigned_abs x ≤ 2 ^ 31 - 1 in
      let none : unsigned_abs (pos 0) ≤ 2 ^ 31 - 1 = omega arith in
      All-take P 16 ((front ++ xs) ++ replicate 16 (pos 0))
      (All-append P (front ++ xs) (replicate 16 (pos 0))
      (All-append P front xs (All-set P (replicate strata (pos 0)) h (pos size) le (All-replicate P strata (pos 0) none)) w)
      (All-replicate P 16 (pos 0) none))

-- ---- all of it

module _ (layers : List Layer) (are : AreLayers layers) (each : (h : ℕ) → h < length layers → IsLayer (get_or layers h no_layer)) where
  abbrev members : List Member
  members = members_from (length layers) 0 layers

  first_at : (h : ℕ) → h < length layers → get_or (map first_of layers) h 1 ≡ first_of (get_or layers h no_layer)
  first_at h l = get_or-map first_of layers h no_layer 1 l

  -- what holds of each unit
  record IsMember (m : Member) : Type 0 where
    within : m.stratum < length layers
    drawn : 0 < m.share.num
    below_one : m.share.num < m.share.den
    reduced : IsGcd m.share.num m.share.den 1
    divides : m.share.den ∣ get_or (map first_of layers) m.stratum 1
    small : Within (2 ^ 31 - 1) m.column
    some : 1 ≤ unsigned_abs (entry m.column m.stratum)
    own : entry m.column m.stratum ≡ pos (unsigned_abs (entry m.column m.stratum))
    others : (row : ℕ) → row < length layers → row ≢ m.stratum → entry m.column row ≡ pos 0
    proportional : Same (fraction_of m.share) (times (over (get_or layers m.stratum no_layer).request.r (get_or layers m.stratum no_layer).request.total) (whole (unsigned_abs (entry m.column m.stratum))))

  member_is : (h place : ℕ) → h < length layers → place < length (get_or layers h no_layer).request.shape → IsMember (member_of (length layers) h (get_or layers h no_layer) place)
  member_is h place l inside =
      let layer : Layer = get_or layers h no_layer in
      let is = each h l in
      let size : ℕ = get_or layer.request.shape place 0 in
      let xs : List ℤ = get_or layer.values place [] in
      let here : place < length layer.values = omega (arith, inside, is.one_each, is.request.paired) in
      let few : length layers + length xs ≤ 16 = (let all = are.same h l (omega (arith, inside)) in omega (arith, is.numbers.same place here, all, are.rows)) in
      let own : entry (column_of (length layers) h size xs) h ≡ pos size = own_row (length layers) h size xs l few in
      let small = is.request.small place inside in
      let a : ℕ = size * layer.request.r in
      let total : ℕ = layer.request.total in
      let free : 1 ≤ length layer.request.free = omega (arith, inside, is.request.paired) in
      let below : a < total = is.request.below_one place inside in
      let some : 1 ≤ total = omega (arith, below) in
      let between = fractional_is (lowest a total).den (lowest a total).num
      (lowest_fractional a total some ∙ is_fractional-between total a (mul-pos (is.request.positive place inside) (is.request.drawn free)) below) in
      let g : ℕ = greatest_common_divisor total layer.request.r in
      let common = IsGcd-greatest_common_divisor total layer.request.r in
      record {
        within = l;
        drawn = between.0;
        below_one = between.1;
        reduced = (lowest_is a total some).reduced;
        divides = subst (λ (n : ℕ). (lowest a total).den ∣ n) (sym (first_at h l ∙ denominator_is layer.request is.request free))
            (subst (λ (q : Ratio). q.den ∣ total / g) (lowest_scaled a total g some (dvd_trans g common.1 (dvd-mul_left layer.request.r size)) common.0)
            (lowest_divides (a / g) (total / g)));
        small = small_column (length layers) h size xs l few (omega (arith, small)) (is.numbers.within place here);
        some = rw own (is.request.positive place inside);
        own = rw own refl;
        others = other_row (length layers) h size xs l few;
        proportional = rw own (same_trans (lowest_same a total some) (as_product size layer.request.r total some));
      }

  -- the stratum of each unit, and where it stands there
  of : (k : ℕ) → k < length members → IsOf layers k
  of k l = unit_of (length layers) 0 layers k l

  is_unit : (k : ℕ) (l : k < length members) → get_or members k nobody ≡ member_of (length layers) (of k l).h (get_or layers (of k l).h no_layer) (of k l).place
  is_unit k l = unit_is (length layers) 0 layers k (of k l) ∙ ap (λ i. member_of (length layers) i (get_or layers (of k l).h no_layer) (of k l).place) (let e : 0 + (of k l).h ≡ (of k l).h = omega arith in e)

  at : (k : ℕ) → k < length members → IsMember (get_or members k nobody)
  at k l = subst IsMember (sym (is_unit k l)) (member_is (of k l).h (of k l).place (of k l).in_h (of k l).inside)

  rises : (j k : ℕ) → j ≤ k → k < length members → (get_or members j nobody).stratum ≤ (get_or members k nobody).stratum
  rises j k l m =
      let b : j < length members = omega (arith, l, m) in
      let a = of j b in
      let c = of k m in
      elim (cases_lt c.h a.h) [
        | inr h ↦ omega (arith, h, ap (λ (x : Member). x.stratum) (is_unit j b), ap (λ (x : Member). x.stratum) (is_unit k m))
        | inl h ↦ absurd (let r = offset_rises layers c.h a.h c.place h a.in_h c.inside in omega (arith, r, a.at, c.at, l))
      ]

  pub units_are : IsUnits (units_of layers)
  units_are = record {
    few = (let m = members_few (length layers) 0 layers (λ h l. (let e = each h l in omega (arith, e.request.few, e.request.paired))) in omega (arith, m, are.few));
    few_rows = are.rows;
    strata = omega (arith, length-map layers first_of);
    firsts = λ h. elim (cases_lt h (length layers)) [
      | inl l ↦ (let request = (get_or layers h no_layer).request in let is = (each h l).request in
          rw (first_at h l) (denominator_positive request is, omega (arith, denominator_narrow request is)))
      | inr past ↦ (let one : get_or (map first_of layers) h 1 ≡ 1 = get_or_past (map first_of layers) h 1 (omega (arith, past, length-map layers first_of)) in rw one (omega arith, omega arith))
    ];
    within = λ k l. omega (arith, (at k l).within, length-map layers first_of);
    rises = rises;
    drawn = λ k l. (at k l).drawn;
    below_one = λ k l. (at k l).below_one;
    reduced = λ k l. (at k l).reduced;
    divides = λ k l. (at k l).divides;
    small = λ k l. (at k l).small;
    size = λ k. unsigned_abs (entry (get_or members k nobody).column (get_or members k nobody).stratum);
    some_size = λ k l. (at k l).some;
    own_row = λ k l. (at k l).own;
    other_rows = λ k row l b ne. (at k l).others row (omega (arith, b, length-map layers first_of)) ne;
    scale = λ h. over (get_or layers h no_layer).request.r (get_or layers h no_layer).request.total;
    proportional = λ k l. (at k l).proportional;
  }
