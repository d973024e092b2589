-- The first two of a stratum, and the common denominator of a stratum, by the first fractional units.
use Rattle.std.proofs.Common.{◌≡◌, ◌≢◌, ℕ, zero, suc, ◌+◌, ◌-◌, ◌<◌, ◌≤◌, ◌^◌, nat_eq, false, Option, Some, None, List, [], ◌∷◌, ◌++◌, map, take, drop, length, get_or, arith, refl, sym, ap, ap₂, ◌∙◌, inl, inr, suc-le-suc, le_of_suc-le-suc, length-take, get_or-take}
use Rattle.std.specs.List.{filter, range_with_len}
use Rattle.std.proofs.{lemmas.Bool.{cases_Bool, eq-eqb, ne_eqb, true≢false}, lemmas.List.{append-nil, map-append, take-append-drop, take-take, take_more}, Math.Nat.{le_of_dvd}}
use Rattle.std.proofs.lemmas.{List.Elements.{filter-append}, List.Sums.{fold-append}}
use Rattle.smp_prob.specs.Given.{least_multiple}
use Rattle.smp_moves.specs.{Steps.{common_multiple}, declared.lines.Ratio.{Ratio}}
use Rattle.smp_moves.proofs.{Places.{length-rest, rest_at, rest_of}, Filtered.{filter_none}}
use Rattle.smp_stratcube.specs.{declared.fronts.Front.{Front}, declared.values.Value.{Value}, Units.{Units, IsUnits, share, stratum}}
use Rattle.smp_stratcube.specs.{Values.{fractional_units, stratum_common, value}, Pairs.{first_pair}, States.{IsPairing}}
use Rattle.smp_stratcube.specs.{Kept.Behind.{IsBehind, dens_behind}, Kept.Fronts.{IsFront, front_units, units_on}, Laws.Units.{filter_from}}
use Rattle.smp_stratcube.specs.Kept.Pairs.{HasStratum, common_in, dens_in}
use Rattle.smp_moves.proofs.Multiples.{AllSome, from, from_some, from_start, multiple_some, some_map}
use Rattle.smp_stratcube.proofs.{Ahead.{front_before, in_front, order_rises, unit_on, units_none}, Behinds.{from_multiple}}

-- ---- the first two neighbours of one stratum

module _ (units : Units) (n : ℕ) (us : List ℕ) where
  two_at : (j : ℕ) → j + 1 < n → j + 1 < length us → rest_of n us j ≡ get_or us j 0 ∷ get_or us (j + 1) 0 ∷ rest_of n us (j + 1 + 1)
  two_at j l m = rest_at n us j 0 (omega (arith, l)) (omega (arith, m)) ∙ ap (λ xs. get_or us j 0 ∷ xs) (rest_at n us (j + 1) 0 l m)

  pub pair_here : (j : ℕ) → j + 1 < n → j + 1 < length us → stratum units (get_or us j 0) ≡ stratum units (get_or us (j + 1) 0) → first_pair units (rest_of n us j) ≡ Some (get_or us j 0, get_or us (j + 1) 0)
  pair_here j l m e = ap (first_pair units) (two_at j l m) ∙ (rw (eq-eqb (stratum units (get_or us j 0)) (stratum units (get_or us (j + 1) 0)) e) refl)

  pub pair_next : (j : ℕ) → j + 1 < n → j + 1 < length us → stratum units (get_or us j 0) ≢ stratum units (get_or us (j + 1) 0) → first_pair units (rest_of n us j) ≡ first_pair units (rest_of n us (j + 1))
  pair_next j l m ne =
      ap (first_pair units) (two_at j l m)
      ∙ (let e : first_pair units (get_or us j 0 ∷ get_or us (j + 1) 0 ∷ rest_of n us (j + 1 + 1)) ≡ first_pair units (get_or us (j + 1) 0 ∷ rest_of n us (j + 1 + 1)) = rw (ne_eqb (stratum units (get_or us j 0)) (stratum units (get_or us (j + 1) 0)) ne) refl in e)
      ∙ ap (first_pair units) (sym (rest_at n us (j + 1) 0 l m))

  pub pair_none : (j : ℕ) → n ≤ j + 1 → first_pair units (rest_of n us j) ≡ None
  pair_none j past = few (rest_of n us j) (omega (arith, past, length-rest n us j, length-take n us))
    where
      few : (xs : List ℕ) → length xs ≤ 1 → first_pair units xs ≡ None
      few [] l = refl
      few (x ∷ []) l = refl
      few (x ∷ y ∷ xs) l = absurd (omega (arith, l))

-- a pair that comes first stays so
pair_append : (units : Units) (xs ys : List ℕ) (p : ℕ × ℕ) → first_pair units xs ≡ Some p → first_pair units (xs ++ ys) ≡ Some p
pair_append units [] ys p e = absurd (let h : None ≡ Some p = e in cc)
pair_append units (i ∷ []) ys p e = absurd (let h : None ≡ Some p = e in cc)
pair_append units (i ∷ j ∷ xs) ys p e =
    elim (cases_Bool (nat_eq (stratum units i) (stratum units j))) [
      | inl t ↦ rw t (rw t at e)
      | inr f ↦ rw f (pair_append units (j ∷ xs) ys p (rw f at e))
    ]

-- where there is none, neighbours are of different strata
abbrev pub AreApart : Units → List ℕ → Type 0
AreApart units xs = (j : ℕ) → suc j < length xs → stratum units (get_or xs j 0) ≢ stratum units (get_or xs (suc j) 0)

apart_more : (units : Units) (i k : ℕ) (xs : List ℕ) → nat_eq (stratum units i) (stratum units k) ≡ false → AreApart units (k ∷ xs) → AreApart units (i ∷ k ∷ xs)
apart_more units i k xs f rest zero l = λ same. true≢false (sym (eq-eqb (stratum units i) (stratum units k) same) ∙ f)
apart_more units i k xs f rest (suc j) l = rest j (le_of_suc-le-suc l)

pub apart : (units : Units) (xs : List ℕ) → first_pair units xs ≡ None → AreApart units xs
apart units [] e = λ j l. absurd (omega (arith, l))
apart units (i ∷ []) e = λ j l. absurd (omega (arith, l))
apart units (i ∷ k ∷ xs) e =
    elim (cases_Bool (nat_eq (stratum units i) (stratum units k))) [
      | inl t ↦ absurd (let h : Some (i, k) ≡ None = rw t at e in cc)
      | inr f ↦ apart_more units i k xs f (apart units (k ∷ xs) (rw f at e))
    ]

module _ (units : Units) (are : IsUnits units) (values : List Value) (count : length values ≡ length units.members) (front : Front) (is : IsFront values front) (long : front.number ≤ length front.units) where
  rising : (i j : ℕ) → i < j → j < front.number → get_or front.units i 0 < get_or front.units j 0
  rising i j l m =
      let a = in_front values front is long i (omega (arith, l, m)) in
      let b = in_front values front is long j m in
      rw (a.0, b.0) (order_rises values i j 0 l b.1)

  stratum_at : ℕ → ℕ
  stratum_at j = stratum units (get_or front.units j 0)

  rises_at : (j : ℕ) → suc j < front.number → stratum units (get_or front.units j 0) ≤ stratum units (get_or front.units (suc j) 0)
  rises_at j l =
      let a = rising j (suc j) (omega arith) l in
      let b = is.inside (suc j) l in
      are.rises (get_or front.units j 0) (get_or front.units (suc j) 0) (omega (arith, a)) (omega (arith, b, count))

  -- so each is of a stratum at least as far on as it stands in the array
  spread : first_pair units (front_units front) ≡ None → (j : ℕ) → j < front.number → j ≤ stratum units (get_or front.units j 0)
  spread e zero l = omega arith
  spread e (suc j) l =
      let before = spread e j (omega (arith, l)) in
      let le = rises_at j l in
      let ne = apart units (front_units front) e j (omega (arith, l, long, length-take front.number front.units)) in
      let a : get_or (front_units front) j 0 ≡ get_or front.units j 0 = get_or-take front.number front.units j 0 (omega (arith, l)) in
      let b : get_or (front_units front) (suc j) 0 ≡ get_or front.units (suc j) 0 = get_or-take front.number front.units (suc j) 0 l in
      let other : stratum units (get_or front.units j 0) ≢ stratum units (get_or front.units (suc j) 0) = λ h. ne (ap (stratum units) a ∙ h ∙ sym (ap (stratum units) b)) in
      omega (arith, before, le, other)

  pub pair_of_front : first_pair units (front_units front) ≡ first_pair units (fractional_units values)
  pair_of_front = by_pair (first_pair units (front_units front)) refl
    where
      by_pair : (p : Option (ℕ × ℕ)) → first_pair units (front_units front) ≡ p → first_pair units (front_units front) ≡ first_pair units (fractional_units values)
      by_pair (Some p) e = e ∙ sym (pair_append units (front_units front) (units_on front.place (length values)) p e) ∙ ap (first_pair units) is.all
      by_pair None e =
          elim is.enough [
            | inr all ↦
                ap (first_pair units) (sym (append-nil (front_units front)) ∙ ap (λ us. front_units front ++ us) (sym (units_none front.place (length values) (omega (arith, all)))) ∙ is.all)
            | inl enough ↦ absurd (let far = spread e 16 (omega (arith, enough)) in
                let inside = is.inside 16 (omega (arith, enough)) in
                let within = are.within (get_or front.units 16 0) (omega (arith, inside, count)) in
                omega (arith, far, within, are.strata, are.few_rows))
          ]

-- ---- least common multiples

pub most_of : (m : ℕ) (ns : List ℕ) → 1 ≤ m → AllSome ns → m ≤ from m ns
most_of m ns some all = le_of_dvd (from_some m ns some all) (from_start m ns some all)

pub map_same : (f g : ℕ → ℕ) (xs : List ℕ) → ((j : ℕ) → j < length xs → f (get_or xs j 0) ≡ g (get_or xs j 0)) → map f xs ≡ map g xs
map_same f g [] h = refl
map_same f g (x ∷ xs) h = ap₂ (λ y ys. y ∷ ys) (h 0 (omega arith)) (map_same f g xs (λ j l. h (suc j) (suc-le-suc l)))

-- ---- of a stratum

module _ (units : Units) (values : List Value) (ok : IsPairing units values) (front : Front) (is : IsFront values front) (long : front.number ≤ length front.units) (h : ℕ) where
  abbrev dens : List ℕ → List ℕ
  dens = dens_in units values h

  abbrev on : List ℕ
  on = units_on front.place (length values)

  pub dens_some : (ks : List ℕ) → AllSome (dens ks)
  dens_some ks = some_map (λ k. (value values k).at.den) (filter (λ k. nat_eq (stratum units k) h) ks) (λ k. (ok.values.each k).positive)

  pub common_some : (ks : List ℕ) → 1 ≤ common_in units values h ks
  common_some ks = multiple_some (dens ks) (dens_some ks)

  -- that of some units, and of others
  common_both : (ks ls : List ℕ) → common_in units values h (ks ++ ls) ≡ from (common_in units values h ks) (dens_in units values h ls)
  common_both ks ls =
      ap (λ us. common_multiple (map (λ k. (value values k).at.den) us)) (filter-append (λ k. nat_eq (stratum units k) h) ks ls)
      ∙ ap common_multiple (map-append (λ k. (value values k).at.den) (filter (λ k. nat_eq (stratum units k) h) ks) (filter (λ k. nat_eq (stratum units k) h) ls))
      ∙ fold-append least_multiple 1 (dens ks) (dens ls)

  -- with a unit more of the front: it is of the stratum, or it isn't
  common_more : (j : ℕ) → j < front.number → common_in units values h (take (j + 1) front.units) ≡ from (common_in units values h (take j front.units)) (dens_in units values h (get_or front.units j 0 ∷ []))
  common_more j l = ap (common_in units values h) (take_more front.units j 0 (omega (arith, l, long))) ∙ common_both (take j front.units) (get_or front.units j 0 ∷ [])

  pub common_here : (j : ℕ) → j < front.number → stratum units (get_or front.units j 0) ≡ h →
      common_in units values h (take (j + 1) front.units) ≡ least_multiple (common_in units values h (take j front.units)) (value values (get_or front.units j 0)).at.den
  common_here j l e = common_more j l ∙ (rw (eq-eqb (stratum units (get_or front.units j 0)) h e) refl)

  pub common_past : (j : ℕ) → j < front.number → stratum units (get_or front.units j 0) ≢ h → common_in units values h (take (j + 1) front.units) ≡ common_in units values h (take j front.units)
  common_past j l away = common_more j l ∙ (rw (ne_eqb (stratum units (get_or front.units j 0)) h away) refl)

  pub in_two : stratum_common units values h ≡ from (common_in units values h (front_units front)) (dens_in units values h (units_on front.place (length values)))
  in_two = ap (common_in units values h) (sym is.all) ∙ common_both (front_units front) on

  -- that of the first units of the front is at most that of the stratum
  pub common_most : (j : ℕ) → j ≤ front.number → common_in units values h (take j front.units) ≤ 2 ^ 80
  common_most j l =
      let rest : List ℕ = drop j (front_units front) in
      let whole : take j front.units ++ rest ≡ front_units front = ap (λ ks. ks ++ rest) (sym (take-take j front.number front.units l)) ∙ take-append-drop j (front_units front) in
      let within : common_in units values h (front_units front) ≡ from (common_in units values h (take j front.units)) (dens rest) = ap (common_in units values h) (sym whole) ∙ common_both (take j front.units) rest in
      let a = most_of (common_in units values h (take j front.units)) (dens rest) (common_some (take j front.units)) (dens_some rest) in
      let b = most_of (common_in units values h (front_units front)) (dens on) (common_some (front_units front)) (dens_some on) in
      omega (arith, a, b, within, in_two, ok.narrow h)

  -- where no unit from the place on is of the stratum
  pub none_on : ((k : ℕ) → front.place ≤ k → k < length values → stratum units k ≢ h) → stratum_common units values h ≡ common_in units values h (front_units front)
  none_on others =
      in_two
      ∙ ap (λ ks. from (common_in units values h (front_units front)) (map (λ k. (value values k).at.den) ks))
      (filter_none (λ k. nat_eq (stratum units k) h) on (λ i l. (let at = unit_on front.place (length values) i l in ne_eqb (stratum units (get_or on i 0)) h (others (get_or on i 0) (omega (arith, at.0)) (omega (arith, at.0, at.1))))))

  -- where the unit at the place is
  pub some_on : front.place < length values → stratum units front.place ≡ h → (b : ℕ) → IsBehind units.members front.place b → stratum_common units values h ≡ least_multiple (common_in units values h (front_units front)) b
  some_on l e b behind =
      in_two
      ∙ from_multiple (common_in units values h (front_units front)) (dens on) (common_some (front_units front)) (dens_some on)
      ∙ ap (λ ns. least_multiple (common_in units values h (front_units front)) (common_multiple ns)) same_dens
      ∙ ap (least_multiple (common_in units values h (front_units front))) (ap (λ x. common_multiple (dens_behind units.members x front.place)) (sym e) ∙ sym behind)
    where
      same_dens : dens (units_on front.place (length values)) ≡ dens_behind units.members h front.place
      same_dens =
          map_same (λ k. (value values k).at.den) (λ k. (share units k).den) (filter (λ k. nat_eq (stratum units k) h) on) same_at
          ∙ ap (λ n. map (λ k. (share units k).den) (filter (λ k. nat_eq (stratum units k) h) (range_with_len front.place (n - front.place)))) ok.values.count
        where
          same_at : (j : ℕ) → j < length (filter (λ k. nat_eq (stratum units k) h) (units_on front.place (length values))) →
              (value values (get_or (filter (λ k. nat_eq (stratum units k) h) (units_on front.place (length values))) j 0)).at.den ≡ (share units (get_or (filter (λ k. nat_eq (stratum units k) h) (units_on front.place (length values))) j 0)).den
          same_at j m =
              let from_on = filter_from (λ k. nat_eq (stratum units k) h) (units_on front.place (length values)) j m in
              let at = unit_on front.place (length values) from_on.0 from_on.1 in
              let k : ℕ = get_or (filter (λ k. nat_eq (stratum units k) h) (units_on front.place (length values))) j 0 in
              let is_k : k ≡ front.place + from_on.0 = sym from_on.2 ∙ at.0 in
              ap (λ (r : Ratio). r.den) (ok.fresh k (omega (arith, is_k, at.1, ok.values.count)) (is.fresh k (omega (arith, is_k))))

-- a stratum with a unit in the front has none behind the place, where the unit at the place is of another
pub other_on : (units : Units) (are : IsUnits units) (values : List Value) → length values ≡ length units.members → (front : Front) → IsFront values front → front.number ≤ length front.units → (h : ℕ) → HasStratum units front h →
    ((front.place < length values) → stratum units front.place ≢ h) → (k : ℕ) → front.place ≤ k → k < length values → stratum units k ≢ h
other_on units are values count front is long h has other k l m same =
    let u : ℕ = get_or front.units has.place 0 in
    let before : u < front.place = front_before values front is long has.place has.inside in
    let a = are.rises u front.place (omega (arith, before)) (omega (arith, l, m, count)) in
    let b = are.rises front.place k l (omega (arith, m, count)) in
    other (omega (arith, l, m)) (omega (arith, a, b, has.is, same))
