-- What is told of the first stage units of a section can be told.
use Rattle.std.proofs.Common.{◌≡◌, ℕ, ◌+◌, ◌-◌, ◌^◌, ◌<◌, ◌≤◌, Bool, true, false, ℤ, List, [], ◌∷◌, ◌++◌, All, length, map, get_or, Option, Some, arith, refl, sym, ap, ◌∙◌, subst}
use Rattle.std.specs.{Prelude.{if◌then◌else◌, option_map, unwrap_or}, List.{range_with_len, slice_get}}
use Rattle.std.proofs.{lemmas.Bool.{lt-ltb}, lemmas.Simd.{map-map}, lemmas.List.Elements.{All-from_get_or, All-get_or}}
use Rattle.std.proofs.lemmas.List.FromFn.{get_or-map-range_with_len, length-map-range_with_len, map-range_with_len_more}
use Rattle.std.proofs.lemmas.Option.{get_or_from_slice_get, slice_get-map, slice_get_within}
use Rattle.smp_frac.specs.{Fractions.{Same}, declared.fractions.Frac.{Frac}, Exact.{fraction}, LowestTerms.{lowest_terms}}
use Rattle.smp_kernel.specs.Vectors.{Within}
use Rattle.smp_prob.specs.Inclusions.{asked_fraction, inclusion}
use Rattle.smp_twostage.specs.DrawnLines as balance
use Rattle.smp_twostage.specs.{DrawnLines.{AreTold}, Strata.{values_of}, Totals.{can_be_selected}, Lines.{seat_values, told, told_seats}}
use Rattle.smp_twostage.proofs.{ToldLines.{asked_is, asked_positive}, Columns.{is_planned, near_within, stratum_at}}
use Rattle.smp_design.specs.Words.{balances}
use Rattle.smp_methods.specs.declared.any.AnyState.{AnyState}
use Rattle.smp_split.specs.Laws.Reads.{some_within}
use Rattle.smp_strata.specs.{Bounds.{IsFirst}, Plans.{Plan}, Seats.{IsSeat, first_fraction}, declared.strata.FirstUnit.{FirstUnit}}
use Rattle.smp_strata.specs.{declared.strata.Seat.{Seat}, declared.strata.Stratum.{Stratum}}
use Rattle.smp_twostage.specs.{Kept.Stages.{IsThere, each_told, told_count, told_seat}, Plans.{CanBeDrawn}, Starts.{covered_first}}
use Rattle.smp_twostage.specs.{Selections.{Coverage, balancing, covers, is_together, place_of, units_at}, Laws.Places.{place_is_seat}}
use Rattle.smp_twostage.specs.Laws.Staged.{first_is, place_stands}
use Rattle.smp_twostage.proofs.Told.{balance_few, covered_open}

-- one more
pub next_told : {A : Type 0} (f : ℕ → A) (i : ℕ) (done new : List A) (x : A) → done ≡ map f (range_with_len 0 i) → x ≡ f i → new ≡ done ++ x ∷ [] → new ≡ map f (range_with_len 0 (i + 1))
next_told f i done new x so_far is more =
    more ∙ ap (λ xs. xs ++ x ∷ []) so_far ∙ ap (λ y. map f (range_with_len 0 i) ++ y ∷ []) is ∙ sym (map-range_with_len_more f 0 i i (omega arith))

-- ---- a first stage unit, by its place

pub record Stands (plan : Plan) (p : Seat) : Type 0 where
  pub stratum : Stratum
  pub unit : FirstUnit
  pub is_stratum : slice_get plan.strata p.stratum ≡ Some stratum
  pub is_unit : slice_get stratum.units p.unit ≡ Some unit

pub stands : (plan : Plan) (p : Seat) → IsThere plan p → Stands plan p
stands plan p there =
    let s = some_within plan.strata p.stratum there.stratum in
    let u = some_within s.0.units p.unit (subst (λ (o : Option Stratum). p.unit < length (units_at o)) s.1 there.unit) in
    record { stratum = s.0; unit = u.0; is_stratum = s.1; is_unit = u.1 }

module _ (plan : Plan) (p : Seat) (s : Stratum) (u : FirstUnit) (is_stratum : slice_get plan.strata p.stratum ≡ Some s) (is_unit : slice_get s.units p.unit ≡ Some u) where
  abbrev of_unit : FirstUnit → List ℤ
  of_unit v = v.balance

  pub values_there : seat_values plan p ≡ u.balance
  values_there =
      ap (λ (o : Option Stratum). unwrap_or (option_map (λ (t : Stratum). values_of (balancing t) p.unit) o) []) is_stratum
      ∙ get_or_from_slice_get (map of_unit s.units) p.unit u.balance [] (slice_get-map of_unit s.units p.unit ∙ ap (option_map of_unit) is_unit)

  pub fraction_there : first_fraction plan.strata p.stratum p.unit ≡ asked_fraction s.request p.unit
  fraction_there = rw is_stratum refl

-- its probability, as the code finds it
pub asked_so : (plan : Plan) (p : Seat) → IsThere plan p → (f : Frac) → Same (fraction f) (first_fraction plan.strata p.stratum p.unit) → f ≡ lowest_terms (first_fraction plan.strata p.stratum p.unit)
asked_so plan p there f h =
    let at = stands plan p there in
    let is : first_fraction plan.strata p.stratum p.unit ≡ asked_fraction at.stratum.request p.unit = fraction_there plan p at.stratum at.unit at.is_stratum at.is_unit in
    asked_is at.stratum.request f p.unit (subst (Same (fraction f)) is h) ∙ ap lowest_terms (sym is)

-- its values, as the code finds them
module _ (plan : Plan) (p : Seat) (there : IsThere plan p) (s : Stratum) (is_s : s ≡ get_or plan.strata p.stratum s) where
  own : slice_get plan.strata p.stratum ≡ Some s
  own = stratum_at plan.strata p.stratum s there.stratum is_s

  pub unit_there : p.unit < length s.units
  unit_there = subst (λ (o : Option Stratum). p.unit < length (units_at o)) own there.unit

  pub value_is : (u : FirstUnit) → u ≡ get_or s.units p.unit u → u.balance ≡ seat_values plan p
  value_is u is_u =
      let v = some_within s.units p.unit unit_there in
      let same : u ≡ v.0 = is_u ∙ get_or_from_slice_get s.units p.unit v.0 u v.1 in
      ap (λ (w : FirstUnit). w.balance) same ∙ sym (values_there plan p s v.0 own v.1)

-- ---- where those of a section stand

module _ (c : Coverage) (h : ℕ) where
  seats_by : (b : Bool) →
      (if b then map (place_of c.plan.strata) (range_with_len 0 c.plan.rows) else map (λ k. record { stratum = h; unit = k; place = 0 }) (range_with_len 0 (length (units_at (slice_get c.plan.strata h)))))
      ≡ map (λ i. if b then place_of c.plan.strata i else record { stratum = h; unit = i; place = 0 }) (range_with_len 0 (if b then c.plan.rows else length (units_at (slice_get c.plan.strata h))))
  seats_by true = refl
  seats_by false = refl

  pub each_is : {A : Type 0} (says : Seat → A) → map says (told_seats c h) ≡ each_told says c h (told_count c h)
  each_is says = ap (map says) (seats_by (is_together c)) ∙ map-map says (told_seat c h) (range_with_len 0 (told_count c h))

  each_long : {A : Type 0} (says : Seat → A) → length (map says (told_seats c h)) ≡ told_count c h
  each_long says = ap length (each_is says) ∙ length-map-range_with_len (λ i. says (told_seat c h i)) 0 (told_count c h)

  each_at : {A : Type 0} (says : Seat → A) (i : ℕ) (d : A) → i < told_count c h → get_or (map says (told_seats c h)) i d ≡ says (told_seat c h i)
  each_at says i d l = ap (λ xs. get_or xs i d) (each_is says) ∙ get_or-map-range_with_len (λ k. says (told_seat c h k)) 0 (told_count c h) i i d l (omega arith)

  module _ (drawable : CanBeDrawn c.plan) (l : h < length c.plan.strata) (covered : covers c h ≡ true) where
    -- each stratum is covered where all are drawn together
    covered_by : is_together c ≡ true → (g : ℕ) → g < length c.plan.strata → covers c g ≡ true
    covered_by one g m = rw (lt-ltb g (length c.plan.strata) m, one) refl

    abbrev Here : Seat → Type 0
    Here p = IsThere c.plan p × (covers c p.stratum ≡ true)

    place_here : is_together c ≡ true → (i : ℕ) → i < c.plan.rows → Here (place_of c.plan.strata i)
    place_here one i m =
        let p : Seat = place_of c.plan.strata i in
        let at = place_stands c.plan drawable i m in
        let s = slice_get_within c.plan.strata p.stratum at.stratum at.is_stratum in
        let u : p.unit < length (units_at (slice_get c.plan.strata p.stratum)) =
        subst (λ (o : Option Stratum). p.unit < length (units_at o)) (sym at.is_stratum) (slice_get_within at.stratum.units p.unit at.unit at.is_unit) in
        (record { stratum = s; unit = u }, covered_by one p.stratum s)

    here_by : (b : Bool) → is_together c ≡ b → (i : ℕ) → i < (if b then c.plan.rows else length (units_at (slice_get c.plan.strata h)))
        → Here (if b then place_of c.plan.strata i else record { stratum = h; unit = i; place = 0 })
    here_by true one i m = place_here one i m
    here_by false alone i m = (record { stratum = l; unit = m }, covered)

    pub seat_here : (i : ℕ) → i < told_count c h → IsThere c.plan (told_seat c h i) × (covers c (told_seat c h i).stratum ≡ true)
    seat_here i m = here_by (is_together c) refl i m

    -- as the code finds it
    row_seat : (i : ℕ) (p : Seat) → i < c.plan.rows → ((q : Seat) → IsSeat c.plan.strata i q → q ≡ p) → place_of c.plan.strata i ≡ p
    row_seat i p m once = let seated = drawable.sound.seated.seats i m in once (place_of c.plan.strata i) (place_is_seat c.plan.strata i seated.seat seated.is)

    pub row_told : is_together c ≡ true → (i : ℕ) (p : Seat) → i < told_count c h → ((q : Seat) → IsSeat c.plan.strata i q → q ≡ p) → p ≡ told_seat c h i
    row_told one i p m once = rw one (sym (row_seat i p (rw one at m) once))

    -- ---- all of it

    module _ (balanced : balances c.plan.procedure.method ≡ true) (states : List AnyState) where
      abbrev own_stratum : (s : Stratum) × (slice_get c.plan.strata h ≡ Some s)
      own_stratum = some_within c.plan.strata h l

      narrow_columns : (told c states h).columns ≤ 15
      narrow_columns = (balance_few c.plan drawable balanced h own_stratum.0 own_stratum.1).1

      few_by : (b : Bool) → is_together c ≡ b → (if b then c.plan.rows else length (units_at (slice_get c.plan.strata h))) ≤ 200000
      few_by true one = (drawable.together one).few
      few_by false alone = let few = (is_planned c.plan drawable h own_stratum.0 own_stratum.1).stratum.few in rw own_stratum.1 few

      few_units : told_count c h ≤ 200000
      few_units = few_by (is_together c) refl

      module _ (i : ℕ) (m : i < told_count c h) where
        abbrev seat : Seat
        seat = told_seat c h i

        at : Stands c.plan seat
        at = stands c.plan seat (seat_here i m).0

        values_at : seat_values c.plan seat ≡ at.unit.balance
        values_at = values_there c.plan seat at.stratum at.unit at.is_stratum at.is_unit

        abbrev count : ℕ
        count = c.plan.procedure.balance

        counted_at : length at.unit.balance ≡ count
        counted_at =
            let counted : All (λ u. length u.balance ≡ count) at.stratum.units =
            subst (λ (s : Stratum). All (λ u. length u.balance ≡ count) s.units) (get_or_from_slice_get c.plan.strata seat.stratum at.stratum at.stratum at.is_stratum)
            (All-get_or (λ (s : Stratum). All (λ u. length u.balance ≡ count) s.units) c.plan.strata seat.stratum at.stratum (slice_get_within c.plan.strata seat.stratum at.stratum at.is_stratum) drawable.sound.balance) in
            subst (λ (u : FirstUnit). length u.balance ≡ count) (get_or_from_slice_get at.stratum.units seat.unit at.unit at.unit at.is_unit)
            (All-get_or (λ (u : FirstUnit). length u.balance ≡ count) at.stratum.units seat.unit at.unit (slice_get_within at.stratum.units seat.unit at.unit at.is_unit) counted)

        long_at : count ≤ length (seat_values c.plan seat)
        long_at = omega (arith, ap length values_at, counted_at)

        small_at : Within (2 ^ 31 - 1) (seat_values c.plan seat)
        small_at =
            let first : IsFirst c.plan.second at.unit = first_is c.plan drawable seat.stratum seat.unit at.stratum at.unit at.is_stratum at.is_unit in
            subst (Within (2 ^ 31 - 1)) (sym values_at) (near_within at.unit.balance first.balance)

        positive_at : covered_first c states seat.stratum seat.unit ≡ true → 1 ≤ (lowest_terms (first_fraction c.plan.strata seat.stratum seat.unit)).num
        positive_at chosen =
            let can : can_be_selected (inclusion at.stratum.request seat.unit) ≡ true =
            covered_open c drawable states seat.stratum at.stratum at.is_stratum seat.unit (slice_get_within at.stratum.units seat.unit at.unit at.is_unit) (seat_here i m).1 chosen in
            let sound = (is_planned c.plan drawable seat.stratum at.stratum at.is_stratum).stratum.over.sound in
            subst (λ f. 1 ≤ (lowest_terms f).num) (sym (fraction_there c.plan seat at.stratum at.unit at.is_stratum at.is_unit)) (asked_positive at.stratum.request sound seat.unit can)

      abbrev asked_in : Seat → Frac
      asked_in p = lowest_terms (first_fraction c.plan.strata p.stratum p.unit)

      abbrev chosen_in : Seat → Bool
      chosen_in p = covered_first c states p.stratum p.unit

      pub are_told : AreTold (told c states h)
      are_told =
          let long = each_long (seat_values c.plan) in
          record {
            few = omega (arith, long, few_units);
            narrow = narrow_columns;
            asked = each_long asked_in ∙ sym long;
            chosen = each_long chosen_in ∙ sym long;
            counted = All-from_get_or (λ v. (told c states h).columns ≤ length v) (told c states h).values []
                (λ i n. (let m : i < told_count c h = omega (arith, n, long) in
                subst (λ (v : List ℤ). (told c states h).columns ≤ length v) (sym (each_at (seat_values c.plan) i [] m)) (long_at i m)));
            small = All-from_get_or (Within (2 ^ 31 - 1)) (told c states h).values []
                (λ i n. (let m : i < told_count c h = omega (arith, n, long) in
                subst (Within (2 ^ 31 - 1)) (sym (each_at (seat_values c.plan) i [] m)) (small_at i m)));
            positive = λ i n drawn d.
                (let m : i < told_count c h = omega (arith, n, each_long chosen_in) in
                subst (λ (f : Frac). 1 ≤ f.num) (sym (each_at asked_in i d m)) (positive_at i m (sym (each_at chosen_in i false m) ∙ drawn)));
          }

      -- what the code says of it
      pub told_found : (plan : Plan) → plan ≡ c.plan
          → (left columns : ℕ) (values : List (List ℤ)) (asked : List Frac) (chosen : List Bool) → left ≡ (told c states h).left → columns ≡ plan.procedure.balance
          → values ≡ each_told (seat_values c.plan) c h (told_count c h) → asked ≡ each_told asked_in c h (told_count c h) → chosen ≡ each_told chosen_in c h (told_count c h)
          → ◌≡◌ {A = balance.Drawn} (record { number = h + 1; left = left; columns = columns; values = values; asked = asked; chosen = chosen }) (told c states h)
      told_found plan plan_is left columns values asked chosen left_is columns_is values_are asked_are chosen_are =
          let d : balance.Drawn = told c states h in
          ap (λ (n : ℕ). record { number = h + 1; left = n; columns = columns; values = values; asked = asked; chosen = chosen }) left_is
          ∙ ap (λ (n : ℕ). record { number = h + 1; left = d.left; columns = n; values = values; asked = asked; chosen = chosen })
          (columns_is ∙ ap (λ (p : Plan). p.procedure.balance) plan_is)
          ∙ ap (λ (vs : List (List ℤ)). record { number = h + 1; left = d.left; columns = d.columns; values = vs; asked = asked; chosen = chosen }) (values_are ∙ sym (each_is (seat_values c.plan)))
          ∙ ap (λ (ps : List Frac). record { number = h + 1; left = d.left; columns = d.columns; values = d.values; asked = ps; chosen = chosen }) (asked_are ∙ sym (each_is asked_in))
          ∙ ap (λ (bs : List Bool). record { number = h + 1; left = d.left; columns = d.columns; values = d.values; asked = d.asked; chosen = bs }) (chosen_are ∙ sym (each_is chosen_in))
