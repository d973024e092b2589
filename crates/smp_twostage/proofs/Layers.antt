-- All strata that are drawn together, as the code goes over them: how many units they have, and what is balanced of each.
use Rattle.std.proofs.Common.{◌≡◌, ℕ, zero, suc, ◌+◌, ◌-◌, ◌*◌, ◌^◌, ◌<◌, ◌≤◌, true, false, ℤ, List, [], ◌∷◌, ◌++◌, length, map, drop, get_or, Some, All, arith, sym, ap, ap₂, subst, ◌∙◌, inl, inr, append_assoc}
use Rattle.std.specs.{Prelude.{nat_eq}, List.{slice_get}}
use Rattle.std.proofs.{lemmas.Bool.{cases_Bool, eqb-true}, lemmas.List.{append-nil, drop_all, length-map}, lemmas.Option.{slice_get-get_or}}
use Rattle.std.proofs.lemmas.List.Elements.{All-get_or, All-head, All-map, All-tail, All-weaker}
use Rattle.smp_design.specs.Words.{row, draws_together}
use Rattle.smp_design.proofs.Rows.{balance_columns, together_balances}
use Rattle.smp_methods.proofs.{Columns.{are_values}, OneStratum.{are_numbers}}
use Rattle.smp_twostage.specs.{Strata.{free_values, values_of}, Kept.Stages.{IsPlanned}, Plans.{CanBeDrawn, IsTogether}}
use Rattle.smp_stratcube.specs.{Layers.{AreLayers, AreNumbers, Layer, no_layer, variables}, Kept.Layers.{width, layer_of}}
use Rattle.smp_prob.specs.declared.requests.Request.{Request}
use Rattle.smp_strata.specs.{Bounds.{IsStratum}, Plans.{Plan}, declared.strata.FirstUnit.{FirstUnit}, declared.strata.Stratum.{Stratum}}
use Rattle.smp_twostage.specs.Selections.{balancing, layers_of, numbers_from, units_before}
use Rattle.smp_twostage.proofs.{Columns.{free_counted, free_near, is_planned, stratum_at}, OverAll.{numbers_next, one_before}}

-- ---- how many units there are

before_most : (strata : List Stratum) → All (λ (s : Stratum). length s.units ≤ 200000) strata → (h : ℕ) → units_before strata h ≤ 200000 * h
before_most [] few h = omega arith
before_most (s ∷ strata) few zero = omega arith
before_most (s ∷ strata) few (suc h) =
    let own : length s.units ≤ 200000 = All-head (λ (t : Stratum). length t.units ≤ 200000) s strata few in
    let rest = before_most strata (All-tail (λ (t : Stratum). length t.units ≤ 200000) s strata few) h in
    omega (arith, own, rest)

module _ (plan : Plan) (drawable : CanBeDrawn plan) (few : length plan.strata ≤ 16) where
  pub few_before : (h : ℕ) → h ≤ length plan.strata → units_before plan.strata h ≤ 3200000
  few_before h l =
      let most = before_most plan.strata (All-weaker (IsStratum plan.second) (λ (s : Stratum). length s.units ≤ 200000) (λ s is. is.few) plan.strata drawable.sound.strata) h in
      omega (arith, most, l, few)

  -- the numbers of a stratum's units among all fit
  pub numbers_fit : (h before : ℕ) (s : Stratum) → h ≤ length plan.strata → before ≡ units_before plan.strata h → IsStratum plan.second s
      → (units own : List ℕ) → units ≡ own → All (λ u. u < length s.units) own → All (λ number. before + number < 2 ^ 64) units
  numbers_fit h before s l is stratum units own same below =
      All-weaker (λ u. u < length s.units) (λ number. before + number < 2 ^ 64)
      (λ u le. (let most = few_before h l in let own = stratum.few in omega (arith, most, own, is, le))) units (subst (All (λ u. u < length s.units)) (sym same) below)

-- ---- one stratum more

module _ (strata : List Stratum) (h : ℕ) (s : Stratum) (is : slice_get strata h ≡ Some s) (before : ℕ) (units : List FirstUnit) (units_are : units ≡ s.units) where
  pub next_before : before ≡ units_before strata h → before + length units ≡ units_before strata (h + 1)
  next_before so_far =
      let on : suc h ≡ h + 1 = omega arith in
      ap₂ (λ (m n : ℕ). m + n) so_far (ap length units_are) ∙ sym (one_before strata h s is) ∙ ap (units_before strata) on

  pub next_numbers : (counted : Request → List ℕ) (done new more whole : List ℕ) → new ≡ done ++ map (λ u. before + u) more → more ≡ counted s.request → done ++ numbers_from counted before (drop h strata) ≡ whole
      → new ++ numbers_from counted (before + length units) (drop (h + 1) strata) ≡ whole
  next_numbers counted done new more whole made own so_far =
      let on : h + 1 ≡ suc h = omega arith in
      ap (λ xs. xs ++ numbers_from counted (before + length units) (drop (h + 1) strata)) (made ∙ ap (λ us. done ++ map (λ u. before + u) us) own)
      ∙ append_assoc done (map (λ u. before + u) (counted s.request)) (numbers_from counted (before + length units) (drop (h + 1) strata))
      ∙ ap (λ n. done ++ (map (λ u. before + u) (counted s.request) ++ numbers_from counted (before + length units) (drop n strata))) on
      ∙ ap (λ us. done ++ (map (λ u. before + u) (counted s.request) ++ numbers_from counted (before + length us) (drop (suc h) strata))) units_are
      ∙ ap (λ xs. done ++ xs) (sym (numbers_next counted before strata h s is)) ∙ so_far

pub last_numbers : (counted : Request → List ℕ) (strata : List Stratum) (h before : ℕ) → h ≡ length strata → (done whole : List ℕ) → done ++ numbers_from counted before (drop h strata) ≡ whole → done ≡ whole
last_numbers counted strata h before all done whole so_far =
    let none : drop h strata ≡ [] = drop_all h strata (omega (arith, all)) in
    sym (append-nil done) ∙ ap (λ (rest : List Stratum). done ++ numbers_from counted before rest) (sym none) ∙ so_far

-- ---- what is balanced

module _ (plan : Plan) (drawable : CanBeDrawn plan) (together : draws_together plan.procedure.method ≡ true) where
  abbrev its : IsTogether plan
  its = drawable.together together

  abbrev balance : ℕ
  balance = plan.procedure.balance

  pub some_balance : 1 ≤ balance
  some_balance = (balance_columns (row plan.procedure.method).needs balance plan.procedure.near (together_balances plan.procedure.method together) drawable.procedure.columns).0

  pub few_strata : length plan.strata ≤ 15
  few_strata = omega (arith, its.rows, some_balance)

  few_columns : balance ≤ 15
  few_columns = omega (arith, its.rows, its.some)

  module _ (h : ℕ) (s : Stratum) (is : slice_get plan.strata h ≡ Some s) where
    abbrev planned : IsPlanned plan s
    planned = is_planned plan drawable h s is

    pub numbers : AreNumbers (free_values (balancing s))
    numbers = are_numbers (free_values (balancing s)) (are_values balance (free_values (balancing s)) (free_counted plan s planned) (free_near plan s planned) few_columns)

    pub one_each : length (free_values (balancing s)) ≡ length s.request.free
    one_each = length-map s.request.free (values_of (balancing s))

  -- the values that are read of a stratum
  pub record AreRead (s : Stratum) (values : List (List ℤ)) : Type 0 where
    pub one_each : length values ≡ length s.request.free
    pub numbers : AreNumbers values

  pub are_read : (h : ℕ) (s : Stratum) → h < length plan.strata → s ≡ get_or plan.strata h s → (values : List (List ℤ)) → values ≡ free_values (balancing s) → AreRead s values
  are_read h s within is values own =
      let there : slice_get plan.strata h ≡ Some s = stratum_at plan.strata h s within is in
      record { one_each = ap length own ∙ one_each h s there; numbers = subst AreNumbers (sym own) (numbers h s there) }

-- ---- the strata can be balanced together

-- a stratum with free units has so many values of each
record IsFilled (columns : ℕ) (layer : Layer) : Type 0 where
  pub paired : length layer.values ≡ length layer.request.shape
  pub wide : 1 ≤ length layer.values → width layer ≡ columns

module _ (columns : ℕ) where
  variables_most : (layers : List Layer) → All (IsFilled columns) layers → variables layers ≤ columns
  variables_most [] all = omega arith
  variables_most (layer ∷ layers) all =
      elim (cases_Bool (nat_eq (length layer.values) 0)) [
        | inl none ↦ rw none (variables_most layers (All-tail (IsFilled columns) layer layers all))
        | inr some ↦
            (let own : IsFilled columns layer = All-head (IsFilled columns) layer layers all in
            let wide = own.wide (some_at (length layer.values) some) in
            rw some (omega (arith, wide)))
      ]
    where
      some_at : (n : ℕ) → nat_eq n 0 ≡ false → 1 ≤ n
      some_at zero other = absurd (cc)
      some_at (suc n) other = omega arith

  variables_wide : (layers : List Layer) → All (IsFilled columns) layers → (h : ℕ) → h < length layers → 1 ≤ length (get_or layers h no_layer).request.shape → variables layers ≡ columns
  variables_wide [] all h l some = absurd (omega (arith, l))
  variables_wide (layer ∷ layers) all zero l some =
      let own : IsFilled columns layer = All-head (IsFilled columns) layer layers all in
      elim (cases_Bool (nat_eq (length layer.values) 0)) [
        | inl none ↦ absurd (omega (arith, eqb-true (length layer.values) 0 none, own.paired, some))
        | inr more ↦ rw more (own.wide (omega (arith, own.paired, some)))
      ]
  variables_wide (layer ∷ layers) all (suc h) l some =
      let own : IsFilled columns layer = All-head (IsFilled columns) layer layers all in
      elim (cases_Bool (nat_eq (length layer.values) 0)) [
        | inl none ↦ rw none (variables_wide layers (All-tail (IsFilled columns) layer layers all) h (omega (arith, l)) some)
        | inr more ↦ rw more (own.wide (some_at (length layer.values) more))
      ]
    where
      some_at : (n : ℕ) → nat_eq n 0 ≡ false → 1 ≤ n
      some_at zero other = absurd (cc)
      some_at (suc n) other = omega arith

module _ (plan : Plan) (drawable : CanBeDrawn plan) (together : draws_together plan.procedure.method ≡ true) where
  filled : (h : ℕ) (s : Stratum) → slice_get plan.strata h ≡ Some s → IsFilled plan.procedure.balance (layer_of s.request (free_values (balancing s)))
  filled h s is =
      let planned : IsPlanned plan s = is_planned plan drawable h s is in
      record {
        paired = one_each plan drawable together h s is ∙ sym planned.stratum.over.sound.paired;
        wide = λ some. All-get_or (λ v. length v ≡ plan.procedure.balance) (free_values (balancing s)) 0 [] some (free_counted plan s planned);
      }

  pub are_layers : AreLayers (layers_of plan)
  are_layers =
      let its : IsTogether plan = drawable.together together in
      let count : length (layers_of plan) ≡ length plan.strata = length-map plan.strata (λ (s : Stratum). layer_of s.request (free_values (balancing s))) in
      let all : All (IsFilled plan.procedure.balance) (layers_of plan) =
      All-map (IsFilled plan.procedure.balance) (λ (s : Stratum). layer_of s.request (free_values (balancing s))) plan.strata
      (λ k d l. filled k (get_or plan.strata k d) (slice_get-get_or plan.strata k d l)) in
      record {
        some = omega (arith, its.some, count);
        few = omega (arith, few_strata plan drawable together, count);
        rows = omega (arith, variables_most plan.procedure.balance (layers_of plan) all, its.rows, count);
        same = λ h l some.
            (let own : IsFilled plan.procedure.balance (get_or (layers_of plan) h no_layer) = All-get_or (IsFilled plan.procedure.balance) (layers_of plan) h no_layer l all in
            own.wide (omega (arith, own.paired, some)) ∙ sym (variables_wide plan.procedure.balance (layers_of plan) all h l some));
      }
