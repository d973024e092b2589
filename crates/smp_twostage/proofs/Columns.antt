-- A plan's method takes the values that its units have.
use Rattle.std.proofs.Common.{◌≡◌, ℕ, ◌+◌, ◌-◌, ◌^◌, ◌<◌, ◌≤◌, ℤ, List, [], ◌∷◌, ◌++◌, length, map, drop, get_or, Some, All, arith, refl, sym, ap, subst, ◌∙◌}
use Rattle.std.specs.List.{slice_get}
use Rattle.std.proofs.{lemmas.List.{get_or-map, length-map}, lemmas.List.Elements.{All-get_or, All-map, All-weaker}}
use Rattle.std.proofs.lemmas.Option.{slice_get_read, slice_get_within, get_or_from_slice_get}
use Rattle.smp_frame.specs.Bounds.{AreSmall}
use Rattle.smp_kernel.specs.Vectors.{Within}
use Rattle.smp_values.specs.Starts.{DrawsWhole}
use Rattle.smp_methods.specs.{Designs.{design_of}, Procedures.{TakesValues}}
use Rattle.smp_methods.proofs.Columns.{procedure_takes, same_design}
use Rattle.smp_strata.specs.{Bounds.{IsFirst, IsOver, IsStratum}, Plans.{Plan}, declared.strata.FirstUnit.{FirstUnit}}
use Rattle.smp_strata.specs.declared.strata.Stratum.{Stratum}
use Rattle.smp_twostage.specs.{Kept.Stages.{IsPlanned}, Plans.{CanBeDrawn}, Strata.{free_values, values_of}}
use Rattle.smp_twostage.specs.Selections.{balancing, first_stage, free_points}
use Rattle.smp_twostage.proofs.ToldLines.{next_mapped}

-- a stratum that is read at its number
pub stratum_at : (strata : List Stratum) (h : ℕ) (s : Stratum) → h < length strata → s ≡ get_or strata h s → slice_get strata h ≡ Some s
stratum_at strata h s within is = slice_get_read strata (length strata) h s refl within is

pub near_within : (values : List ℤ) → AreSmall values → Within (2 ^ 31 - 1) values
near_within values near k d l = let h = near k d l in omega (arith, h)

-- one more list of those that the units of a stratum have, of its free unit at a place
pub next_free : (of : FirstUnit → List ℤ) (s : Stratum) (i : ℕ) (u : FirstUnit) (done : List (List ℤ)) (x : List ℤ) (whole : List (List ℤ)) → i < length s.request.free → get_or s.request.free i 0 < length s.units
    → u ≡ get_or s.units (get_or s.request.free i 0) u → x ≡ of u → done ++ map (λ k. get_or (map of s.units) k []) (drop i s.request.free) ≡ whole
    → (done ++ x ∷ []) ++ map (λ k. get_or (map of s.units) k []) (drop (i + 1) s.request.free) ≡ whole
next_free of s i u done x whole l within there is so_far =
    next_mapped (λ k. get_or (map of s.units) k []) s.request.free 0 i done x whole l
    (is ∙ ap of there ∙ sym (get_or-map of s.units (get_or s.request.free i 0) u [] within)) so_far

module _ (plan : Plan) (s : Stratum) (planned : IsPlanned plan s) where
  -- what holds of the balancing values of each unit holds of those of the free ones
  free_at : (P : List ℤ → Type 0) → All (λ u. P u.balance) s.units → All P (free_values (balancing s))
  free_at P holds =
      All-map P (values_of (balancing s)) s.request.free
      (All-weaker (λ k. k < length s.units) (λ k. P (values_of (balancing s) k))
      (λ k l. All-get_or P (map (λ (u : FirstUnit). u.balance) s.units) k [] (omega (arith, l, length-map s.units (λ (u : FirstUnit). u.balance))) (All-map P (λ (u : FirstUnit). u.balance) s.units holds))
      s.request.free planned.stratum.over.free)

  pub free_counted : All (λ v. length v ≡ plan.procedure.balance) (free_values (balancing s))
  free_counted = free_at (λ v. length v ≡ plan.procedure.balance) planned.counted

  pub free_near : All (Within (2 ^ 31 - 1)) (free_values (balancing s))
  free_near =
      free_at (Within (2 ^ 31 - 1))
      (All-weaker (IsFirst plan.second) (λ u. Within (2 ^ 31 - 1) u.balance) (λ u first. near_within u.balance first.balance) s.units planned.stratum.firsts)

  -- values and points that are those of the free units, where there are columns of them
  module _ (values points : List (List ℤ)) (are : 1 ≤ plan.procedure.balance → values ≡ free_values (balancing s)) (lie : 1 ≤ plan.procedure.near → points ≡ free_points s) where
    -- its procedure takes them
    pub takes_free : TakesValues plan.procedure s.request values points
    takes_free =
        procedure_takes plan.procedure s.request values points planned.procedure (λ some. ap length (are some) ∙ length-map s.request.free (values_of (balancing s))) (λ some. ap length (lie some) ∙ length-map s.request.free _)
        (λ some. subst (λ (vs : List (List ℤ)). All (λ v. length v ≡ plan.procedure.balance) vs) (sym (are some)) free_counted) (λ some. subst (λ (vs : List (List ℤ)). All (Within (2 ^ 31 - 1)) vs) (sym (are some)) free_near)

    -- and its design is that of the first stage
    pub design_free : design_of plan.procedure s.request values points ≡ (first_stage plan s).design.design
    design_free = same_design plan.procedure s.request values (free_values (balancing s)) points (free_points s) planned.procedure.columns are lie

-- ---- the strata of a plan that can be drawn

module _ (plan : Plan) (drawable : CanBeDrawn plan) (h : ℕ) (s : Stratum) (is : slice_get plan.strata h ≡ Some s) where
  pub is_planned : IsPlanned plan s
  is_planned =
      let within = slice_get_within plan.strata h s is in
      let here : get_or plan.strata h s ≡ s = get_or_from_slice_get plan.strata h s s is in
      record {
        procedure = drawable.procedure;
        second = drawable.second;
        stratum = subst (IsStratum plan.second) here (All-get_or (IsStratum plan.second) plan.strata h s within drawable.sound.strata);
        whole = λ needed. subst (λ (t : Stratum). DrawsWhole t.request) here (All-get_or (λ (t : Stratum). DrawsWhole t.request) plan.strata h s within (drawable.sound.whole needed));
        counted = subst (λ (t : Stratum). All (λ u. length u.balance ≡ plan.procedure.balance) t.units) here (All-get_or (λ (t : Stratum). All (λ u. length u.balance ≡ plan.procedure.balance) t.units) plan.strata h s within drawable.sound.balance);
      }

-- the request of each stratum is over its units
pub are_over : (plan : Plan) → CanBeDrawn plan → All (λ (s : Stratum). IsOver (length s.units) s.request) plan.strata
are_over plan drawable =
    All-weaker (IsStratum plan.second) (λ (s : Stratum). IsOver (length s.units) s.request) (λ s is. is.over) plan.strata drawable.sound.strata
