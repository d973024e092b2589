-- The stages so far, and one more.
use Rattle.std.proofs.Common.{◌≡◌, ℕ, suc, ◌+◌, List, [], ◌∷◌, ◌++◌, length, map, Some, arith, refl, sym, ap, ◌∙◌, append_assoc}
use Rattle.std.specs.List.{slice_get, range_with_len}
use Rattle.std.proofs.lemmas.List.FromFn.{map-range_with_len_more}
use Rattle.smp_design.specs.declared.method.Method.{Method}
use Rattle.smp_split.specs.declared.places.Stage.{Stage}
use Rattle.smp_strata.specs.{Plans.{Plan}, declared.strata.FirstUnit.{FirstUnit}, declared.strata.Stratum.{Stratum}}
use Rattle.smp_twostage.specs.Selections.{Selecting, first_number, stage_by, stages_below, stages_in, stages_within}

-- the stage within one more unit
pub next_within : (method : Method) (at : ℕ) (units : List FirstUnit) (k : ℕ) (u : FirstUnit) (before done new : List (Stage Selecting)) → slice_get units k ≡ Some u → done ≡ before ++ stages_within (Some method) at units k
    → new ≡ done ++ stage_by (Some method) u.second (length u.rows) at k → new ≡ before ++ stages_within (Some method) at units (k + 1)
next_within method at units k u before done new is so_far more =
    let on : suc k ≡ k + 1 = omega arith in
    let last : before ++ (stages_within (Some method) at units k ++ stage_by (Some method) u.second (length u.rows) at k) ≡ before ++ stages_within (Some method) at units (suc k) = rw is refl in
    more ∙ ap (λ xs. xs ++ stage_by (Some method) u.second (length u.rows) at k) so_far
    ∙ append_assoc before (stages_within (Some method) at units k) (stage_by (Some method) u.second (length u.rows) at k)
    ∙ last ∙ ap (λ n. before ++ stages_within (Some method) at units n) on

module _ (plan : Plan) where
  -- the stages of one more stratum
  pub next_below : (h : ℕ) (s : Stratum) (done new : List (Stage Selecting)) → slice_get plan.strata h ≡ Some s → done ≡ stages_below plan h → new ≡ done ++ stages_in plan (length done) (Some s) → new ≡ stages_below plan (h + 1)
  next_below h s done new is so_far more =
      let on : suc h ≡ h + 1 = omega arith in
      let last : stages_below plan h ++ stages_in plan (length (stages_below plan h)) (Some s) ≡ stages_below plan (suc h) = rw is refl in
      more ∙ ap (λ xs. xs ++ stages_in plan (length xs) (Some s)) so_far ∙ last ∙ ap (stages_below plan) on

  -- the number of one more first stage
  pub next_number : (h : ℕ) (done new : List ℕ) (stages : List (Stage Selecting)) → done ≡ map (first_number plan) (range_with_len 0 h) → stages ≡ stages_below plan h → new ≡ done ++ length stages ∷ [] → new ≡ map (first_number plan) (range_with_len 0 (h + 1))
  next_number h done new stages so_far are more =
      more ∙ ap (λ ns. ns ++ length stages ∷ []) so_far
      ∙ ap (λ xs. map (first_number plan) (range_with_len 0 h) ++ length xs ∷ []) are
      ∙ sym (map-range_with_len_more (first_number plan) 0 h h (omega arith))

  -- and that of all stages
  pub last_number : (h : ℕ) (done new : List ℕ) (stages : List (Stage Selecting)) → done ≡ map (first_number plan) (range_with_len 0 h) → stages ≡ stages_below plan h → new ≡ done ++ length stages ∷ [] → new ≡ map (first_number plan) (range_with_len 0 (suc h))
  last_number h done new stages so_far are more =
      let on : h + 1 ≡ suc h = omega arith in
      next_number h done new stages so_far are more ∙ ap (λ n. map (first_number plan) (range_with_len 0 n)) on
