-- Which number each stage of a plan has.
use Rattle.std.proofs.Common.{◌≡◌, ℕ, zero, suc, ◌+◌, ◌<◌, ◌≤◌, true, List, length, Option, Some, None, arith, refl}
use Rattle.std.proofs.Common.{sym, ap, subst, ◌∙◌, inl, inr, ◌⊎◌, length-append}
use Rattle.std.specs.Prelude.{is_some}
use Rattle.std.specs.List.{slice_get}
use Rattle.std.proofs.lemmas.Option.{slice_get_within}
use Rattle.std.proofs.lemmas.Bool.{cases_eq}
use Rattle.smp_split.specs.Laws.Reads.{some_within}
use Rattle.smp_prob.specs.declared.requests.Request.{Request}
use Rattle.smp_design.specs.declared.method.Method.{Method}
use Rattle.smp_split.specs.declared.places.Stage.{Stage}
use Rattle.smp_strata.specs.Plans.{Plan}
use Rattle.smp_strata.specs.declared.strata.FirstUnit.{FirstUnit}
use Rattle.smp_strata.specs.declared.strata.Stratum.{Stratum}
use Rattle.smp_twostage.specs.Selections.{Selecting, first_stage, second_stage, stage_by, stage_within, stages_within, stages_in}
use Rattle.smp_twostage.specs.Selections.{stages_below, stages_of, first_number}
use Rattle.smp_twostage.specs.Laws.Lists.{slice_get_left, slice_get_right}

pub less_or_same : (m n : ℕ) → m ≤ suc n → (m ≤ n) ⊎ (m ≡ suc n)
less_or_same m n h =
    elim (cases_eq m (suc n)) [
      | inl same ↦ inr same
      | inr differ ↦ inl (omega (arith, h, differ))
    ]

-- each of the first n units has a second request
abbrev pub HaveSeconds : List FirstUnit → Type 0
HaveSeconds units = (k : ℕ) (u : FirstUnit) → slice_get units k ≡ Some u → is_some u.second ≡ true

module _ (method : Method) (at : ℕ) (units : List FirstUnit) (seconds : HaveSeconds units) where
  one_stage : (k : ℕ) (u : FirstUnit) (request : Option Request) → u.second ≡ request → is_some request ≡ true
      → length (stage_by (Some method) request (length u.rows) at k) ≡ 1
  one_stage k u (Some request) is some = refl
  one_stage k u None is some = absurd (cc)

  one_within : (k : ℕ) (u : Option FirstUnit) → slice_get units k ≡ u → k < length units
      → length (stage_within (Some method) at k u) ≡ 1
  one_within k (Some u) is l = one_stage k u u.second refl (seconds k u is)
  one_within k None is l = let some = some_within units k l in absurd (let none : None ≡ Some some.0 = sym is ∙ some.1 in cc)

  pub length_within : (n : ℕ) → n ≤ length units → length (stages_within (Some method) at units n) ≡ n
  length_within zero l = refl
  length_within (suc n) l =
      omega (
        arith,
        length-append (stages_within (Some method) at units n)
            (stage_within (Some method) at n (slice_get units n)),
        length_within n (omega (arith, l)),
        one_within n (slice_get units n) refl (omega (arith, l)),
      )

module _ (method : Option Method) (at : ℕ) (units : List FirstUnit) where
  -- the stages within the first units stay where they are
  pub within_kept : (m n i : ℕ) (stage : Stage Selecting) → m ≤ n
      → slice_get (stages_within method at units m) i ≡ Some stage
      → slice_get (stages_within method at units n) i ≡ Some stage
  within_kept m zero i stage l is = let none : m ≡ 0 = omega (arith, l) in
      subst (λ k. slice_get (stages_within method at units k) i ≡ Some stage) none is
  within_kept m (suc n) i stage l is =
      elim (less_or_same m n l) [
        | inl less ↦ slice_get_left (stages_within method at units n) _ i stage (within_kept m n i stage less is)
        | inr same ↦ ap (λ k. slice_get (stages_within method at units k) i) (sym same) ∙ is
      ]

module _ (plan : Plan) where
  pub below_kept : (m n i : ℕ) (stage : Stage Selecting) → m ≤ n → slice_get (stages_below plan m) i ≡ Some stage
      → slice_get (stages_below plan n) i ≡ Some stage
  below_kept m zero i stage l is = let none : m ≡ 0 = omega (arith, l) in
      subst (λ k. slice_get (stages_below plan k) i ≡ Some stage) none is
  below_kept m (suc n) i stage l is =
      elim (less_or_same m n l) [
        | inl less ↦ slice_get_left (stages_below plan n) _ i stage (below_kept m n i stage less is)
        | inr same ↦ ap (λ k. slice_get (stages_below plan k) i) (sym same) ∙ is
      ]

  module _ (h : ℕ) (s : Stratum) (is : slice_get plan.strata h ≡ Some s) where
    in_stratum : (i j : ℕ) (stage : Stage Selecting) → j ≡ first_number plan h + i
        → slice_get (stages_in plan (first_number plan h) (Some s)) i ≡ Some stage
        → slice_get (stages_of plan) j ≡ Some stage
    in_stratum i j stage number there =
        let below : slice_get (stages_below plan (suc h)) j ≡ Some stage =
        slice_get_right (stages_below plan h) (stages_in plan (first_number plan h) (slice_get plan.strata h)) i j number ∙ rw is there in
        below_kept (suc h) (length plan.strata) j stage (omega (arith, slice_get_within plan.strata h s is)) below

    pub first_there : slice_get (stages_of plan) (first_number plan h) ≡ Some (first_stage plan s)
    first_there = in_stratum 0 (first_number plan h) (first_stage plan s) (omega arith) refl

    module _ (method : Method) (second : plan.second ≡ Some method) (seconds : HaveSeconds s.units) (k : ℕ)
        (u : FirstUnit) (is_unit : slice_get s.units k ≡ Some u) (request : Request) (asks : u.second ≡ Some request)
      where
        last_within : slice_get (stages_within (Some method) (first_number plan h) s.units (suc k)) k
            ≡ Some (second_stage method request (length u.rows) (first_number plan h) k)
        last_within =
            slice_get_right (stages_within (Some method) (first_number plan h) s.units k)
            (stage_within (Some method) (first_number plan h) k (slice_get s.units k)) 0 k
            (omega (
              arith,
              length_within method (first_number plan h) s.units seconds k
                  (omega (arith, slice_get_within s.units k u is_unit)),
            ))
            ∙ rw (is_unit, asks) refl

        pub second_there : slice_get (stages_of plan) (suc (first_number plan h + k))
            ≡ Some (second_stage method request (length u.rows) (first_number plan h) k)
        second_there =
            let there : slice_get (stages_within (Some method) (first_number plan h) s.units (length s.units)) k
            ≡ Some (second_stage method request (length u.rows) (first_number plan h) k) =
            within_kept (Some method) (first_number plan h) s.units (suc k) (length s.units) k _
            (omega (arith, slice_get_within s.units k u is_unit)) last_within in
            in_stratum (suc k) (suc (first_number plan h + k)) _ (omega arith)
            (subst (λ m. slice_get (stages_within m (first_number plan h) s.units (length s.units)) k
            ≡ Some (second_stage method request (length u.rows) (first_number plan h) k)) (sym second) there)
