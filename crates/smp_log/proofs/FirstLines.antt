-- The first line of what is left.
use Rattle.std.proofs.Common.{◌≡◌, ℕ, ◌+◌, ◌<◌, ◌≤◌, Bool, true, false, cond, List, ◌∷◌, length, Option, Some, None, option_map, refl, sym, ap, ◌∙◌, arith, length-append, inl, inr, ◌⊎◌}
use Rattle.std.specs.{Prelude.{option_and_then}, Str.{bytes_eq}}
use Rattle.std.proofs.lemmas.Slice.Eq.{bytes_eq-Decides}
use Rattle.smp_frac.specs.Cuts.{cut_at}
use Rattle.smp_split.specs.declared.kind.Kind.{Kind}
use Rattle.smp_log.specs.Reading.{Script, step_value, after_line, step_first}
use Rattle.smp_log.proofs.{Options.{goes_on, mapped, some_cond}, StepLines.{step_value-is}, Texts.{cut_parts}}

none_cond : {A B : Type 0} (b : Bool) (x : A) (y : B) → cond b (Some x) None ≡ None → cond b (Some y) None ≡ None
none_cond {A} true x y h = absurd (let e : ◌≡◌ {A = Option A} (Some x) None = h in cc)
none_cond false x y h = refl

pub first_is : (wanted rest after : List ℕ) → after_line wanted rest ≡ Some after → cut_at 10 rest ≡ Some (wanted, after)
first_is wanted rest after h =
    let cut = goes_on (λ (p : List ℕ × List ℕ). cond (bytes_eq p.0 wanted) (Some p.1) None) (cut_at 10 rest) after h in
    let test = some_cond (bytes_eq cut.value.0 wanted) cut.value.1 after cut.gives in
    let line : cut.value.0 ≡ wanted = (bytes_eq-Decides cut.value.0 wanted).0 test.0 in
    cut.is ∙ (λ i. Some (line i, (test.1) i))

-- no first line, or another, where one alone leads on
pub first_stuck : {Place : Type 0} (script : Script Place) (place next : Place) (wanted rest : List ℕ) → ((line : List ℕ) → script.follow place line ≡ cond (bytes_eq line wanted) (Some next) None) → after_line wanted rest ≡ None
    → (cut_at 10 rest ≡ None) ⊎ ((p : List ℕ × List ℕ) × (cut_at 10 rest ≡ Some p) × (script.follow place p.0 ≡ None))
first_stuck {Place} script place next wanted rest follows h = by_cut (cut_at 10 rest) refl
  where
    by_cut : (o : Option (List ℕ × List ℕ)) → cut_at 10 rest ≡ o → (cut_at 10 rest ≡ None) ⊎ ((p : List ℕ × List ℕ) × (cut_at 10 rest ≡ Some p) × (script.follow place p.0 ≡ None))
    by_cut None is = inl is
    by_cut (Some p) is =
        let none : cond (bytes_eq p.0 wanted) (Some p.1) None ≡ None = sym (ap (option_and_then (λ (q : List ℕ × List ℕ). cond (bytes_eq q.0 wanted) (Some q.1) None)) is) ∙ h in
        inr (p, is, follows p.0 ∙ none_cond (bytes_eq p.0 wanted) p.1 next none)

pub step_stuck : {Place : Type 0} (script : Script Place) (place : Place) (kind : Kind) (bound : ℕ) (next : ℕ → Place) (rest : List ℕ) → ((line : List ℕ) → script.follow place line ≡ option_map next (step_value kind bound line)) → step_first kind bound rest ≡ None
    → (cut_at 10 rest ≡ None) ⊎ ((p : List ℕ × List ℕ) × (cut_at 10 rest ≡ Some p) × (script.follow place p.0 ≡ None))
step_stuck {Place} script place kind bound next rest follows h = by_cut (cut_at 10 rest) refl
  where
    none_of : {A B C : Type 0} (f : A → B) (g : A → C) (o : Option A) → option_map f o ≡ None → option_map g o ≡ None
    none_of f g None h = refl
    none_of {A} {B} f g (Some x) h = absurd (let e : ◌≡◌ {A = Option B} (Some (f x)) None = h in cc)

    by_cut : (o : Option (List ℕ × List ℕ)) → cut_at 10 rest ≡ o → (cut_at 10 rest ≡ None) ⊎ ((p : List ℕ × List ℕ) × (cut_at 10 rest ≡ Some p) × (script.follow place p.0 ≡ None))
    by_cut None is = inl is
    by_cut (Some p) is =
        let none : option_map (λ value. (value, p.1)) (step_value kind bound p.0) ≡ None = sym (ap (option_and_then (λ (q : List ℕ × List ℕ). option_map (λ (value : ℕ). (value, q.1)) (step_value kind bound q.0))) is) ∙ h in
        inr (p, is, follows p.0 ∙ none_of (λ (value : ℕ). (value, p.1)) next (step_value kind bound p.0) none)

-- the line of a step, its value and what stands behind it
pub record FirstStep (kind : Kind) (bound value : ℕ) (rest after : List ℕ) : Type 0 where
  pub line : List ℕ
  pub cut : cut_at 10 rest ≡ Some (line, after)
  pub read : step_value kind bound line ≡ Some value

pub first_step : (kind : Kind) (bound value : ℕ) (rest after : List ℕ) → step_first kind bound rest ≡ Some (value, after) → FirstStep kind bound value rest after
first_step kind bound value rest after h =
    let cut = goes_on (λ (p : List ℕ × List ℕ). option_map (λ (v : ℕ). (v, p.1)) (step_value kind bound p.0)) (cut_at 10 rest) (value, after) h in
    let read = mapped (λ (v : ℕ). (v, cut.value.1)) (step_value kind bound cut.value.0) (value, after) cut.gives in
    let same : read.value ≡ value = ap (λ r. r.0) read.gives in
    let end : cut.value.1 ≡ after = ap (λ r. r.1) read.gives in
    record { line = cut.value.0; cut = cut.is ∙ (λ i. Some (cut.value.0, end i)); read = read.is ∙ ap Some same }

-- what is left is shorter by a line
pub shorter_by : (rest line after : List ℕ) → cut_at 10 rest ≡ Some (line, after) → length after + 1 ≤ length rest
shorter_by rest line after cut =
    let parts = cut_parts 10 rest (line, after) cut in
    let size : length rest ≡ length line + (length after + 1) = ap length parts.0 ∙ length-append line (10 ∷ after) ∙ omega arith in
    omega (arith, size)

-- of a step that stands first the value is less than its bound, and it is a line
module _ (kind : Kind) (bound value : ℕ) (rest after : List ℕ) (some : step_first kind bound rest ≡ Some (value, after)) where
  pub first_within : value < bound
  first_within = (let f = first_step kind bound value rest after some in (step_value-is kind bound value f.line f.read).1)

  pub first_shorter : length after < length rest
  first_shorter = (let f = first_step kind bound value rest after some in let short = shorter_by rest f.line after f.cut in omega (arith, short))
