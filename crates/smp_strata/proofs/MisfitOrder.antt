-- The first misfit by its kind.
use Rattle.std.proofs.Common.{◌≡◌, ℕ, List, Option, Some, None, Err, ap, refl, sym, ◌∙◌}
use Rattle.std.specs.Prelude.{OnSome}
use Rattle.smp_design.specs.{Keys.{or_else}, Bounds.{HasOnlyProbabilities, IsDesign}, declared.design.Design.{Design}}
use Rattle.smp_frame.specs.declared.frame.Unit as unit
use Rattle.smp_strata.specs.Misfits.{Reports, misfit_by, misfit_of, no_size, probs_misfit, psu_too_large, row_limit, second_too_many, too_many, unit_in_two}
use Rattle.smp_strata.specs.{declared.misfit.Misfit.{Misfit}, Kept.Built.{request_misfit}}
use Rattle.smp_strata.specs.declared.misfit.Misfit.TheVariants.{UnitInTwo, PsuTooLarge, NoSize, TooMany, SecondTooMany, Denominator, NotWhole, RowLimit, NoMemory}
use Rattle.smp_strata.proofs.Founds.{neither, or_else_assoc}

-- what is answered of one search is answered of another, where the same is found
pub passed : (A B : Type 0) (e : Misfit) (x y : Option Misfit) → Reports {A = A} (Err e) x → ((m : Misfit) → x ≡ Some m → y ≡ Some m) → Reports {A = B} (Err e) y
passed A B (UnitInTwo psu) x y r h = h _ r
passed A B (PsuTooLarge psu) x y r h = h _ r
passed A B (NoSize stratum) x y r h = h _ r
passed A B (TooMany stratum n positive) x y r h = h _ r
passed A B (SecondTooMany psu n positive) x y r h = h _ r
passed A B (Denominator stratum) x y r h = h _ r
passed A B (NotWhole stratum sum) x y r h = h _ r
passed A B (RowLimit strata variables) x y r h = h _ r
passed A B NoMemory x y r h = tt

module _ (design : Design) (units : List unit.Unit) where
  pub kind_1 : (m : Misfit) → unit_in_two design.second units ≡ Some m → misfit_of design units ≡ Some m
  unfolding misfit_of
  kind_1 m e = rw e refl

  pub kind_2 : unit_in_two design.second units ≡ None → (m : Misfit) → psu_too_large design units ≡ Some m → misfit_of design units ≡ Some m
  unfolding misfit_of
  kind_2 a m e = rw (a, e) refl

  pub kind_3 : unit_in_two design.second units ≡ None → psu_too_large design units ≡ None → (m : Misfit) → misfit_by design.columns.prob design units ≡ Some m → misfit_of design units ≡ Some m
  unfolding misfit_of
  kind_3 a b m e = rw (a, b, e) refl

  pub last_kind : unit_in_two design.second units ≡ None → psu_too_large design units ≡ None → misfit_by design.columns.prob design units ≡ None → (x : Option Misfit) → row_limit design units ≡ x → misfit_of design units ≡ x
  unfolding misfit_of
  last_kind a b d x e = rw (a, b, d, e) refl

  -- where there is no misfit, there are few enough rows of balancing equations
  pub rows_fit : misfit_of design units ≡ None → row_limit design units ≡ None
  unfolding misfit_of
  rows_fit e =
      let a = neither (unit_in_two design.second units) _ e in
      let b = neither (psu_too_large design units) _ a.1 in
      (neither (misfit_by design.columns.prob design units) _ b.1).1

-- ---- by parts

pub or_first : {B : Type 0} (a b : Option B) (m : B) → a ≡ Some m → or_else a b ≡ Some m
or_first a b m e = rw e refl

pub or_then : {B : Type 0} (a b x : Option B) → a ≡ None → b ≡ x → or_else a b ≡ x
or_then a b x e f = rw (e, f) refl

module _ (design : Design) (units : List unit.Unit) where
  -- the misfits of the requests, and then those of the second stage, which a design with probabilities hasn't
  pub by_parts : IsDesign design → misfit_by design.columns.prob design units ≡ or_else (request_misfit design.columns.prob design units) (second_too_many design.second units)
  by_parts is = by_prob design.columns.prob is.prob
    where
      or_none : {B : Type 0} (a : Option B) → a ≡ or_else a None
      or_none None = refl
      or_none (Some x) = refl

      by_prob : (prob : Option (List ℕ)) → OnSome prob (HasOnlyProbabilities design) → misfit_by prob design units ≡ or_else (request_misfit prob design units) (second_too_many design.second units)
      by_prob None only = sym (or_else_assoc (no_size design units) (too_many design units) (second_too_many design.second units))
      by_prob (Some column) only =
          let one : second_too_many design.second units ≡ None = rw only.one_stage refl in
          or_none (probs_misfit design units) ∙ ap (or_else (probs_misfit design units)) (sym one)
