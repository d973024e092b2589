-- A procedure takes the values that a frame has for it.
use Rattle.std.proofs.Common.{◌≡◌, ℕ, zero, suc, ◌-◌, ◌^◌, ◌<◌, ◌≤◌, true, true≢false, ℤ, List, [], ◌∷◌, length, get_or, All, arith, refl, sym, ap, ◌∙◌, inl, inr}
use Rattle.std.proofs.{lemmas.Bool.{cases_Bool}, lemmas.List.Elements.{All-get_or}}
use Rattle.smp_kernel.specs.Vectors.{Within}
use Rattle.smp_design.specs.{declared.method.Method.{Method}, Words.{row, balances, is_near, most_near}}
use Rattle.smp_design.specs.declared.method.Method.TheVariants.{Cube, LocalCube, LocalPivotal, StratifiedCube}
use Rattle.smp_design.proofs.Rows.{balance_columns, near_columns}
use Rattle.smp_flight.specs.Requests.{AreValues}
use Rattle.smp_design.specs.{declared.procedure.Procedure.{Procedure}, Procedures.{AreNeeded, From1To, IsProcedure, without_values}}
use Rattle.smp_prob.specs.declared.requests.Request.{Request}
use Rattle.smp_methods.specs.{Designs.{design_by, design_of}, Procedures.{TakesValues}}
use Rattle.smp_methods.proofs.Wholes.{is_needed, needed_if}

module _ (columns : ℕ) (values : List (List ℤ)) (counted : All (λ v. length v ≡ columns) values) (small : All (Within (2 ^ 31 - 1)) values) where
  length_at : (k : ℕ) → k < length values → length (get_or values k []) ≡ columns
  length_at k l = All-get_or (λ v. length v ≡ columns) values k [] l counted

  first_few : columns ≤ 15 → (n : ℕ) → length values ≡ n → length (get_or values 0 []) ≤ 15
  first_few few zero none = none_at values none
    where
      none_at : (vs : List (List ℤ)) → length vs ≡ 0 → length (get_or vs 0 []) ≤ 15
      none_at [] e = omega arith
      none_at (v ∷ vs) e = absurd (omega arith)
  first_few few (suc n) some = omega (arith, few, length_at 0 (omega (arith, some)))

  pub are_values : columns ≤ 15 → AreValues values
  are_values few = record {
    same = λ k l. length_at k l ∙ sym (length_at 0 (omega (arith, l)));
    few = first_few few (length values) refl;
    within = λ k l. All-get_or (Within (2 ^ 31 - 1)) values k [] l small;
  }

-- ---- the values of a frame that was read with the columns of a procedure

-- they are needed where there are columns of their kind
pub procedure_takes : (way : Procedure) (request : Request) (values points : List (List ℤ)) → IsProcedure way → (1 ≤ way.balance → length values ≡ length request.free) → (1 ≤ way.near → length points ≡ length request.free)
    → (1 ≤ way.balance → All (λ v. length v ≡ way.balance) values) → (1 ≤ way.balance → All (Within (2 ^ 31 - 1)) values) → TakesValues way request values points
procedure_takes way request values points is paired located counted small = record {
  columns = is.columns;
  paired = paired;
  located = located;
  balancing = needed_if (balances way.method) (AreValues values) (λ balance.
      (let few = balance_columns (row way.method).needs way.balance way.near balance is.columns in
      are_values way.balance values (counted few.0) (small few.0) few.1));
}

-- units that have no values
pub takes_none : (m : Method) (request : Request) → IsProcedure (without_values m) → TakesValues (without_values m) request [] []
takes_none m request is =
    procedure_takes (without_values m) request [] [] is (λ some. absurd (never some)) (λ some. absurd (never some)) (λ some. absurd (never some)) (λ some. absurd (never some))
  where
    never : 1 ≤ 0 → ⊥
    never some = omega (arith, some)

-- ---- what a method needs of them

module _ (way : Procedure) (request : Request) (values points : List (List ℤ)) (takes : TakesValues way request values points) where
  -- a method that balances
  pub one_each : balances way.method ≡ true → length values ≡ length request.free
  one_each balance = takes.paired (balance_columns (row way.method).needs way.balance way.near balance takes.columns).0

  pub balanced_values : balances way.method ≡ true → AreValues values
  balanced_values balance = is_needed (balances way.method) (AreValues values) takes.balancing balance

  -- a method among neighbours
  pub few_points : is_near (row way.method).needs ≡ true → From1To most_near way.near
  few_points near = near_columns (row way.method).needs way.balance way.near near takes.columns

  pub one_point_each : is_near (row way.method).needs ≡ true → length points ≡ length request.free
  one_point_each near = takes.located (few_points near).0

-- ---- which values it doesn't look at

-- the design is the same by whatever values of a kind of which it has no columns
module _ (way : Procedure) (request : Request) (values others points elsewhere : List (List ℤ)) (needed : AreNeeded (row way.method).needs way.balance way.near) where
  values_apart : (m : Method) → (balances m ≡ true → ⊥) → design_by m way request values points ≡ design_by m way request others points
  unfolding row
  values_apart Cube apart = absurd (apart refl)
  values_apart LocalCube apart = absurd (apart refl)
  values_apart StratifiedCube apart = absurd (apart refl)
  values_apart other apart = refl

  points_apart : (m : Method) → (is_near (row m).needs ≡ true → ⊥) → design_by m way request others points ≡ design_by m way request others elsewhere
  unfolding row
  points_apart LocalPivotal apart = absurd (apart refl)
  points_apart LocalCube apart = absurd (apart refl)
  points_apart other apart = refl

  by_values : (1 ≤ way.balance → values ≡ others) → design_of way request values points ≡ design_of way request others points
  by_values same = elim (cases_Bool (balances way.method)) [
    | inl balance ↦ ap (λ vs. design_of way request vs points) (same (balance_columns (row way.method).needs way.balance way.near balance needed).0)
    | inr apart ↦ values_apart way.method (λ balance. absurd (true≢false (sym balance ∙ apart)))
  ]

  by_points : (1 ≤ way.near → points ≡ elsewhere) → design_of way request others points ≡ design_of way request others elsewhere
  by_points same = elim (cases_Bool (is_near (row way.method).needs)) [
    | inl near ↦ ap (λ ps. design_of way request others ps) (same (near_columns (row way.method).needs way.balance way.near near needed).0)
    | inr apart ↦ points_apart way.method (λ near. absurd (true≢false (sym near ∙ apart)))
  ]

  pub same_design : (1 ≤ way.balance → values ≡ others) → (1 ≤ way.near → points ≡ elsewhere) → design_of way request values points ≡ design_of way request others elsewhere
  same_design same lie = by_values same ∙ by_points lie
