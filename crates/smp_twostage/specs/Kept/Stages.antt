-- What the code keeps of the stages that it makes and of what is told of them.
use Rattle.std.specs.Prelude.{◌≡◌, ℕ, suc, ◌<◌, if◌then◌else◌, All, IfSome, IsTrue}
use Rattle.std.specs.Prelude.{List, [], ℤ, Some, length, map, slice_index_or}
use Rattle.std.specs.List.{range_with_len, slice_get}
use Rattle.smp_split.specs.Counts.{AddsUp}
use Rattle.smp_values.specs.Starts.{DrawsWhole}
use Rattle.smp_design.specs.Procedures.{IsProcedure}
use Rattle.smp_design.specs.Words.{row}
use Rattle.smp_split.specs.Rows.{SelectsAsRequested}
use Rattle.smp_methods.specs.declared.any.AnyState.{AnyState}
use Rattle.smp_methods.specs.Designs.{first_state}
use Rattle.smp_methods.specs.Methods.{method_of}
use Rattle.smp_split.specs.declared.places.Stage.{Stage}
use Rattle.smp_split.specs.Stages.{EachBelongs}
use Rattle.smp_methods.specs.Starts.{SelectsAround}
use Rattle.smp_strata.specs.Bounds.{IsStratum}
use Rattle.smp_strata.specs.Plans.{Plan}
use Rattle.smp_strata.specs.declared.strata.FirstUnit.{FirstUnit}
use Rattle.smp_strata.specs.declared.strata.Seat.{Seat}
use Rattle.smp_strata.specs.declared.strata.Stratum.{Stratum}
use Rattle.smp_prob.specs.declared.requests.Request.{Request}
use Rattle.smp_twostage.specs.declared.made.Columns.{Columns}
use Rattle.smp_twostage.specs.declared.made.Columns.TheVariants as columns
use Rattle.smp_twostage.specs.declared.stage.Asked.{Asked}
use Rattle.smp_twostage.specs.declared.stage.Asked.TheVariants as asked
use Rattle.smp_twostage.specs.DrawnLines as balance
use Rattle.smp_twostage.specs.Lines.{told}
use Rattle.smp_twostage.specs.Plans.{TakesRows}
use Rattle.smp_twostage.specs.Selections.{Coverage, Selecting, belongs_to, is_together, place_of, section_count}
use Rattle.smp_twostage.specs.Selections.{stages_before, tree_of, units_at}

-- where the units of a stage stand, as the code holds it
abbrev pub asked_view : Asked → Request
asked_view (asked.Stratum request) = request.now
asked_view (asked.Strata request) = request

-- a stratum of a plan that can be drawn
pub record IsPlanned (plan : Plan) (s : Stratum) : Type 0 where
  pub procedure : IsProcedure plan.procedure
  pub second : IfSome plan.second TakesRows
  pub stratum : IsStratum plan.second s
  pub whole : IsTrue (row plan.procedure.method).draws_whole → DrawsWhole s.request
  pub counted : All (λ u. length u.balance ≡ plan.procedure.balance) s.units

-- the list of the values that a first stage unit has in the columns of a kind
abbrev pub list_of : Columns → FirstUnit → List ℤ
list_of columns.Balance = λ u. u.balance
list_of columns.Near = λ u. u.point

-- the lists of the free units of a stratum, in their order
abbrev pub free_lists : Columns → Stratum → List (List ℤ)
free_lists kind s = map (λ k. slice_index_or (map (list_of kind) s.units) k []) s.request.free

-- the number of the first stage of each section that is covered, and then that of all stages
abbrev pub first_numbers : Coverage → List ℕ
first_numbers c = map (stages_before c) (range_with_len 0 (suc (section_count c)))

-- each stage is in the first state of its design, which is one of its own
pub record EachFirst (stages : List (Stage Selecting)) (states : List AnyState) : Type 0 where
  pub are : states ≡ map (λ stage. first_state stage.design.design) stages
  pub belong : EachBelongs tree_of belongs_to stages states

-- A stage in its first state: each free unit has the value that is requested of it. They add up to the number of draws, where that
-- is whole, and each leaf selects a whole number of units around their sum.
pub record StageStarts (s : Selecting) (state : AnyState) : Type 0 where
  pub is : state ≡ first_state s.design
  pub member : belongs_to s state
  pub serves : SelectsAsRequested s.request (method_of s.design).tree state
  pub adds_up : DrawsWhole s.request → AddsUp (method_of s.design).tree s.request.r state
  pub around : SelectsAround s.design state

-- each stage is in its first state
pub record EachStarts (stages : List (Stage Selecting)) (states : List AnyState) : Type 0 where
  pub paired : length states ≡ length stages
  pub each : (i : ℕ) (stage : Stage Selecting) (state : AnyState)
      → slice_get stages i ≡ Some stage → slice_get states i ≡ Some state
      → StageStarts stage.design state

-- ---- what is told

-- a place among the first stage units of the strata of a plan
pub record IsThere (plan : Plan) (p : Seat) : Type 0 where
  pub stratum : p.stratum < length plan.strata
  pub unit : p.unit < length (units_at (slice_get plan.strata p.stratum))

-- where the first stage units of a section stand that are told, one by one
abbrev pub told_seat : Coverage → ℕ → ℕ → Seat
told_seat c h i =
    if is_together c then place_of c.plan.strata i else record { stratum = h; unit = i; place = 0 }

-- how many these are
abbrev pub told_count : Coverage → ℕ → ℕ
told_count c h =
    if is_together c then c.plan.rows else length (units_at (slice_get c.plan.strata h))

-- what is said of each of them
abbrev pub each_told : {A : Type 0} → (Seat → A) → Coverage → ℕ → ℕ → List A
each_told says c h n = map (λ i. says (told_seat c h i)) (range_with_len 0 n)

-- the lines of a section
abbrev pub section_lines : Coverage → List AnyState → ℕ → List ℕ
section_lines c states h = balance.drawn_lines (told c states h)
