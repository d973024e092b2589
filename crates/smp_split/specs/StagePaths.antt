-- A whole path of a selection in stages: the stages' own paths, one after another.
use Rattle.std.specs.Prelude.{◌≡◌, ℕ, zero, suc, Bool, true, false, List, [], ◌++◌, length, Some}
use Rattle.std.specs.List.{slice_get}
use Rattle.smp_split.specs.Paths.{Entry, Leads}
use Rattle.smp_split.specs.Trees.{Tree}
use Rattle.smp_split.specs.declared.places.Stage.{Stage}
use Rattle.smp_split.specs.Stages.{is_drawn}

-- A stage's part of a path, where it is drawn: a path of its own tree from its first state to a leaf. A stage that isn't drawn has
-- none, and stays in its first state.
abbrev pub IsStagePath : {State : Type 0} → Bool → Tree State → State → List Entry → State → Type 0
IsStagePath true tree first part leaf = Leads tree first part leaf × (tree.done leaf ≡ true)
IsStagePath false tree first part leaf = (part ≡ []) × (leaf ≡ first)

-- the parts of the first n stages, one after another
abbrev pub joined : (ℕ → List Entry) → ℕ → List Entry
joined part zero = []
joined part (suc n) = joined part n ++ part n

module _ {Design State : Type 0} (tree_of : Design → Tree State) where
  -- A whole path, from these first states of the stages to these last ones: the part that each stage has of it.
  pub record GoesByStages (stages : List (Stage Design)) (firsts : List State) (path : List Entry) (leaves : List State) : Type 0 where
    pub paired : length leaves ≡ length stages
    pub part : ℕ → List Entry
    pub whole : path ≡ joined part (length stages)
    pub each : (i : ℕ) (stage : Stage Design) (first leaf : State) → slice_get stages i ≡ Some stage
        → slice_get firsts i ≡ Some first → slice_get leaves i ≡ Some leaf
        → IsStagePath (is_drawn tree_of stages leaves i) (tree_of stage.design) first (part i) leaf
