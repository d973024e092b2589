-- What a selection in stages starts with.
use Rattle.std.specs.Prelude.{◌≡◌, ℕ, ◌<◌, true, List, Some, length}
use Rattle.std.specs.List.{slice_get}
use Rattle.smp_frac.specs.Fractions.{Fraction, Same}
use Rattle.smp_split.specs.Counts.{LeavesSelect, selected_count}
use Rattle.smp_split.specs.Means.{mean, value_sum, inclusion_probability}
use Rattle.smp_split.specs.Paths.{Entry, Leads, AtEachLeaf}
use Rattle.smp_split.specs.Trees.{Tree}
use Rattle.smp_split.specs.declared.places.Seat.{Seat}
use Rattle.smp_split.specs.declared.places.Stage.{Stage}
use Rattle.smp_split.specs.StagePaths.{GoesByStages}
use Rattle.smp_split.specs.Stages.{Progress, seat_value, unit_value, is_drawn, progress, staged_tree, IsUnderWay}

-- What holds of a selection whose stages start from these states. Over all draws, the mean of the sum of any numbers c over the
-- selected rows is the sum of c times the value; so each row's probability of selection is the value of its unit in the first stage,
-- times that of its unit in the second. The paths to the leaves are exactly those that are made of the stages' own paths, one after
-- another; so a stage whose own leaves select n units each selects n wherever it is drawn.
module _ {Design State : Type 0} (tree_of : Design → Tree State) (belongs : Design → State → Type 0) where
  pub record StartsInStages (stages : List (Stage Design)) (seats : List Seat) (states : List State) (start : Progress State) : Type 0 where
    pub member : IsUnderWay tree_of belongs stages start
    pub mean : (c : ℕ → Fraction) → Same (mean (staged_tree tree_of stages seats) c start)
        (value_sum (staged_tree tree_of stages seats) c start)
    pub probability : (row : ℕ) → row < length seats
        → Same (inclusion_probability (staged_tree tree_of stages seats) start row)
        (seat_value (unit_value tree_of stages states) (slice_get seats row))
    pub paths : AtEachLeaf (staged_tree tree_of stages seats) start (λ path leaf. GoesByStages tree_of stages states path leaf.states)
    pub each_path : (path : List Entry) (leaves : List State) → GoesByStages tree_of stages states path leaves
        → Leads (staged_tree tree_of stages seats) start path (progress tree_of stages leaves)
        × ((staged_tree tree_of stages seats).done (progress tree_of stages leaves) ≡ true)
    pub sizes : (i n : ℕ) (stage : Stage Design) (first : State) → slice_get stages i ≡ Some stage
        → slice_get states i ≡ Some first → LeavesSelect (tree_of stage.design) n first
        → AtEachLeaf (staged_tree tree_of stages seats) start
        (λ path leaf. (last : State) → slice_get leaf.states i ≡ Some last
        → is_drawn tree_of stages leaf.states i ≡ true
        → selected_count (tree_of stage.design) last ≡ n)
