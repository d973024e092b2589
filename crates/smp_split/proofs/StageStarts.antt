-- A selection in stages from any states of theirs.
use Rattle.std.proofs.Common.{◌≡◌, List, refl, subst, sym}
use Rattle.smp_split.specs.{Counts.{selected_count}, Trees.{Tree, Lawful}, Laws.Means.{mean_is_value, probability_is_value}}
use Rattle.smp_split.specs.{declared.places.Seat.{Seat}, declared.places.Stage.{Stage}, StageStarts.{StartsInStages}}
use Rattle.smp_split.specs.{Stages.{Progress, progress, staged_tree, IsStaged, EachBelongs, IsUnderWay}, Laws.Staged.{staged_lawful}}
use Rattle.smp_split.proofs.{StagePaths.{stages_lead}, WholePaths.{goes_by_stages, holds_of_stage}}

module _ {Design State : Type 0} (tree_of : Design → Tree State) (belongs : Design → State → Type 0) (lawful : (design : Design) → Lawful (tree_of design) (belongs design)) (stages : List (Stage Design)) (seats : List Seat) (staged : IsStaged tree_of stages seats) (states : List State) (each : EachBelongs tree_of belongs stages states) where
  at_progress : StartsInStages tree_of belongs stages seats states (progress tree_of stages states)
  at_progress =
      let here : IsUnderWay tree_of belongs stages (progress tree_of stages states) = record { states = each; at = refl } in
      let law = staged_lawful tree_of belongs lawful stages seats staged in
      record {
        member = here;
        mean = λ c. mean_is_value (staged_tree tree_of stages seats) (IsUnderWay tree_of belongs stages) law c (progress tree_of stages states) here;
        probability = probability_is_value (staged_tree tree_of stages seats) (IsUnderWay tree_of belongs stages) law (progress tree_of stages states) here;
        paths = goes_by_stages tree_of belongs lawful stages seats staged (progress tree_of stages states) here;
        each_path = λ path leaves goes. stages_lead tree_of belongs stages seats staged states leaves path each.paired goes;
        sizes = λ i n stage first is_stage is_first selects path leaf leads done last is_last drawn.
            holds_of_stage tree_of belongs lawful stages seats staged states leaf.states path (goes_by_stages tree_of belongs lawful stages seats staged (progress tree_of stages states) here path leaf leads done)
            i stage first last is_stage is_first is_last drawn (λ part end. selected_count (tree_of stage.design) end ≡ n) selects;
      }

  pub starts_in_stages : (start : Progress State) → start ≡ progress tree_of stages states → StartsInStages tree_of belongs stages seats states start
  starts_in_stages start is = subst (StartsInStages tree_of belongs stages seats states) (sym is) at_progress
