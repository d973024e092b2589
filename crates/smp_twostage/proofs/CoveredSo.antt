-- What is covered, where it is known whether all strata are drawn together.
use Rattle.std.proofs.Common.{◌≡◌, ℕ, suc, Bool, List, map, sym, ap, subst, ◌∙◌}
use Rattle.std.specs.List.{range_with_len}
use Rattle.smp_methods.specs.{declared.any.AnyState.{AnyState}, Designs.{first_state}}
use Rattle.smp_split.specs.{declared.places.Stage.{Stage}, StageStarts.{StartsInStages}, Stages.{Progress, progress}}
use Rattle.smp_twostage.specs.{Kept.Stages.{EachStarts, first_numbers}, Selections.{tree_of}}
use Rattle.smp_twostage.specs.Selections.{Coverage, Selecting, belongs_to, covered_seats, covered_stages, covered_start, covered_states, is_together}
use Rattle.smp_twostage.specs.Kept.Sides.{seats_in, section_count_by, stages_before_by, stages_by}
use Rattle.smp_twostage.proofs.Starts.{states_are}

module _ (b : Bool) (c : Coverage) (is : is_together c ≡ b) where
  abbrev pub states_in : List AnyState
  states_in = map (λ stage. first_state stage.design.design) (stages_by b c)

  abbrev pub start_in : Progress AnyState
  start_in = progress tree_of (stages_by b c) states_in

  pub stages_in : stages_by b c ≡ covered_stages c
  stages_in = ap (λ d. stages_by d c) (sym is)

  pub seats_so : seats_in b c ≡ covered_seats c
  seats_so = ap (λ d. seats_in d c) (sym is)

  pub firsts_so : map (stages_before_by b c) (range_with_len 0 (suc (section_count_by b c))) ≡ first_numbers c
  firsts_so = ap (λ d. map (stages_before_by d c) (range_with_len 0 (suc (section_count_by d c)))) (sym is)

  pub start_so : covered_start c ≡ start_in
  start_so =
      ap (λ d. progress tree_of (stages_by d c) (map (λ stage. first_state stage.design.design) (stages_by d c))) is

  pub starts_at : (state : Progress AnyState) → StartsInStages tree_of belongs_to (covered_stages c) (covered_seats c) (covered_states c) state
      → StartsInStages tree_of belongs_to (stages_by b c) (seats_in b c) states_in state
  starts_at state starts =
      subst (λ d. StartsInStages tree_of belongs_to (stages_by d c) (seats_in d c) (map (λ stage. first_state stage.design.design) (stages_by d c)) state) is starts

  pub starts_in : (state : Progress AnyState) → state ≡ covered_start c → StartsInStages tree_of belongs_to (covered_stages c) (covered_seats c) (covered_states c) state
      → StartsInStages tree_of belongs_to (stages_by b c) (seats_in b c) states_in start_in
  starts_in state at starts =
      subst (StartsInStages tree_of belongs_to (stages_by b c) (seats_in b c) states_in) (at ∙ start_so) (starts_at state starts)

-- stages in their first states, which are theirs
pub each_made : (stages own : List (Stage Selecting)) (states : List AnyState) → stages ≡ own → EachStarts stages states → EachStarts own (map (λ stage. first_state stage.design.design) own)
each_made stages own states is each =
    let made : EachStarts own states = subst (λ (all : List (Stage Selecting)). EachStarts all states) is each in
    subst (EachStarts own) (states_are own states made) made
