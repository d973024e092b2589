use Rattle.std.proofs.Common.{◌≡◌, List, map, refl, ap, subst, ◌∙◌}
use Rattle.smp_methods.specs.{declared.any.AnyState.{AnyState}, Designs.{first_state}}
use Rattle.smp_split.specs.{declared.places.Stage.{Stage}, StageStarts.{StartsInStages}, Stages.{EachBelongs, progress}}
use Rattle.smp_twostage.specs.{Kept.Stages.{EachFirst}, Laws.Covered.{covered_staged}}
use Rattle.smp_twostage.specs.Selections.{Coverage, Selecting, belongs_to, covered_seats, covered_stages, covered_states, tree_of}
use Rattle.smp_twostage.proofs.whole.started.Goals as goal

pub new-stages-requires : goal.new-stages-requires
new-stages-requires c = rw (c.requires.stages, c.requires.seats) (covered_staged (record { plan = c.args.plan.now; only = c.args.only }) c.requires.plan)

pub start-state-requires : goal.start-state-requires
start-state-requires c = rw c.new-stages.ensures.stages c.requires.each.belong

are_of : (coverage : Coverage) (stages : List (Stage Selecting)) (states : List AnyState) → stages ≡ covered_stages coverage → EachFirst stages states → states ≡ covered_states coverage
are_of coverage stages states are each = each.are ∙ ap (map (λ (stage : Stage Selecting). first_state stage.design.design)) are

pub returns-clause-state : goal.returns-clause-state
returns-clause-state c =
    let states = c.args.made.states.items in
    c.start-state.ensures.state
    ∙ ap (λ (stages : List (Stage Selecting)). progress tree_of stages states) (c.new-stages.ensures.stages ∙ c.requires.stages)
    ∙ ap (progress tree_of (covered_stages (record { plan = c.args.plan.now; only = c.args.only }))) (are_of (record { plan = c.args.plan.now; only = c.args.only }) c.args.made.stages.items states c.requires.stages c.requires.each)

pub returns-clause-each : goal.returns-clause-each
returns-clause-each c =
    let coverage : Coverage = record { plan = c.args.plan.now; only = c.args.only } in
    let states : List AnyState = c.args.made.states.items in
    record {
      are = refl;
      belong =
          subst (EachBelongs tree_of belongs_to (covered_stages coverage)) (are_of coverage c.args.made.stages.items states c.requires.stages c.requires.each)
          (subst (λ (all : List (Stage Selecting)). EachBelongs tree_of belongs_to all states) c.requires.stages c.requires.each.belong);
    }

pub returns-clause-starts : goal.returns-clause-starts
returns-clause-starts c =
    let stages_same = c.new-stages.ensures.stages ∙ c.requires.stages in
    let seats_same = c.new-stages.ensures.seats ∙ c.requires.seats in
    let starts : StartsInStages tree_of belongs_to (covered_stages (record { plan = c.args.plan.now; only = c.args.only })) (covered_seats (record { plan = c.args.plan.now; only = c.args.only })) c.args.made.states.items c.start-state.result = rw (stages_same, seats_same) at c.start-state.ensures.starts in
    subst (λ (states : List AnyState). StartsInStages tree_of belongs_to (covered_stages (record { plan = c.args.plan.now; only = c.args.only })) (covered_seats (record { plan = c.args.plan.now; only = c.args.only })) states c.start-state.result)
    (are_of (record { plan = c.args.plan.now; only = c.args.only }) c.args.made.stages.items c.args.made.states.items c.requires.stages c.requires.each) starts
