use Rattle.std.proofs.Common.{◌≡◌, ℕ, List, [], ◌∷◌, ◌++◌, None, arith, sym, ap, ap₂, subst, ◌∙◌}
use Rattle.smp_prob.specs.declared.requests.Request.{Request}
use Rattle.smp_methods.specs.{declared.any.AnyDesign.{AnyDesign}, declared.any.AnyState.{AnyState}, declared.start.Started.{Started}}
use Rattle.smp_methods.specs.{Designs.{design_of_strata, first_state}, Starts.{AreStarted}}
use Rattle.smp_split.specs.declared.places.Stage.{Stage}
use Rattle.smp_strata.specs.Plans.{Plan}
use Rattle.smp_stratcube.specs.Layers.{AreLayers, Layer}
use Rattle.smp_twostage.specs.{Kept.Stages.{EachFirst}, Selections.{Selecting, layers_of, request_over, stage_of_strata, unit_count}}
use Rattle.smp_twostage.proofs.{Layers.{are_layers, few_strata}, Together.{stage_first}}
use Rattle.smp_twostage.proofs.made.Made.push_together.Goals as goal

-- the stage of all strata, and what it starts with
stage_made : (plan : Plan) (units : ℕ) (request : Request) (design : AnyDesign) → units ≡ unit_count plan.strata → request ≡ request_over plan.strata → design ≡ design_of_strata (layers_of plan)
    → record { design = record { units = units; request = request; design = design }; within = None } ≡ stage_of_strata plan
stage_made plan units request design counted asked is =
    ap (λ n. record { design = record { units = n; request = request; design = design }; within = None }) counted
    ∙ ap (λ r. record { design = record { units = unit_count plan.strata; request = r; design = design }; within = None }) asked
    ∙ ap (λ d. record { design = record { units = unit_count plan.strata; request = request_over plan.strata; design = d }; within = None }) is

are_made : (plan : Plan) (layers : List Layer) (started : Started) → layers ≡ layers_of plan → AreStarted layers started
    → AreStarted (layers_of plan) (record { design = design_of_strata (layers_of plan); state = first_state (design_of_strata (layers_of plan)) })
are_made plan layers started is starts =
    let made : AreStarted (layers_of plan) started = subst (λ (ls : List Layer). AreStarted ls started) is starts in
    subst (AreStarted (layers_of plan)) (ap₂ (λ (d : AnyDesign) (s : AnyState). record { design = d; state = s }) made.design made.state) made

design_made : (plan : Plan) (layers : List Layer) (started : Started) → layers ≡ layers_of plan → AreStarted layers started → started.design ≡ design_of_strata (layers_of plan)
design_made plan layers started is starts = starts.design ∙ ap design_of_strata is

state_made : (plan : Plan) (layers : List Layer) (started : Started) → layers ≡ layers_of plan → AreStarted layers started → started.state ≡ first_state (design_of_strata (layers_of plan))
state_made plan layers started is starts = starts.state ∙ ap (λ (ls : List Layer). first_state (design_of_strata ls)) is

pub request_over-requires-clause-few : goal.request_over-requires-clause-few
request_over-requires-clause-few c = (let few = few_strata c.args.plan.now c.requires.plan c.requires.together in omega (arith, few))

pub unit_count-requires-clause-few : goal.unit_count-requires-clause-few
unit_count-requires-clause-few c = (let few = few_strata c.args.plan.now c.requires.plan c.requires.together in omega (arith, few))

pub of_strata-requires : goal.of_strata-requires
of_strata-requires c = subst AreLayers (sym c.in_ok-layers.ensures) (are_layers c.args.plan.now c.requires.plan c.requires.together)

pub returns-clause-stages : goal.returns-clause-stages
returns-clause-stages c =
    let plan = c.args.plan.now in
    let design = design_made plan c.in_ok-layers.layers c.in_ok-design.field-0 c.in_ok-layers.ensures c.in_ok-design.ensures in
    c.in_ok-kept.ensures.items
    ∙ ap (λ (stages : List (Stage Selecting)). stages ++ record { design = c.of_strata-design.result; within = None } ∷ []) c.requires.none
    ∙ ap (λ (d : Selecting). record { design = d; within = None } ∷ []) c.of_strata-design.ensures
    ∙ ap (λ (stage : Stage Selecting). stage ∷ [])
    (stage_made plan c.unit_count.result c.in_ok-request.request c.in_ok-design.field-0.design c.unit_count.ensures c.in_ok-request.ensures design)

pub returns-clause-each : goal.returns-clause-each
returns-clause-each c =
    let plan = c.args.plan.now in
    let design = design_made plan c.in_ok-layers.layers c.in_ok-design.field-0 c.in_ok-layers.ensures c.in_ok-design.ensures in
    let state = state_made plan c.in_ok-layers.layers c.in_ok-design.field-0 c.in_ok-layers.ensures c.in_ok-design.ensures in
    let starts = are_made plan c.in_ok-layers.layers c.in_ok-design.field-0 c.in_ok-layers.ensures c.in_ok-design.ensures in
    let first = stage_first plan c.requires.plan starts.means in
    let stages : c.push-kept.new.self.items ≡ stage_of_strata plan ∷ [] =
    c.in_ok-kept.ensures.items
    ∙ ap (λ (stages : List (Stage Selecting)). stages ++ record { design = c.of_strata-design.result; within = None } ∷ []) c.requires.none
    ∙ ap (λ (d : Selecting). record { design = d; within = None } ∷ []) c.of_strata-design.ensures
    ∙ ap (λ (stage : Stage Selecting). stage ∷ [])
    (stage_made plan c.unit_count.result c.in_ok-request.request c.in_ok-design.field-0.design c.unit_count.ensures c.in_ok-request.ensures design) in
    let states : c.push.new.self.items ≡ first_state (design_of_strata (layers_of plan)) ∷ [] =
    c.in_ok-push.ensures.items
    ∙ ap (λ (states : List AnyState). states ++ c.in_ok-design.field-0.state ∷ []) c.requires.no_states
    ∙ ap (λ (s : AnyState). s ∷ []) state in
    subst (EachFirst c.push-kept.new.self.items) (sym states)
    (subst (λ (all : List (Stage Selecting)). EachFirst all (first_state (design_of_strata (layers_of plan)) ∷ [])) (sym stages) first)

pub returns-clause-starts : goal.returns-clause-starts
returns-clause-starts c = are_made c.args.plan.now c.in_ok-layers.layers c.in_ok-design.field-0 c.in_ok-layers.ensures c.in_ok-design.ensures
