-- The whole selection by a plan, in stages. Strata are drawn in order of first appearance. In each its first stage units are drawn,
-- and then, where there is a second stage, rows within each of those that were drawn, certain ones among them (Särndal, Swensson and
-- Wretman 1992). A method that draws all strata together has one stage for them.
use Rattle.std.specs.Prelude.{ℕ, zero, Bool, true, suc, ◌+◌, nat_eq, nat_lt, ◌&&◌, ◌||◌, if◌then◌else◌}
use Rattle.std.specs.Prelude.{List, [], ◌∷◌, ℤ, slice_index_or}
use Rattle.std.specs.Prelude.{◌++◌, length, map, take, drop, Option, Some, None, option_map, unwrap_or}
use Rattle.std.specs.List.{slice_get, list_any, position_or_len, range_with_len}
use Rattle.smp_twostage.specs.Strata.{StratumUnits, free_values}
use Rattle.smp_prob.specs.declared.requests.Request.{Request}
use Rattle.smp_split.specs.Sectioning.{Sectioning}
use Rattle.smp_split.specs.Trees.{Tree}
use Rattle.smp_split.specs.Rows.{rows_tree, BelongsToRows}
use Rattle.smp_design.specs.declared.method.Method.{Method}
use Rattle.smp_design.specs.Procedures.{without_values}
use Rattle.smp_design.specs.Words.{draws_together}
use Rattle.smp_methods.specs.declared.any.AnyDesign.{AnyDesign}
use Rattle.smp_methods.specs.declared.any.AnyState.{AnyState}
use Rattle.smp_methods.specs.Designs.{design_of, design_of_strata, design_tree, first_state}
use Rattle.smp_methods.specs.Methods.{method_of}
use Rattle.smp_strata.specs.Plans.{Plan}
use Rattle.smp_strata.specs.declared.strata.FirstUnit as unit
use Rattle.smp_strata.specs.declared.strata.Seat as place
use Rattle.smp_strata.specs.declared.strata.Stratum as stratum
use Rattle.smp_split.specs.declared.places.Place.{Place}
use Rattle.smp_split.specs.declared.places.Seat.{Seat}
use Rattle.smp_split.specs.declared.places.Seat.TheVariants.{Nowhere, First, Second}
use Rattle.smp_split.specs.declared.places.Stage.{Stage}
use Rattle.smp_split.specs.OwnStages.{sections_by}
use Rattle.smp_split.specs.Stages.{Progress, IsUnderWay, progress, staged_tree}
use Rattle.smp_stratcube.specs.Layers.{Layer}
use Rattle.smp_twostage.specs.Plans.{CanBeDrawn}

-- ---- how the units of one stage are drawn

-- the units of a stage, the request for them, and the design by which the free ones among them are drawn
pub record Selecting : Type 0 where
  pub units : ℕ
  pub request : Request
  pub design : AnyDesign

-- the draw tree over all units of the stage, the certain ones and those of probability 0 among them
abbrev pub tree_of : Selecting → Tree AnyState
tree_of s = rows_tree s.units s.request (design_tree s.design)

-- which states belong to that tree
abbrev pub belongs_to : Selecting → AnyState → Type 0
belongs_to s = BelongsToRows s.request (design_tree s.design) (method_of s.design).belongs

-- ---- the stages

-- a stratum as it is balanced: its request, and the balancing values of its first stage units
abbrev pub balancing : stratum.Stratum → StratumUnits
balancing s = record { request = s.request; values = map (λ u. u.balance) s.units }

-- where its free units lie: the coordinates of each, in their order
abbrev pub free_points : stratum.Stratum → List (List ℤ)
free_points s = map (λ k. slice_index_or (map (λ u. u.point) s.units) k []) s.request.free

-- the first stage of a stratum: its first stage units, by the plan's procedure
abbrev pub first_stage : Plan → stratum.Stratum → Stage Selecting
first_stage plan s = record {
  design = record {
    units = length s.units;
    request = s.request;
    design = design_of plan.procedure s.request (free_values (balancing s)) (free_points s);
  };
  within = None;
}

-- the second stage within a unit of the stage `at`: its rows in frame order, which have no values
abbrev pub second_stage : Method → Request → ℕ → ℕ → ℕ → Stage Selecting
second_stage method request rows at k = record {
  design = record {
    units = rows;
    request = request;
    design = design_of (without_values method) request [] [];
  };
  within = Some (record { stage = at; unit = k });
}

-- the stage within unit k of the stage `at`, where the plan has a second method and the unit a second request
abbrev pub stage_by : Option Method → Option Request → ℕ → ℕ → ℕ → List (Stage Selecting)
stage_by (Some method) (Some request) rows at k = second_stage method request rows at k ∷ []
stage_by (Some method) None rows at k = []
stage_by None request rows at k = []

-- the stage within a first stage unit, where there is one
abbrev pub stage_within : Option Method → ℕ → ℕ → Option unit.FirstUnit → List (Stage Selecting)
stage_within method at k (Some u) = stage_by method u.second (length u.rows) at k
stage_within method at k None = []

-- the stages within the first n of these units
abbrev pub stages_within : Option Method → ℕ → List unit.FirstUnit → ℕ → List (Stage Selecting)
stages_within method at units zero = []
stages_within method at units (suc n) = stages_within method at units n ++ stage_within method at n (slice_get units n)

-- the stages of a stratum: its first stage, which has the number `at`, and those within its units
abbrev pub stages_in : Plan → ℕ → Option stratum.Stratum → List (Stage Selecting)
stages_in plan at (Some s) = first_stage plan s ∷ stages_within plan.second at s.units (length s.units)
stages_in plan at None = []

-- the stages of the first n strata
abbrev pub stages_below : Plan → ℕ → List (Stage Selecting)
stages_below plan zero = []
stages_below plan (suc n) = stages_below plan n
    ++ stages_in plan (length (stages_below plan n)) (slice_get plan.strata n)

-- all stages
abbrev pub stages_of : Plan → List (Stage Selecting)
stages_of plan = stages_below plan (length plan.strata)

-- the number of a stratum's first stage
abbrev pub first_number : Plan → ℕ → ℕ
first_number plan h = length (stages_below plan h)

-- ---- strata that are drawn together

-- how many first stage units the first h strata have
abbrev pub units_before : List stratum.Stratum → ℕ → ℕ
units_before [] h = 0
units_before (s ∷ strata) zero = 0
units_before (s ∷ strata) (suc h) = length s.units + units_before strata h

-- how many first stage units all strata have
abbrev pub unit_count : List stratum.Stratum → ℕ
unit_count strata = units_before strata (length strata)

-- the units that are taken from each stratum's request, the certain ones or the free ones, by their numbers among the units of all strata:
-- the strata stand one after another, and so many units stand before them
abbrev pub numbers_from : (Request → List ℕ) → ℕ → List stratum.Stratum → List ℕ
numbers_from taken before [] = []
numbers_from taken before (s ∷ strata) =
    map (λ unit. before + unit) (taken s.request) ++ numbers_from taken (before + length s.units) strata

-- Where the units of all strata stand. It has no shapes: the probability of a free unit is what the request of its stratum says.
abbrev pub request_over : List stratum.Stratum → Request
request_over strata = record {
  certain = numbers_from (λ request. request.certain) 0 strata;
  free = numbers_from (λ request. request.free) 0 strata;
  shape = [];
  r = 0;
  total = 0;
}

-- the free units of each stratum, with their balancing values
abbrev pub layers_of : Plan → List Layer
layers_of plan = map (λ s. record { request = s.request; values = free_values (balancing s) }) plan.strata

-- the stage of all strata: their first stage units, drawn together
abbrev pub stage_of_strata : Plan → Stage Selecting
stage_of_strata plan = record {
  design = record {
    units = unit_count plan.strata;
    request = request_over plan.strata;
    design = design_of_strata (layers_of plan);
  };
  within = None;
}

-- ---- where the rows are selected

-- The seat of the row at this place of the plan, where its stratum's first stage has the number `at`: its first stage unit, and with a
-- second stage itself within that unit. The stages within a stratum's units stand behind its first stage, one for each unit.
abbrev pub seat_by : Option Method → ℕ → place.Seat → Seat
seat_by None at p = First (record { stage = at; unit = p.unit })
seat_by (Some method) at p = Second (record { stage = at; unit = p.unit })
    (record { stage = suc (at + p.unit); unit = p.place })

-- the seat of a row, with the number that the stratum's first stage has
abbrev pub seat_of : Plan → place.Seat → Seat
seat_of plan p = seat_by plan.second (first_number plan p.stratum) p

-- whether a row is one of a first stage unit
abbrev pub unit_has : ℕ → unit.FirstUnit → Bool
unit_has row u = list_any (nat_eq row) u.rows

-- the first stage units of a stratum, none where there is no such stratum
abbrev pub units_at : Option stratum.Stratum → List unit.FirstUnit
units_at (Some s) = s.units
units_at None = []

-- the place of a row in the plan: the first stratum that has it, the first unit there that has it, and where it stands among the unit's
-- rows
abbrev pub place_of : List stratum.Stratum → ℕ → place.Seat
place_of strata row =
    let h = position_or_len (λ s. list_any (unit_has row) s.units) strata in
    let units = units_at (slice_get strata h) in
    let k = position_or_len (unit_has row) units in
    record {
      stratum = h;
      unit = k;
      place = position_or_len (nat_eq row) (unwrap_or (option_map (λ (u : unit.FirstUnit). u.rows) (slice_get units k)) []);
    }

-- the seats of all rows, in frame order
abbrev pub seats_of : Plan → List Seat
seats_of plan = map (λ row. seat_of plan (place_of plan.strata row)) (range_with_len 0 plan.rows)

-- where unit k of stratum h stands where all strata are drawn together, in the one stage
abbrev pub place_together : List stratum.Stratum → ℕ → ℕ → Place
place_together strata h k = record { stage = 0; unit = units_before strata h + k }

-- the seat of a row where all strata are drawn together
abbrev pub seat_together : Plan → ℕ → Seat
seat_together plan row =
    let p = place_of plan.strata row in
    First (place_together plan.strata p.stratum p.unit)

-- the seats of all rows where all strata are drawn together
abbrev pub seats_together : Plan → List Seat
seats_together plan = map (seat_together plan) (range_with_len 0 plan.rows)

-- ---- the whole selection

-- the stages: one of all strata where these are drawn together, or those of each stratum
abbrev pub whole_stages : Plan → List (Stage Selecting)
whole_stages plan = if draws_together plan.procedure.method then stage_of_strata plan ∷ [] else stages_of plan

-- the states from which they start
abbrev pub whole_states : Plan → List AnyState
whole_states plan = map (λ stage. first_state stage.design.design) (whole_stages plan)

-- the seats of all rows in them
abbrev pub whole_seats : Plan → List Seat
whole_seats plan = if draws_together plan.procedure.method then seats_together plan else seats_of plan

-- where unit k of stratum h stands in them
abbrev pub whole_place : Plan → ℕ → ℕ → Place
whole_place plan h k =
    if draws_together plan.procedure.method then place_together plan.strata h k
    else record { stage = first_number plan h; unit = k }

-- the draw tree, whose units are the rows of the frame
abbrev pub whole_tree : Plan → Tree (Progress AnyState)
whole_tree plan = staged_tree tree_of (whole_stages plan) (whole_seats plan)

-- the state before the first step
abbrev pub start_of : Plan → Progress AnyState
start_of plan = progress tree_of (whole_stages plan) (whole_states plan)

-- the sections of the draw, by how many stages stand before each and how many they are: each stratum is one, or all strata together
abbrev pub whole_sections : Plan → Sectioning (Progress AnyState)
whole_sections plan = sections_by (λ h. if draws_together plan.procedure.method then h else first_number plan h)
    (if draws_together plan.procedure.method then 1 else length plan.strata)

-- ---- all strata, or one alone

-- A plan, and the number of the stratum that is drawn alone; where there is none, all are drawn, and what is said of the covered strata
-- is what is said of the whole.
pub record Coverage : Type 0 where
  pub plan : Plan
  pub only : Option ℕ

-- all strata
abbrev pub all_of : Plan → Coverage
all_of plan = record { plan = plan; only = None }

-- stratum h alone
abbrev pub one_of : Plan → ℕ → Coverage
one_of plan h = record { plan = plan; only = Some h }

-- whether stratum h is drawn, by the number of the one that is drawn alone
abbrev pub is_only : Option ℕ → ℕ → Bool
is_only None h = true
is_only (Some only) h = nat_eq h only

-- whether all strata are drawn together
abbrev pub is_together : Coverage → Bool
is_together c = draws_together c.plan.procedure.method

-- whether stratum h of the plan is drawn: where all strata are drawn together, each is
abbrev pub covers : Coverage → ℕ → Bool
covers c h = nat_lt h (length c.plan.strata) && (is_together c || is_only c.only h)

-- how many strata are drawn one by one, of so many
abbrev pub count_by : Option ℕ → ℕ → ℕ
count_by None n = n
count_by (Some h) n = 1

-- how many of the covered strata are drawn one by one
abbrev pub strata_count : Coverage → ℕ
strata_count c = count_by c.only (length c.plan.strata)

-- the plan, without the strata that aren't drawn
abbrev pub parts_by : Plan → Option ℕ → Plan
parts_by plan None = plan
parts_by plan (Some h) = record plan { strata = take 1 (drop h plan.strata) }

-- the plan of the strata that are covered
abbrev pub covered_parts : Coverage → Plan
covered_parts c = parts_by c.plan c.only

-- the stages: one of all strata, or those of the strata that are drawn
abbrev pub covered_stages : Coverage → List (Stage Selecting)
covered_stages c =
    if is_together c then stage_of_strata c.plan ∷ [] else stages_of (covered_parts c)

-- the states from which the covered stages start
abbrev pub covered_states : Coverage → List AnyState
covered_states c = map (λ stage. first_state stage.design.design) (covered_stages c)

-- the state of all covered stages before the first step
abbrev pub covered_start : Coverage → Progress AnyState
covered_start c = progress tree_of (covered_stages c) (covered_states c)

-- the number of a stratum among those that are drawn one by one
abbrev pub number_by : Option ℕ → ℕ → ℕ
number_by None h = h
number_by (Some only) h = 0

-- the number of a stratum among those that are covered
abbrev pub covered_number : Coverage → ℕ → ℕ
covered_number c h = number_by c.only h

-- where unit k of stratum h stands in the stages
abbrev pub first_place : Coverage → ℕ → ℕ → Place
first_place c h k =
    if is_together c then place_together c.plan.strata h k
    else record { stage = first_number (covered_parts c) (covered_number c h); unit = k }

-- whether a row is one of stratum h
abbrev pub is_of_stratum : Plan → ℕ → ℕ → Bool
is_of_stratum plan h row = nat_eq (place_of plan.strata row).stratum h

-- whether a row is one of section h: of its stratum, or any where all strata are drawn together
abbrev pub is_of_section : Plan → ℕ → ℕ → Bool
is_of_section plan h row =
    if draws_together plan.procedure.method then true else is_of_stratum plan h row

-- the seat of a row where stratum h is drawn alone, whose first stage has the number 0; rows of other strata have none
abbrev pub seat_alone : Plan → ℕ → ℕ → Seat
seat_alone plan h row =
    if is_of_stratum plan h row then seat_by plan.second 0 (place_of plan.strata row) else Nowhere

-- the seats of all rows, in frame order, where all strata are drawn or one alone
abbrev pub seats_by : Plan → Option ℕ → List Seat
seats_by plan None = seats_of plan
seats_by plan (Some h) = map (seat_alone plan h) (range_with_len 0 plan.rows)

-- the seats of the rows that are covered, or those in the one stage where all strata are drawn together
abbrev pub covered_seats : Coverage → List Seat
covered_seats c = if is_together c then seats_together c.plan else seats_by c.plan c.only

-- the draw tree, whose units are the rows of the frame
abbrev pub covered_tree : Coverage → Tree (Progress AnyState)
covered_tree c = staged_tree tree_of (covered_stages c) (covered_seats c)

-- the state is one of the selection by a plan that can be drawn
pub record BelongsToCovered (c : Coverage) (state : Progress AnyState) : Type 0 where
  pub drawable : CanBeDrawn c.plan
  pub member : IsUnderWay tree_of belongs_to (covered_stages c) state

-- how many sections there are: each stratum that is drawn is one, or all strata together
abbrev pub section_count : Coverage → ℕ
section_count c = if is_together c then 1 else strata_count c

-- how many stages stand before a section
abbrev pub stages_before : Coverage → ℕ → ℕ
stages_before c h = if is_together c then h else first_number (covered_parts c) h

-- the sections of what is covered
abbrev pub strata_sections : Coverage → Sectioning (Progress AnyState)
strata_sections c = sections_by (stages_before c) (section_count c)

-- the state is one of the selection of all strata by a plan that can be drawn
abbrev pub BelongsToWhole : Plan → Progress AnyState → Type 0
BelongsToWhole plan = BelongsToCovered (all_of plan)
