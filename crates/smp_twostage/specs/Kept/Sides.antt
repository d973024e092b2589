-- What a selection is on either side: where all strata are drawn together, and where they are drawn one by one. The proofs go by these.
use Rattle.std.specs.Prelude.{ℕ, Bool, true, if◌then◌else◌, List, [], ◌∷◌, map}
use Rattle.smp_methods.specs.declared.any.AnyState.{AnyState}
use Rattle.smp_methods.specs.Designs.{first_state}
use Rattle.smp_split.specs.declared.places.Place.{Place}
use Rattle.smp_split.specs.declared.places.Seat.{Seat}
use Rattle.smp_split.specs.declared.places.Stage.{Stage}
use Rattle.smp_strata.specs.Plans.{Plan}
use Rattle.smp_twostage.specs.Selections.{Coverage, Selecting, covered_number, covered_parts, first_number, is_of_stratum, place_together}
use Rattle.smp_twostage.specs.Selections.{seats_by, seats_together, stage_of_strata, stages_of, strata_count}

module _ (together : Bool) where
  abbrev pub stages_by : Coverage → List (Stage Selecting)
  stages_by c = if together then stage_of_strata c.plan ∷ [] else stages_of (covered_parts c)

  abbrev pub first_place_by : Coverage → ℕ → ℕ → Place
  first_place_by c h k =
      if together then place_together c.plan.strata h k
      else record { stage = first_number (covered_parts c) (covered_number c h); unit = k }

  abbrev pub is_in_section : Plan → ℕ → ℕ → Bool
  is_in_section plan h row = if together then true else is_of_stratum plan h row

  abbrev pub seats_in : Coverage → List Seat
  seats_in c = if together then seats_together c.plan else seats_by c.plan c.only

  abbrev pub section_count_by : Coverage → ℕ
  section_count_by c = if together then 1 else strata_count c

  abbrev pub stages_before_by : Coverage → ℕ → ℕ
  stages_before_by c h = if together then h else first_number (covered_parts c) h

-- the states from which the stages of strata that are drawn one by one start
abbrev pub states_of : Plan → List AnyState
states_of plan = map (λ stage. first_state stage.design.design) (stages_of plan)
