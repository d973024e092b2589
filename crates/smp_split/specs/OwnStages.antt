-- Stages of their own: stages in a row that select within one another alone, as those of one stratum do. They are a selection in
-- stages too.
use Rattle.std.specs.Prelude.{◌≡◌, ℕ, suc, ◌+◌, ◌<◌, ◌≤◌, nat_lt, Bool, true, false, List, length, map, take, drop}
use Rattle.std.specs.Prelude.{Some, option_map}
use Rattle.std.specs.List.{slice_get}
use Rattle.smp_split.specs.Sectioning.{Sectioning}
use Rattle.smp_split.specs.Trees.{Tree}
use Rattle.smp_split.specs.declared.places.Place.{Place}
use Rattle.smp_split.specs.declared.places.Seat.{Seat}
use Rattle.smp_split.specs.declared.places.Seat.TheVariants.{Nowhere, First, Second}
use Rattle.smp_split.specs.declared.places.Stage.{Stage}
use Rattle.smp_split.specs.Stages.{Progress, first_among, progress}

-- a place, a stage and a seat, where so many stages come before
abbrev pub later : ℕ → Place → Place
later before place = record { stage = before + place.stage; unit = place.unit }

abbrev pub stage_later : {Design : Type 0} → ℕ → Stage Design → Stage Design
stage_later before stage =
    record { design = stage.design; within = option_map (later before) stage.within }

abbrev pub seat_later : ℕ → Seat → Seat
seat_later before Nowhere = Nowhere
seat_later before (First place) = First (later before place)
seat_later before (Second first second) = Second (later before first) (later before second)

-- n elements of a list, behind so many
abbrev pub run_of : {X : Type 0} → ℕ → ℕ → List X → List X
run_of before n xs = take n (drop before xs)

-- The stages `part` stand in the whole behind so many others. Their own rows have the seats there that they have in the whole, and
-- each other row has none.
pub record AreTheirOwn {Design : Type 0} (stages : List (Stage Design)) (seats : List Seat)
    (before : ℕ) (part : List (Stage Design)) (part_seats : List Seat) (own : ℕ → Bool)
    : Type 0 where
  pub run : run_of before (length part) stages ≡ map (stage_later before) part
  pub seated : (row : ℕ) → row < length seats → own row ≡ true
      → slice_get seats row ≡ option_map (seat_later before) (slice_get part_seats row)
  pub others : (row : ℕ) → row < length seats → own row ≡ false
      → slice_get part_seats row ≡ Some Nowhere

-- the state of these stages in a state of the whole, in which so many stages stand before them
abbrev pub own_progress : {Design State : Type 0} → (Design → Tree State) → ℕ
    → List (Stage Design) → Progress State → Progress State
own_progress tree_of before part s =
    progress tree_of part (run_of before (length part) s.states)

-- ---- stages in sections

-- The stages in n sections, where `before h` stages come before section h. A state is in the first section that doesn't end before the
-- stage that is under way.
abbrev pub sections_by : {State : Type 0} → (ℕ → ℕ) → ℕ → Sectioning (Progress State)
sections_by before n =
    record { count = n; of = λ s. first_among (λ h. nat_lt s.at (before (suc h))) n 0 }

-- the sections have all of these stages
pub record AreSections {Design : Type 0} (stages : List (Stage Design)) (before : ℕ → ℕ) (n : ℕ)
    : Type 0 where
  pub first : before 0 ≡ 0
  pub rises : (h : ℕ) → h < n → before h ≤ before (suc h)
  pub last : before n ≡ length stages
