-- Rows and their first stage units, and these and their strata, by numbers.
use Rattle.std.specs.Prelude.{ℕ, ◌<◌, ◌≤◌, ◌≡◌, List, [], ◌∷◌, Option, Some, None, length, map, slice_index_or, All}
use Rattle.std.specs.List.{position_or_len, range_with_len}
use Rattle.std.specs.Str.{bytes_eq}
use Rattle.smp_frac.specs.Limits.{most_rows}
use Rattle.smp_frame.specs.Bounds.{HaveBalance, HavePoints, IsFrame}
use Rattle.smp_design.specs.Bounds.{IsDesign}
use Rattle.smp_design.specs.declared.design.Design.{Design}
use Rattle.smp_design.specs.declared.design.Second as second
use Rattle.smp_frac.specs.declared.fractions.Frac.{Frac}
use Rattle.smp_frame.specs.declared.frame.Unit as unit
use Rattle.smp_strata.specs.Clusters.{clusters, psu_names, first_row, stratum_names, stratum_number}
use Rattle.smp_strata.specs.Rows.{prob_at, rows_of, psu_at}
use Rattle.smp_strata.specs.Kept.Groups.{places_of, AreAmong}
use Rattle.smp_strata.specs.declared.groups.Groups.{Groups}
use Rattle.smp_strata.specs.declared.layout.Strata.{Strata}

-- the number of the psu of a row
abbrev pub psu_number : List unit.Unit → ℕ → ℕ
psu_number units row = position_or_len (bytes_eq (psu_at units row)) (psu_names units)

-- the number of the first stage unit of each row
abbrev pub homes_of : Option second.Second → List unit.Unit → List ℕ
homes_of None units = rows_of units
homes_of (Some second) units = map (psu_number units) (rows_of units)

-- the number of the stratum of each cluster
abbrev pub strata_homes : List unit.Unit → List (List ℕ) → List ℕ
strata_homes units clusters = map (λ rows. stratum_number units (first_row rows)) clusters

-- The first stage units of a frame as the code holds them: the rows of each, the number of each row's, and the row's place in it. Where
-- they are no groups, each row is by itself.
pub record Clustered : Type 0 where
  pub rows : List (List ℕ)
  pub homes : List ℕ
  pub places : List ℕ

abbrev pub rows_by : List ℕ → Option Groups → List (List ℕ)
rows_by homes None = map (λ row. row ∷ []) homes
rows_by homes (Some groups) = groups.groups.items

abbrev pub places_by : List ℕ → Option Groups → List ℕ
places_by homes None = map (λ row. 0) homes
places_by homes (Some groups) = groups.among.items

-- rows of a frame of so many units, one at least
pub record AreRows (count : ℕ) (rows : List ℕ) : Type 0 where
  pub some : 1 ≤ length rows
  pub few : length rows ≤ most_rows
  pub within : All (λ row. row < count) rows

-- so many groups of places by the numbers that stand there, with the place of each place in its group
pub record AreGroups (numbers : List ℕ) (count : ℕ) (groups : List (List ℕ))
    (among : List ℕ) : Type 0 where
  pub each : groups ≡ map (places_of numbers) (range_with_len 0 count)
  pub within : All (λ number. number < count) numbers
  pub seated : AreAmong numbers (length numbers) among
  pub paired : length among ≡ length numbers

-- the probability of a cluster of one row, by its number
abbrev pub prob_of : List unit.Unit → List (List ℕ) → ℕ → Frac
prob_of units clustered cluster = prob_at units (first_row (slice_index_or clustered cluster []))

-- the first stage units of a frame, as lists of rows, and the strata that they belong to, as the code holds them for a design
pub record IsLaidOut (asked : Design) (units : List unit.Unit) (clustered : List (List ℕ))
    (strata : Strata) : Type 0 where
  pub frame : IsFrame units
  pub balance : HaveBalance (length asked.columns.balance) units
  pub points : HavePoints (length asked.columns.near) units
  pub design : IsDesign asked
  pub rows : clustered ≡ clusters asked.second units
  pub all_rows : All (AreRows (length units)) clustered
  pub names : strata.names.items ≡ stratum_names units
  pub strata_homes : strata.homes.items ≡ strata_homes units clustered
  pub groups : AreGroups strata.homes.items (length strata.names.items)
      strata.members.items strata.places.items
