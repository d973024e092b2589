-- First stage units as clusters of rows, and the strata that they belong to, all in order of first appearance.
use Rattle.std.specs.Prelude.{ℕ, List, [], ◌∷◌, Option, Some, None, length, map, filter, slice_index, slice_index_or}
use Rattle.std.specs.List.{position_or_len, range_with_len}
use Rattle.std.specs.Str.{bytes_eq}
use Rattle.smp_design.specs.declared.design.Design.{Design}
use Rattle.smp_design.specs.declared.design.Second as second
use Rattle.smp_frame.specs.declared.frame.Unit as unit
use Rattle.smp_strata.specs.Appearances.{distinct}
use Rattle.smp_strata.specs.Rows.{rows_of, stratum_at, psu_at}

-- the names of the strata
abbrev pub stratum_names : List unit.Unit → List (List ℕ)
stratum_names units = distinct (map (λ u. u.stratum) units)

-- the names of the psus
abbrev pub psu_names : List unit.Unit → List (List ℕ)
psu_names units = distinct (map (λ u. u.psu) units)

-- the rows of a psu, in frame order
abbrev pub in_psu : List unit.Unit → List ℕ → List ℕ
in_psu units name = filter (λ row. bytes_eq (psu_at units row) name) (rows_of units)

-- the rows of each first stage unit: each row by itself, or with a second stage the rows of each psu
abbrev pub clusters : Option second.Second → List unit.Unit → List (List ℕ)
clusters None units = map (λ row. row ∷ []) (rows_of units)
clusters (Some second) units = map (in_psu units) (psu_names units)

-- the first row of a cluster, whose stratum is that of the cluster
abbrev pub first_row : List ℕ → ℕ
first_row rows = slice_index rows 0

-- ---- the strata by their numbers

-- the numbers of the strata, counted from 0
abbrev pub strata_numbers : List unit.Unit → List ℕ
strata_numbers units = range_with_len 0 (length (stratum_names units))

-- the name of a stratum
abbrev pub stratum_name : List unit.Unit → ℕ → List ℕ
stratum_name units stratum = slice_index_or (stratum_names units) stratum []

-- the number of the stratum of a row
-- = h(row)
-- e.g. 0
abbrev pub stratum_number : List unit.Unit → ℕ → ℕ
stratum_number units row = position_or_len (bytes_eq (stratum_at units row)) (stratum_names units)

-- the clusters of a stratum
-- e.g. the lists of 0, of 1, of 2 and of 3
abbrev pub clusters_in : Design → List unit.Unit → ℕ → List (List ℕ)
clusters_in design units stratum =
    filter (λ rows. bytes_eq (stratum_at units (first_row rows)) (stratum_name units stratum))
    (clusters design.second units)
