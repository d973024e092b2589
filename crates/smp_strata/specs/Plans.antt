-- The plan of a frame and a design: its strata, their first stage units and the requests over them.
use Rattle.std.specs.Prelude.{ℕ, List, [], Option, Some, None, map, length, option_map, find, unwrap_or, slice_index, slice_index_or}
use Rattle.std.specs.Str.{bytes_eq}
use Rattle.smp_prob.specs.declared.requests.Request.{Request}
use Rattle.smp_prob.specs.Requested.{requested_of}
use Rattle.smp_prob.specs.Given.{given_of}
use Rattle.smp_frac.specs.declared.fractions.Frac.{Frac}
use Rattle.smp_design.specs.declared.method.Method.{Method}
use Rattle.smp_design.specs.declared.design.Design.{Design}
use Rattle.smp_design.specs.declared.design.Quota as quota
use Rattle.smp_design.specs.declared.design.Second as second
use Rattle.smp_design.specs.declared.procedure.Procedure.{Procedure}
use Rattle.smp_frame.specs.declared.frame.Unit as unit
use Rattle.smp_strata.specs.Allocations.{allocation}
use Rattle.smp_strata.specs.Clusters.{clusters_in, first_row, stratum_names, stratum_name, strata_numbers}
use Rattle.smp_strata.specs.Rows.{prob_at, size_of, second_size_at, values_of}
use Rattle.smp_strata.specs.declared.strata.FirstUnit as first
use Rattle.smp_strata.specs.declared.strata.Stratum as stratum

-- What a plan says: by which procedure the first stage units of each stratum are drawn; by which method the rows within them, where
-- there is a second stage; how many rows the frame has; and the strata.
pub record Plan : Type 0 where
  pub procedure : Procedure
  pub second : Option Method
  pub rows : ℕ
  pub strata : List stratum.Stratum

-- ---- how many first stage units are drawn from each stratum

-- the number of a stratum's entry; 0 where it has none
abbrev pub quota_of : List quota.Quota → List ℕ → ℕ
quota_of quotas name =
    unwrap_or (option_map (λ quota. quota.n) (find (λ quota. bytes_eq quota.stratum name) quotas)) 0

-- how many first stage units each stratum has
abbrev pub cluster_counts : Design → List unit.Unit → List ℕ
cluster_counts design units =
    map (λ stratum. length (clusters_in design units stratum)) (strata_numbers units)

-- how many first stage units are asked of each stratum: by allocation of n among the strata with these counts, or by their entries; 0 is no
-- number
abbrev pub sizes_by : Option ℕ → List quota.Quota → List (List ℕ) → List ℕ → List ℕ
sizes_by (Some n) quotas names counts = allocation n counts
sizes_by None quotas names counts = map (quota_of quotas) names

-- how many first stage units are drawn from each stratum
abbrev pub sample_sizes : Design → List unit.Unit → List ℕ
sample_sizes design units =
    sizes_by design.n design.sizes (stratum_names units) (cluster_counts design units)

-- how many first stage units are drawn from a stratum
-- = n_h
-- e.g. 2
abbrev pub sample_size : Design → List unit.Unit → ℕ → ℕ
sample_size design units stratum = slice_index (sample_sizes design units) stratum

-- ---- the plan

-- the sizes of the first stage units of a stratum
-- = the sizes x of the stratum's first stage units
-- e.g. 1 2 3 4
abbrev pub first_sizes : Design → List unit.Unit → ℕ → List ℕ
first_sizes design units stratum = map (size_of units) (clusters_in design units stratum)

-- the probabilities of the first stage units of a stratum, where there is a column of these and so one stage: each of these units is a row
abbrev pub first_probs : Design → List unit.Unit → ℕ → List Frac
first_probs design units stratum =
    map (λ rows. prob_at units (first_row rows)) (clusters_in design units stratum)

-- the request over the first stage units of a stratum: by the column of probabilities, or else in proportion to their sizes
abbrev pub request_by : Option (List ℕ) → Design → List unit.Unit → ℕ → Request
request_by None design units stratum =
    requested_of (first_sizes design units stratum) (sample_size design units stratum)
request_by (Some column) design units stratum = given_of (first_probs design units stratum)

-- the sizes of some rows in the second stage
abbrev pub second_sizes : List unit.Unit → List ℕ → List ℕ
second_sizes units rows = map (second_size_at units) rows

-- the request of a second stage over the rows of a first stage unit, by their places among those
abbrev pub second_request : Option second.Second → List unit.Unit → List ℕ → Option Request
second_request None units rows = None
second_request (Some second) units rows = Some (requested_of (second_sizes units rows) second.n)

-- a first stage unit of some rows; where it has coordinates, it is one row, and lies where that does
abbrev pub first_of : Design → List unit.Unit → List ℕ → first.FirstUnit
first_of design units rows = record {
  rows = rows;
  balance = values_of units (length design.columns.balance) rows;
  point = slice_index_or (map (λ u. u.point) units) (first_row rows) [];
  second = second_request design.second units rows;
}

-- a stratum
abbrev pub stratum_of : Design → List unit.Unit → ℕ → stratum.Stratum
stratum_of design units stratum = record {
  name = stratum_name units stratum;
  units = map (first_of design units) (clusters_in design units stratum);
  request = request_by design.columns.prob design units stratum;
}

-- the plan of a frame that has no misfit
abbrev pub strata_plan : Design → List unit.Unit → Plan
strata_plan design units = record {
  procedure = design.procedure;
  second = option_map (λ second. second.method) design.second;
  rows = length units;
  strata = map (stratum_of design units) (strata_numbers units);
}
