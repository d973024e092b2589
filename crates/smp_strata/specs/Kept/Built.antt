-- What is known of the parts of a plan when they are made.
use Rattle.std.specs.Prelude.{◌≡◌, ℕ, ◌<◌, ◌≤◌, IsTrue, List, [], ◌∷◌, ◌++◌, length, map, Option, Some, None, ⊤}
use Rattle.std.specs.Prelude.{option_map, slice_index, slice_index_or, EachIndex, All}
use Rattle.smp_frac.specs.Fractions.{Same, whole}
use Rattle.smp_frac.specs.declared.fractions.Frac.{Frac}
use Rattle.smp_prob.specs.Given.{expected_size, given_fraction, given_of}
use Rattle.smp_prob.specs.declared.requests.Request.{Request}
use Rattle.smp_prob.specs.Requested.{requested_fraction, requested_of}
use Rattle.smp_prob.specs.Inclusions.{asked_fraction}
use Rattle.smp_design.specs.declared.design.Design.{Design}
use Rattle.smp_design.specs.declared.method.Method.{Method}
use Rattle.smp_design.specs.declared.design.Second as second
use Rattle.smp_design.specs.Words.{row}
use Rattle.smp_frame.specs.declared.frame.Unit as unit
use Rattle.smp_values.specs.Starts.{DrawsWhole}
use Rattle.smp_strata.specs.Asked.{fraction_by}
use Rattle.smp_strata.specs.Bounds.{IsFirst, IsOver, IsStratum, DrawsWholeOver}
use Rattle.smp_strata.specs.Draws.{AreAsked, DrawsInStratum, IsFor, SecondDraws}
use Rattle.smp_strata.specs.Plans.{first_of, request_by, second_request, second_sizes, stratum_of}
use Rattle.smp_design.specs.Keys.{or_else}
use Rattle.smp_strata.specs.Clusters.{clusters, clusters_in, strata_numbers, stratum_name, stratum_names}
use Rattle.smp_strata.specs.Misfits.{no_size, probs_misfit, psu_short, too_many}
use Rattle.smp_strata.specs.Seats.{IsSeat}
use Rattle.smp_strata.specs.Kept.Groups.{places_below}
use Rattle.smp_strata.specs.declared.misfit.Misfit.{Misfit}
use Rattle.smp_strata.specs.declared.strata.FirstUnit as first
use Rattle.smp_strata.specs.declared.strata.Seat as seat
use Rattle.smp_strata.specs.declared.strata.Stratum as stratum

-- a request gives each unit the probability that is requested of its size
abbrev pub Asks : List ℕ → ℕ → Request → Type 0
Asks sizes n request = EachIndex sizes (λ unit.
    Same (asked_fraction request unit) (requested_fraction n sizes (slice_index sizes unit)))

-- the same of a second stage, where there is one
abbrev pub SecondAsks : Option second.Second → List ℕ → Option Request → Type 0
SecondAsks None sizes request = ⊤
SecondAsks (Some second) sizes None = ⊤
SecondAsks (Some second) sizes (Some request) = Asks sizes second.n request

-- a request gives each first stage unit of a stratum the probability that is asked for it
abbrev pub FirstAsks : Design → List unit.Unit → ℕ → Request → Type 0
FirstAsks design units number request = (u : ℕ) → u < length (clusters_in design units number)
    → Same (asked_fraction request u)
    (fraction_by design.columns.prob design units number
    (slice_index_or (clusters_in design units number) u []))

-- the request for n of the units with these sizes
pub record IsSizedRequest (sizes : List ℕ) (n : ℕ) (request : Request) : Type 0 where
  pub value : request ≡ requested_of sizes n
  pub over : DrawsWholeOver (length sizes) request
  pub asks : Asks sizes n request
  pub draws : IsFor request (length sizes) n

-- the request of given probabilities
pub record IsGivenRequest (probs : List Frac) (request : Request) : Type 0 where
  pub value : request ≡ given_of probs
  pub over : IsOver (length probs) request
  pub asks : EachIndex probs (λ unit.
      Same (asked_fraction request unit) (given_fraction probs unit))
  pub draws : (n : ℕ) → Same (expected_size probs) (whole n) → IsFor request (length probs) n

-- the request over the first stage units of a stratum
pub record IsFirstRequest (design : Design) (units : List unit.Unit) (number : ℕ)
    (request : Request) : Type 0 where
  pub some : 1 ≤ length (clusters_in design units number)
  pub value : request ≡ request_by design.columns.prob design units number
  pub over : IsOver (length (clusters_in design units number)) request
  pub whole : IsTrue (row design.procedure.method).draws_whole → DrawsWhole request
  pub asks : FirstAsks design units number request
  pub draws : (n : ℕ) → AreAsked design.columns.prob design units number n
      → IsFor request (length (clusters_in design units number)) n

-- the method of a second stage
abbrev pub second_method : Design → Option Method
second_method design = option_map (λ second. second.method) design.second

-- the requests over the first stage units of all strata
abbrev pub AreFirstRequests : Design → List unit.Unit → Type 0
AreFirstRequests design units = (number : ℕ) → number < length (stratum_names units)
    → IsFirstRequest design units number (request_by design.columns.prob design units number)

-- what is known of the first stage unit of some rows
pub record IsBuiltFirst (design : Design) (units : List unit.Unit) (rows : List ℕ) : Type 0 where
  pub first : IsFirst (second_method design) (first_of design units rows)
  pub point : length (first_of design units rows).point ≡ length design.columns.near
  pub asks : SecondAsks design.second (second_sizes units rows)
      (second_request design.second units rows)
  pub draws : SecondDraws design.second (length rows) (second_request design.second units rows)

-- what is known of the stratum of a number
pub record IsBuilt (design : Design) (units : List unit.Unit) (number : ℕ) : Type 0 where
  pub stratum : IsStratum (second_method design) (stratum_of design units number)
  pub request : IsFirstRequest design units number (request_by design.columns.prob design units number)
  pub draws : DrawsInStratum design units number (stratum_of design units number)
  pub firsts : All (IsBuiltFirst design units) (clusters_in design units number)

-- all strata of a frame
pub record AreBuilt (design : Design) (units : List unit.Unit) (strata : List stratum.Stratum) : Type 0 where
  pub are : strata ≡ map (stratum_of design units) (strata_numbers units)
  pub each : (number : ℕ) → number < length (stratum_names units) → IsBuilt design units number

-- ---- on the way

-- a stratum before its first stage units are put in
abbrev pub bare : Design → List unit.Unit → ℕ → stratum.Stratum
bare design units number = record {
  name = stratum_name units number;
  units = [];
  request = request_by design.columns.prob design units number;
}

-- a stratum with one more first stage unit
abbrev pub with_unit : stratum.Stratum → first.FirstUnit → stratum.Stratum
with_unit s f = record { name = s.name; units = s.units ++ f ∷ []; request = s.request }

-- the stratum of a number with those of the first so many first stage units that belong to it, by the numbers of their strata
abbrev pub so_far : Design → List unit.Unit → List ℕ → ℕ → ℕ → stratum.Stratum
so_far design units homes limit number = record {
  name = stratum_name units number;
  units = map (λ i. first_of design units (slice_index_or (clusters design.second units) i []))
      (places_below homes limit number);
  request = request_by design.columns.prob design units number;
}

-- a psu with fewer positive second sizes than n, where there is a second stage
abbrev pub second_short : Option second.Second → List unit.Unit → List ℕ → Option Misfit
second_short None units rows = None
second_short (Some second) units rows = psu_short second.n units rows

-- the misfits of the requests over first stage units
abbrev pub request_misfit : Option (List ℕ) → Design → List unit.Unit → Option Misfit
request_misfit None design units = or_else (no_size design units) (too_many design units)
request_misfit (Some column) design units = probs_misfit design units

-- the seat of a row, by the numbers of first stage units and strata
abbrev pub seat_by : List ℕ → List ℕ → List ℕ → List ℕ → ℕ → seat.Seat
seat_by strata_homes strata_places homes places row = record {
  stratum = slice_index strata_homes (slice_index homes row);
  unit = slice_index strata_places (slice_index homes row);
  place = slice_index places row;
}

-- seats that are those of the rows, and no others
pub record AreSeats (strata : List stratum.Stratum) (seats : List seat.Seat) : Type 0 where
  pub here : (row : ℕ) (d : seat.Seat) → row < length seats
      → IsSeat strata row (slice_index_or seats row d)
  pub only : (row : ℕ) (s d : seat.Seat) → IsSeat strata row s
      → (row < length seats) × (slice_index_or seats row d ≡ s)
