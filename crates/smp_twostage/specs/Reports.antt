-- What the lines of the report tell, in the exact fractions of the totals.
use Rattle.std.specs.Prelude.{◌≡◌, ℕ, zero, suc, ◌+◌, ◌<◌, Bool, List, [], ◌∷◌, length, map, slice_index_or, All, IfOk}
use Rattle.std.specs.List.{range_with_len}
use Rattle.smp_frac.specs.Fractions.{Same, integer}
use Rattle.smp_frac.specs.Exact.{signed_fraction}
use Rattle.smp_frac.specs.LowestTerms.{lowest_terms}
use Rattle.smp_prob.specs.Inclusions.{asked_fraction, inclusion, is_taken}
use Rattle.smp_prob.specs.Requests.{IsRequest}
use Rattle.smp_twostage.specs.Strata.{StratumUnits, AreStratumUnits, values_of}
use Rattle.smp_twostage.specs.Totals.{known, estimate}
use Rattle.smp_twostage.specs.DrawnLines.{Drawn, known_total, column_estimate}

-- The line of a column tells the estimate where these free units of the strata are selected, unless it is wide, and what is known.
pub record TellsColumn (drawn : Drawn) (frame : List StratumUnits) (selected : ℕ → Bool) (column : ℕ) : Type 0 where
  pub estimate : IfOk (column_estimate drawn column)
      (λ a. Same (signed_fraction a) (estimate frame selected (length frame + column)))
  pub known : Same (integer (known_total drawn column)) (known frame (length frame + column))

-- All units of a stratum are told: the values of each, the probability that is asked for it, and whether it is drawn, where these free
-- units are selected.
pub record TellsOf (s : StratumUnits) (selected : ℕ → Bool) (drawn : Drawn) : Type 0 where
  pub values : drawn.values ≡ s.values
  pub asked : drawn.asked
      ≡ map (λ k. lowest_terms (asked_fraction s.request k)) (range_with_len 0 (length s.values))
  pub chosen : drawn.chosen
      ≡ map (λ k. is_taken selected (inclusion s.request k)) (range_with_len 0 (length s.values))

abbrev pub EachLineTells : Type 0
EachLineTells =
    (s : StratumUnits) → AreStratumUnits s → (selected : ℕ → Bool) (drawn : Drawn)
    → TellsOf s selected drawn → (column : ℕ) → TellsColumn drawn (s ∷ []) selected column

-- ---- all strata together

-- where there is no stratum
abbrev pub no_stratum : StratumUnits
no_stratum = record {
  request = record { certain = []; free = []; shape = []; r = 0; total = 0 };
  values = [];
}

-- the stratum with a number
abbrev pub stratum_at : List StratumUnits → ℕ → StratumUnits
stratum_at frame h = slice_index_or frame h no_stratum

-- how many free units stand before those of a stratum
abbrev pub free_before : List StratumUnits → ℕ → ℕ
free_before [] h = 0
free_before (s ∷ frame) zero = 0
free_before (s ∷ frame) (suc h) = length s.request.free + free_before frame h

-- rows by their numbers: of which stratum each is, and which unit of it; and the row of each unit
pub record UnitRows : Type 0 where
  pub count : ℕ
  pub stratum : ℕ → ℕ
  pub unit : ℕ → ℕ
  pub row : ℕ → ℕ → ℕ

-- each row is a unit of these strata, and each unit of them is one row
pub record AreUnitRows (frame : List StratumUnits) (rows : UnitRows) : Type 0 where
  pub stratum : (k : ℕ) → k < rows.count → rows.stratum k < length frame
  pub unit : (k : ℕ) → k < rows.count
      → rows.unit k < length (stratum_at frame (rows.stratum k)).values
  pub back : (k : ℕ) → k < rows.count → rows.row (rows.stratum k) (rows.unit k) ≡ k
  pub row : (h u : ℕ) → h < length frame → u < length (stratum_at frame h).values
      → rows.row h u < rows.count
  pub row_stratum : (h u : ℕ) → h < length frame → u < length (stratum_at frame h).values
      → rows.stratum (rows.row h u) ≡ h
  pub row_unit : (h u : ℕ) → h < length frame → u < length (stratum_at frame h).values
      → rows.unit (rows.row h u) ≡ u

-- All units of the strata are told, row by row: the values of each, the probability that is asked for it, and whether it is drawn, where
-- these free units of all strata are selected.
pub record TellsRows (frame : List StratumUnits) (rows : UnitRows) (selected : ℕ → Bool)
    (drawn : Drawn) : Type 0 where
  pub values : drawn.values
      ≡ map (λ k. values_of (stratum_at frame (rows.stratum k)) (rows.unit k)) (range_with_len 0 rows.count)
  pub asked : drawn.asked
      ≡ map (λ k. lowest_terms (asked_fraction (stratum_at frame (rows.stratum k)).request (rows.unit k)))
      (range_with_len 0 rows.count)
  pub chosen : drawn.chosen
      ≡ map (λ k. is_taken (λ u. selected (free_before frame (rows.stratum k) + u))
      (inclusion (stratum_at frame (rows.stratum k)).request (rows.unit k)))
      (range_with_len 0 rows.count)

abbrev pub EachRowTells : Type 0
EachRowTells =
    (frame : List StratumUnits) → All (λ s. IsRequest s.request) frame
    → (rows : UnitRows) → AreUnitRows frame rows → (selected : ℕ → Bool) (drawn : Drawn)
    → TellsRows frame rows selected drawn → (column : ℕ) → TellsColumn drawn frame selected column
