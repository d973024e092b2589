-- What is true of every design that was read.
use Rattle.std.specs.Prelude.{◌≡◌, ℕ, false, List, [], length, map, None, IsSome, IfSome, IfNone, OnSome, IsTrue, All, is_some}
use Rattle.std.specs.Ordering.{nat_cmp}
use Rattle.std.specs.Cmp.Lexicographic.{slice_cmp}
use Rattle.std.specs.List.Sorted.{IsStrictlySortedBy}
use Rattle.smp_frac.specs.Limits.{most_rows}
use Rattle.smp_design.specs.declared.design.Design.{Design}
use Rattle.smp_design.specs.declared.design.Quota as quota
use Rattle.smp_design.specs.Procedures.{From1To, IsProcedure}
use Rattle.smp_design.specs.Values.{last_version}
use Rattle.smp_design.specs.Words.{row, draws_together, in_second, is_near}

-- a number of units
abbrev pub InRange : ℕ → Type 0
InRange n = From1To most_rows n

-- quotas in byte order of their strata's names, which differ
abbrev pub Ascend : List quota.Quota → Type 0
Ascend quotas = IsStrictlySortedBy (slice_cmp nat_cmp) (map (λ q. q.stratum) quotas)

-- a design that says nothing of numbers or sizes of first stage units, as probabilities stand in a column
pub record HasOnlyProbabilities (d : Design) : Type 0 where
  pub version : d.version ≡ 2
  pub no_number : d.n ≡ None
  pub no_quotas : d.sizes ≡ []
  pub no_size : d.columns.size ≡ None
  pub one_stage : d.second ≡ None

-- the ranges of a design, and which of its parts go together
pub record IsDesign (d : Design) : Type 0 where
  pub version : From1To last_version d.version
  -- numbers of units
  pub size : IfSome d.n InRange
  pub quotas : All (λ q. InRange q.n) d.sizes
  pub ascending : Ascend d.sizes
  -- a number for all strata, or else a column of probabilities, or else quotas for the strata of a column
  pub one_size : OnSome d.n (d.sizes ≡ [])
  pub prob : OnSome d.columns.prob (HasOnlyProbabilities d)
  pub strata : IfNone d.n (IfNone d.columns.prob (IsSome d.columns.stratum))
  -- what the method takes, and so many columns of balancing values and of coordinates
  pub procedure : IsProcedure d.procedure
  pub balance : length d.columns.balance ≡ d.procedure.balance
  pub near : length d.columns.near ≡ d.procedure.near
  -- the second stage, whose first stage units stand in a column
  pub second_size : IfSome d.second (λ s. InRange s.n)
  pub second_method : IfSome d.second (λ s. IsTrue (in_second s.method))
  pub second_first : OnSome d.second (is_near (row d.procedure.method).needs ≡ false)
  pub second_apart : OnSome d.second (draws_together d.procedure.method ≡ false)
  pub psu : is_some d.columns.psu ≡ is_some d.second
  pub second_sizes : IfNone d.second (d.columns.second_size ≡ None)
