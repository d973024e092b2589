-- Counts of 64 bits that stop at their end.
use Rattle.std.specs.Prelude.{ℕ, ◌+◌, ◌-◌, ◌^◌, ◌≤◌, min, List, Result, Ok, Err}
use Rattle.smp_io.specs.declared.fault.StoreFault.{StoreFault}
use Rattle.smp_io.specs.declared.fault.StoreFault.TheVariants.{Failed, NoMemory}

-- how many reads failed, how many writes, and how many writes ended for want of memory
pub record FaultCounts : Type 0 where
  pub failed_reads : ℕ
  pub failed_writes : ℕ
  pub short_writes : ℕ

-- how many puts failed, and how many ended for want of memory
pub record PutCounts : Type 0 where
  pub failed : ℕ
  pub short : ℕ

-- one more, where the count isn't at its end
abbrev pub one_more : ℕ → ℕ
one_more count = min (count + 1) (2 ^ 64 - 1)

-- the count of failed calls after a call: one more where it ended in an error
abbrev pub count_after : {A E : Type 0} → Result A E → ℕ → ℕ
count_after (Ok answer) count = count
count_after (Err fault) count = one_more count

-- The same where want of memory isn't counted: one more exactly where the call failed.
abbrev pub failures_after : {A : Type 0} → Result A StoreFault → ℕ → ℕ
failures_after (Ok answer) count = count
failures_after (Err NoMemory) count = count
failures_after (Err Failed) count = one_more count

-- the count of calls that ended for want of memory: one more exactly where this one did
abbrev pub shortages_after : {A : Type 0} → Result A StoreFault → ℕ → ℕ
shortages_after (Ok answer) count = count
shortages_after (Err Failed) count = count
shortages_after (Err NoMemory) count = one_more count

-- The count rose, or stands at its end.
abbrev pub Rose : ℕ → ℕ → Type 0
Rose before now = one_more before ≤ now

-- No name's count fell.
abbrev pub NeverFalls : (List ℕ → ℕ) → (List ℕ → ℕ) → Type 0
NeverFalls before now = (name : List ℕ) → before name ≤ now name
