-- What is said of a case, and how many cases were ok, differ, and weren't read.
use Rattle.std.specs.Prelude.{ℕ, ◌==◌, if◌then◌else◌}
use Rattle.smp_io.specs.Counts.{one_more}
use Rattle.smp_caseread.specs.declared.verdict.Tally.{Tally}
use Rattle.smp_caseread.specs.declared.verdict.Verdict.{Verdict}
use Rattle.smp_caseread.specs.declared.verdict.Verdict.TheVariants as verdicts

-- the verdict by how many parts differ
abbrev pub verdict_of : ℕ → Verdict
verdict_of found = if found == 0 then verdicts.Ok else verdicts.Differs found

abbrev pub none_counted : Tally
none_counted = record { ok = 0; differ = 0; not_read = 0 }

-- the counts with one more verdict; a count stops at its end
abbrev pub counted : Verdict → Tally → Tally
counted verdicts.Ok tally = record tally { ok = one_more tally.ok }
counted (verdicts.Differs found) tally = record tally { differ = one_more tally.differ }
counted (verdicts.NotRead fault) tally = record tally { not_read = one_more tally.not_read }
