-- The steps of a section, and those before it.
use Rattle.std.specs.Prelude.{ℕ, ◌==◌, nat_lt, List}
use Rattle.smp_split.specs.Paths.{Entry}
use Rattle.smp_log.specs.SectionLogs.{steps_where}

abbrev pub steps_in : ℕ → List (ℕ × Entry) → List Entry
steps_in h = steps_where (λ g. g == h)

abbrev pub steps_before : ℕ → List (ℕ × Entry) → List Entry
steps_before h = steps_where (λ g. nat_lt g h)
