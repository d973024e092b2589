-- How many units of a stratum are selected.
use Rattle.std.specs.Prelude.{◌≡◌, ℕ, ◌<◌, nat_eq, ◌&&◌, length}
use Rattle.std.specs.List.{count_by, range_with_len}
use Rattle.smp_frac.specs.Fractions.{Same, whole}
use Rattle.smp_split.specs.Paths.{AtEachLeaf}
use Rattle.smp_moves.specs.Cubes.{values_in}
use Rattle.smp_stratcube.specs.Units.{Units, stratum}
use Rattle.smp_stratcube.specs.Values.{is_one}
use Rattle.smp_stratcube.specs.States.{Balancing}
use Rattle.smp_stratcube.specs.Cube.{strat_tree}
use Rattle.smp_stratcube.specs.Balances.{target}

-- how many units of stratum h are selected
abbrev pub selected_in : Units → ℕ → Balancing → ℕ
selected_in units h state =
    count_by (λ k. nat_eq (stratum units k) h && is_one (values_in state) k)
    (range_with_len 0 (length units.members))

-- where the requested probabilities of a stratum add up to a whole number, each leaf selects that many of its units
abbrev pub HasCounts : Units → Balancing → Type 0
HasCounts units state =
    (h n : ℕ) → h < length units.firsts → Same (target units h) (whole n)
    → AtEachLeaf (strat_tree units) state (λ path leaf. selected_in units h leaf ≡ n)
