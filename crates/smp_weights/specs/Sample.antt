-- The sample file.
use Rattle.std.specs.Prelude.{ℕ, Bool, List, [], ◌∷◌, ◌++◌, map, flat_map, codes}
use Rattle.smp_frac.specs.Fractions.{Fraction, inverse}
use Rattle.smp_weights.specs.Rows.{row}
use Rattle.smp_frac.specs.declared.fractions.Frac.{Frac}
use Rattle.smp_frac.specs.Exact.{fraction, fraction_text}
use Rattle.smp_weights.specs.Chosen.{Chosen, chosen_units}

-- the row of a unit: its id, and its design weight, the inverse of its inclusion probability (Tillé 2006)
-- e.g. `c,5/3⏎`
abbrev pub sample_row : List ℕ → Fraction → List ℕ
sample_row id probability = row (id ∷ fraction_text (inverse probability) ∷ [])

-- the row of a unit by the pair of its id and its probability
abbrev pub sample_row_of : List ℕ × Fraction → List ℕ
sample_row_of unit = sample_row unit.0 unit.1

-- the header, then the rows of the units, each given by its id and its probability
-- e.g. of (`c`, 6/10) and (`d`, 8/10): `id,weight⏎c,5/3⏎d,5/4⏎`
abbrev pub sample_file : List (List ℕ × Fraction) → List ℕ
sample_file units = row (codes "id" ∷ codes "weight" ∷ []) ++ flat_map sample_row_of units

-- the sample file of the chosen units, in order
abbrev pub chosen_unit : Chosen (List ℕ) → List ℕ × Fraction
chosen_unit u = (u.value, fraction u.asked)

abbrev pub sample_text : List (List ℕ) → List Frac → List Bool → List ℕ
sample_text ids asked chosen = sample_file (map chosen_unit (chosen_units ids asked chosen))
