-- The texts that are written and put.
use Rattle.std.specs.Prelude.{ℕ, List, [], ◌∷◌, ◌++◌, length, map, codes}
use Rattle.std.specs.List.{filter, flat_map, range_with_len}
use Rattle.std.specs.Fmt.{decimal}
use Rattle.smp_frac.specs.Fractions.{Fraction}
use Rattle.smp_frac.specs.Exact.{fraction_text}
use Rattle.smp_log.specs.Logs as logs
use Rattle.smp_log.specs.SectionLogs.{sectioned_log_text}
use Rattle.smp_weights.specs.Rows.{row}
use Rattle.smp_weights.specs.Sample.{sample_file}
use Rattle.smp_twostage.specs.Covered.{covered_left}
use Rattle.smp_twostage.specs.Lines.{balance_lines}
use Rattle.smp_twostage.specs.Selections.{covered_start, covered_tree, covers, strata_sections}
use Rattle.smp_joint.specs.JointText.{joint_text}
use Rattle.smp_plan.specs.Plans.{Survey, survey_plan, row_id, row_probability}
use Rattle.smp_app.specs.Drawn.{Drawn, covered, drawn_rows, rows_by, sections_of, selected_rows, start_of, tree_of}

-- ---- texts of a plan

-- the row of a unit with its requested probability
abbrev pub probability_row : Survey → ℕ → List ℕ
probability_row plan r = row (row_id plan r ∷ fraction_text (row_probability plan r) ∷ [])

-- the probabilities: the header `id,probability`, then a row for each unit
abbrev pub probabilities_text : Survey → List ℕ
probabilities_text plan =
    row (codes "id" ∷ codes "probability" ∷ [])
    ++ flat_map (probability_row plan) (range_with_len 0 (length plan.units))

-- what is said of a plan: its units, and in how many strata they are
abbrev pub accepted_text : Survey → List ℕ
accepted_text plan =
    codes "accepted " ++ (decimal (length plan.units)
    ++ (codes " units in " ++ (decimal (length (survey_plan plan).strata) ++ codes " strata\n")))

-- the joint probabilities of each two units (Särndal, Swensson and Wretman 1992)
abbrev pub joints_text : Survey → List ℕ
joints_text plan = joint_text (map (λ u. u.id) plan.units) (survey_plan plan)

-- ---- texts of what is drawn

-- the row of a drawn unit: its id
abbrev pub id_row : Survey → ℕ → List ℕ
id_row plan r = row (row_id plan r ∷ [])

-- the ids of the drawn units: the header `id`, then an id a row
abbrev pub ids_text : Drawn → List ℕ
ids_text drawn = row (codes "id" ∷ []) ++ flat_map (id_row drawn.plan) (drawn_rows drawn)

-- the lines of the steps
abbrev pub steps_text : Drawn → List ℕ
steps_text drawn = logs.steps_text drawn.path

-- the log of a draw of all strata: its head, the steps of a stratum after the other, and its end
abbrev pub draw_log : Drawn → List ℕ
draw_log drawn =
    sectioned_log_text (tree_of drawn.plan) (sections_of drawn.plan) (start_of drawn.plan) drawn.plan.head drawn.path

-- the log of a draw of all strata, or of one section alone
abbrev pub log_text : Drawn → List ℕ
log_text drawn =
    let own = covered drawn in
    sectioned_log_text (covered_tree own) (strata_sections own) (covered_start own)
    drawn.plan.head drawn.path

-- the id of a row and its probability, whose inverse is its weight
-- = (id, π)
-- e.g. (`c`, 6/10)
abbrev pub weighted_row : Survey → ℕ → List ℕ × Fraction
weighted_row plan r = (row_id plan r, row_probability plan r)

-- the sample of a draw of all strata: the drawn units with their design weights
-- e.g. `id,weight⏎c,5/3⏎d,5/4⏎`
abbrev pub draw_sample : Drawn → List ℕ
draw_sample drawn = sample_file (map (weighted_row drawn.plan) (selected_rows drawn))

-- the sample of a draw of all strata, or of one section alone
abbrev pub sample_text : Drawn → List ℕ
sample_text drawn = sample_file (map (weighted_row drawn.plan) (drawn_rows drawn))

-- what is put of a log that was written anew: how many steps it has
abbrev pub migrated_text : Drawn → List ℕ
migrated_text drawn = codes "migrated " ++ (decimal (length drawn.path) ++ codes " steps\n")

-- The report: how many units were drawn, of how many in the strata that are covered, and in how many steps; and where the
-- method balances, what it kept and gave up in each stratum, or in all that are drawn together.
-- e.g. `selected 2 of 4⏎steps 3⏎`
abbrev pub report_text : Drawn → List ℕ
report_text drawn =
    (codes "selected " ++ (decimal (length (drawn_rows drawn))
    ++ (codes " of " ++ (decimal (rows_by drawn.plan drawn.only)
    ++ (codes "\nsteps " ++ (decimal (length drawn.path) ++ codes "\n"))))))
    ++ balance_lines (covered drawn) drawn.leaf.states

-- how many units were fractional in a stratum where its landing began, behind a space
abbrev pub left_text : Drawn → ℕ → List ℕ
left_text drawn h = codes " " ++ decimal (covered_left (covered drawn) drawn.leaf.states h)

-- the same of each stratum that is drawn
abbrev pub lefts_text : Drawn → List ℕ
lefts_text drawn =
    flat_map (left_text drawn) (filter (covers (covered drawn)) (range_with_len 0 (length (survey_plan drawn.plan).strata)))

-- the summary of the demonstration: how many units were drawn of how many, in how many steps, and what was left to the landings; and that
-- the log of the draw was replayed
abbrev pub demo_text : Drawn → List ℕ
demo_text drawn =
    codes "units " ++ (decimal (length drawn.plan.units)
    ++ (codes "\nselected " ++ (decimal (length (drawn_rows drawn))
    ++ (codes "\nsteps " ++ (decimal (length drawn.path)
    ++ (codes "\nleft" ++ (lefts_text drawn ++ codes "\nreplay ok\n")))))))
