-- The draw of two of the four units a, b, c and d, of the sizes 1, 2, 3 and 4, by pivotal steps and the numbers 0, 3 and 4, as the draw
-- of a plan. Each field has the value of the definition that its comment begins with, as that definition's own comment gives it.
use Rattle.std.specs.Prelude.{◌≡◌, ℕ, pos, true, None, List, [], ◌∷◌, codes, length, Ok}
use Rattle.smp_frac.specs.Fractions.{Same, integer, over, sum_below, whole}
use Rattle.smp_split.specs.Means.{inclusion_probability, mean}
use Rattle.smp_split.specs.Orders.{frame_order, in_order}
use Rattle.smp_split.specs.Paths.{Leads, values_of}
use Rattle.smp_split.specs.declared.kind.Kind.TheVariants.{Pivot}
use Rattle.smp_tape.specs.TapeText.{tape_of}
use Rattle.smp_frame.specs.Frames.{frame_of}
use Rattle.smp_frame.specs.Sized.{sized_unit}
use Rattle.smp_frame.specs.declared.frame.Unit as unit
use Rattle.smp_methods.specs.declared.any.AnyState.{AnyState}
use Rattle.smp_methods.specs.declared.any.AnyState.TheVariants.{Pivotal}
use Rattle.smp_strata.specs.Allocations.{allocation}
use Rattle.smp_strata.specs.Asked.{fraction_by, fraction_in_psu, fraction_in_stratum}
use Rattle.smp_strata.specs.Clusters.{clusters_in, stratum_number}
use Rattle.smp_strata.specs.Draws.{AreAsked}
use Rattle.smp_strata.specs.Misfits.{misfit_of}
use Rattle.smp_strata.specs.Plans.{first_sizes, sample_size, stratum_of}
use Rattle.smp_strata.specs.Rows.{size_of, stratum_at}
use Rattle.smp_split.specs.Stages.{Progress}
use Rattle.smp_twostage.specs.Starts.{known, weighted}
use Rattle.smp_weights.specs.Sample.{sample_file, sample_row}
use Rattle.smp_plan.specs.Plans.{Survey, quick_design, row_id, row_probability}
use Rattle.smp_app.specs.Drawn.{Drawn, selected_rows, start_of, tree_of}
use Rattle.smp_app.specs.Draws.{firsts_drawn}
use Rattle.smp_app.specs.Texts.{draw_sample, report_text, weighted_row}

-- the rows of the frame
abbrev pub units : List unit.Unit
units = sized_unit (codes "a") 1 ∷ sized_unit (codes "b") 2 ∷ sized_unit (codes "c") 3 ∷ sized_unit (codes "d") 4 ∷ []

-- the design's plan: two units by pivotal steps, in frame order
abbrev pub plan : Survey
plan = record { design = quick_design 2; units = units; head = [] }

-- the state of the only stage with these values over 5, and the number of the stage that is under way
abbrev pub state : List ℕ → ℕ → Progress AnyState
state numer at = record { states = Pivotal (in_order (frame_order 4) (record { numer = numer; den = 5 })) ∷ []; at = at }

-- what is drawn
abbrev pub drawn : Drawn
drawn = record {
  plan = plan;
  only = None;
  leaf = state (0 ∷ 0 ∷ 5 ∷ 5 ∷ []) 1;
  path = (Pivot, 3, 0) ∷ (Pivot, 4, 3) ∷ (Pivot, 5, 4) ∷ [];
}

-- the bytes of the frame and of the tape
abbrev pub frame_bytes : List ℕ
frame_bytes = codes "id,size\na,1\nb,2\nc,3\nd,4\n"

abbrev pub tape_bytes : List ℕ
tape_bytes = codes "0\n3\n4\n"

-- the sample's bytes
abbrev pub sample_bytes : List ℕ
sample_bytes = codes "id,weight\nc,5/3\nd,5/4\n"

-- the values of the definitions of a plan, and of what is drawn by it
pub record IsFourDrawn : Type 0 where
  -- frame_of: of `id,size⏎a,1⏎b,2⏎c,3⏎d,4⏎` the four rows
  pub frame : frame_of plan.design.columns frame_bytes ≡ Ok units
  -- misfit_of: none
  pub served : misfit_of plan.design units ≡ None
  -- tape_of: of `0⏎3⏎4⏎` they are 0, 3 and 4
  pub tape : tape_of tape_bytes ≡ Ok (values_of drawn.path)
  -- start_of: (1,2,3,4)/5, in the only stage
  pub start : start_of plan ≡ state (1 ∷ 2 ∷ 3 ∷ 4 ∷ []) 0
  -- the numbers lead to the leaf, which is done
  pub leads : Leads (tree_of plan) (start_of plan) drawn.path drawn.leaf
  pub done : (tree_of plan).done drawn.leaf ≡ true
  -- allocation: 2 of one stratum
  pub allocated : allocation 2 (4 ∷ []) ≡ 2 ∷ []
  -- sample_size: 2
  pub size : sample_size plan.design units 0 ≡ 2
  -- stratum_at: empty
  pub stratum : stratum_at units 2 ≡ []
  -- stratum_number: 0
  pub number : stratum_number units 2 ≡ 0
  -- clusters_in: the lists of 0, of 1, of 2 and of 3
  pub clusters : clusters_in plan.design units 0 ≡ (0 ∷ []) ∷ (1 ∷ []) ∷ (2 ∷ []) ∷ (3 ∷ []) ∷ []
  -- size_of: of c: 3
  pub size_of_c : size_of units (2 ∷ []) ≡ 3
  -- first_sizes: 1 2 3 4
  pub sizes : first_sizes plan.design units 0 ≡ 1 ∷ 2 ∷ 3 ∷ 4 ∷ []
  -- fraction_by: 3/5
  pub by : Same (fraction_by None plan.design units 0 (2 ∷ [])) (over 3 5)
  -- fraction_in_stratum: of c: 3/5
  pub in_stratum : Same (fraction_in_stratum plan.design units 2) (over 3 5)
  -- fraction_in_psu: 1
  pub in_psu : fraction_in_psu None units 2 ≡ whole 1
  -- row_probability: of c 3/5
  pub asked : Same (row_probability plan 2) (over 3 5)
  -- row_id: of row 2: `c`
  pub id : row_id plan 2 ≡ codes "c"
  -- AreAsked: 2
  pub are_asked : AreAsked None plan.design units 0 2
  -- HasProbabilities: P(c) = 3/5; for xₖ = 1 the mean is 4
  pub probability : Same (inclusion_probability (tree_of plan) (start_of plan) 2) (over 3 5)
      × Same (mean (tree_of plan) (λ row. weighted (row_probability plan row) (pos 1)) (start_of plan)) (whole 4)
      × Same (sum_below 4 (λ row. integer (known (row_probability plan row) (pos 1)))) (whole 4)
  -- weighted: for x = 1 of c: 5/3
  pub counts : Same (weighted (row_probability plan 2) (pos 1)) (over 5 3)
  -- firsts_drawn: 2
  pub firsts : firsts_drawn drawn 0 (stratum_of plan.design units 0) ≡ 2
  -- selected_rows: 2, 3
  pub rows : selected_rows drawn ≡ 2 ∷ 3 ∷ []
  -- weighted_row: (`c`, 6/10)
  pub weighted_c : (weighted_row plan 2).0 ≡ codes "c"
      × Same (weighted_row plan 2).1 (over 6 10)
  -- sample_row: `c,5/3⏎`
  pub row : sample_row (codes "c") (over 6 10) ≡ codes "c,5/3\n"
  -- sample_file: of (`c`, 6/10) and (`d`, 8/10): `id,weight⏎c,5/3⏎d,5/4⏎`
  pub file : sample_file ((codes "c", over 6 10) ∷ (codes "d", over 8 10) ∷ []) ≡ sample_bytes
  -- draw_sample: `id,weight⏎c,5/3⏎d,5/4⏎`
  pub sample : draw_sample drawn ≡ sample_bytes
  -- these are 22 bytes
  pub long : length sample_bytes ≡ 22
  -- report_text: `selected 2 of 4⏎steps 3⏎`
  pub report : report_text drawn ≡ codes "selected 2 of 4\nsteps 3\n"
