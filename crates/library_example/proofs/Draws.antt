-- What is proved of the design of a request is stated of sizes and a tape.
use Rattle.std.proofs.Common.{◌≡◌, ℕ, ◌<◌, List, [], length, slice_index, EachIndex, true, refl, sym, ap, subst, ◌∙◌}
use Rattle.smp_frac.specs.Fractions.{Same}
use Rattle.smp_frac.proofs.Arithmetic.{same_trans}
use Rattle.smp_prob.specs.{Requested.{requested_fraction, requested_of}, Shares.{Shares}, Inclusions.{asked_fraction, IsRising}}
use Rattle.smp_prob.specs.{declared.orders.Order.TheVariants.{Frame}, declared.requests.Request.{Request}}
use Rattle.smp_tape.specs.{declared.draws.DrawFault.{DrawFault}, TapeSources.{tape_source}, Tapes.{Values, tape_of_values}}
use Rattle.smp_split.specs.{Counts.{selected_units}, Means.{inclusion_probability}, Orders.{Ordered}, Paths.{Entry}, Trees.{Tree}}
use Rattle.smp_split.specs.{Runs.{leaf, run, stopped, IsLeaf, IsOutcome}, declared.walking.WalkFault.{WalkFault}, Laws.Rows.{rows_lawful}}
use Rattle.smp_split.specs.declared.walking.WalkFault.TheVariants as walks
use Rattle.smp_split.proofs.Runs.{run_is}
use Rattle.smp_split.specs.Rows.{rows_tree, BelongsToRows}
use Rattle.smp_pivotal.specs.PivotalMethod.{method_of, started}
use Rattle.library_example.specs.{Draws.{tree_of, start_of, IsDrawn, IsRefused}, Faults.{of_walk}}
use Rattle.library_example.specs.declared.fault.Fault.TheVariants as faults

-- the request, the design and the first state of a draw
module _ (sizes : List ℕ) (n : ℕ) (request : Request) (requested : request ≡ requested_of sizes n) (design state : Ordered Shares) (made : design ≡ started request Frame) (begun : state ≡ design) where
  abbrev tree : Tree (Ordered Shares)
  tree = rows_tree (length sizes) request (method_of design).tree

  design_is : design ≡ start_of sizes n
  design_is = made ∙ ap (λ r. started r Frame) requested

  state_is : state ≡ start_of sizes n
  state_is = begun ∙ design_is

  tree_is : tree ≡ tree_of sizes n
  tree_is =
      ap (λ r. rows_tree (length sizes) r (method_of design).tree) requested
      ∙ ap (λ d. rows_tree (length sizes) (requested_of sizes n) (method_of d).tree) design_is

  pub probability_is : ((row : ℕ) → row < length sizes → Same (inclusion_probability tree state row) (asked_fraction request row))
      → EachIndex sizes (λ row. Same (asked_fraction request row) (requested_fraction n sizes (slice_index sizes row)))
      → (row : ℕ) → row < length sizes → Same (inclusion_probability (tree_of sizes n) (start_of sizes n) row) (requested_fraction n sizes (slice_index sizes row))
  probability_is selected asked row here =
      let wanted = requested_fraction n sizes (slice_index sizes row) in
      subst (λ (t : Tree (Ordered Shares)). Same (inclusion_probability t (start_of sizes n) row) wanted) tree_is
      (subst (λ (s : Ordered Shares). Same (inclusion_probability tree s row) wanted) state_is
      (same_trans (selected row here) (asked row here)))

  -- a tape of these values
  module _ (values : List ℕ) (tape : Values) (taken : tape.taken ≡ []) (left : tape.left ≡ values) where
    same_run : run tape_source tree state tape ≡ run tape_source (tree_of sizes n) (start_of sizes n) (tape_of_values [] values)
    same_run =
        let tape_is : tape ≡ tape_of_values [] values = rw (← taken, ← left) refl in
        ap (λ (t : Tree (Ordered Shares)). run tape_source t state tape) tree_is
        ∙ ap (λ (s : Ordered Shares). run tape_source (tree_of sizes n) s tape) state_is
        ∙ ap (run tape_source (tree_of sizes n) (start_of sizes n)) tape_is

    -- it leads to a state whose draw is refused
    pub is_refused : (end : Ordered Shares) (path : List Entry) (rest : Values) (fault : DrawFault) → run tape_source tree state tape ≡ stopped end path fault rest → IsRefused sizes n values fault
    is_refused end path rest fault ran = record { state = end; path = path; left = rest; ran = sym same_run ∙ ran }

    -- it leads to a leaf
    module _ (end : Ordered Shares) (path : List Entry) (rest : Values) (ran : run tape_source tree state tape ≡ leaf end path rest) where
      pub is_done : (method_of design).belongs state → IsRising request → (method_of design).tree.units ≡ length request.free → tree.done end ≡ true
      is_done member ordered units =
          let belongs = BelongsToRows request (method_of design).tree (method_of design).belongs in
          let here : BelongsToRows request (method_of design).tree (method_of design).belongs state = record { member = member; ordered = ordered; paired = sym units } in
          let lawful = rows_lawful (length sizes) request (method_of design).tree (method_of design).belongs (method_of design).lawful in
          let at_leaf : IsLeaf tape_source tree state tape end path rest = subst (IsOutcome tape_source tree state tape) ran (run_is tape_source tree belongs lawful state tape here) in
          at_leaf.done

      pub is_drawn : (rows : List ℕ) → rows ≡ selected_units tree end → IsDrawn sizes n values rows
      is_drawn rows selected = record {
        state = end;
        path = path;
        left = rest;
        ran = sym same_run ∙ ran;
        selected = selected ∙ ap (λ (t : Tree (Ordered Shares)). selected_units t end) tree_is;
      }

-- a draw that was refused is one that the walk tells
pub of_walk_draw : (found : WalkFault) (fault : DrawFault) → of_walk found ≡ faults.Draw fault → found ≡ walks.Draw fault
of_walk_draw (walks.Draw refusal) fault is = (let same : refusal ≡ fault = cc in ap walks.Draw same)
of_walk_draw walks.NoMemory fault is = absurd (let no : faults.NoMemory ≡ faults.Draw fault = is in cc)
