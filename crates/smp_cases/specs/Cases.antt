-- What a case comes to: n units, with probabilities in proportion to size, drawn by a method with the values of a tape.
use Rattle.std.specs.Prelude.{ℕ, ◌^◌, Bool, true, false, nat_lt, if◌then◌else◌, List, [], length, sum_by, Result, Ok, Err}
use Rattle.smp_tape.specs.TapeSources.{tape_source}
use Rattle.smp_tape.specs.Tapes.{Values, tape_of_values}
use Rattle.smp_split.specs.Counts.{selected_units}
use Rattle.smp_split.specs.Runs.{Outcome, leaf, stopped, run}
use Rattle.smp_split.specs.Trees.{Tree}
use Rattle.smp_prob.specs.Requested.{positive_units, requested_of}
use Rattle.smp_prob.specs.declared.requests.Request.{Request}
use Rattle.smp_split.specs.Rows.{rows_tree}
use Rattle.smp_design.specs.Procedures.{without_values}
use Rattle.smp_design.specs.declared.method.Method.{Method}
use Rattle.smp_methods.specs.declared.any.AnyDesign.{AnyDesign}
use Rattle.smp_methods.specs.declared.any.AnyState.{AnyState}
use Rattle.smp_methods.specs.Designs.{design_of, first_state}
use Rattle.smp_methods.specs.Methods.{method_of}
use Rattle.smp_cases.specs.declared.fault.CaseFault.{CaseFault}
use Rattle.smp_cases.specs.declared.fault.CaseFault.TheVariants.{TooMany, Draw, Long, NoMemory}

-- ---- the draw tree

-- the design that draws the free units of a request by a method, without columns of values, in frame order
abbrev pub design : Method → Request → AnyDesign
design method request = design_of (without_values method) request [] []

-- The draw tree of a case over all units. The certain ones are selected at each leaf, those of size 0 at none.
abbrev pub case_tree : Method → List ℕ → ℕ → Tree AnyState
case_tree method sizes n =
    let request = requested_of sizes n in
    rows_tree (length sizes) request (method_of (design method request)).tree

-- its state before the first step, in which each unit has the probability that is requested of it
abbrev pub case_start : Method → List ℕ → ℕ → AnyState
case_start method sizes n = first_state (design method (requested_of sizes n))

-- ---- the verdict

-- units as a mask: bit k stands for unit k
abbrev pub mask : List ℕ → ℕ
mask units = sum_by (λ unit. 2 ^ unit) units

-- what a leaf comes to, where these values are left: the mask of the units that it selects, unless there are some
abbrev pub at_leaf : {State : Type 0} → Tree State → State → List ℕ → Result ℕ CaseFault
at_leaf tree state [] = Ok (mask (selected_units tree state))
at_leaf tree state left = Err (Long (length left))

-- what the end of a run over a tape comes to: at a refused draw its fault
abbrev pub ended : {State : Type 0} → Tree State → Outcome State Values → Result ℕ CaseFault
ended tree (leaf state path rest) = at_leaf tree state rest.left
ended tree (stopped state path fault rest) = Err (Draw fault)

-- what a run over a tape of these values, from this state on, comes to
abbrev pub drawn : {State : Type 0} → Tree State → State → List ℕ → Result ℕ CaseFault
drawn tree state values = ended tree (run tape_source tree state (tape_of_values [] values))

-- the mask of the drawn units, or why there is none
abbrev pub verdict : Method → List ℕ → ℕ → List ℕ → Result ℕ CaseFault
verdict method sizes n values =
    if nat_lt (positive_units sizes) n then Err (TooMany (positive_units sizes))
    else drawn (case_tree method sizes n) (case_start method sizes n) values

-- which fault is want of memory
abbrev pub is_memory : CaseFault → Bool
is_memory NoMemory = true
is_memory other = false
