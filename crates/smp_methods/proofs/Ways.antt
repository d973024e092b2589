-- The design of a request by a method is drawn by that method.
use Rattle.std.proofs.Common.{◌≡◌, false, ℤ, List, refl, ap, ◌∙◌}
use Rattle.smp_prob.specs.declared.requests.Request.{Request}
use Rattle.smp_split.specs.Counts.{LeavesSelectAround}
use Rattle.smp_design.specs.{declared.method.Method.{Method}, declared.method.Method.TheVariants.{Pivotal}, Words.{balances}}
use Rattle.smp_methods.specs.{declared.any.AnyState.{AnyState}, Designs.{design_by, design_of, drawn_by}, Methods.{method_of}}
use Rattle.smp_design.specs.declared.procedure.Procedure.{Procedure}
use Rattle.smp_methods.specs.Starts.{SelectsAround}

-- this is checked method by method
pub drawn_by_method : (m : Method) (way : Procedure) (request : Request) (values points : List (List ℤ)) → drawn_by (design_by m way request values points) ≡ m
drawn_by_method Pivotal way request values points = refl
drawn_by_method other way request values points = refl

-- by a method that doesn't balance
pub around_unless : (way : Procedure) (request : Request) (values points : List (List ℤ)) (state : AnyState) → balances way.method ≡ false → SelectsAround (design_of way request values points) state
    → LeavesSelectAround (method_of (design_of way request values points)).tree state
around_unless way request values points state unbalanced around =
    around (ap balances (drawn_by_method way.method way request values points) ∙ unbalanced)
