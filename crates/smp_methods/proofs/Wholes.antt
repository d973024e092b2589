-- Which procedures need a whole number of units.
use Rattle.std.proofs.Common.{◌≡◌, Bool, true, false, refl}
use Rattle.std.specs.Prelude.{IsTrue}
use Rattle.smp_prob.specs.declared.requests.Request.{Request}
use Rattle.smp_values.specs.Starts.{DrawsWhole}
use Rattle.smp_design.specs.{declared.procedure.Procedure.{Procedure}, Words.{row}}
use Rattle.smp_methods.specs.Procedures.{NeededIf, NeedsWhole}

-- what is needed where a test holds
pub needed_if : (test : Bool) (Needed : Type 0) → (test ≡ true → Needed) → NeededIf test Needed
needed_if true Needed gives = gives refl
needed_if false Needed gives = tt

pub is_needed : (test : Bool) (Needed : Type 0) → NeededIf test Needed → test ≡ true → Needed
is_needed true Needed there holds = there
is_needed false Needed there holds = absurd (cc)

pub needs_whole : (way : Procedure) (request : Request) → DrawsWhole request → NeedsWhole way request
needs_whole way request whole = needed_if (row way.method).draws_whole (DrawsWhole request) (λ _. whole)

-- a procedure needs a whole number of units only where its method draws such
pub needs_of : (way : Procedure) (request : Request) → (IsTrue (row way.method).draws_whole → DrawsWhole request) → NeedsWhole way request
needs_of way request whole = needed_if (row way.method).draws_whole (DrawsWhole request) whole
