-- What a selection starts with.
use Rattle.std.specs.Prelude.{◌≡◌, false, ℤ, List}
use Rattle.smp_prob.specs.declared.requests.Request.{Request}
use Rattle.smp_design.specs.Words.{balances}
use Rattle.smp_split.specs.Counts.{LeavesSelectAround}
use Rattle.smp_split.specs.Methods.{HasMeans, Starts}
use Rattle.smp_values.specs.Starts.{IsRequested}
use Rattle.smp_stratcube.specs.Balances.{IsBalanced}
use Rattle.smp_stratcube.specs.Counts.{HasCounts}
use Rattle.smp_stratcube.specs.States as stratified
use Rattle.smp_stratcube.specs.Layers.{Layer}
use Rattle.smp_stratcube.specs.Requests.{AreRequested}
use Rattle.smp_stratcube.specs.Units.{units_of}
use Rattle.smp_methods.specs.declared.any.AnyDesign.{AnyDesign}
use Rattle.smp_methods.specs.declared.any.AnyState.{AnyState}
use Rattle.smp_design.specs.declared.procedure.Procedure.{Procedure}
use Rattle.smp_methods.specs.declared.start.Started.{Started}
use Rattle.smp_methods.specs.Designs.{design_of, design_of_strata, drawn_by, first_state}
use Rattle.smp_methods.specs.Methods.{method_of}

-- Each leaf selects as many units as the values add up to, or, where that isn't whole, one of the two
-- whole numbers around it. It isn't said of a method that balances.
abbrev pub SelectsAround : AnyDesign → AnyState → Type 0
SelectsAround design state =
    balances (drawn_by design) ≡ false → LeavesSelectAround (method_of design).tree state

-- It is the design of the request by the procedure, at its first state: each free unit has the value
-- that is requested of it, and over all draws it is selected with that probability. By every method
-- that doesn't balance, as many units are selected as the values add up to, rounded down or up.
pub record IsStarted (way : Procedure) (request : Request) (values points : List (List ℤ))
    (started : Started) : Type 0 where
  pub design : started.design ≡ design_of way request values points
  pub state : started.state ≡ first_state (design_of way request values points)
  pub starts : Starts (method_of (design_of way request values points)) started.state
  pub requested : IsRequested (method_of (design_of way request values points)).tree request started.state
  pub around : SelectsAround (design_of way request values points) started.state

-- It is the design of all these strata together, at its first state: each free unit of each stratum has the value that is requested of it,
-- and over all draws it is selected with that probability; as many units of a stratum are selected as its values add up to, where that is
-- whole; and the flight and the landing are balanced.
pub record AreStarted (layers : List Layer) (started : Started) : Type 0 where
  pub design : started.design ≡ design_of_strata layers
  pub state : started.state ≡ first_state (design_of_strata layers)
  pub means : HasMeans (method_of (design_of_strata layers)) started.state
  pub requested : AreRequested layers (stratified.started (units_of layers))
  pub counts : HasCounts (units_of layers) (stratified.started (units_of layers))
  pub balanced : IsBalanced (units_of layers) (stratified.started (units_of layers))
