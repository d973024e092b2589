-- Brewer's method as a method, and where it starts.
use Rattle.smp_prob.specs.declared.requests.Request.{Request}
use Rattle.smp_prob.specs.Shares.{draws_of}
use Rattle.smp_split.specs.Methods.{Method}
use Rattle.smp_brewer.specs.Brewer.{Brewing, IsBrewing, brewing_tree, offering, units_of}
use Rattle.smp_brewer.specs.Laws.Splits.{brewing_lawful}

-- the state before the first step
abbrev pub started : Request → Brewing
started request = offering (record { sizes = request.shape; draws = draws_of request; refused = 0 })

-- the method over as many units as the design has
abbrev pub method_of : Brewing → Method Brewing
method_of design = record {
  tree = brewing_tree (units_of design);
  belongs = IsBrewing (units_of design);
  lawful = brewing_lawful (units_of design);
}
