-- Local pivotal selection as a method, and where it starts. The method doesn't depend on the number of coordinates.
use Rattle.std.specs.Prelude.{ℤ, List, length}
use Rattle.smp_prob.specs.declared.requests.Request.{Request}
use Rattle.smp_prob.specs.Shares.{shares_of}
use Rattle.smp_split.specs.Methods.{Method}
use Rattle.smp_localpiv.specs.Local.{Local, IsLocal, local_tree, located_values}
use Rattle.smp_localpiv.specs.Laws.Splits.{local_lawful}

-- the state before the first step, with the requested values
abbrev pub started : Request → List (List ℤ) → Local
started request coords = located_values coords (shares_of request)

-- the method over as many units as the design has
abbrev pub method_of : Local → Method Local
method_of design = record {
  tree = local_tree (length design.state.numer);
  belongs = IsLocal (length design.state.numer);
  lawful = local_lawful (length design.state.numer);
}
