-- Minimum support selection as a method, and where it starts.
use Rattle.std.specs.Prelude.{length}
use Rattle.smp_prob.specs.declared.requests.Request.{Request}
use Rattle.smp_prob.specs.Shares.{Shares, shares_of}
use Rattle.smp_split.specs.Methods.{Method}
use Rattle.smp_minsup.specs.Support.{IsSupport, support_tree}
use Rattle.smp_minsup.specs.Laws.Splits.{support_lawful}

-- the state before the first step, with the requested values
abbrev pub started : Request → Shares
started request = shares_of request

-- the method over as many units as the design has
abbrev pub method_of : Shares → Method Shares
method_of design = record {
  tree = support_tree (length design.numer);
  belongs = IsSupport (length design.numer);
  lawful = support_lawful (length design.numer);
}
