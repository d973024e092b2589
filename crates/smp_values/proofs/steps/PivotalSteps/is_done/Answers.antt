use Rattle.std.proofs.Common.{◌≡◌, nat_eq, length, sym, ap, ◌∙◌}
use Rattle.smp_values.specs.Values.{is_settled}
use Rattle.smp_values.proofs.Searches.{settled_is}
use Rattle.smp_values.proofs.steps.PivotalSteps.is_done.Goals as goal

pub returns : goal.returns
returns c =
    let settled : is_settled c.self.inside.values ≡ nat_eq c.self.inside.first (length c.self.inside.values.numer) = settled_is c.self.inside.values c.self.inside.first c.self.inside.second c.self.invariant.first_is c.self.invariant.second_is in
    rw (← c.self.view_is) (ap (nat_eq c.self.inside.first) c.len.ensures ∙ sym settled)
