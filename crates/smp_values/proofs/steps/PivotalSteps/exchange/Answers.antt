use Rattle.std.proofs.Common.{◌≡◌, ◌+◌, ◌∙◌, ap}
use Rattle.smp_values.specs.Kept.Places.{first_of, fractional_from}
use Rattle.smp_values.proofs.Searches.{exchanged_in_range}
use Rattle.smp_values.proofs.steps.PivotalSteps.exchange.Goals as goal

pub invariant_of-self : goal.invariant_of-self
invariant_of-self c =
    let first : c.next_fractional-self-inside.result ≡ first_of c.exchange.new.self = c.next_fractional-self-inside.ensures.next in
    record {
      values = exchanged_in_range c.self.inside.values c.exchange.new.self c.args.unit c.args.other c.exchange.ensures c.self.invariant.values (rw (← c.self.view_is) at c.requires.unit) (rw (← c.self.view_is) at c.requires.other);
      first_is = first;
      second_is = c.next_fractional-self-inside-2.ensures.next ∙ ap (λ place. fractional_from c.exchange.new.self (place + 1)) first;
    }
