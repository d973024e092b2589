use Rattle.std.proofs.Common.{◌≡◌, sym, ap, ◌∙◌, ◌+◌}
use Rattle.smp_values.proofs.Searches.{first_stays, second_follows, first_follows}
use Rattle.smp_values.specs.Kept.Places.{first_of, fractional_from}
use Rattle.smp_values.proofs.values.Values.next_two.Goals as goal

pub returns-then-is_fractional-clause-first : goal.returns-then-is_fractional-clause-first
returns-then-is_fractional-clause-first c =
    sym (first_stays c.args.self.now c.args.first c.args.second c.requires.ordered c.requires.second_in c.requires.before (sym c.is_fractional.ensures ∙ c.if-is_fractional.true))

pub returns-then-is_fractional-clause-second : goal.returns-then-is_fractional-clause-second
returns-then-is_fractional-clause-second c =
    c.next_fractional-next.ensures.next ∙ sym (second_follows c.args.self.now c.args.first c.args.second c.requires.ordered c.requires.second_in c.requires.before (sym c.is_fractional.ensures ∙ c.if-is_fractional.true))

pub returns-else-is_fractional-clause-first : goal.returns-else-is_fractional-clause-first
returns-else-is_fractional-clause-first c =
    c.next_fractional-next.ensures.next ∙ sym (first_follows c.args.self.now c.args.first c.args.second c.requires.ordered c.requires.second_in c.requires.before (sym c.is_fractional.ensures ∙ c.if-is_fractional.false))

pub returns-else-is_fractional-clause-second : goal.returns-else-is_fractional-clause-second
returns-else-is_fractional-clause-second c =
    let first_is : c.next_fractional-next.result ≡ first_of c.args.self.now = returns-else-is_fractional-clause-first c in
    c.next_fractional.ensures.next ∙ ap (λ place. fractional_from c.args.self.now (place + 1)) first_is
