use Rattle.std.proofs.Common.{◌≡◌, ◌<◌, false, List, ap, subst, sym, ◌∙◌}
use Rattle.smp_prob.specs.Shares.{Shares}
use Rattle.smp_split.specs.Trees.{Part, weight_sum, picked}
use Rattle.smp_values.specs.{Kept.Places.{IsGoing}, Steps.{pivotal_parts}, Values.{is_settled}}
use Rattle.smp_values.proofs.{Searches.{going_on, only_after, parts_found}, Pivotal.{step_within}}
use Rattle.smp_values.proofs.steps.PivotalSteps.advance.Goals as goal

pub step-requires-clause-going : goal.step-requires-clause-going
step-requires-clause-going c =
    let goes_on : is_settled c.self.inside.values ≡ false = rw (← c.self.view_is) at c.requires.going in
    going_on c.self.inside.values c.self.inside.first c.self.inside.second c.self.invariant goes_on

pub step-requires-clause-within : goal.step-requires-clause-within
step-requires-clause-within c =
    let goes_on : is_settled c.self.inside.values ≡ false = rw (← c.self.view_is) at c.requires.going in
    let going : IsGoing c.self.inside.values c.self.inside.first c.self.inside.second = going_on c.self.inside.values c.self.inside.first c.self.inside.second c.self.invariant goes_on in
    let within : c.args.draw < weight_sum (pivotal_parts c.self.inside.values) = rw (← c.self.view_is) at c.requires.within in
    subst (λ (ps : List (Part Shares)). c.args.draw < weight_sum ps) (parts_found c.self.inside.values c.self.inside.first c.self.inside.second going) within

pub next_two-first-requires-clause-ordered : goal.next_two-first-requires-clause-ordered
next_two-first-requires-clause-ordered c =
    let goes_on : is_settled c.self.inside.values ≡ false = rw (← c.self.view_is) at c.requires.going in
    let going : IsGoing c.self.inside.values c.self.inside.first c.self.inside.second = going_on c.self.inside.values c.self.inside.first c.self.inside.second c.self.invariant goes_on in
    going.ordered

pub next_two-first-requires-clause-before : goal.next_two-first-requires-clause-before
next_two-first-requires-clause-before c =
    let goes_on : is_settled c.self.inside.values ≡ false = rw (← c.self.view_is) at c.requires.going in
    let going : IsGoing c.self.inside.values c.self.inside.first c.self.inside.second = going_on c.self.inside.values c.self.inside.first c.self.inside.second c.self.invariant goes_on in
    only_after c.self.inside.values c.self.inside.first c.self.inside.second c.args.draw going c.step.new.self c.step.ensures

pub invariant_of-self : goal.invariant_of-self
invariant_of-self c =
    let goes_on : is_settled c.self.inside.values ≡ false = rw (← c.self.view_is) at c.requires.going in
    let within : c.args.draw < weight_sum (pivotal_parts c.self.inside.values) = rw (← c.self.view_is) at c.requires.within in
    let going : IsGoing c.self.inside.values c.self.inside.first c.self.inside.second = going_on c.self.inside.values c.self.inside.first c.self.inside.second c.self.invariant goes_on in
    let is : c.step.new.self ≡ picked c.self.inside.values (pivotal_parts c.self.inside.values) c.args.draw =
    c.step.ensures ∙ sym (ap (λ (ps : List (Part Shares)). picked c.self.inside.values ps c.args.draw) (parts_found c.self.inside.values c.self.inside.first c.self.inside.second going)) in
    record {
      values = step_within c.self.inside.values c.args.draw c.self.invariant.values goes_on within c.step.new.self is;
      first_is = c.next_two-first.ensures.first;
      second_is = c.next_two-first.ensures.second;
    }

pub returns : goal.returns
returns c =
    let goes_on : is_settled c.self.inside.values ≡ false = rw (← c.self.view_is) at c.requires.going in
    let going : IsGoing c.self.inside.values c.self.inside.first c.self.inside.second = going_on c.self.inside.values c.self.inside.first c.self.inside.second c.self.invariant goes_on in
    c.step.ensures ∙ rw (← c.self.view_is) (sym (ap (λ (ps : List (Part Shares)). picked c.self.inside.values ps c.args.draw) (parts_found c.self.inside.values c.self.inside.first c.self.inside.second going)))
