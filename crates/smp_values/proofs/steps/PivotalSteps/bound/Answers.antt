use Rattle.std.proofs.Common.{◌≡◌, false, ap, sym, ◌∙◌}
use Rattle.smp_split.specs.Trees.{weight_sum}
use Rattle.smp_values.specs.{Kept.Places.{IsGoing}, Values.{is_settled}}
use Rattle.smp_values.proofs.Searches.{going_on, parts_found}
use Rattle.smp_values.proofs.steps.PivotalSteps.bound.Goals as goal

pub step_bound-requires : goal.step_bound-requires
step_bound-requires c =
    let goes_on : is_settled c.self.inside.values ≡ false = rw (← c.self.view_is) at c.requires in
    going_on c.self.inside.values c.self.inside.first c.self.inside.second c.self.invariant goes_on

pub returns : goal.returns
returns c =
    let goes_on : is_settled c.self.inside.values ≡ false = rw (← c.self.view_is) at c.requires in
    let going : IsGoing c.self.inside.values c.self.inside.first c.self.inside.second = going_on c.self.inside.values c.self.inside.first c.self.inside.second c.self.invariant goes_on in
    c.step_bound.ensures ∙ rw (← c.self.view_is) (sym (ap weight_sum (parts_found c.self.inside.values c.self.inside.first c.self.inside.second going)))
