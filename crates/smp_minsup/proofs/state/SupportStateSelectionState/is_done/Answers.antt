use Rattle.std.proofs.Common.{sym, ap, ◌∙◌}
use Rattle.smp_values.specs.Values.{is_settled}
use Rattle.smp_minsup.specs.Kept.Ranked.{shares_kept}
use Rattle.smp_minsup.proofs.States.{kept_done}
use Rattle.smp_minsup.proofs.state.SupportStateSelectionState.is_done.Goals as goal

pub returns-then-self : goal.returns-then-self
returns-then-self c =
    c.if-self.true ∙ sym (kept_done c.self.inside.den c.self.inside.ranked) ∙ ap (λ b. is_settled (shares_kept b c.self.inside.den c.self.inside.ranked)) (sym c.if-self.true) ∙ ap is_settled c.self.view_is
