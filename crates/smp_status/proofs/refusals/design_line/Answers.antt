use Rattle.std.proofs.Common.{ℕ, List, ◌++◌, Some, codes, ap, ◌∙◌}
use Rattle.smp_status.proofs.refusals.design_line.Goals as goal

pub returns-in_ok-format-in-Clash-clause-line : goal.returns-in_ok-format-in-Clash-clause-line
returns-in_ok-format-in-Clash-clause-line c =
    rw c.in-Clash.is
    (ap Some
    (c.in_ok-format-in-Clash.ensures.ok
    ∙ ap (λ (first : List ℕ). codes "error 3.6 " ++ (first ++ (codes " clashes with " ++ (c.as_str-in-Clash-2.result.now ++ codes "\n")))) c.as_str-in-Clash.ensures
    ∙ ap (λ (second : List ℕ). codes "error 3.6 " ++ (c.in-Clash.first ++ (codes " clashes with " ++ (second ++ codes "\n")))) c.as_str-in-Clash-2.ensures))
