use Rattle.std.proofs.Common.{ℕ, List, ◌++◌, Some, codes, ap, ◌∙◌}
use Rattle.std.specs.Fmt.{decimal}
use Rattle.smp_status.proofs.refusals.misfit_line.Goals as goal

pub returns-in_ok-format-in-NotWhole-clause-line : goal.returns-in_ok-format-in-NotWhole-clause-line
returns-in_ok-format-in-NotWhole-clause-line c =
    rw c.in-NotWhole.is
    (ap Some
    (c.in_ok-format-in-NotWhole.ensures.ok
    ∙ ap (λ (stratum : List ℕ). codes "error 5.7 sum " ++ (decimal c.in-NotWhole.sum.num ++ (codes "/" ++ (decimal c.in-NotWhole.sum.den ++ (codes " isn't whole: " ++ (stratum ++ codes "\n"))))))
    c.as_str-in-NotWhole.ensures))

pub returns-in_ok-format-in-RowLimit-clause-line : goal.returns-in_ok-format-in-RowLimit-clause-line
returns-in_ok-format-in-RowLimit-clause-line c = rw c.in-RowLimit.is (ap Some c.in_ok-format-in-RowLimit.ensures.ok)
