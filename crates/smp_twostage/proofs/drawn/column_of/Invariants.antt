use Rattle.std.proofs.Common.{◌≡◌, ◌++◌, drop, map}
use Rattle.smp_kernel.specs.Vectors.{entry}
use Rattle.smp_twostage.specs.DrawnLines.{column_of, drawn_view}
use Rattle.smp_twostage.proofs.drawn.column_of.Given as goal

-- the values so far, and those of the other rows
abbrev pub invariant-loop-unit : goal.invariant-loop-unit
invariant-loop-unit l =
    l.values.items ++ map (λ v. entry v l.column) (drop l.unit (drawn_view l.drawn).values) ≡ column_of (drawn_view l.drawn) l.column
