use Rattle.smp_methods.proofs.any.AnyDesignSplitting.kind.Goals as goal

-- the state in its box is that of the variant
pub returns-in-LocalPivotal-LocalPivotal : goal.returns-in-LocalPivotal-LocalPivotal
returns-in-LocalPivotal-LocalPivotal c =
    rw (c.in-LocalPivotal-LocalPivotal.is-0, c.in-LocalPivotal-LocalPivotal.is-1)
    (rw c.get-in-LocalPivotal-LocalPivotal.ensures at c.kind-in-LocalPivotal-LocalPivotal.ensures)
