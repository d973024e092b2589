use Rattle.std.proofs.Common.{◌≤◌, length, arith, sym, ◌∙◌}
use Rattle.smp_split.specs.{Laws.Turns.{next_is}, Methods.{trees}}
use Rattle.smp_split.proofs.stages.Stages.next_from.Goals as goal

pub returns-then-waits : goal.returns-then-waits
returns-then-waits g c =
    sym (next_is (trees g.D.Splitting.method) c.args.self.now.stages.items c.args.states.now c.loop-number.number (omega arith) c.loop-number.invariant (λ _. sym c.waits.ensures ∙ c.if-waits.true))

pub returns : goal.returns
returns g c =
    let at_end : length c.args.self.now.stages.items ≤ c.loop-number.number = omega arith in
    omega (
      arith,
      c.len.ensures,
      next_is (trees g.D.Splitting.method) c.args.self.now.stages.items c.args.states.now (length c.args.self.now.stages.items) (omega arith)
          (λ j l. c.loop-number.invariant j (omega arith)) (λ h. absurd (omega arith)),
    )
