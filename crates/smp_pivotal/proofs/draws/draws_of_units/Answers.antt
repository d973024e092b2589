use Rattle.std.proofs.Common.{◌≡◌, true, nat_eq, length, eq-eqb}
use Rattle.smp_pivotal.proofs.SystematicSteps.{system_bound, selects_where, draws_are}
use Rattle.smp_pivotal.proofs.draws.draws_of_units.Goals as goal

pub returns-clause-bound : goal.returns-clause-bound
returns-clause-bound c =
    let drawn : nat_eq c.args.state.now.order.left 0 ≡ true = eq-eqb _ 0 c.requires.drawn in
    system_bound (length c.args.design.now.state.numer) c.args.state.now drawn

pub returns-clause-selects : goal.returns-clause-selects
returns-clause-selects c draw unit h here =
    let drawn : nat_eq c.args.state.now.order.left 0 ≡ true = eq-eqb _ 0 c.requires.drawn in
    selects_where _ c.args.state.now drawn c.requires.belongs draw unit h here

pub returns-clause-exactly : goal.returns-clause-exactly
returns-clause-exactly c unit here =
    let drawn : nat_eq c.args.state.now.order.left 0 ≡ true = eq-eqb _ 0 c.requires.drawn in
    draws_are _ c.args.state.now drawn c.requires.belongs unit here
