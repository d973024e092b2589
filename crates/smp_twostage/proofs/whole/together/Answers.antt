use Rattle.std.proofs.Common.{true, arith, refl, sym, subst, ◌∙◌}
use Rattle.smp_twostage.specs.{Covered.{StartsAlone}, Selections.{Coverage}, Starts.{StartsWhole}}
use Rattle.smp_twostage.proofs.{CoveredSo.{firsts_so, seats_so, stages_in, start_so, starts_in}, Layers.{few_strata}}
use Rattle.smp_twostage.proofs.StartsTogether.{alone_together, whole_together}
use Rattle.smp_twostage.proofs.whole.together.Goals as goal

pub seats_together-requires-clause-few : goal.seats_together-requires-clause-few
seats_together-requires-clause-few c = (let few = few_strata c.args.plan.now c.requires.plan c.requires.together in omega (arith, few))

pub started-requires-clause-stages : goal.started-requires-clause-stages
started-requires-clause-stages c = c.in_ok-push_together.ensures.stages ∙ stages_in true (record { plan = c.args.plan.now; only = c.args.only }) c.requires.together

pub started-requires-clause-firsts : goal.started-requires-clause-firsts
started-requires-clause-firsts c = c.in_ok-vec.ensures.items ∙ firsts_so true (record { plan = c.args.plan.now; only = c.args.only }) c.requires.together

pub started-requires-clause-seats : goal.started-requires-clause-seats
started-requires-clause-seats c = c.in_ok-seats.ensures ∙ seats_so true (record { plan = c.args.plan.now; only = c.args.only }) c.requires.together

pub returns-clause-starts : goal.returns-clause-starts
returns-clause-starts c =
    let plan = c.args.plan.now in
    let own : Coverage = record { plan = plan; only = c.args.only } in
    subst (StartsWhole plan) (sym (c.started.ensures.state ∙ start_so true own c.requires.together))
    (whole_together plan c.requires.plan c.requires.together c.in_ok-push_together.ensures.starts (starts_in true own c.requires.together c.started.result.state c.started.ensures.state c.started.ensures.starts))

pub returns-clause-alone : goal.returns-clause-alone
returns-clause-alone c =
    let plan = c.args.plan.now in
    let own : Coverage = record { plan = plan; only = c.args.only } in
    subst (StartsAlone plan 0) (sym (c.started.ensures.state ∙ start_so true own c.requires.together))
    (alone_together plan c.requires.plan c.requires.together c.in_ok-push_together.ensures.starts (starts_in true own c.requires.together c.started.result.state c.started.ensures.state c.started.ensures.starts) 0 refl)
