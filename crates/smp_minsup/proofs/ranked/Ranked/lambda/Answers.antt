use Rattle.std.proofs.Common.{◌-◌, length, min, arith, ap, ◌∙◌}
use Rattle.smp_minsup.specs.Kept.Ranked.{largest_small}
use Rattle.smp_minsup.proofs.States.{most_within, lambda_is}
use Rattle.smp_minsup.proofs.ranked.Ranked.lambda.Goals as goal

pub overflow_sub-den : goal.overflow_sub-den
overflow_sub-den c =
    let within = most_within c.args.den c.args.self.now c.requires.cut (length c.args.self.now.numer) c.requires.state in
    omega (arith, c.largest_small_numer.ensures, within)

pub returns : goal.returns
returns c =
    c.min.ensures ∙ ap (λ a. min (c.args.den - a) c.least_large_numer.result) c.largest_small_numer.ensures
    ∙ ap (λ a. min (c.args.den - largest_small c.args.self.now) a) c.least_large_numer.ensures ∙ lambda_is c.args.den c.args.self.now c.requires.cut
