use Rattle.smp_plan.proofs.Designs.{can_be_drawn}
use Rattle.smp_plan.proofs.plan.plan_for.Goals as goal

pub returns-clause-planned : goal.returns-clause-planned
returns-clause-planned c = record {
  frame = c.requires.frame;
  parts_are = c.in_ok-plan.ensures.plan;
  drawable = can_be_drawn c.args.design c.args.frame c.requires.design c.requires.frame.some c.requires.frame.few c.in_ok-plan.ensures.misfit c.in_ok-plan.plan c.in_ok-plan.ensures.plan c.in_ok-plan.ensures.sound;
  asked = c.in_ok-plan.ensures.asked;
  draws = c.in_ok-plan.ensures.drawn;
}
