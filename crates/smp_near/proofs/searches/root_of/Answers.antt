use Rattle.std.proofs.Common.{arith}
use Rattle.smp_places.proofs.Roots.{root_of_tree, first_half, second_half}
use Rattle.smp_near.proofs.searches.root_of.Goals as goal

pub returns-clause-enclosed : goal.returns-clause-enclosed
returns-clause-enclosed g c = root_of_tree _ c.args.low c.middle_of.result c.args.high c.middle_of.ensures.is c.requires.some c.requires.part.enclosed

pub returns-clause-counted : goal.returns-clause-counted
returns-clause-counted g c = root_of_tree _ c.args.low c.middle_of.result c.args.high c.middle_of.ensures.is c.requires.some c.requires.part.counted

pub returns-clause-first : goal.returns-clause-first
returns-clause-first g c = record {
  within = omega (arith, c.requires.part.within);
  enclosed = first_half _ c.args.low c.middle_of.result c.args.high c.middle_of.ensures.is c.requires.some c.requires.part.enclosed;
  counted = first_half _ c.args.low c.middle_of.result c.args.high c.middle_of.ensures.is c.requires.some c.requires.part.counted;
}

pub returns-clause-second : goal.returns-clause-second
returns-clause-second g c = record {
  within = c.requires.part.within;
  enclosed = second_half _ c.args.low c.middle_of.result c.args.high c.middle_of.ensures.is c.requires.some c.requires.part.enclosed;
  counted = second_half _ c.args.low c.middle_of.result c.args.high c.middle_of.ensures.is c.requires.some c.requires.part.counted;
}
