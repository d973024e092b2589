use Rattle.std.proofs.Common.{◌*◌, ◌≤◌, arith, subst, sym}
use Rattle.smp_moves.specs.declared.lines.Ratio.{Ratio}
use Rattle.smp_moves.proofs.LineEnds.{lowest_is}
use Rattle.smp_stratcube.proofs.directions.product.Goals as goal

pub returns-clause-some : goal.returns-clause-some
returns-clause-some c = subst (λ (r : Ratio). 1 ≤ r.den) (sym c.lowest.ensures) (lowest_is (c.args.share.num * c.unsigned_abs.result) c.args.share.den (omega (arith, c.requires.below))).some
