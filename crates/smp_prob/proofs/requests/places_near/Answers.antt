use Rattle.std.proofs.Common.{◌≡◌, ◌-◌, suc, length, get_or, arith, rules}
use Rattle.smp_prob.proofs.Positions.{near_place}
use Rattle.smp_prob.proofs.requests.places_near.Goals as goal

pub returns-in-Some-clause-all : goal.returns-in-Some-clause-all
returns-in-Some-clause-all c place within here =
    let units = c.args.units.now in
    let some : length units ≡ suc (length units - 1) = omega (arith, within) in
    let last : c.in-Some.last.now ≡ get_or units (length units - 1) 0 = search rules in
    let near = near_place units c.requires (length units - 1) some place within in (
      omega (arith, near.0, here, last, c.saturating_sub.ensures, c.saturating_sub-passed.ensures),
      omega (arith, near.1, here, within, c.min.ensures, c.saturating_add-behind.ensures, c.ranges.unit.fits),
    )
