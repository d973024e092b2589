use Rattle.std.proofs.{Common.{◌≡◌, ◌≤◌, ◌^◌, arith, sym, ap, ◌∙◌, subst}, Math.Nat.{le_of_dvd}, lemmas.List.{get_or_read}}
use Rattle.smp_stratcube.specs.{declared.units.Member.{Member}, Units.{Units, first, member, nobody, share, stratum}}
use Rattle.smp_stratcube.proofs.units.Units.share.Goals as goal

pub returns-clause-most : goal.returns-clause-most
returns-clause-most c =
    let f = c.requires.are.firsts (stratum c.args.self.now c.args.unit) in
    let le : (share c.args.self.now c.args.unit).den ≤ first c.args.self.now c.args.unit = le_of_dvd f.0 (c.requires.are.divides c.args.unit c.requires.unit) in
    let inside = rw (← c.self.view_is) at c.requires.unit in
    let at : c.index.result.now ≡ member c.args.self.now c.args.unit =
    get_or_read c.self.inside.members.items c.args.unit c.index.result.now inside c.index.ensures nobody ∙ ap (λ (u : Units). member u c.args.unit) c.self.view_is in
    subst (λ (m : Member). m.share.den ≤ 2 ^ 49) (sym at) (omega (arith, le, f.1))
