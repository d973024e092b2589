use Rattle.std.proofs.{Common.{◌<◌, ◌≤◌, length, arith, refl}, lemmas.Bool.{lt-ltb, le-ltb}}
use Rattle.smp_values.proofs.Searches.{kind_is}
use Rattle.smp_values.proofs.steps.PivotalSteps.kind.Goals as goal

pub returns-then-self-len : goal.returns-then-self-len
returns-then-self-len c =
    let there : c.self.inside.second < length c.self.inside.values.numer = omega (arith, c.len.ensures, c.if-self-len.true) in
    rw (← c.self.view_is, kind_is c.self.inside.values c.self.inside.first c.self.inside.second c.self.invariant.first_is c.self.invariant.second_is, lt-ltb c.self.inside.second (length c.self.inside.values.numer) there) refl

pub returns-else-self-len : goal.returns-else-self-len
returns-else-self-len c =
    let past : length c.self.inside.values.numer ≤ c.self.inside.second = omega (arith, c.len.ensures, c.if-self-len.false) in
    rw (← c.self.view_is, kind_is c.self.inside.values c.self.inside.first c.self.inside.second c.self.invariant.first_is c.self.invariant.second_is, le-ltb c.self.inside.second (length c.self.inside.values.numer) past) refl
