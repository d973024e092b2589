use Rattle.std.proofs.{Common.{arith, refl}, lemmas.List.{ext_get_or}}
use Rattle.smp_flight.proofs.landing.fill.Goals as goal

pub returns : goal.returns
returns c =
    let numer_are = ext_get_or 0 c.loop-unit.values.numer c.args.flight.now.flight.values.numer c.loop-unit.invariant.0 (λ k h. c.loop-unit.invariant.1 k (omega arith)) in
    rw (c.set_denominator.ensures, numer_are, c.denom.ensures) refl
