use Rattle.std.proofs.Common.{arith}
use Rattle.smp_kernel.specs.Searches.{none, too_wide}
use Rattle.smp_stratcube.proofs.Stepped.{found_fewer, found_line, found_small, found_some, found_wide, step_found}
use Rattle.smp_stratcube.specs.Kept.Computed.{flight_of}
use Rattle.smp_stratcube.proofs.steps.step_found.Goals as goal

pub direction-requires-clause-fewer : goal.direction-requires-clause-fewer
direction-requires-clause-fewer c =
    found_fewer c.args.units.now (flight_of c.args.units.now c.args.values.now c.args.rows) c.requires.flying c.args.front.now c.requires.front (omega (arith, c.requires.front.short)) c.in-Found.factors.w c.in-Found.factors.number (let p = rw c.in-Found.is at c.requires.padded in omega (arith, p.0, c.requires.flying.rows_in, c.requires.flying.are.few_rows)) (let p = rw c.in-Found.is at c.requires.padded in p.1) (rw c.in-Found.is at c.requires.is)

pub direction-requires-clause-small : goal.direction-requires-clause-small
direction-requires-clause-small c =
    found_small c.args.units.now (flight_of c.args.units.now c.args.values.now c.args.rows) c.requires.flying c.args.front.now c.requires.front (omega (arith, c.requires.front.short)) c.in-Found.factors.w c.in-Found.factors.number (let p = rw c.in-Found.is at c.requires.padded in omega (arith, p.0, c.requires.flying.rows_in, c.requires.flying.are.few_rows)) (let p = rw c.in-Found.is at c.requires.padded in p.1) (rw c.in-Found.is at c.requires.is)

pub direction-requires-clause-some : goal.direction-requires-clause-some
direction-requires-clause-some c =
    found_some c.args.units.now (flight_of c.args.units.now c.args.values.now c.args.rows) c.requires.flying c.args.front.now c.requires.front (omega (arith, c.requires.front.short)) c.in-Found.factors.w c.in-Found.factors.number (let p = rw c.in-Found.is at c.requires.padded in omega (arith, p.0, c.requires.flying.rows_in, c.requires.flying.are.few_rows)) (let p = rw c.in-Found.is at c.requires.padded in p.1) (rw c.in-Found.is at c.requires.is)

pub step_along-requires-clause-line : goal.step_along-requires-clause-line
step_along-requires-clause-line c =
    found_line c.args.units.now (flight_of c.args.units.now c.args.values.now c.args.rows) c.requires.flying c.args.front.now c.requires.front (omega (arith, c.requires.front.short)) c.in-Found.factors.w c.in-Found.factors.number (let p = rw c.in-Found.is at c.requires.padded in omega (arith, p.0, c.requires.flying.rows_in, c.requires.flying.are.few_rows)) (let p = rw c.in-Found.is at c.requires.padded in p.1) (rw c.in-Found.is at c.requires.is) c.in-Some.line c.in-Some.ensures

pub returns-in-Independent : goal.returns-in-Independent
returns-in-Independent c =
    step_found c.args.units.now (flight_of c.args.units.now c.args.values.now c.args.rows) c.requires.flying c.args.front.now c.requires.front (omega (arith, c.requires.front.short)) none (rw c.in-Independent.is at c.requires.is)

pub returns-in-TooWide : goal.returns-in-TooWide
returns-in-TooWide c =
    step_found c.args.units.now (flight_of c.args.units.now c.args.values.now c.args.rows) c.requires.flying c.args.front.now c.requires.front (omega (arith, c.requires.front.short)) too_wide (rw c.in-TooWide.is at c.requires.is)

pub returns-in-None : goal.returns-in-None
returns-in-None c =
    found_wide c.args.units.now (flight_of c.args.units.now c.args.values.now c.args.rows) c.requires.flying c.args.front.now c.requires.front (omega (arith, c.requires.front.short)) c.in-Found.factors.w c.in-Found.factors.number (let p = rw c.in-Found.is at c.requires.padded in omega (arith, p.0, c.requires.flying.rows_in, c.requires.flying.are.few_rows)) (let p = rw c.in-Found.is at c.requires.padded in p.1) (rw c.in-Found.is at c.requires.is) c.in-None.ensures
