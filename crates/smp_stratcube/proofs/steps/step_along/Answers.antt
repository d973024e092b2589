use Rattle.std.proofs.Common.{ℕ, ◌<◌, ◌≤◌, ◌^◌, arith, get_or, length, sym, ◌∙◌}
use Rattle.smp_moves.specs.{declared.lines.Line.{Line}, declared.reaches.Reach.{Reach}, Answers.{IsPadded}, Kept.Ends.{HasSmallEntries}}
use Rattle.smp_stratcube.specs.{Units.{IsUnits}, Values.{IsValue, value}, Kept.Lines.{AreInside}, Kept.Computed.{flight_of}}
use Rattle.smp_stratcube.specs.Kept.Moves.{IsAlong}
use Rattle.smp_stratcube.proofs.{Ending.{some_size}}
use Rattle.smp_stratcube.proofs.Stepped.{back_inside, backward, den_narrow, forth, is_move_of, line_inside, no_denominator, no_minus, no_plus, reaches_some}
use Rattle.smp_stratcube.proofs.steps.step_along.Goals as goal
use Rattle.smp_stratcube.proofs.steps.step_along.Goals.{After-reach_along-down, After-reach_along-up, In-Some}

pub denominator-requires-clause-line : goal.denominator-requires-clause-line
denominator-requires-clause-line c =
    λ j l. line_inside c.args.units.now (flight_of c.args.units.now c.args.values.now c.args.rows) c.requires.flying c.args.line c.requires.line j l

-- how far a line is followed, whose units are there
can_reach : (c : In-Some) (along : Line) → IsPadded along → HasSmallEntries along → ((j : ℕ) → j < along.number → get_or along.units j 0 < length c.args.values.now) → record {
  values : (k : ℕ) → IsValue (value c.args.values.now k);
  den : c.in-Some.den ≤ 2 ^ 80;
  padded : IsPadded along;
  small : HasSmallEntries along;
  line : (j : ℕ) → j < along.number → get_or along.units j 0 < length c.args.values.now;
}
can_reach c along padded small inside = record {
  values = c.requires.flying.values.each;
  den = den_narrow c.args.units.now (flight_of c.args.units.now c.args.values.now c.args.rows) c.requires.flying c.args.front.now c.requires.front (omega (arith, c.requires.front.short)) c.args.line c.requires.line c.in-Some.den c.in-Some.ensures;
  padded = padded;
  small = small;
  line = inside;
}

pub reach_along-up-requires : goal.reach_along-up-requires
reach_along-up-requires c =
    can_reach (goal.at.reach_along-up-requires c).In-Some c.args.line c.requires.line.is_line.holds.padded c.requires.line.is_line.holds.small
    (λ j l. (let b = line_inside c.args.units.now (flight_of c.args.units.now c.args.values.now c.args.rows) c.requires.flying c.args.line c.requires.line j l in omega (arith, b, c.requires.flying.values.count)))

pub reach_along-down-requires : goal.reach_along-down-requires
reach_along-down-requires c =
    can_reach (goal.at.reach_along-down-requires c).In-Some c.turned-back.result c.turned-back.ensures.padded c.turned-back.ensures.small
    (back_inside c.args.units.now (flight_of c.args.units.now c.args.values.now c.args.rows) c.requires.flying c.args.front.now c.requires.front (omega (arith, c.requires.front.short)) c.args.line c.requires.line c.in-Some.den c.in-Some.ensures c.turned-back.result c.turned-back.ensures.line c.turned-back.ensures.padded c.turned-back.ensures.small)

-- both ways, and whether the common denominator fits there
along_up : (c : After-reach_along-up) → IsAlong (length c.args.units.now.members) c.args.values.now c.args.line c.in-Some.den c.reach_along-up.result
along_up c = forth c.args.units.now (flight_of c.args.units.now c.args.values.now c.args.rows) c.requires.flying c.args.front.now c.requires.front (omega (arith, c.requires.front.short)) c.args.line c.requires.line c.in-Some.den c.in-Some.ensures c.reach_along-up.result c.reach_along-up.ensures.is

along_down : (c : After-reach_along-down) → IsAlong (length c.args.units.now.members) c.args.values.now c.turned-back.result c.in-Some.den c.reach_along-down.result
along_down c = backward c.args.units.now (flight_of c.args.units.now c.args.values.now c.args.rows) c.requires.flying c.args.front.now c.requires.front (omega (arith, c.requires.front.short)) c.args.line c.requires.line c.in-Some.den c.in-Some.ensures c.turned-back.result c.turned-back.ensures.line c.turned-back.ensures.padded c.turned-back.ensures.small c.reach_along-down.result c.reach_along-down.ensures.is

can_fit : (c : In-Some) (line : Line) (r : Reach) → IsAlong (length c.args.units.now.members) c.args.values.now line c.in-Some.den r → r.size ≤ 2 ^ 44 → record {
  are : IsUnits c.args.units.now;
  along : IsAlong (length c.args.units.now.members) c.args.values.now line c.in-Some.den r;
  inside : AreInside (length c.args.values.now) c.args.front.now;
  size : (1 ≤ r.size) × (r.size ≤ 2 ^ 44);
}
can_fit c line r along most = record {
  are = c.requires.flying.are;
  along = along;
  inside = record { short = c.requires.front.short; inside = c.requires.front.inside };
  size = (some_size (length c.args.units.now.members) c.args.values.now line c.in-Some.den r along, most);
}

pub end_fits-requires : goal.end_fits-requires
end_fits-requires c =
    can_fit (goal.at.end_fits-requires c).In-Some c.args.line c.reach_along-up.result (along_up (goal.at.end_fits-requires c).After-reach_along-up) c.reach_along-up.ensures.bounds.1

pub returns-then-not-end_fits : goal.returns-then-not-end_fits
returns-then-not-end_fits c =
    no_plus c.args.units.now (flight_of c.args.units.now c.args.values.now c.args.rows) c.requires.flying c.args.front.now c.requires.front (omega (arith, c.requires.front.short)) c.args.line c.requires.line c.in-Some.den c.in-Some.ensures c.reach_along-up.result c.reach_along-up.ensures.is (sym c.end_fits.ensures ∙ c.if-not-end_fits.true)

pub end_fits-requires-in-Some : goal.end_fits-requires-in-Some
end_fits-requires-in-Some c =
    can_fit (goal.at.end_fits-requires-in-Some c).In-Some c.turned-back.result c.reach_along-down.result (along_down (goal.at.end_fits-requires-in-Some c).After-reach_along-down) c.reach_along-down.ensures.bounds.1

pub returns-then-not-end_fits-2 : goal.returns-then-not-end_fits-2
returns-then-not-end_fits-2 c =
    no_minus c.args.units.now (flight_of c.args.units.now c.args.values.now c.args.rows) c.requires.flying c.args.front.now c.requires.front (omega (arith, c.requires.front.short)) c.args.line c.requires.line c.in-Some.den c.in-Some.ensures c.turned-back.result c.turned-back.ensures.line c.turned-back.ensures.padded c.turned-back.ensures.small c.reach_along-down.result c.reach_along-down.ensures.is (sym c.end_fits-in-Some.ensures ∙ c.if-not-end_fits-2.true)

pub lowest-weights-requires : goal.lowest-weights-requires
lowest-weights-requires c =
    reaches_some c.args.units.now (flight_of c.args.units.now c.args.values.now c.args.rows) c.requires.flying c.args.front.now c.requires.front (omega (arith, c.requires.front.short)) c.args.line c.requires.line c.in-Some.den c.in-Some.ensures c.turned-back.result c.turned-back.ensures.line c.turned-back.ensures.padded c.turned-back.ensures.small c.reach_along-up.result c.reach_along-down.result c.reach_along-up.ensures.is c.reach_along-down.ensures.is

pub returns-in-None : goal.returns-in-None
returns-in-None c =
    no_denominator c.args.units.now (flight_of c.args.units.now c.args.values.now c.args.rows) c.requires.flying c.args.front.now c.requires.front (omega (arith, c.requires.front.short)) c.args.line c.requires.line c.in-None.ensures

pub returns-else-not-end_fits-2 : goal.returns-else-not-end_fits-2
returns-else-not-end_fits-2 c =
    is_move_of c.args.units.now (flight_of c.args.units.now c.args.values.now c.args.rows) c.requires.flying c.args.front.now c.requires.front (omega (arith, c.requires.front.short)) c.args.line c.requires.line c.in-Some.den c.in-Some.ensures c.turned-back.result c.turned-back.ensures.line c.turned-back.ensures.padded c.turned-back.ensures.small c.reach_along-up.result c.reach_along-down.result c.reach_along-up.ensures.is c.reach_along-down.ensures.is (sym c.end_fits.ensures ∙ c.if-not-end_fits.false) (sym c.end_fits-in-Some.ensures ∙ c.if-not-end_fits-2.false) c.lowest-weights.result c.lowest-weights.ensures
