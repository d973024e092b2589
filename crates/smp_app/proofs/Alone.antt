-- There are as many seats as rows, where all strata are drawn or one alone.
use Rattle.std.proofs.{Common.{◌≡◌, Bool, true, false, ℕ, length, Option, Some, None, ◌∙◌}, lemmas.List.{length-map}}
use Rattle.std.specs.List.{range_with_len}
use Rattle.std.proofs.lemmas.List.FromFn.{length-range_with_len}
use Rattle.smp_strata.specs.Plans.{Plan}
use Rattle.smp_twostage.specs.Selections.{Coverage, covered_seats, is_together, seat_alone, seat_together, seats_by}
use Rattle.smp_twostage.specs.Kept.Sides.{seats_in}

one_by_one : (plan : Plan) (only : Option ℕ) → length (seats_by plan only) ≡ plan.rows
one_by_one plan None = length-map (range_with_len 0 plan.rows) _ ∙ length-range_with_len 0 plan.rows
one_by_one plan (Some h) = length-map (range_with_len 0 plan.rows) (seat_alone plan h) ∙ length-range_with_len 0 plan.rows

long_by : (together : Bool) (c : Coverage) → length (seats_in together c) ≡ c.plan.rows
long_by true c = length-map (range_with_len 0 c.plan.rows) (seat_together c.plan) ∙ length-range_with_len 0 c.plan.rows
long_by false c = one_by_one c.plan c.only

pub seats_long : (c : Coverage) → length (covered_seats c) ≡ c.plan.rows
seats_long c = long_by (is_together c) c
