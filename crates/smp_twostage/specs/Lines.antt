-- What the report tells of the strata that are balanced.
use Rattle.std.specs.Prelude.{ℕ, ◌+◌, if◌then◌else◌, ℤ, List, [], length, map, option_map, unwrap_or}
use Rattle.std.specs.List.{filter, flat_map, range_with_len, slice_get}
use Rattle.smp_twostage.specs.DrawnLines as balance
use Rattle.smp_twostage.specs.Strata.{values_of}
use Rattle.smp_design.specs.Words.{balances}
use Rattle.smp_frac.specs.LowestTerms.{lowest_terms}
use Rattle.smp_methods.specs.declared.any.AnyState.{AnyState}
use Rattle.smp_strata.specs.Plans.{Plan}
use Rattle.smp_strata.specs.Seats.{first_fraction}
use Rattle.smp_strata.specs.declared.strata.Seat.{Seat}
use Rattle.smp_twostage.specs.Covered.{covered_left}
use Rattle.smp_twostage.specs.Selections.{Coverage, all_of, balancing, covers, is_together, place_of, section_count, units_at}
use Rattle.smp_twostage.specs.Starts.{covered_first}

-- The sections that are told, by their numbers, counted from 0: the strata that are covered, or all strata as one where they are drawn
-- together.
abbrev pub told_sections : Coverage → List ℕ
told_sections c =
    filter (covers c) (range_with_len 0 (section_count (all_of c.plan)))

-- where the first stage units of a section stand: those of all rows, or those of its stratum
abbrev pub told_seats : Coverage → ℕ → List Seat
told_seats c h =
    if is_together c then map (place_of c.plan.strata) (range_with_len 0 c.plan.rows)
    else map (λ k. record { stratum = h; unit = k; place = 0 }) (range_with_len 0 (length (units_at (slice_get c.plan.strata h))))

-- the balancing values of a first stage unit
abbrev pub seat_values : Plan → Seat → List ℤ
seat_values plan p =
    unwrap_or (option_map (λ s. values_of (balancing s) p.unit) (slice_get plan.strata p.stratum)) []

-- What was drawn of a section, where the stages are in these states: its number, told from 1; and of each of its first stage units the
-- balancing values, the probability that is asked for it in its stratum, and whether it is drawn.
abbrev pub told : Coverage → List AnyState → ℕ → balance.Drawn
told c states h = record {
  number = h + 1;
  left = covered_left c states h;
  columns = c.plan.procedure.balance;
  values = map (seat_values c.plan) (told_seats c h);
  asked = map (λ p. lowest_terms (first_fraction c.plan.strata p.stratum p.unit)) (told_seats c h);
  chosen = map (λ p. covered_first c states p.stratum p.unit) (told_seats c h);
}

-- the lines of the sections that are told, in their order, where the method balances, and none by any other method
abbrev pub balance_lines : Coverage → List AnyState → List ℕ
balance_lines c states =
    if balances c.plan.procedure.method then flat_map (λ h. balance.drawn_lines (told c states h)) (told_sections c) else []
