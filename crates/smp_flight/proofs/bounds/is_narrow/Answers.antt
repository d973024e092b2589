use Rattle.std.proofs.Common.{ℕ, ◌*◌, arith, ap, ap₂, subst}
use Rattle.std.proofs.lemmas.Bool.{le-leb, leb-true}
use Rattle.smp_frac.specs.Limits.{most_denominator, most_entry}
use Rattle.smp_flight.specs.{Kept.Narrow.{IsLimit}, States.{row_count}}
use Rattle.smp_flight.proofs.RowBounds.{denominators_within, entries_within, narrow_by}
use Rattle.smp_flight.proofs.bounds.is_narrow.Goals.{In-Some-multiple_of}
use Rattle.smp_flight.proofs.bounds.is_narrow.Goals as goal

-- the limit of all rows
limit : (c : In-Some-multiple_of) → IsLimit c.args.shape.now (row_count c.args.shape.now) c.in-Some-limit_of.limit
limit c = subst (λ (rows : ℕ). IsLimit c.args.shape.now rows c.in-Some-limit_of.limit) c.rows-rows.ensures.is c.in-Some-limit_of.ensures.some

pub returns-then-first-limit-le-MOST_ENTRY : goal.returns-then-first-limit-le-MOST_ENTRY
returns-then-first-limit-le-MOST_ENTRY c =
    let units = c.args.shape.now in
    let all = limit (goal.at.returns-then-first-limit-le-MOST_ENTRY c).In-Some-multiple_of in (
      (λ is. narrow_by units c.rows-rows.ensures.are c.in-Some.first c.in-Some-limit_of.limit c.in-Some-multiple_of.multiple c.in-Some.ensures.some all
          c.in-Some-multiple_of.ensures.some (omega (arith, c.if-first-limit-le-MOST_ENTRY.true)) (leb-true (c.in-Some-multiple_of.multiple * c.in-Some-limit_of.limit) most_denominator is)),
      (λ n. (let within = denominators_within units c.rows-rows.ensures.are n c.in-Some-multiple_of.multiple c.in-Some-multiple_of.ensures.some in
          le-leb (c.in-Some-multiple_of.multiple * c.in-Some-limit_of.limit) most_denominator (omega (arith, within, ap (λ x. c.in-Some-multiple_of.multiple * x) all.is)))),
    )

pub returns-else-first-limit-le-MOST_ENTRY : goal.returns-else-first-limit-le-MOST_ENTRY
returns-else-first-limit-le-MOST_ENTRY c =
    let units = c.args.shape.now in
    let all = limit (goal.at.returns-else-first-limit-le-MOST_ENTRY c).In-Some-multiple_of in (
      (λ is. absurd (let within = leb-true (c.in-Some.first * c.in-Some-limit_of.limit) most_entry is in omega (arith, within, c.if-first-limit-le-MOST_ENTRY.false))),
      (λ n. (let within = entries_within units c.rows-rows.ensures.are n in
          le-leb (c.in-Some.first * c.in-Some-limit_of.limit) most_entry (omega (arith, within, ap₂ (λ x y. x * y) c.in-Some.ensures.some.is all.is)))),
    )
