use Rattle.std.proofs.Common.{rules, ◌≡◌, sym, subst, ◌++◌, ◌∷◌, []}
use Rattle.smp_twostage.specs.{Laws.Places.{place_is_seat}, Selections.{place_of}}
use Rattle.smp_joint.specs.Rows.{StandsAt}
use Rattle.smp_joint.proofs.RowJoints.{one_more}
use Rattle.smp_joint.proofs.pairs.rows_of.Goals as goal

pub loop-row-preserved : goal.loop-row-preserved
loop-row-preserved c =
    let strata = c.args.plan.now.strata in
    let row = c.loop-row.row in
    let seat : place_of strata row ≡ c.seat.result = c.seat.ensures.once (place_of strata row) (place_is_seat strata row c.seat.result c.seat.ensures.there) in
    let more : c.push.new.self.items ≡ c.loop-row.rows.items ++ c.row_at.result ∷ [] = search rules in
    one_more strata c.loop-row.rows.items c.push.new.self.items row c.row_at.result c.loop-row.invariant.0 c.loop-row.invariant.1
    (subst (λ s. StandsAt strata s c.row_at.result) (sym seat) c.row_at.ensures) more
