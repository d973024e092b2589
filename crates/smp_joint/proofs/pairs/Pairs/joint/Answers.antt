use Rattle.std.proofs.Common.{rules, ◌≡◌, get_or, length, arith}
use Rattle.std.specs.Vec.{vec_len}
use Rattle.smp_frac.specs.Exact.{fraction}
use Rattle.smp_prob.specs.Shares.{Shares, shares_of}
use Rattle.smp_twostage.specs.Selections.{place_of}
use Rattle.smp_joint.specs.Rows.{StandsAt}
use Rattle.smp_joint.proofs.RowJoints.{apart, arc_first, arc_second, arcs_at, arcs_within, frees, row_stands}
use Rattle.smp_joint.proofs.pairs.Pairs.joint.Goals as goal
use Rattle.smp_joint.proofs.pairs.Pairs.joint.Goals.{After-index-second}

-- where the two rows stand
one : (c : After-index-second) → StandsAt c.self.inside.plan.now.strata (place_of c.self.inside.plan.now.strata c.args.first) c.index-first.result.now
one c = row_stands c.self.inside.plan.now c.self.inside.rows.items c.args.first c.index-first.result.now (c.self.invariant).1 (rw (← c.self.view_is) at c.requires.first) c.index-first.ensures

other : (c : After-index-second) → StandsAt c.self.inside.plan.now.strata (place_of c.self.inside.plan.now.strata c.args.second) c.index-second.result.now
other c = row_stands c.self.inside.plan.now c.self.inside.rows.items c.args.second c.index-second.result.now (c.self.invariant).1 (rw (← c.self.view_is) at c.requires.second) c.index-second.ensures

-- the arcs that are read are those of the first row's stratum
own_arcs : (c : After-index-second) (arcs : Shares) → arcs ≡ get_or c.self.inside.arcs.items c.index-first.result.now.stratum arcs → arcs ≡ shares_of (one c).stratum.request
own_arcs c arcs read = arcs_at c.self.inside.plan.now.strata c.self.inside.arcs.items _ (one c).stratum arcs (c.self.invariant).0 (one c).there (rw (one c).number at read)

pub returns-then-first-second : goal.returns-then-first-second
returns-then-first-second c =
    let at = (goal.at.returns-then-first-second c).After-index-second in
    rw (← c.self.view_is) (apart c.self.inside.plan.now.strata _ _ c.index-first.result.now c.index-second.result.now (one at) (other at) c.if-first-second.true c.product.result c.product.ensures)

pub index-arcs-requires : goal.index-arcs-requires
index-arcs-requires c =
    let first = one (goal.at.index-arcs-requires c).After-index-second in
    let within = arcs_within c.self.inside.plan.now.strata c.self.inside.arcs.items _ first.stratum (c.self.invariant).0 first.there in
    let len : length c.self.inside.arcs.items ≡ vec_len c.self.inside.arcs = search rules in
    omega (arith, within, len, first.number)

pub both-requires-clause-first : goal.both-requires-clause-first
both-requires-clause-first c =
    let at = (goal.at.both-requires-clause-first c).After-index-second in
    arc_first c.self.inside.plan.now.strata _ _ _ _ (one at) (other at) c.if-first-second.false c.in-Free-Free.i c.index-arcs.result.now c.in-Free-Free.is-0 (own_arcs at c.index-arcs.result.now c.index-arcs.ensures)

pub both-requires-clause-second : goal.both-requires-clause-second
both-requires-clause-second c =
    let at = (goal.at.both-requires-clause-second c).After-index-second in
    arc_second c.self.inside.plan.now.strata _ _ _ _ (one at) (other at) c.if-first-second.false c.in-Free-Free.j c.index-arcs.result.now c.in-Free-Free.is-1 (own_arcs at c.index-arcs.result.now c.index-arcs.ensures)

pub returns-in-Free-Free : goal.returns-in-Free-Free
returns-in-Free-Free c =
    let at = (goal.at.returns-in-Free-Free c).After-index-second in
    rw (← c.self.view_is) (frees c.self.inside.plan.now.strata _ _ _ _ (one at) (other at) c.if-first-second.false c.in-Free-Free.i c.in-Free-Free.j c.index-arcs.result.now c.both.result c.places.result (fraction c.over.result) c.in-Free-Free.is-0 c.in-Free-Free.is-1
    (own_arcs at c.index-arcs.result.now c.index-arcs.ensures) c.both.ensures c.places.ensures.is c.over.ensures.value)
