use Rattle.std.proofs.Common.{length, refl, sym, subst}
use Rattle.smp_moves.specs.{Answers.{line_of}, Moves.{turned}}
use Rattle.smp_stratcube.specs.Kept.Moves.{IsAlong}
use Rattle.smp_stratcube.proofs.{Ending.{inside, some_size}, Written.{gone_is, turn_along}}
use Rattle.smp_stratcube.proofs.state.fly.Goals as goal

pub go-requires-clause-inside : goal.go-requires-clause-inside
go-requires-clause-inside c =
    inside (length c.args.values.now.items) c.args.values.now.items c.args.mv.now.line c.args.mv.now.den c.args.mv.now.up (subst (λ n. IsAlong n c.args.values.now.items c.args.mv.now.line c.args.mv.now.den c.args.mv.now.up) (sym c.requires.flying.values.count) c.requires.mv.up)

pub go-requires-clause-size : goal.go-requires-clause-size
go-requires-clause-size c =
    some_size (length c.args.values.now.items) c.args.values.now.items c.args.mv.now.line c.args.mv.now.den c.args.mv.now.up (subst (λ n. IsAlong n c.args.values.now.items c.args.mv.now.line c.args.mv.now.den c.args.mv.now.up) (sym c.requires.flying.values.count) c.requires.mv.up)

pub go-requires-else-plus-clause-along : goal.go-requires-else-plus-clause-along
go-requires-else-plus-clause-along c =
    (turn_along (length c.args.values.now.items) c.args.values.now.items c.args.mv.now.line c.turned.result c.args.mv.now.den c.args.mv.now.up c.args.mv.now.down (subst (λ n. IsAlong n c.args.values.now.items c.args.mv.now.line c.args.mv.now.den c.args.mv.now.up) (sym c.requires.flying.values.count) c.requires.mv.up) c.turned.ensures.line c.turned.ensures.padded c.turned.ensures.small c.requires.mv.down)

pub go-requires-else-plus-clause-inside : goal.go-requires-else-plus-clause-inside
go-requires-else-plus-clause-inside c =
    inside (length c.args.values.now.items) c.args.values.now.items c.turned.result c.args.mv.now.den c.args.mv.now.down (turn_along (length c.args.values.now.items) c.args.values.now.items c.args.mv.now.line c.turned.result c.args.mv.now.den c.args.mv.now.up c.args.mv.now.down (subst (λ n. IsAlong n c.args.values.now.items c.args.mv.now.line c.args.mv.now.den c.args.mv.now.up) (sym c.requires.flying.values.count) c.requires.mv.up) c.turned.ensures.line c.turned.ensures.padded c.turned.ensures.small c.requires.mv.down)

pub go-requires-else-plus-clause-size : goal.go-requires-else-plus-clause-size
go-requires-else-plus-clause-size c =
    some_size (length c.args.values.now.items) c.args.values.now.items c.turned.result c.args.mv.now.den c.args.mv.now.down (turn_along (length c.args.values.now.items) c.args.values.now.items c.args.mv.now.line c.turned.result c.args.mv.now.den c.args.mv.now.up c.args.mv.now.down (subst (λ n. IsAlong n c.args.values.now.items c.args.mv.now.line c.args.mv.now.den c.args.mv.now.up) (sym c.requires.flying.values.count) c.requires.mv.up) c.turned.ensures.line c.turned.ensures.padded c.turned.ensures.small c.requires.mv.down)

pub returns-then-plus : goal.returns-then-plus
returns-then-plus c =
    record { is = rw c.if-plus.true (gone_is c.args.units.now (length c.args.values.now.items) c.args.values.now.items c.go.new.values.items c.args.mv.now.line c.args.mv.now.den c.args.mv.now.up (subst (λ n. IsAlong n c.args.values.now.items c.args.mv.now.line c.args.mv.now.den c.args.mv.now.up) (sym c.requires.flying.values.count) c.requires.mv.up) c.go.ensures (line_of c.args.mv.now.line) refl c.requires.mv.den) }

pub returns-else-plus : goal.returns-else-plus
returns-else-plus c =
    record { is = rw c.if-plus.false (gone_is c.args.units.now (length c.args.values.now.items) c.args.values.now.items c.go-else-plus.new.values.items c.turned.result c.args.mv.now.den c.args.mv.now.down (turn_along (length c.args.values.now.items) c.args.values.now.items c.args.mv.now.line c.turned.result c.args.mv.now.den c.args.mv.now.up c.args.mv.now.down (subst (λ n. IsAlong n c.args.values.now.items c.args.mv.now.line c.args.mv.now.den c.args.mv.now.up) (sym c.requires.flying.values.count) c.requires.mv.up) c.turned.ensures.line c.turned.ensures.padded c.turned.ensures.small c.requires.mv.down) c.go-else-plus.ensures (turned (line_of c.args.mv.now.line)) c.turned.ensures.line c.requires.mv.den) }
