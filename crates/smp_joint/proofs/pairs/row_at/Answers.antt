use Rattle.std.proofs.{Common.{refl}, lemmas.Option.{slice_get_read}}
use Rattle.smp_joint.proofs.{RowJoints.{stands}, Small.{small_asked}}
use Rattle.smp_joint.proofs.pairs.row_at.Goals as goal

pub invariant_of-result : goal.invariant_of-result
invariant_of-result c =
    let small = small_asked c.stratum.result.now.request c.stratum.ensures.sound.over.sound c.asked.result c.args.seat.unit c.asked.ensures in
    record { num = small.0; den = small.1 }

pub returns : goal.returns
returns c =
    stands c.args.plan.now.strata c.args.seat _ c.stratum.result.now
    (slice_get_read c.args.plan.now.strata _ c.args.seat.stratum c.stratum.result.now refl c.requires c.stratum.ensures.value)
    c.stratum.ensures.sound.over.sound refl c.inclusion.ensures c.asked.ensures
