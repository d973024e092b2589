use Rattle.std.proofs.Common.{Err, ap}
use Rattle.smp_cases.proofs.Ends.{drawn_refused, is_leaf}
use Rattle.smp_cases.proofs.running.draw.Goals as goal

pub returns-in-Err-Draw : goal.returns-in-Err-Draw
returns-in-Err-Draw g c =
    let tree = (g.S.Splitting.method c.args.design.now).tree in
    let refused = c.in-Err-Draw.ensures.refused c.in-Err-Draw.fault (ap Err c.in-Err-Draw.field-0-is) in
    drawn_refused tree c.args.state.now c.args.values.now c.in-Ok.tape c.in-Ok.ensures.0 c.in-Ok.ensures.1 c.walk.new.state refused.path c.in-Err-Draw.fault c.walk.new.draws refused.ran

pub mask_of-requires-clause-done : goal.mask_of-requires-clause-done
mask_of-requires-clause-done g c =
    let s = g.S.Splitting in
    let arrived = c.in-Ok-walk.ensures.arrived in
    (is_leaf (s.method c.args.design.now).tree c.args.state.now c.args.values.now c.in-Ok.tape c.in-Ok.ensures.0 c.in-Ok.ensures.1 c.walk.new.state arrived.path c.walk.new.draws arrived.ran
    (s.method c.args.design.now).belongs (g.S.Splitting.method c.args.design.now).lawful c.requires.belongs).done
