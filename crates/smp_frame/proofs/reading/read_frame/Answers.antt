use Rattle.smp_frame.proofs.FrameBounds.{read_bounds, read_balance, read_points}
use Rattle.smp_frame.proofs.reading.read_frame.Goals as goal

pub returns-clause-bounds : goal.returns-clause-bounds
returns-clause-bounds c = read_bounds c.args.columns.now c.args.bytes.now c.frame_in.result c.frame_in.ensures

pub returns-clause-balance : goal.returns-clause-balance
returns-clause-balance c = read_balance c.args.columns.now c.args.bytes.now c.frame_in.result c.frame_in.ensures

pub returns-clause-points : goal.returns-clause-points
returns-clause-points c = read_points c.args.columns.now c.args.bytes.now c.frame_in.result c.frame_in.ensures
