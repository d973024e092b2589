use Rattle.std.proofs.Common.{◌∙◌, ap, not}
use Rattle.smp_frame.proofs.Ids.{any_text, added, free}
use Rattle.smp_frame.proofs.units.is_new.Goals as goal

pub returns-clause-new : goal.returns-clause-new
returns-clause-new c = rw (← c.in_ok-id.ensures.ok) (c.in_ok-insert.ensures.added ∙ ap not (any_text c.in_ok-id.id c.args.seen.now.keys))

pub returns-clause-added : goal.returns-clause-added
returns-clause-added c = λ new. rw (← c.in_ok-id.ensures.ok) (added c.args.seen.now.keys _ c.in_ok-id.id (free _ _ c.in_ok-insert.ensures.added new) c.in_ok-insert.ensures.keys)
