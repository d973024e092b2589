use Rattle.std.proofs.Common.{◌≡◌, true, false}
use Rattle.smp_log.proofs.Replied.{replays_untold}
use Rattle.smp_log.proofs.lone_section.replay_section.Goals as goal

pub untold-requires : goal.untold-requires
untold-requires g c wanted = (let no : false ≡ true = c.replay_section_into.ensures.replays.may_refuse wanted in cc)

pub returns : goal.returns
returns g c = replays_untold _ _ _ _ _ _ _ _ c.replay_section_into.result c.untold.result c.untold.ensures c.replay_section_into.ensures.replays
