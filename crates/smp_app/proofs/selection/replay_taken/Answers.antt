use Rattle.std.proofs.Common.{◌≡◌, List, subst, sym}
use Rattle.smp_split.specs.{Paths.{Entry}, Trees.{Tree}}
use Rattle.smp_log.specs.Genuine.{IsFullPath}
use Rattle.smp_app.proofs.Selections.{on_more}
use Rattle.smp_app.proofs.selection.replay_taken.Goals as goal

pub replay_section_into-requires-clause-one : goal.replay_section_into-requires-clause-one
replay_section_into-requires-clause-one c = rw c.in-Stratum.is at c.requires.one

-- what is told of a full path is one
full_told : {State : Type 0} {tree : Tree State} {from to : State} {told path : List Entry} → told ≡ path → IsFullPath tree from path to → IsFullPath tree from told to
full_told {tree = tree} {from = from} {to = to} is full = subst (λ (p : List Entry). IsFullPath tree from p to) (sym is) full

pub returns-in-Either-clause-full : goal.returns-in-Either-clause-full
returns-in-Either-clause-full c =
    rw c.in-Either.is (on_more c.replay_into.result _ _ (λ told. full_told told.told told.genuine.full) c.replay_into.ensures.replays.genuine)

pub returns-in-Old-clause-full : goal.returns-in-Old-clause-full
returns-in-Old-clause-full c =
    rw c.in-Old.is (on_more c.old_replay_into.result _ _ (λ told. full_told told.told told.genuine.full) c.old_replay_into.ensures.replays.genuine)

pub returns-in-Stratum-clause-full : goal.returns-in-Stratum-clause-full
returns-in-Stratum-clause-full c =
    rw c.in-Stratum.is (on_more c.replay_section_into.result _ _ (λ told. full_told told.told told.has.genuine.full) c.replay_section_into.ensures.replays.genuine)
