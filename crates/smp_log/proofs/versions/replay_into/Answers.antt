use Rattle.std.proofs.Common.{◌≡◌, Bool, true, false, List, ℕ, Option, inl, inr, sym, ◌∙◌}
use Rattle.smp_split.specs.{Paths.{Entry}, Sectioning.{Sectioning}, Trees.{Tree}}
use Rattle.smp_log.specs.{Genuine.{DiffersAt, IsToldLogOf}, Heads.{IsHead}, Replayed.{Replays, any_form, old_form, sectioned_form}}
use Rattle.smp_log.specs.{SectionLogs.{IsAnyGenuine, IsAnyText}, SectionReading.{any_reading, is_sectioned}}
use Rattle.smp_log.proofs.{Replied.{Answer, as_form}, TwoVersions.{sectioned_differs, old_differs, reading_of}}
use Rattle.smp_log.proofs.versions.replay_into.Goals as goal

module _ {State : Type 0} {tree : Tree State} {belongs : State → Type 0} (sections : Sectioning State) {from : State} (head : List ℕ) {log : List ℕ} {to : State} {old new : Option (List Entry)} {refuses : Bool} {result : Answer} where
  from_sectioned : IsHead head → is_sectioned log ≡ true → Replays tree belongs (sectioned_form tree sections from head log) from to old new refuses result → Replays tree belongs (any_form tree sections from head log) from to old new refuses result
  from_sectioned h is r =
      as_form tree belongs (sectioned_form tree sections from head log) from to old new refuses result (IsToldLogOf (IsAnyText tree sections from head) tree from log) (DiffersAt (IsAnyGenuine tree sections from head) log) (any_reading tree sections from head log)
      (λ of. record { genuine = record { path = of.genuine.path; full = of.genuine.full; text = inr of.genuine.text }; told = of.told })
      (λ line d. sectioned_differs tree sections from head h log line is d) (sym (reading_of tree sections from head log true is)) r

  from_old : is_sectioned log ≡ false → Replays tree belongs (old_form tree from head log) from to old new refuses result → Replays tree belongs (any_form tree sections from head log) from to old new refuses result
  from_old is r =
      as_form tree belongs (old_form tree from head log) from to old new refuses result (IsToldLogOf (IsAnyText tree sections from head) tree from log) (DiffersAt (IsAnyGenuine tree sections from head) log) (any_reading tree sections from head log)
      (λ of. record { genuine = record { path = of.genuine.path; full = of.genuine.full; text = inl of.genuine.text }; told = of.told })
      (λ line d. old_differs tree sections from head log line is d) (sym (reading_of tree sections from head log false is)) r

pub returns-then-is_sectioned-clause-replays : goal.returns-then-is_sectioned-clause-replays
returns-then-is_sectioned-clause-replays g c = from_sectioned (g.S.Sections.sectioning c.args.run.now) c.args.head.now c.replay_sections_into.ensures.head (sym c.is_sectioned.ensures ∙ c.if-is_sectioned.true) c.replay_sections_into.ensures.replays

pub returns-else-is_sectioned-clause-replays : goal.returns-else-is_sectioned-clause-replays
returns-else-is_sectioned-clause-replays g c = from_old (g.S.Sections.sectioning c.args.run.now) c.args.head.now (sym c.is_sectioned.ensures ∙ c.if-is_sectioned.false) c.old_replay_into.ensures.replays
