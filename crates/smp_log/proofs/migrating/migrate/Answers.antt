use Rattle.std.proofs.Common.{◌≡◌, ℕ, List, ◌++◌, Option, Some, Err, ap, sym, subst, ◌∙◌, arith}
use Rattle.smp_split.specs.Paths.{Entry}
use Rattle.smp_log.specs.{SectionLogs.{RiseFrom, placed, sections_text, steps_of}, Told.{path_told}}
use Rattle.smp_log.specs.declared.fault.ReplayFault.TheVariants as ReplayFault
use Rattle.smp_log.proofs.Placed.{none_placed, placed_as, placed_rise}
use Rattle.smp_log.proofs.migrating.migrate.Goals as goal

pub returns-in-Err-clause-differs : goal.returns-in-Err-clause-differs
returns-in-Err-clause-differs g c line is =
    let same : c.in-Err.fault ≡ ReplayFault.Differs line = cc in
    c.in-Err.ensures.replays.differs line (ap Err same)

same_lines : (p q : List Entry) → ◌≡◌ {A = Option (List Entry)} (Some p) (Some q) → p ≡ q
same_lines p q h = cc

pub log_bytes-requires : goal.log_bytes-requires
log_bytes-requires g c =
    let tree = (g.S.Splitting.method c.args.run.now).tree in
    let belongs = (g.S.Splitting.method c.args.run.now).belongs in
    let sections = g.S.Sections.sectioning c.args.run.now in
    let so = c.in-Ok.ensures.kept c.args.state.now (none_placed tree sections c.args.state.now c.new-lines.result c.new-lines.ensures) in
    let rise = placed_rise tree belongs (g.S.Splitting.method c.args.run.now).lawful sections (g.met.S.Sections.sectioned c.args.run.now) so.path c.args.state.now c.old_replay_into.new.state 0 c.requires (omega arith) so.leads in
    subst (λ n. RiseFrom n 0 c.old_replay_into.new.trace) (sym c.sections.ensures) (subst (RiseFrom sections.count 0) (sym so.steps_are) rise)

pub returns-in-Ok-log_bytes-clause-text : goal.returns-in-Ok-log_bytes-clause-text
returns-in-Ok-log_bytes-clause-text g c =
    let tree = (g.S.Splitting.method c.args.run.now).tree in
    let sections = g.S.Sections.sectioning c.args.run.now in
    let from = c.args.state.now in
    let path = path_told tree from c.args.log.now in
    let lines = c.old_replay_into.new.trace in
    let so = c.in-Ok.ensures.kept from (none_placed tree sections from c.new-lines.result c.new-lines.ensures) in
    let told : steps_of lines ≡ path = same_lines (steps_of lines) path (c.in-Ok.ensures.replays.told ∙ ap (λ (none : List (ℕ × Entry)). Some (steps_of none ++ path)) c.new-lines.ensures) in
    let own : lines ≡ placed tree sections from path = placed_as tree sections from c.old_replay_into.new.state lines path so told in
    c.in-Ok-log_bytes.ensures ∙ ap (λ count. sections_text c.args.head.now count lines) c.sections.ensures ∙ ap (sections_text c.args.head.now sections.count) own
