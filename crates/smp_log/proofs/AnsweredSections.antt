-- The function answers of a log of version 2 what the definitions say.
use Rattle.std.proofs.Common.{◌≡◌, ℕ, List, Option, Some, None, Err, refl, sym, ap, ◌∙◌, subst}
use Rattle.smp_split.specs.{Trees.{Tree, Lawful}, Sectioning.{Sectioning, IsSectioned}}
use Rattle.smp_log.specs.{Lines.{whole_lines}, Heads.{IsHead}, Answers.{IsAnswer, IsExactAnswer, read_by}, Genuine.{DiffersAt}}
use Rattle.smp_log.specs.SectionLogs.{sectioned_head, IsSectionedGenuine}
use Rattle.smp_log.specs.SectionReading.{SectionPlace, heading, opening, inside, closed, before, section_script, section_leaf, sectioned_reading}
use Rattle.smp_log.proofs.{Answered.{read_right, read_alone}, Described.{Describes, whole_text}}
use Rattle.smp_log.proofs.KeptSections.{sectioned_head_lines, sectioned_head_lines_are, sectioned_head-text, described}

module _ {State : Type 0} (tree : Tree State) (belongs : State → Type 0) (lawful : Lawful tree belongs) (sections : Sectioning State) (sectioned : IsSectioned tree belongs sections) (from : State) (member : belongs from) (head : List ℕ) (h : IsHead head) (log : List ℕ) where
  logs : Describes (section_script tree sections from) (before from (sectioned_head_lines h)) closed (IsSectionedGenuine tree sections from head)
  logs = described tree belongs lawful sections sectioned from member head h

  told : (p : SectionPlace State) (s : State) → section_leaf p ≡ Some s → p ≡ closed s
  told (heading wanted lines) s is = absurd (let e : ◌≡◌ {A = Option State} None (Some s) = is in cc)
  told (opening k taken steps t) s is = absurd (let e : ◌≡◌ {A = Option State} None (Some s) = is in cc)
  told (inside k taken steps own t) s is = absurd (let e : ◌≡◌ {A = Option State} None (Some s) = is in cc)
  told (closed t) s is = (let e : ◌≡◌ {A = Option State} (Some t) (Some s) = is in let same : t ≡ s = cc in ap closed same)

  pub head_is : whole_lines (sectioned_head head) ≡ sectioned_head_lines h
  head_is = ap whole_lines (sectioned_head-text head h) ∙ whole_text (sectioned_head_lines h) (sectioned_head_lines_are h)

  read_as : sectioned_reading tree sections from head log ≡ read_by (section_script tree sections from) (before from (sectioned_head_lines h)) section_leaf log
  unfolding sectioned_reading
  read_as = ap (λ hs. read_by (section_script tree sections from) (before from hs) section_leaf log) head_is

  pub exact_sectioned : IsExactAnswer (IsSectionedGenuine tree sections from head) log (sectioned_reading tree sections from head log)
  exact_sectioned = record {
    right = subst (IsAnswer (IsSectionedGenuine tree sections from head) log) (sym read_as)
        (read_right (section_script tree sections from) (before from (sectioned_head_lines h)) closed (IsSectionedGenuine tree sections from head) logs section_leaf (λ s. refl) told log);
    alone = λ answer is. read_alone (section_script tree sections from) (before from (sectioned_head_lines h)) closed (IsSectionedGenuine tree sections from head) logs section_leaf (λ s. refl) told log answer is ∙ sym read_as;
  }

-- the function names a line with which no genuine log goes on
pub sectioned_reads : {State : Type 0} {tree : Tree State} {belongs : State → Type 0} (lawful : Lawful tree belongs) {sections : Sectioning State} (sectioned : IsSectioned tree belongs sections) {from : State} (member : belongs from) {head : List ℕ} (h : IsHead head) (log : List ℕ) (line : ℕ)
    → DiffersAt (IsSectionedGenuine tree sections from head) log line → sectioned_reading tree sections from head log ≡ Err line
sectioned_reads {tree} {belongs} lawful {sections} sectioned {from} member {head} h log line d = sym ((exact_sectioned tree belongs lawful sections sectioned from member head h log).alone (Err line) d)
