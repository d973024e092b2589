-- The function answers what the definitions say.
use Rattle.std.proofs.Common.{◌≡◌, ℕ, ◌+◌, ◌≤◌, ◌==◌, ◌&&◌, Bool, true, false, List, length, Option, Some, None, Result, Ok, Err, refl, sym, ap, ◌∙◌, subst, arith}
use Rattle.std.specs.Str.{bytes_eq}
use Rattle.std.proofs.{lemmas.Bool.{and_parts, and_from, eqb-true, eq-eqb}, lemmas.Slice.Eq.{bytes_eq-Decides}}
use Rattle.smp_split.specs.Trees.{Tree, Lawful}
use Rattle.smp_log.specs.{Lines.{whole_lines, lines_text}, Heads.{IsHead}, Genuine.{IsGenuine, DiffersAt}}
use Rattle.smp_log.specs.Reading.{Script, follows, LogPlace, heading, stepping, closed, before, end_line, log_script}
use Rattle.smp_log.specs.Answers.{IsAnswer, IsExactReading, answer_of, read_by, log_leaf, log_reading}
use Rattle.smp_log.proofs.{Scripts.{accepted_follows, follows_accepted}, Described.{Describes, whole_text, kept}, Kept.{described}}
use Rattle.smp_log.proofs.Heads.{head_lines, head_lines_are}

module _ {Place State : Type 0} (script : Script Place) (start : Place) (closed_at : State → Place) (Genuine : List ℕ → State → Type 0) (d : Describes script start closed_at Genuine)
    (leaf_of : Place → Option State) (tells : (s : State) → leaf_of (closed_at s) ≡ Some s) (told : (p : Place) (s : State) → leaf_of p ≡ Some s → p ≡ closed_at s) (log : List ℕ) where
  abbrev lines : List (List ℕ)
  lines = whole_lines log

  abbrev all : ℕ → Bool
  all n = n == length lines && bytes_eq log (lines_text lines)

  pub genuine_read : (leaf : State) → Genuine log leaf → read_by script start leaf_of log ≡ Ok leaf
  genuine_read leaf genuine =
      let accepted = d.complete log leaf genuine in
      let read : follows script start lines ≡ (length lines, closed_at leaf) = (accepted_follows script start (closed_at leaf) lines accepted.accepted).0 in
      let every : all (length lines) ≡ true = and_from _ _ (eq-eqb (length lines) (length lines) refl) ((bytes_eq-Decides log (lines_text lines)).1 accepted.whole) in
      ap (λ r. answer_of (leaf_of r.1) (all r.0) r.0) read ∙ ap (λ o. answer_of o (all (length lines)) (length lines)) (tells leaf) ∙ ap (λ b. answer_of (Some leaf) b (length lines)) every

  count : ℕ
  count = (follows script start lines).0

  -- where all lines are followed to an end, that leaf is the log's
  all_read : (leaf : State) → leaf_of (follows script start lines).1 ≡ Some leaf → all count ≡ true → Genuine log leaf
  unfolding count
  all_read leaf is e =
      let parts = and_parts _ _ e in
      let number : (follows script start lines).0 ≡ length lines = eqb-true _ _ parts.0 in
      let whole : log ≡ lines_text lines = (bytes_eq-Decides log (lines_text lines)).0 parts.1 in
      let at : (follows script start lines).1 ≡ closed_at leaf = told _ leaf is in
      let accepted = follows_accepted script start lines number (ap script.over at ∙ d.over leaf) in
      let found = d.sound lines (follows script start lines).1 accepted in
      let same : leaf ≡ found.leaf = d.closes leaf found.leaf (sym at ∙ found.end) in
      subst (λ t. Genuine t leaf) (sym whole) (subst (λ l. Genuine (lines_text lines) l) (sym same) found.genuine)

  -- and where they aren't, the line behind those that are followed is the first that isn't kept
  not_all_read : read_by script start leaf_of log ≡ Err (count + 1) → DiffersAt Genuine log (count + 1)
  unfolding count
  not_all_read is = record {
    not_genuine = λ leaf genuine. (let both : ◌≡◌ {A = Result State ℕ} (Err ((follows script start lines).0 + 1)) (Ok leaf) = sym is ∙ genuine_read leaf genuine in cc);
    kept = (follows script start lines).0;
    is_kept = kept script start closed_at Genuine d log;
    next = refl;
  }

  pub read_right : IsAnswer Genuine log (read_by script start leaf_of log)
  unfolding count
  read_right = by_leaf (leaf_of (follows script start lines).1) refl
    where
      by_leaf : (o : Option State) → leaf_of (follows script start lines).1 ≡ o → IsAnswer Genuine log (answer_of o (all (follows script start lines).0) (follows script start lines).0)
      by_leaf None is = not_all_read (ap (λ o. answer_of o (all (follows script start lines).0) (follows script start lines).0) is)
      by_leaf (Some leaf) is = by_all (all (follows script start lines).0) refl
        where
          by_all : (b : Bool) → all (follows script start lines).0 ≡ b → IsAnswer Genuine log (answer_of (Some leaf) b (follows script start lines).0)
          by_all true e = all_read leaf is e
          by_all false e = not_all_read (ap (λ o. answer_of o (all (follows script start lines).0) (follows script start lines).0) is ∙ ap (λ b. answer_of (Some leaf) b (follows script start lines).0) e)

  differs_read : (line : ℕ) → DiffersAt Genuine log line → read_by script start leaf_of log ≡ Err line
  differs_read line differs = by_answer (read_by script start leaf_of log) read_right
    where
      by_answer : (answer : Result State ℕ) → IsAnswer Genuine log answer → answer ≡ Err line
      by_answer (Ok leaf) genuine = absurd (differs.not_genuine leaf genuine)
      by_answer (Err other) right =
          let low : right.kept ≤ differs.kept = differs.is_kept.most right.kept right.is_kept.begins in
          let high : differs.kept ≤ right.kept = right.is_kept.most differs.kept differs.is_kept.begins in
          let same : other ≡ line = omega (arith, low, high, differs.next, right.next) in
          ap Err same

  pub read_alone : (answer : Result State ℕ) → IsAnswer Genuine log answer → answer ≡ read_by script start leaf_of log
  read_alone (Ok leaf) genuine = sym (genuine_read leaf genuine)
  read_alone (Err line) differs = sym (differs_read line differs)

-- ---- logs

module _ {State : Type 0} (tree : Tree State) (belongs : State → Type 0) (lawful : Lawful tree belongs) (from : State) (member : belongs from) (head : List ℕ) (h : IsHead head) (log : List ℕ) where
  logs : Describes (log_script tree end_line from) (before from (head_lines h)) closed (IsGenuine tree from head)
  logs = described tree belongs lawful from member head (head_lines h) h.text (head_lines_are h)

  told : (p : LogPlace State) (s : State) → log_leaf p ≡ Some s → p ≡ closed s
  told (heading wanted lines) s is = absurd (let e : ◌≡◌ {A = Option State} None (Some s) = is in cc)
  told (stepping steps t) s is = absurd (let e : ◌≡◌ {A = Option State} None (Some s) = is in cc)
  told (closed t) s is = (let e : ◌≡◌ {A = Option State} (Some t) (Some s) = is in let same : t ≡ s = cc in ap closed same)

  head_is : whole_lines head ≡ head_lines h
  head_is = ap whole_lines h.text ∙ whole_text (head_lines h) (head_lines_are h)

  read_as : log_reading tree from head log ≡ read_by (log_script tree end_line from) (before from (head_lines h)) log_leaf log
  unfolding log_reading
  read_as = ap (λ hs. read_by (log_script tree end_line from) (before from hs) log_leaf log) head_is

  pub exact_reading : IsExactReading tree from head log
  exact_reading = record {
    right = subst (IsAnswer (IsGenuine tree from head) log) (sym read_as) (read_right (log_script tree end_line from) (before from (head_lines h)) closed (IsGenuine tree from head) logs log_leaf (λ s. refl) told log);
    alone = λ answer is. read_alone (log_script tree end_line from) (before from (head_lines h)) closed (IsGenuine tree from head) logs log_leaf (λ s. refl) told log answer is ∙ sym read_as;
  }

-- the function names a line with which no genuine log goes on
pub old_reads : {State : Type 0} {tree : Tree State} {belongs : State → Type 0} (lawful : Lawful tree belongs) {from : State} (member : belongs from) {head : List ℕ} (h : IsHead head) (log : List ℕ) (line : ℕ) → DiffersAt (IsGenuine tree from head) log line → log_reading tree from head log ≡ Err line
old_reads {tree} {belongs} lawful {from} member {head} h log line d = sym ((exact_reading tree belongs lawful from member head h log).alone (Err line) d)
