-- A script that describes the genuine logs: how the reading of a log by it ends.
use Rattle.std.proofs.Common.{◌≡◌, ℕ, ◌+◌, ◌<◌, ◌≤◌, true, false, List, [], ◌∷◌, ◌++◌, length, take, Option, Some, None, refl, sym, ap, ◌∙◌, subst, arith, length-append, inl, inr, ◌⊎◌}
use Rattle.std.proofs.lemmas.List.{append-nil, take_at, length-take-le}
use Rattle.smp_frac.specs.Cuts.{cut_at}
use Rattle.smp_log.specs.{Lines.{whole_lines, lines_text, AreLines}, Genuine.{IsKept, DiffersAt, IsLogOf}, Reading.{Script, follows}}
use Rattle.smp_split.specs.{Trees.{Tree}, Paths.{Entry, Leads}}
use Rattle.smp_log.proofs.{Texts.{whole_lines-text}, Reached.{LeadsAlong, Reached, follows-append, stuck, accepted_along}}
use Rattle.smp_log.proofs.Scripts.{Accepts, Begins, Ends, follows-le, follows-none, accepted_follows, most, begins}

-- a text of these whole lines
pub whole_text : (lines : List (List ℕ)) → AreLines lines → whole_lines (lines_text lines) ≡ lines
whole_text lines are = ap whole_lines (sym (append-nil (lines_text lines))) ∙ whole_lines-text lines [] are ∙ append-nil lines

-- a log is the text of its whole lines, and the script accepts these
pub record IsAccepted {Place State : Type 0} (script : Script Place) (start : Place) (closed : State → Place) (log : List ℕ) (leaf : State) : Type 0 where
  pub whole : log ≡ lines_text (whole_lines log)
  pub accepted : Accepts script start (whole_lines log) (closed leaf)

-- so it is where they are the lines of the log
pub text_accepted : {Place State : Type 0} (script : Script Place) (start : Place) (closed : State → Place) (log : List ℕ) (all : List (List ℕ)) (leaf : State)
    → log ≡ lines_text all → AreLines all → Accepts script start all (closed leaf) → IsAccepted script start closed log leaf
text_accepted script start closed log all leaf text are accepted =
    let lines : whole_lines log ≡ all = ap whole_lines text ∙ whole_text all are in
    record {
      whole = text ∙ ap lines_text (sym lines);
      accepted = subst (λ ls. Accepts script start ls (closed leaf)) (sym lines) accepted;
    }

-- lines that the script accepts are those of a genuine log
pub record IsLog {Place State : Type 0} (closed : State → Place) (Genuine : List ℕ → State → Type 0) (lines : List (List ℕ)) (to : Place) : Type 0 where
  pub leaf : State
  pub genuine : Genuine (lines_text lines) leaf
  pub end : to ≡ closed leaf
  pub are : AreLines lines

-- those that are a text of a full path, where they lead to its leaf
pub path_log : {Place State : Type 0} (closed : State → Place) (IsText : List Entry → List ℕ → Type 0) (tree : Tree State) (from : State) (lines all : List (List ℕ)) (to : Place) (path : List Entry) (leaf : State)
    → lines ≡ all → AreLines all → IsText path (lines_text all) → Leads tree from path leaf → tree.done leaf ≡ true → to ≡ closed leaf → IsLog closed (IsLogOf IsText tree from) lines to
path_log closed IsText tree from lines all to path leaf is are text leads done end = record {
  leaf = leaf;
  genuine = record { path = path; full = record { leads = leads; done = done }; text = subst (IsText path) (ap lines_text (sym is)) text };
  end = end;
  are = subst AreLines (sym is) are;
}

-- The script accepts the lines of the genuine logs alone, and from each place that it comes to some lines lead to an end.
pub record Describes {Place State : Type 0} (script : Script Place) (start : Place) (closed : State → Place) (Genuine : List ℕ → State → Type 0) : Type 1 where
  pub complete : (log : List ℕ) (leaf : State) → Genuine log leaf → IsAccepted script start closed log leaf
  pub sound : (lines : List (List ℕ)) (to : Place) → Accepts script start lines to → IsLog closed Genuine lines to
  pub Good : Place → Type 0
  pub starts : Good start
  pub keeps : (place next : Place) (line : List ℕ) → Good place → script.follow place line ≡ Some next → Good next
  pub ends : (place : Place) → Good place → Ends script place
  pub closes : (a b : State) → closed a ≡ closed b → a ≡ b
  pub over : (s : State) → script.over (closed s) ≡ true
  pub last : (s : State) (line : List ℕ) → script.follow (closed s) line ≡ None

module _ {Place State : Type 0} (script : Script Place) (start : Place) (closed : State → Place) (Genuine : List ℕ → State → Type 0) (d : Describes script start closed Genuine) where
  -- what the script follows of some bytes is what is kept of them
  pub kept : (log : List ℕ) → IsKept Genuine log (follows script start (whole_lines log)).0
  kept log =
      let lines : List (List ℕ) = whole_lines log in
      let n : ℕ = (follows script start lines).0 in
      let le : n ≤ length lines = follows-le script start lines in
      let more : Begins script start (take n lines) = begins script d.Good d.keeps d.ends start lines d.starts in
      let other : List (List ℕ) = take n lines ++ more.more in
      let is = d.sound other more.to more.accepted in
      let whole : whole_lines (lines_text other) ≡ other = whole_text other is.are in
      let long : length (take n lines) ≡ n = length-take-le n lines le in
      record {
        begins = record {
          genuine = lines_text other;
          leaf = is.leaf;
          is = is.genuine;
          shares = record {
            whole = le;
            long = (let count : length other ≡ n + length more.more = length-append (take n lines) more.more ∙ ap (λ k. k + length more.more) long in rw (whole, count) (omega arith));
            same = sym (ap (take n) whole ∙ take_at (take n lines) more.more n long);
          };
        };
        most = λ k b. (let accepted = d.complete b.genuine b.leaf b.is in
            most script k start (closed b.leaf) lines (whole_lines b.genuine) accepted.accepted b.shares.whole b.shares.long b.shares.same);
      }

  kept_is : (log : List ℕ) (count : ℕ) (place : Place) → follows script start (whole_lines log) ≡ (count, place) → IsKept Genuine log count
  kept_is log count place h = subst (λ r. IsKept Genuine log r.0) h (kept log)

  -- a line more is asked for, and it isn't there or doesn't fit
  pub differs : (log rest : List ℕ) (count : ℕ) (place : Place) → script.over place ≡ false → Reached script start place log rest count → (cut_at 10 rest ≡ None) ⊎ ((p : List ℕ × List ℕ) × (cut_at 10 rest ≡ Some p) × (script.follow place p.0 ≡ None)) → DiffersAt Genuine log (count + 1)
  differs log rest count place not_over r h =
      let ended = stuck script start place log rest count r h in
      record {
        not_genuine = λ leaf genuine. (let accepted = d.complete log leaf genuine in
            let all = accepted_follows script start (closed leaf) (whole_lines log) accepted.accepted in
            let same : ◌≡◌ {A = ℕ × Place} (count, place) (length (whole_lines log), closed leaf) = sym ended ∙ all.0 in
            let is : place ≡ closed leaf = ap (λ r. r.1) same in
            let no : false ≡ true = sym not_over ∙ ap script.over is ∙ d.over leaf in
            cc);
        kept = count;
        is_kept = kept_is log count place ended;
        next = refl;
      }

  -- something stands behind the last line
  pub differs_behind : (log rest : List ℕ) (count : ℕ) (s : State) → 0 < length rest → Reached script start (closed s) log rest count → DiffersAt Genuine log (count + 1)
  differs_behind log rest count s some r =
      let ended = stuck script start (closed s) log rest count r (cases (cut_at 10 rest)) in
      record {
        not_genuine = λ leaf genuine. (let accepted = d.complete log leaf genuine in
            let all = accepted_follows script start (closed leaf) (whole_lines log) accepted.accepted in
            let same : ◌≡◌ {A = ℕ × Place} (count, closed s) (length (whole_lines log), closed leaf) = sym ended ∙ all.0 in
            let as_many : count ≡ length (whole_lines log) = ap (λ r. r.0) same in
            let parts : whole_lines log ≡ r.lines ++ whole_lines rest = ap whole_lines r.text_is ∙ whole_lines-text r.lines rest r.are in
            let total : length (whole_lines log) ≡ length r.lines + length (whole_lines rest) = ap length parts ∙ length-append r.lines (whole_lines rest) in
            let none : whole_lines rest ≡ [] = nil (whole_lines rest) (omega (arith, as_many, total, r.counted)) in
            let lines : whole_lines log ≡ r.lines = parts ∙ ap (λ ls. r.lines ++ ls) none ∙ append-nil r.lines in
            let text : lines_text r.lines ++ rest ≡ lines_text r.lines = sym r.text_is ∙ accepted.whole ∙ ap lines_text lines in
            let size : length (lines_text r.lines) + length rest ≡ length (lines_text r.lines) = sym (length-append (lines_text r.lines) rest) ∙ ap length text in
            omega (arith, size, some));
        kept = count;
        is_kept = kept_is log count (closed s) ended;
        next = refl;
      }
    where
      cases : (o : Option (List ℕ × List ℕ)) → (o ≡ None) ⊎ ((p : List ℕ × List ℕ) × (o ≡ Some p) × (script.follow (closed s) p.0 ≡ None))
      cases None = inl refl
      cases (Some p) = inr (p, refl, d.last s p.0)

      nil : (ls : List (List ℕ)) → length ls ≡ 0 → ls ≡ []
      nil [] h = refl
      nil (l ∷ ls) h = absurd (omega arith)

  -- nothing stands behind the last line
  pub genuine : (log : List ℕ) (count : ℕ) (s : State) → Reached script start (closed s) log [] count → Genuine log s
  genuine log count s r =
      let accepted : Accepts script start r.lines (closed s) = accepted_along script start (closed s) r.lines r.leads (d.over s) in
      let is = d.sound r.lines (closed s) accepted in
      let same : s ≡ is.leaf = d.closes s is.leaf is.end in
      let text : log ≡ lines_text r.lines = r.text_is ∙ append-nil (lines_text r.lines) in
      subst (λ t. Genuine t s) (sym text) (subst (λ l. Genuine (lines_text r.lines) l) (sym same) is.genuine)

  -- where a genuine text begins the bytes, it is what is followed of them
  pub front_followed : (log front after : List ℕ) (leaf : State) → log ≡ front ++ after → Genuine front leaf → follows script start (whole_lines log) ≡ (length (whole_lines front), closed leaf)
  front_followed log front after leaf log_is genuine =
      let accepted = d.complete front leaf genuine in
      let lines : whole_lines log ≡ whole_lines front ++ whole_lines after =
      ap whole_lines (log_is ∙ ap (λ t. t ++ after) accepted.whole) ∙ whole_lines-text (whole_lines front) after (d.sound (whole_lines front) (closed leaf) accepted.accepted).are in
      let none : length (whole_lines front) + 0 ≡ length (whole_lines front) = omega arith in
      ap (follows script start) lines ∙ follows-append script start (closed leaf) (whole_lines front) (whole_lines after) (accepted_leads (whole_lines front) start (closed leaf) accepted.accepted)
      ∙ ap (λ r. (length (whole_lines front) + r.0, r.1)) (stays (whole_lines after)) ∙ ap (λ n. (n, closed leaf)) none
    where
      stays : (lines : List (List ℕ)) → follows script (closed leaf) lines ≡ (0, closed leaf)
      stays [] = refl
      stays (line ∷ lines) = follows-none script (closed leaf) line lines (d.last leaf line)

      accepted_leads : (lines : List (List ℕ)) (p to : Place) → Accepts script p lines to → LeadsAlong script p lines to
      accepted_leads [] p to a = a.0
      accepted_leads (line ∷ lines) p to a = (a.0, a.1, accepted_leads lines a.0 to a.2)

  -- the lines so far, where the script is closed behind them
  pub record HasFront (log rest : List ℕ) (s : State) : Type 0 where
    pub front : List ℕ
    pub log_is : log ≡ front ++ rest
    pub is : Genuine front s

  pub genuine_front : (log rest : List ℕ) (count : ℕ) (s : State) → Reached script start (closed s) log rest count → HasFront log rest s
  genuine_front log rest count s r =
      let accepted : Accepts script start r.lines (closed s) = accepted_along script start (closed s) r.lines r.leads (d.over s) in
      let is = d.sound r.lines (closed s) accepted in
      let same : s ≡ is.leaf = d.closes s is.leaf is.end in
      record { front = lines_text r.lines; log_is = r.text_is; is = subst (λ l. Genuine (lines_text r.lines) l) (sym same) is.genuine }
