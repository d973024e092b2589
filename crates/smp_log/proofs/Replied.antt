-- The three ways in which a replay answers.
use Rattle.std.proofs.Common.{◌≡◌, ℕ, ◌+◌, ◌-◌, ◌≤◌, Bool, true, List, Option, Result, Ok, Err, OnOk, length, refl, sym, subst, arith}
use Rattle.smp_split.specs.{Trees.{Tree}, Paths.{Entry}, Runs.{and_then}}
use Rattle.smp_log.specs.{Answers.{AnswersAs, as_told}, Fronts.{Names, StopsAt}, Lines.{whole_lines}, Reading.{Script}}
use Rattle.smp_log.specs.{Replayed.{Form, Replays, ReplaysUntold, path_form}, declared.fault.LogFault.{LogFault}}
use Rattle.smp_log.specs.{Told.{path_told, path_in_first_lines, IsToldAlong, IsToldPart}, declared.fault.ReplayFault.{ReplayFault}}
use Rattle.smp_log.specs.declared.fault.LogFault.TheVariants as untold
use Rattle.smp_log.specs.declared.fault.ReplayFault.TheVariants.{Differs, NoMemory}
use Rattle.smp_log.proofs.{Reached.{Reached}, Telling.{few_told, none_begins, stops_early, told_part}}

-- answers that name a line name the same one
abbrev pub Answer : Type 0
Answer = Result (Unit {0}) ReplayFault

abbrev Untold : Type 0
Untold = Result (Unit {0}) LogFault

untold_line : (here line : ℕ) → ◌≡◌ {A = Untold} (Err (untold.Differs here)) (Err (untold.Differs line)) → here ≡ line
untold_line here line is = cc

at_line : (P : ℕ → Type 0) (here line : ℕ) → P here → ◌≡◌ {A = Answer} (Err (Differs here)) (Err (Differs line)) → P line
at_line P here line p is = (let same : here ≡ line = cc in subst P same p)

on_ok : {T E : Type 0} (r : Result T E) (P Q : Type 0) → (P → Q) → OnOk r P → OnOk r Q
on_ok (Ok x) P Q f p = f p
on_ok (Err e) P Q f p = tt

module _ {State : Type 0} (tree : Tree State) (member : State → Type 0) (form : Form State) (from to : State) (old new : Option (List Entry)) (refuses : Bool) where
  -- it names the line behind those that were kept
  pub refused : (count here : ℕ) → count + 1 ≡ here → form.differs here → form.reading ≡ Err here → IsToldPart tree form.told from to old new → IsToldAlong tree (form.first_told count) from to old new → member to
      → Replays tree member form from to old new refuses (Err (Differs here))
  refused count here next differs reads part along in_all =
      let back : count ≡ here - 1 = omega arith in
      record {
        genuine = tt;
        told = tt;
        differs = λ line is. at_line form.differs here line differs is;
        stopped = part;
        kept = λ line is. at_line (λ n. IsToldAlong tree (form.first_told (n - 1)) from to old new) here line (subst (λ n. IsToldAlong tree (form.first_told n) from to old new) back along) is;
        may_refuse = λ is. absurd (let e : ◌≡◌ {A = Answer} (Err (Differs here)) (Err NoMemory) = is in cc);
        done = tt;
        belongs = in_all;
        reading = reads;
      }

  -- memory ran out
  pub ran_out : refuses ≡ true → IsToldPart tree form.told from to old new → member to → Replays tree member form from to old new refuses (Err NoMemory)
  ran_out may part in_all = record {
    genuine = tt;
    told = tt;
    differs = λ line is. absurd (let e : ◌≡◌ {A = Answer} (Err NoMemory) (Err (Differs line)) = is in cc);
    stopped = part;
    kept = λ line is. absurd (let e : ◌≡◌ {A = Answer} (Err NoMemory) (Err (Differs line)) = is in cc);
    may_refuse = λ is. may;
    done = tt;
    belongs = in_all;
    reading = tt;
  }

  -- it is genuine
  pub taken : (x : Unit {0}) → form.genuine to → new ≡ and_then old form.told → form.reading ≡ Ok to → tree.done to ≡ true → member to → Replays tree member form from to old new refuses (Ok x)
  taken x genuine told reads done in_all = record {
    genuine = genuine;
    told = told;
    differs = λ line is. absurd (let e : ◌≡◌ {A = Answer} (Ok x) (Err (Differs line)) = is in cc);
    stopped = tt;
    kept = λ line is. absurd (let e : ◌≡◌ {A = Answer} (Ok x) (Err (Differs line)) = is in cc);
    may_refuse = λ is. absurd (let e : ◌≡◌ {A = Answer} (Ok x) (Err NoMemory) = is in cc);
    done = done;
    belongs = in_all;
    reading = reads;
  }

  -- where no step is told the answers are the same
  pub replays_untold : (told : Answer) (result : Untold) → told ≡ as_told result → Replays tree member form from to old new refuses told → ReplaysUntold tree member form to result
  replays_untold told (Ok y) is r = (let s = subst (Replays tree member form from to old new refuses) is r in record {
    genuine = s.genuine;
    differs = λ line e. absurd (let no : ◌≡◌ {A = Untold} (Ok y) (Err (untold.Differs line)) = e in cc);
    done = s.done;
    belongs = s.belongs;
    reading = sym s.reading;
  })
  replays_untold told (Err (untold.Differs here)) is r = (let s = subst (Replays tree member form from to old new refuses) is r in record {
    genuine = tt;
    differs = λ line e. (let same : here ≡ line = untold_line here line e in subst form.differs same (s.differs here refl));
    done = tt;
    belongs = s.belongs;
    reading = sym s.reading;
  })

  -- what is said of one form of log is said of another that tells the same
  pub as_form : (result : Answer) (genuine : State → Type 0) (differs : ℕ → Type 0) (reading : Result State ℕ) → (form.genuine to → genuine to) → ((line : ℕ) → form.differs line → differs line) → form.reading ≡ reading
      → Replays tree member form from to old new refuses result
      → Replays tree member (record { genuine = genuine; differs = differs; told = form.told; first_told = form.first_told; reading = reading }) from to old new refuses result
  as_form result genuine differs reading as_genuine as_differs same r = record {
    genuine = on_ok result (form.genuine to) (genuine to) as_genuine r.genuine;
    told = r.told;
    differs = λ line is. as_differs line (r.differs line is);
    stopped = r.stopped;
    kept = r.kept;
    may_refuse = r.may_refuse;
    done = r.done;
    belongs = r.belongs;
    reading = subst (AnswersAs result to) same r.reading;
  }

-- ---- a log whose lines behind the head tell the path stops at a line with which no genuine log goes on

module _ {State : Type 0} {tree : Tree State} {member : State → Type 0} {from : State} (log : List ℕ) {genuine : State → Type 0} {differs : ℕ → Type 0} {reading : Result State ℕ} (reads : (line : ℕ) → differs line → reading ≡ Err line)
    {to : State} (in_all : member to) {old now : Option (List Entry)} {refuses : Bool} where
  pub refused_at : (count here : ℕ) → count + 1 ≡ here → differs here → IsToldPart tree (path_told tree from log) from to old now → IsToldAlong tree (path_in_first_lines tree from count log) from to old now
      → Replays tree member (path_form tree from log genuine differs reading) from to old now refuses (Err (Differs here))
  refused_at count here next d part along = refused tree member (path_form tree from log genuine differs reading) from to old now refuses count here next d (reads here d) part along in_all

  -- that line stands behind those that were read
  pub refused_behind : {Place : Type 0} {script : Script Place} {start place : Place} {rest : List ℕ} {count : ℕ} (r : Reached script start place log rest count) → 3 ≤ count → IsToldAlong tree (path_in_first_lines tree from count log) from to old now
      → (here : ℕ) → count + 1 ≡ here → differs here → Replays tree member (path_form tree from log genuine differs reading) from to old now refuses (Err (Differs here))
  refused_behind {count} r behind along here next d = refused_at count here next d (told_part tree from old r behind to now along) along

-- the head isn't there
pub refused_head : {State : Type 0} {tree : Tree State} {member : State → Type 0} {from : State} (log : List ℕ) {genuine : State → Type 0} {differs : ℕ → Type 0} {reading : Result State ℕ} (reads : (line : ℕ) → differs line → reading ≡ Err line)
    → member from → {old : Option (List Entry)} {refuses : Bool} {front head : List ℕ} → front ≡ head → length (whole_lines head) ≡ 3 → ((line : ℕ) → StopsAt head log line → differs line) → (fault : ReplayFault) → Names (StopsAt front log) fault
    → Replays tree member (path_form tree from log genuine differs reading) from from old old refuses (Err fault)
refused_head {tree} {from} log reads in_all {old} same three differ (Differs line) stops =
    let at = subst (λ f. StopsAt f log line) same stops in
    refused_at log reads in_all (length at.same) line (sym at.counted) (differ line at) (none_begins tree from old (path_told tree from log)) (few_told tree from old log (length at.same) (stops_early at three))
refused_head log reads in_all same three differ NoMemory stops = absurd stops
