-- What a log tells of its path.
use Rattle.std.proofs.Common.{◌≡◌, ℕ, ◌+◌, ◌<◌, ◌≤◌, true, false, List, [], ◌∷◌, ◌++◌, length, map, drop, take, Option, Some, None, refl, sym, ap, ◌∙◌, subst, arith, length-append, inl, inr}
use Rattle.std.proofs.{lemmas.Bool.{cases_Bool}, lemmas.List.{append-nil, drop_all, drop-append-le, length-take}}
use Rattle.smp_frac.specs.Cuts.{cut_at}
use Rattle.smp_split.specs.{Trees.{Tree, Lawful, weight_sum, picked}, Paths.{Entry, Leads, entry_at}, Runs.{and_then}}
use Rattle.smp_split.specs.Laws.Steps.{Leads-push, picked_belongs, value_within, and_then-nil, and_then-append}
use Rattle.smp_log.specs.{Lines.{whole_lines}, Fronts.{StopsAt}, Heads.{IsHead}, Genuine.{IsGenuine, IsUnambiguous}}
use Rattle.smp_log.specs.Reading.{Script, step_line, step_value, step_first, end_line}
use Rattle.smp_log.specs.Told.{path_along, path_told, path_in_first_lines, IsToldAlong, IsToldPart}
use Rattle.smp_log.proofs.{FirstLines.{first_step}, Reached.{Reached, first_lines, next_lines, reached_lines}, StepLines.{step_value-is}}
use Rattle.smp_log.proofs.{OnePath.{entry_is, value_read, both}, StepCounts.{lines_are, log_count}}

module _ {State : Type 0} (tree : Tree State) where
  -- at a leaf nothing more is told
  pub none_along : (s : State) (lines : List (List ℕ)) → tree.done s ≡ true → path_along tree s lines ≡ []
  none_along s [] e = refl
  none_along s (line ∷ lines) e = rw (path_along, e) refl

  -- the line of a step tells it
  pub step_along : (s : State) (line : List ℕ) (lines : List (List ℕ)) (v : ℕ) → tree.done s ≡ false → step_value (tree.kind s) (weight_sum (tree.parts s)) line ≡ Some v
      → path_along tree s (line ∷ lines) ≡ entry_at tree s v ∷ path_along tree (picked s (tree.parts s) v) lines
  step_along s line lines v e h = rw (path_along, e, h) refl

  -- lines behind those that lead to a state
  more_along : (s : State) (line : List ℕ) (lines more : List (List ℕ)) (to : State) → ((t : State) → Leads tree t (path_along tree t lines) to → path_along tree t (lines ++ more) ≡ path_along tree t lines ++ path_along tree to more)
      → (o : Option ℕ) → tree.done s ≡ false → step_value (tree.kind s) (weight_sum (tree.parts s)) line ≡ o → Leads tree s (path_along tree s (line ∷ lines)) to
      → path_along tree s (line ∷ (lines ++ more)) ≡ path_along tree s (line ∷ lines) ++ path_along tree to more
  more_along s line lines more to on None e is leads =
      let passed : path_along tree s (line ∷ lines) ≡ path_along tree s lines = rw (path_along, e, is) refl in
      let behind : path_along tree s (line ∷ (lines ++ more)) ≡ path_along tree s (lines ++ more) = rw (path_along, e, is) refl in
      behind ∙ on s (subst (λ (p : List Entry). Leads tree s p to) passed leads) ∙ ap (λ (p : List Entry). p ++ path_along tree to more) (sym passed)
  more_along s line lines more to on (Some v) e is leads =
      let next : State = picked s (tree.parts s) v in
      let step : path_along tree s (line ∷ lines) ≡ entry_at tree s v ∷ path_along tree next lines = step_along s line lines v e is in
      let led : Leads tree s (entry_at tree s v ∷ path_along tree next lines) to = subst (λ (p : List Entry). Leads tree s p to) step leads in
      step_along s line (lines ++ more) v e is ∙ ap (λ (p : List Entry). entry_at tree s v ∷ p) (on next led.1) ∙ ap (λ (p : List Entry). p ++ path_along tree to more) (sym step)

  pub along_more : (lines more : List (List ℕ)) (s to : State) → Leads tree s (path_along tree s lines) to → path_along tree s (lines ++ more) ≡ path_along tree s lines ++ path_along tree to more
  along_more [] more s to leads = ap (λ (t : State). path_along tree t more) (sym leads)
  along_more (line ∷ lines) more s to leads = elim (cases_Bool (tree.done s)) [
    | inl e ↦
        (let none : path_along tree s (line ∷ lines) ≡ [] = none_along s (line ∷ lines) e in
        let here : to ≡ s = subst (λ (p : List Entry). Leads tree s p to) none leads in
        none_along s (line ∷ (lines ++ more)) e ∙ sym (none_along to more (ap tree.done here ∙ e)) ∙ ap (λ (p : List Entry). p ++ path_along tree to more) (sym none))
    | inr e ↦ more_along s line lines more to (λ t l. along_more lines more t to l) (step_value (tree.kind s) (weight_sum (tree.parts s)) line) e refl leads
  ]

-- ---- lines behind the three of a head

module _ {Place : Type 0} {script : Script Place} {start place : Place} {log rest : List ℕ} {count : ℕ} (r : Reached script start place log rest count) (behind : 3 ≤ count) where
  long_front : 3 ≤ length (take count (whole_lines log))
  long_front = (let is = ap length (first_lines script start place log rest count r) in let n = r.counted in omega (arith, is, n))

  all_lines : drop 3 (whole_lines log) ≡ drop 3 (take count (whole_lines log)) ++ whole_lines rest
  all_lines = ap (drop 3) (reached_lines script start place log rest count r) ∙ drop-append-le 3 (take count (whole_lines log)) (whole_lines rest) long_front

  pub longer_by : (line after : List ℕ) → cut_at 10 rest ≡ Some (line, after) → drop 3 (take (count + 1) (whole_lines log)) ≡ drop 3 (take count (whole_lines log)) ++ line ∷ []
  longer_by line after cut = ap (drop 3) (next_lines script start place log rest count r line after cut) ∙ drop-append-le 3 (take count (whole_lines log)) (line ∷ []) long_front

-- ---- a replay that tells its steps

module _ {State : Type 0} (tree : Tree State) (from : State) (old : Option (List Entry)) where
  -- the lines so far tell a path to the state, and it was told
  abbrev pub Tells : List (List ℕ) → State → Option (List Entry) → Type 0
  Tells lines s now = IsToldAlong tree (path_along tree from lines) from s old now

  pub none_told : (lines : List (List ℕ)) → path_along tree from lines ≡ [] → Tells lines from old
  none_told lines none = subst (λ (p : List Entry). IsToldAlong tree p from from old old) (sym none) (record { leads = refl; told = and_then-nil old })

  -- one step more
  pub step_told : (lines longer : List (List ℕ)) (line : List ℕ) (s : State) (v : ℕ) (now new : Option (List Entry)) → Tells lines s now → longer ≡ lines ++ line ∷ [] → tree.done s ≡ false → step_value (tree.kind s) (weight_sum (tree.parts s)) line ≡ Some v
      → new ≡ and_then now (entry_at tree s v ∷ []) → Tells longer (picked s (tree.parts s) v) new
  step_told lines longer line s v now new t is e read told_now =
      let front : List Entry = path_along tree from lines in
      let path : path_along tree from longer ≡ front ++ entry_at tree s v ∷ [] =
      ap (path_along tree from) is ∙ along_more tree lines (line ∷ []) from s t.leads ∙ ap (λ (p : List Entry). front ++ p) (step_along tree s line [] v e read) in
      let small : v < weight_sum (tree.parts s) = (step_value-is (tree.kind s) (weight_sum (tree.parts s)) v line read).1 in
      subst (λ (p : List Entry). IsToldAlong tree p from (picked s (tree.parts s) v) old new) (sym path) (record {
        leads = Leads-push tree from s front (entry_at tree s v) t.leads (record { going = e; kind = refl; bound = refl; value = small });
        told = told_now ∙ ap (λ (o : Option (List Entry)). and_then o (entry_at tree s v ∷ [])) t.told ∙ and_then-append old front (entry_at tree s v ∷ []);
      })

  pub none_begins : (whole : List Entry) → IsToldPart tree whole from from old old
  none_begins whole = record { path = []; along = record { leads = refl; told = and_then-nil old }; left = whole; whole_is = refl }

  -- what was told is the beginning of what all lines tell
  pub begins : (lines more longer : List (List ℕ)) (s : State) (now : Option (List Entry)) → Tells lines s now → longer ≡ lines ++ more → IsToldPart tree (path_along tree from longer) from s old now
  begins lines more longer s now t is = record {
    path = path_along tree from lines;
    along = t;
    left = path_along tree s more;
    whole_is = ap (path_along tree from) is ∙ along_more tree lines more from s t.leads;
  }

  -- at a leaf all is told
  pub all_told : (lines more longer : List (List ℕ)) (s : State) (now : Option (List Entry)) → Tells lines s now → longer ≡ lines ++ more → tree.done s ≡ true → now ≡ and_then old (path_along tree from longer)
  all_told lines more longer s now t is e =
      let path : path_along tree from longer ≡ path_along tree from lines =
      ap (path_along tree from) is ∙ along_more tree lines more from s t.leads ∙ ap (λ (p : List Entry). path_along tree from lines ++ p) (none_along tree s more e) ∙ append-nil (path_along tree from lines) in
      t.told ∙ ap (and_then old) (sym path)

  -- the first three lines tell nothing
  pub few_told : (log : List ℕ) (count : ℕ) → count ≤ 3 → IsToldAlong tree (path_in_first_lines tree from count log) from from old old
  few_told log count few =
      let short : length (take count (whole_lines log)) ≤ 3 = (let is = length-take count (whole_lines log) in omega (arith, is)) in
      none_told (drop 3 (take count (whole_lines log))) (ap (path_along tree from) (drop_all 3 (take count (whole_lines log)) short))

  module _ {Place : Type 0} {script : Script Place} {start place : Place} {log rest : List ℕ} {count : ℕ} (r : Reached script start place log rest count) (behind : 3 ≤ count) (s : State) (now : Option (List Entry)) (t : IsToldAlong tree (path_in_first_lines tree from count log) from s old now) where
    pub told_step : (v : ℕ) (after : List ℕ) (new : Option (List Entry)) → tree.done s ≡ false → step_first (tree.kind s) (weight_sum (tree.parts s)) rest ≡ Some (v, after) → new ≡ and_then now (entry_at tree s v ∷ [])
        → IsToldAlong tree (path_in_first_lines tree from (count + 1) log) from (picked s (tree.parts s) v) old new
    told_step v after new e some told_now =
        let f = first_step (tree.kind s) (weight_sum (tree.parts s)) v rest after some in
        step_told (drop 3 (take count (whole_lines log))) (drop 3 (take (count + 1) (whole_lines log))) f.line s v now new t (longer_by r behind f.line after f.cut) e f.read told_now

    -- a line was passed over
    pub told_over : (line after : List ℕ) → cut_at 10 rest ≡ Some (line, after) → path_along tree s (line ∷ []) ≡ [] → IsToldAlong tree (path_in_first_lines tree from (count + 1) log) from s old now
    told_over line after cut none =
        let lines : List (List ℕ) = drop 3 (take count (whole_lines log)) in
        let path : path_in_first_lines tree from (count + 1) log ≡ path_along tree from lines =
        ap (path_along tree from) (longer_by r behind line after cut) ∙ along_more tree lines (line ∷ []) from s t.leads ∙ ap (λ (p : List Entry). path_along tree from lines ++ p) none ∙ append-nil (path_along tree from lines) in
        subst (λ (p : List Entry). IsToldAlong tree p from s old now) (sym path) t

    pub told_part : IsToldPart tree (path_told tree from log) from s old now
    told_part =
        begins (drop 3 (take count (whole_lines log))) (whole_lines rest) (drop 3 (whole_lines log)) s now t (all_lines r behind)

    pub told_all : tree.done s ≡ true → now ≡ and_then old (path_told tree from log)
    told_all e = all_told (drop 3 (take count (whole_lines log))) (whole_lines rest) (drop 3 (whole_lines log)) s now t (all_lines r behind) e

-- a front of three lines is left behind at most so many of them
pub stops_early : {front text : List ℕ} {line : ℕ} (at : StopsAt front text line) → length (whole_lines front) ≡ 3 → length at.same ≤ 3
stops_early at three = (let size = ap length at.front_is ∙ length-append at.same (at.wanted ∷ at.others) in omega (arith, size, three))

-- ---- what a genuine log tells

module _ {State : Type 0} (tree : Tree State) (belongs : State → Type 0) (lawful : Lawful tree belongs) where
  -- the lines of a path to a leaf tell it, whatever follows
  pub steps_along : (path : List Entry) (rest : List (List ℕ)) (s leaf : State) → belongs s → Leads tree s path leaf → tree.done leaf ≡ true → path_along tree s (map step_line path ++ rest) ≡ path
  steps_along [] rest s leaf b leads done = none_along tree s rest (subst (λ t. tree.done t ≡ true) leads done)
  steps_along (l ∷ path) rest s leaf b leads done =
      let t : State = picked s (tree.parts s) l.2 in
      let on = picked_belongs tree belongs lawful s t l.2 b leads.0.going (value_within tree belongs lawful s l leads.0) refl in
      step_along tree s (step_line l) (map step_line path ++ rest) l.2 leads.0.going (value_read tree belongs lawful s l b leads.0)
      ∙ ap (λ (e : Entry). e ∷ path_along tree t (map step_line path ++ rest)) (entry_is tree belongs lawful s l leads.0)
      ∙ ap (λ (p : List Entry). l ∷ p) (steps_along path rest t leaf on leads.1 done)

  -- a genuine log tells its own path
  pub genuine_told : (from : State) → belongs from → (head log : List ℕ) → IsHead head → (leaf : State) (genuine : IsGenuine tree from head log leaf) → path_told tree from log ≡ genuine.path
  genuine_told from member head log h leaf genuine =
      ap (path_told tree from) genuine.text
      ∙ ap (λ (lines : List (List ℕ)). path_along tree from (drop 3 lines)) (lines_are tree belongs lawful from member head h genuine.path)
      ∙ steps_along genuine.path (end_line (0 + length genuine.path) ∷ []) from leaf member genuine.full.leads genuine.full.done

  pub unambiguous : (from : State) → belongs from → (head log : List ℕ) → IsHead head → IsUnambiguous tree from head log
  unambiguous from member head log h = record {
    one_path = λ a b first second. (both tree belongs lawful from member head log h a b first second).0;
    one_leaf = λ a b first second. (both tree belongs lawful from member head log h a b first second).1;
    told = λ leaf genuine. genuine_told from member head log h leaf genuine;
    steps = λ leaf genuine. ap (λ text. length (whole_lines text)) genuine.text ∙ log_count tree belongs lawful from member head h genuine.path;
  }
