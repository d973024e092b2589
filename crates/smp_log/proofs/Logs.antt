-- The script of logs accepts the lines of genuine logs, and no others.
use Rattle.std.proofs.Common.{◌≡◌, ℕ, suc, ◌+◌, ◌<◌, Bool, true, false, cond, List, [], ◌∷◌, ◌++◌, length, map, Option, Some, None, option_map, refl, sym, ap, ◌∙◌, subst, arith, inl, inr}
use Rattle.std.proofs.{lemmas.Bool.{cases_Bool}, lemmas.Slice.Eq.{bytes_eq-Decides}}
use Rattle.smp_split.specs.{Trees.{Tree, Lawful, weight_sum, picked}, Paths.{Entry, Leads, entry_at}, Laws.Steps.{picked_belongs}}
use Rattle.smp_split.proofs.Paths.{below}
use Rattle.smp_log.specs.Reading.{step_line, Script, LogPlace, heading, stepping, closed, before, step_value, next_step, log_script}
use Rattle.std.specs.Str.{bytes_eq}
use Rattle.smp_log.proofs.{Options.{mapped, some_cond}, StepLines.{step_value-is, step_value-line}, Scripts.{Accepts, Ends}}
use Rattle.smp_log.proofs.HeadLines.{AreHeads, HasHead, behind_head, has_head}

-- the lines of a log behind its head, where so many steps stand before them
abbrev pub lines_after : (ℕ → List ℕ) → ℕ → List Entry → List (List ℕ)
lines_after last n path = map step_line path ++ last (n + length path) ∷ []

pub one_longer : (last : ℕ → List ℕ) (n : ℕ) (l : Entry) (path : List Entry) → lines_after last n (l ∷ path) ≡ step_line l ∷ lines_after last (n + 1) path
one_longer last n l path = let count : n + suc (length path) ≡ n + 1 + length path = omega arith in ap (λ k. step_line l ∷ (map step_line path ++ last k ∷ [])) count

module _ {State : Type 0} (tree : Tree State) (belongs : State → Type 0) (lawful : Lawful tree belongs) (from : State) (member : belongs from) (last : ℕ → List ℕ) where
  abbrev pub script : Script (LogPlace State)
  script = log_script tree last from

  -- ---- one step

  going_step : (n : ℕ) (s : State) (line : List ℕ) → tree.done s ≡ false → next_step tree last n s line ≡ option_map (λ v. stepping (n + 1) (picked s (tree.parts s) v)) (step_value (tree.kind s) (weight_sum (tree.parts s)) line)
  going_step n s line e = ap (λ (b : Bool). cond b (cond (bytes_eq line (last n)) (Some (closed s)) None) (option_map (λ v. stepping (n + 1) (picked s (tree.parts s) v)) (step_value (tree.kind s) (weight_sum (tree.parts s)) line))) e

  ended_step : (n : ℕ) (s : State) (line : List ℕ) → tree.done s ≡ true → next_step tree last n s line ≡ cond (bytes_eq line (last n)) (Some (closed s)) None
  ended_step n s line e = ap (λ (b : Bool). cond b (cond (bytes_eq line (last n)) (Some (closed s)) None) (option_map (λ v. stepping (n + 1) (picked s (tree.parts s) v)) (step_value (tree.kind s) (weight_sum (tree.parts s)) line))) e

  -- a line that leads on from a state: the last one, or that of a step
  data Goes (n : ℕ) (s : State) (line : List ℕ) (next : LogPlace State) : Type 0 where
    ends : tree.done s ≡ true → line ≡ last n → next ≡ closed s → Goes n s line next
    steps : (v : ℕ) → tree.done s ≡ false → v < weight_sum (tree.parts s) → line ≡ step_line (entry_at tree s v) → next ≡ stepping (n + 1) (picked s (tree.parts s) v) → Goes n s line next

  goes : (n : ℕ) (s : State) (line : List ℕ) (next : LogPlace State) → next_step tree last n s line ≡ Some next → Goes n s line next
  goes n s line next h = elim (cases_Bool (tree.done s)) [
    | inl e ↦ (let test = some_cond (bytes_eq line (last n)) (closed s) next (sym (ended_step n s line e) ∙ h) in ends e ((bytes_eq-Decides line (last n)).0 test.0) (sym test.1))
    | inr e ↦
        (let step = mapped (λ v. stepping (n + 1) (picked s (tree.parts s) v)) (step_value (tree.kind s) (weight_sum (tree.parts s)) line) next (sym (going_step n s line e) ∙ h) in
        let is = step_value-is (tree.kind s) (weight_sum (tree.parts s)) step.value line step.is in
        steps step.value e is.1 is.0 (sym step.gives))
  ]

  end_follows : (n : ℕ) (s : State) → tree.done s ≡ true → next_step tree last n s (last n) ≡ Some (closed s)
  end_follows n s e = ended_step n s (last n) e ∙ ap (λ (b : Bool). cond b (Some (closed s)) None) ((bytes_eq-Decides (last n) (last n)).1 refl)

  step_follows : (n : ℕ) (s : State) (v : ℕ) → belongs s → tree.done s ≡ false → v < weight_sum (tree.parts s) → next_step tree last n s (step_line (entry_at tree s v)) ≡ Some (stepping (n + 1) (picked s (tree.parts s) v))
  step_follows n s v b e small =
      going_step n s (step_line (entry_at tree s v)) e
      ∙ ap (option_map (λ v. stepping (n + 1) (picked s (tree.parts s) v))) (step_value-line (tree.kind s) (weight_sum (tree.parts s)) v small (lawful.split s b e).narrow)

  -- ---- paths and lines

  pub path_accepted : (path : List Entry) (n : ℕ) (s leaf : State) → belongs s → Leads tree s path leaf → tree.done leaf ≡ true → Accepts script (stepping n s) (lines_after last n path) (closed leaf)
  path_accepted [] n s leaf b leads done =
      let e : tree.done s ≡ true = subst (λ t. tree.done t ≡ true) leads done in
      let none : n + 0 ≡ n = omega arith in
      (closed s, ap (λ k. next_step tree last n s (last k)) none ∙ end_follows n s e, (ap closed leads, refl))
  path_accepted (l ∷ path) n s leaf b leads done =
      let within : l.2 < weight_sum (tree.parts s) = rw leads.0.bound at leads.0.value in
      let next : State = picked s (tree.parts s) l.2 in
      let b' : belongs next = picked_belongs tree belongs lawful s next l.2 b leads.0.going within refl in
      let is_line : ◌≡◌ {A = Entry} (entry_at tree s l.2) l = (λ i. ((sym leads.0.kind) i, (sym leads.0.bound) i, l.2)) in
      let follows_it : next_step tree last n s (step_line l) ≡ Some (stepping (n + 1) next) = ap (λ (m : Entry). next_step tree last n s (step_line m)) (sym is_line) ∙ step_follows n s l.2 b leads.0.going within in
      subst (λ ls. Accepts script (stepping n s) ls (closed leaf)) (sym (one_longer last n l path)) (stepping (n + 1) next, follows_it, path_accepted path (n + 1) next leaf b' leads.1 done)

  -- a path to a leaf, whose lines these are
  pub record HasPath (n : ℕ) (s : State) (lines : List (List ℕ)) (to : LogPlace State) : Type 0 where
    pub leaf : State
    pub path : List Entry
    pub leads : Leads tree s path leaf
    pub done : tree.done leaf ≡ true
    pub lines_are : lines ≡ lines_after last n path
    pub end : to ≡ closed leaf

  closed_end : (s : State) (lines : List (List ℕ)) (to : LogPlace State) → Accepts script (closed s) lines to → (lines ≡ []) × (to ≡ closed s)
  closed_end s [] to h = (refl, h.0)
  closed_end s (line ∷ lines) to h = absurd (let none : ◌≡◌ {A = Option (LogPlace State)} None (Some h.0) = h.1 in cc)

  pub accepted_path : (lines : List (List ℕ)) (n : ℕ) (s : State) (to : LogPlace State) → belongs s → Accepts script (stepping n s) lines to → HasPath n s lines to
  accepted_path [] n s to b h = absurd (let no : ◌≡◌ {A = Bool} false true = h.1 in cc)
  accepted_path (line ∷ lines) n s to b h = elim (goes n s line h.0 h.1) [
    | ends e is next ↦
        (let rest = closed_end s lines to (subst (λ p. Accepts script p lines to) next h.2) in
        let none : n + 0 ≡ n = omega arith in
        record {
          leaf = s;
          path = [];
          leads = refl;
          done = e;
          lines_are = ap (λ l. l ∷ lines) is ∙ ap (λ ls. last n ∷ ls) rest.0 ∙ ap (λ k. last k ∷ []) (sym none);
          end = rest.1;
        })
    | steps v e small is next ↦
        (let t : State = picked s (tree.parts s) v in
        let b' : belongs t = picked_belongs tree belongs lawful s t v b e small refl in
        let on = accepted_path lines (n + 1) t to b' (subst (λ p. Accepts script p lines to) next h.2) in
        record {
          leaf = on.leaf;
          path = entry_at tree s v ∷ on.path;
          leads = (record { going = e; kind = refl; bound = refl; value = small }, on.leads);
          done = on.done;
          lines_are = ap (λ l. l ∷ lines) is ∙ ap (λ ls. step_line (entry_at tree s v) ∷ ls) on.lines_are ∙ sym (one_longer last n (entry_at tree s v) on.path);
          end = on.end;
        })
  ]

  -- ---- the lines of a head

  are_heads : AreHeads script (before from)
  are_heads = record { takes = λ x hs line. refl; goes_on = λ x hs. refl }

  pub head_accepted : (hs lines : List (List ℕ)) (to : LogPlace State) → Accepts script (stepping 0 from) lines to → Accepts script (before from hs) (hs ++ lines) to
  head_accepted = behind_head script (before from) are_heads

  pub accepted_head : (hs lines : List (List ℕ)) (to : LogPlace State) → Accepts script (before from hs) lines to → HasHead script (stepping 0 from) hs lines to
  accepted_head = has_head script (before from) are_heads

  -- ---- from each place some lines lead to an end

  abbrev pub Good : LogPlace State → Type 0
  Good (heading wanted lines) = Unit {0}
  Good (stepping n s) = belongs s
  Good (closed s) = Unit {0}

  pub good_before : (hs : List (List ℕ)) → Good (before from hs)
  good_before [] = member
  good_before (x ∷ hs) = tt

  good_next : (n : ℕ) (s : State) (line : List ℕ) (next : LogPlace State) → belongs s → next_step tree last n s line ≡ Some next → Good next
  good_next n s line next b h = elim (goes n s line next h) [
    | ends e is same ↦ subst Good (sym same) tt
    | steps v e small is same ↦ subst Good (sym same) (picked_belongs tree belongs lawful s (picked s (tree.parts s) v) v b e small refl)
  ]

  pub keeps : (place next : LogPlace State) (line : List ℕ) → Good place → script.follow place line ≡ Some next → Good next
  keeps (heading x hs) next line good h = subst Good ((some_cond (bytes_eq line x) (before from hs) next h).1) (good_before hs)
  keeps (stepping n s) next line good h = good_next n s line next good h
  keeps (closed s) next line good h = absurd (let none : ◌≡◌ {A = Option (LogPlace State)} None (Some next) = h in cc)

  stepping_ends : (n : ℕ) (s : State) → belongs s → Ends script (stepping n s)
  stepping_ends n s b =
      let on = below tree belongs lawful s b in
      record { lines = lines_after last n on.path; to = closed on.leaf; accepted = path_accepted on.path n s on.leaf b on.leads on.done }

  pub each_ends : (place : LogPlace State) → Good place → Ends script place
  each_ends (heading x hs) good =
      let end = stepping_ends 0 from member in
      record { lines = x ∷ hs ++ end.lines; to = end.to; accepted = head_accepted (x ∷ hs) end.lines end.to end.accepted }
  each_ends (stepping n s) good = stepping_ends n s good
  each_ends (closed s) good = record { lines = []; to = closed s; accepted = (refl, refl) }
