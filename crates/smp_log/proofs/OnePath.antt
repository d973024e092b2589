-- A genuine log is the log of one path, which leads to one leaf.
use Rattle.std.proofs.Common.{◌≡◌, ℕ, ◌+◌, true, false, List, [], ◌∷◌, ◌++◌, Option, Some, refl, sym, ap, ◌∙◌, subst}
use Rattle.std.proofs.lemmas.List.{append_cancel_left}
use Rattle.smp_split.specs.{Trees.{Tree, Lawful, weight_sum, picked}, Paths.{Entry, IsStep, Leads, entry_at}}
use Rattle.smp_split.specs.Laws.Steps.{picked_belongs, value_within}
use Rattle.smp_log.specs.{Lines.{whole_lines}, Heads.{IsHead}, Genuine.{IsGenuine}, Reading.{step_line, step_value, end_line}}
use Rattle.smp_log.proofs.{StepLines.{step_value-line}, Heads.{head_lines}, Logs.{lines_after, one_longer}, StepCounts.{lines_are}}

module _ {State : Type 0} (tree : Tree State) (belongs : State → Type 0) (lawful : Lawful tree belongs) where
  -- the entry of a step is the state's, and its line is read with its value
  pub entry_is : (s : State) (entry : Entry) → IsStep tree s entry → ◌≡◌ {A = Entry} (entry_at tree s entry.2) entry
  entry_is s entry step = (λ i. ((sym step.kind) i, (sym step.bound) i, entry.2))

  pub value_read : (s : State) (entry : Entry) → belongs s → IsStep tree s entry → step_value (tree.kind s) (weight_sum (tree.parts s)) (step_line entry) ≡ Some entry.2
  value_read s entry member step =
      ap (λ (x : Entry). step_value (tree.kind s) (weight_sum (tree.parts s)) (step_line x)) (sym (entry_is s entry step))
      ∙ step_value-line (tree.kind s) (weight_sum (tree.parts s)) entry.2 (value_within tree belongs lawful s entry step) (lawful.split s member step.going).narrow

  same_paths : (p q : List Entry) (n : ℕ) (s a b : State) → belongs s → Leads tree s p a → tree.done a ≡ true → Leads tree s q b → tree.done b ≡ true → lines_after end_line n p ≡ lines_after end_line n q → (p ≡ q) × (a ≡ b)
  same_paths [] [] n s a b member lp da lq db h = (refl, lp ∙ sym lq)
  same_paths [] (k ∷ q) n s a b member lp da lq db h = absurd (let done : tree.done s ≡ true = subst (λ t. tree.done t ≡ true) lp da in let no : true ≡ false = sym done ∙ lq.0.going in cc)
  same_paths (l ∷ p) [] n s a b member lp da lq db h = absurd (let done : tree.done s ≡ true = subst (λ t. tree.done t ≡ true) lq db in let no : true ≡ false = sym done ∙ lp.0.going in cc)
  same_paths (l ∷ p) (k ∷ q) n s a b member lp da lq db h =
      let cells : ◌≡◌ {A = List (List ℕ)} (step_line l ∷ lines_after end_line (n + 1) p) (step_line k ∷ lines_after end_line (n + 1) q) = sym (one_longer end_line n l p) ∙ h ∙ one_longer end_line n k q in
      let first : step_line l ≡ step_line k = cc in
      let others : lines_after end_line (n + 1) p ≡ lines_after end_line (n + 1) q = cc in
      let both : ◌≡◌ {A = Option ℕ} (Some l.2) (Some k.2) = sym (value_read s l member lp.0) ∙ ap (step_value (tree.kind s) (weight_sum (tree.parts s))) first ∙ value_read s k member lq.0 in
      let value : l.2 ≡ k.2 = cc in
      let same : ◌≡◌ {A = Entry} l k = sym (entry_is s l lp.0) ∙ ap (entry_at tree s) value ∙ entry_is s k lq.0 in
      let t : State = picked s (tree.parts s) l.2 in
      let on : belongs t = picked_belongs tree belongs lawful s t l.2 member lp.0.going (value_within tree belongs lawful s l lp.0) refl in
      let rest = same_paths p q (n + 1) t a b on lp.1 da (subst (λ v. Leads tree (picked s (tree.parts s) v) q b) (sym value) lq.1) db others in
      ((λ i. same i ∷ rest.0 i), rest.1)

  module _ (from : State) (member : belongs from) (head log : List ℕ) (h : IsHead head) (a b : State) (first : IsGenuine tree from head log a) (second : IsGenuine tree from head log b) where
    pub both : (first.path ≡ second.path) × (a ≡ b)
    both =
        let lines : head_lines h ++ lines_after end_line 0 first.path ≡ head_lines h ++ lines_after end_line 0 second.path =
        sym (lines_are tree belongs lawful from member head h first.path) ∙ ap whole_lines (sym first.text ∙ second.text) ∙ lines_are tree belongs lawful from member head h second.path in
        same_paths first.path second.path 0 from a b member first.full.leads first.full.done second.full.leads second.full.done (append_cancel_left (head_lines h) (lines_after end_line 0 first.path) (lines_after end_line 0 second.path) lines)
