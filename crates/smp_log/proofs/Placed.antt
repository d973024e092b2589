-- Steps with their sections: those of a path, kept step by step.
use Rattle.std.proofs.Common.{◌≡◌, ℕ, ◌<◌, ◌≤◌, List, [], ◌∷◌, ◌++◌, refl, sym, ap, ◌∙◌}
use Rattle.smp_split.specs.{Trees.{Tree, Lawful, weight_sum, picked}, Paths.{Entry, IsStep, Leads}, Sectioning.{Sectioning, IsSectioned}}
use Rattle.smp_split.specs.Laws.Steps.{Leads-push, picked_belongs, value_within}
use Rattle.smp_log.specs.SectionLogs.{ArePlaced, RiseFrom, placed, steps_of}
use Rattle.smp_log.proofs.SectionScripts.{later_section}

module _ {State : Type 0} (tree : Tree State) (sections : Sectioning State) where
  placed_push : (path : List Entry) (from mid : State) (entry : Entry) → Leads tree from path mid → placed tree sections from (path ++ entry ∷ []) ≡ placed tree sections from path ++ (sections.of mid, entry) ∷ []
  placed_push [] from mid entry leads = ap (λ s. (sections.of s, entry) ∷ []) (sym leads)
  placed_push (l ∷ path) from mid entry leads = ap (λ steps. (sections.of from, l) ∷ steps) (placed_push path (picked from (tree.parts from) l.2) mid entry leads.1)

  pub placed_step : (from mid : State) (entry : Entry) (old new : List (ℕ × Entry)) → new ≡ old ++ (sections.of mid, entry) ∷ [] → IsStep tree mid entry → ArePlaced tree sections from mid old → ArePlaced tree sections from (picked mid (tree.parts mid) entry.2) new
  placed_step from mid entry old new is step so = record {
    path = so.path ++ entry ∷ [];
    leads = Leads-push tree from mid so.path entry so.leads step;
    steps_are = is ∙ ap (λ steps. steps ++ (sections.of mid, entry) ∷ []) so.steps_are ∙ sym (placed_push so.path from mid entry so.leads);
  }

  pub none_placed : (from : State) (steps : List (ℕ × Entry)) → steps ≡ [] → ArePlaced tree sections from from steps
  none_placed from steps is = record { path = []; leads = refl; steps_are = is }

  steps_placed : (path : List Entry) (from : State) → steps_of (placed tree sections from path) ≡ path
  steps_placed [] from = refl
  steps_placed (l ∷ path) from = ap (λ p. l ∷ p) (steps_placed path (picked from (tree.parts from) l.2))

  -- where they tell a path they are its own
  pub placed_as : (from to : State) (steps : List (ℕ × Entry)) (path : List Entry) → ArePlaced tree sections from to steps → steps_of steps ≡ path → steps ≡ placed tree sections from path
  placed_as from to steps path so told =
      let own : so.path ≡ path = sym (steps_placed so.path from) ∙ ap steps_of (sym so.steps_are) ∙ told in
      so.steps_are ∙ ap (placed tree sections from) own

-- their sections rise
module _ {State : Type 0} (tree : Tree State) (belongs : State → Type 0) (lawful : Lawful tree belongs) (sections : Sectioning State) (sectioned : IsSectioned tree belongs sections) where
  pub placed_rise : (path : List Entry) (s to : State) (low : ℕ) → belongs s → low ≤ sections.of s → Leads tree s path to → RiseFrom sections.count low (placed tree sections s path)
  placed_rise [] s to low b le leads = tt
  placed_rise (l ∷ path) s to low b le leads =
      let within : l.2 < weight_sum (tree.parts s) = value_within tree belongs lawful s l leads.0 in
      let next : State = picked s (tree.parts s) l.2 in
      let b' : belongs next = picked_belongs tree belongs lawful s next l.2 b leads.0.going within refl in
      (le, sectioned.going s b leads.0.going, placed_rise path next to (sections.of s) b' (later_section tree belongs lawful sections sectioned s b s l.2 b leads.0.going within) leads.1)
