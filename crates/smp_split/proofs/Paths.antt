-- Paths join and split, and each state has a leaf below it.
use Rattle.std.proofs.Common.{◌≡◌, ℕ, zero, suc, ◌<◌, ◌≤◌, false, List, [], ◌∷◌, ◌++◌, arith, refl, subst, inl, inr}
use Rattle.std.proofs.lemmas.Bool.{cases_Bool}
use Rattle.smp_split.specs.Trees.{Tree, EachPart, Lawful, weight_sum, picked}
use Rattle.smp_split.specs.Paths.{Entry, entry_at, IsStep, Leads, AtEachLeaf, LeafBelow}
use Rattle.smp_split.specs.Laws.Steps.{picked_falls, picked_belongs, leads_keep, leads_belong}

module _ {State : Type 0} (tree : Tree State) where
  -- ---- joined and split

  pub leads_join : (p q : List Entry) (from mid to : State) → Leads tree from p mid → Leads tree mid q to → Leads tree from (p ++ q) to
  leads_join [] q from mid to first second = subst (λ s. Leads tree s q to) first second
  leads_join (entry ∷ p) q from mid to first second = (first.0, leads_join p q (picked from (tree.parts from) entry.2) mid to first.1 second)

  pub record Split (p q : List Entry) (from to : State) : Type 0 where
    pub mid : State
    pub first : Leads tree from p mid
    pub second : Leads tree mid q to

  pub leads_split : (p q : List Entry) (from to : State) → Leads tree from (p ++ q) to → Split p q from to
  leads_split [] q from to leads = record { mid = from; first = refl; second = leads }
  leads_split (entry ∷ p) q from to leads =
      let rest = leads_split p q (picked from (tree.parts from) entry.2) to leads.1 in
      record { mid = rest.mid; first = (leads.0, rest.first); second = rest.second }

  -- from a state on the way
  pub at_each_leaf_after : (P : List Entry → State → Type 0) (p : List Entry) (from mid : State) → AtEachLeaf tree from P → Leads tree from p mid → AtEachLeaf tree mid (λ q end. P (p ++ q) end)
  at_each_leaf_after P p from mid all first q end second done = all (p ++ q) end (leads_join p q from mid end first second) done

  module _ (belongs : State → Type 0) (lawful : Lawful tree belongs) where
    -- what each part keeps holds at each leaf
    pub at_each_leaf_kept : (P : State → Type 0) → ((s : State) → belongs s → tree.done s ≡ false → P s → EachPart (λ p. P p.state) (tree.parts s)) → (s : State) → belongs s → P s → AtEachLeaf tree s (λ path end. P end × belongs end)
    at_each_leaf_kept P keep s b p path end leads done = (leads_keep tree belongs lawful P keep path s end leads b p, leads_belong tree belongs lawful path s end leads b)

    -- ---- a leaf below each state

    below_within : (steps : ℕ) (s : State) → belongs s → tree.rank s ≤ steps → LeafBelow tree s
    below_within steps s b r =
        elim (cases_Bool (tree.done s)) [
          | inl e ↦ record { path = []; leaf = s; leads = refl; done = e }
          | inr e ↦ by_step steps s b r e
        ]
      where
        by_step : (steps : ℕ) (s : State) → belongs s → tree.rank s ≤ steps → tree.done s ≡ false → LeafBelow tree s
        by_step zero s b r e =
            let within : 0 < weight_sum (tree.parts s) = (lawful.split s b e).some in
            let falls : tree.rank (picked s (tree.parts s) 0) < tree.rank s = picked_falls tree belongs lawful s (picked s (tree.parts s) 0) 0 b e within refl in
            absurd (omega arith)
        by_step (suc steps) s b r e =
            let within : 0 < weight_sum (tree.parts s) = (lawful.split s b e).some in
            let next : State = picked s (tree.parts s) 0 in
            let falls : tree.rank next < tree.rank s = picked_falls tree belongs lawful s next 0 b e within refl in
            let member : belongs next = picked_belongs tree belongs lawful s next 0 b e within refl in
            let entry : Entry = entry_at tree s 0 in
            let step : IsStep tree s entry = record { going = e; kind = refl; bound = refl; value = within } in
            elim (cases_Bool (tree.done next)) [
              | inl d ↦ record { path = entry ∷ []; leaf = next; leads = (step, refl); done = d }
              | inr d ↦ (let rest = by_step steps next member (omega arith) d in record { path = entry ∷ rest.path; leaf = rest.leaf; leads = (step, rest.leads); done = rest.done })
            ]

    pub below : (s : State) → belongs s → LeafBelow tree s
    below s b = below_within (tree.rank s) s b (omega arith)
