-- Paths that go on by one step, and walks that do.
use Rattle.std.proofs.Common.{◌≡◌, ℕ, ◌+◌, ◌-◌, ◌<◌, ◌≤◌, true, false, nat_lt, List, [], ◌∷◌, ◌++◌}
use Rattle.std.proofs.Common.{Option, Some, None, Ok, arith, refl, sym, ap, ◌∙◌, subst, append_assoc, inl, inr}
use Rattle.std.proofs.lemmas.Bool.{cases_Bool, ltb-true, ltb-false, lt-ltb}
use Rattle.std.proofs.lemmas.List.{append-nil}
use Rattle.smp_tape.specs.Sources.{Source}
use Rattle.smp_split.specs.Trees.{Part, Tree, EachPart, IsPart, Lawful, weight_sum, picked}
use Rattle.smp_split.specs.Paths.{Entry, IsReached, IsStep, Leads, entry_at}
use Rattle.smp_split.specs.Runs.{Gives, Position, and_then}

module _ {State : Type 0} where
  -- the part that is picked is one of the parts
  pub picked_is_part : (P : Part State → Type 0) (Q : State → Type 0) → ((p : Part State) → P p → Q p.state)
      → (default : State) (ps : List (Part State)) (draw : ℕ) → EachPart P ps → draw < weight_sum ps
      → Q (picked default ps draw)
  picked_is_part P Q f default [] draw each h = absurd (omega arith)
  picked_is_part P Q f default (p ∷ ps) draw each h =
      elim (cases_Bool (nat_lt draw p.weight)) [
        | inl e ↦ rw e (f p each.0)
        | inr e ↦ rw e (picked_is_part P Q f default ps (draw - p.weight) each.1 (omega (arith, ltb-false draw p.weight e)))
      ]

  pub Leads-push : (tree : Tree State) (from mid : State) (path : List Entry) (entry : Entry)
      → Leads tree from path mid → IsStep tree mid entry
      → Leads tree from (path ++ entry ∷ []) (picked mid (tree.parts mid) entry.2)
  Leads-push tree from mid [] entry h step =
      let Q : State → Type 0 = λ s. IsStep tree s entry × (picked mid (tree.parts mid) entry.2 ≡ picked s (tree.parts s) entry.2) in
      subst Q h (step, refl)
  Leads-push tree from mid (l ∷ path) entry h step = (h.0, Leads-push tree (picked from (tree.parts from) l.2) mid path entry h.1 step)

pub Gives-push : {Rest : Type 0} (source : Source Rest) (path : List Entry) (entry : Entry) (rest mid : Rest)
    → Gives source rest path mid → (source.next mid entry.1).answer ≡ Ok entry.2
    → Gives source rest (path ++ entry ∷ []) (source.next mid entry.1).rest
Gives-push source [] entry rest mid gives next =
    let Q : _ → Type 0 = λ r. ((source.next r entry.1).answer ≡ Ok entry.2)
    × ((source.next mid entry.1).rest ≡ (source.next r entry.1).rest) in
    subst Q gives (next, refl)
Gives-push source (first ∷ path) entry rest mid gives next =
    (gives.0, Gives-push source path entry (source.next rest first.1).rest mid gives.1 next)

pub and_then-nil : (told : Option (List Entry)) → told ≡ and_then told []
and_then-nil None = refl
and_then-nil (Some entries) = ap Some (sym (append-nil entries))

pub and_then-append : (told : Option (List Entry)) (p q : List Entry) → and_then (and_then told p) q ≡ and_then told (p ++ q)
and_then-append None p q = refl
and_then-append (Some entries) p q = ap Some (append_assoc entries p q)

-- a walk that is under way
pub record Walking {State Rest : Type 0} (source : Source Rest) (tree : Tree State) (belongs : State → Type 0)
    (old now : Position State Rest) : Type 0 where
  pub path : List Entry
  pub leads : Leads tree old.state path now.state
  pub member : belongs now.state
  pub gives : Gives source old.rest path now.rest
  pub told : now.told ≡ and_then old.told path

module _ {State : Type 0} (tree : Tree State) (belongs : State → Type 0) (lawful : Lawful tree belongs) where
  -- the state that a draw leads to
  pub picked_falls : (s to : State) (draw : ℕ) → belongs s → tree.done s ≡ false → draw < weight_sum (tree.parts s)
      → to ≡ picked s (tree.parts s) draw → tree.rank to < tree.rank s
  picked_falls s to draw b e h is =
      let Q : State → Type 0 = λ t. tree.rank t < tree.rank s in
      subst Q (sym is) (picked_is_part (IsPart tree belongs s) Q (λ p q. q.falls) s (tree.parts s) draw (lawful.split s b e).each h)

  pub picked_belongs : (s to : State) (draw : ℕ) → belongs s → tree.done s ≡ false
      → draw < weight_sum (tree.parts s) → to ≡ picked s (tree.parts s) draw → belongs to
  picked_belongs s to draw b e h is =
      subst belongs (sym is) (picked_is_part (IsPart tree belongs s) belongs (λ p q. q.member) s (tree.parts s) draw
      (lawful.split s b e).each h)

  pub value_within : (s : State) (entry : Entry) → IsStep tree s entry → entry.2 < weight_sum (tree.parts s)
  value_within s entry step = let Q : ℕ → Type 0 = λ n. entry.2 < n in subst Q step.bound step.value

  pub Walking-step : {Rest : Type 0} (source : Source Rest) (old now new : Position State Rest) (entry : Entry)
      → Walking source tree belongs old now → IsStep tree now.state entry
      → (source.next now.rest entry.1).answer ≡ Ok entry.2 → new.rest ≡ (source.next now.rest entry.1).rest
      → new.told ≡ and_then now.told (entry ∷ []) → new.state ≡ picked now.state (tree.parts now.state) entry.2
      → Walking source tree belongs old new
  Walking-step {Rest} source old now new entry w step answer left told is = record {
    path = w.path ++ entry ∷ [];
    leads = let Q : State → Type 0 = λ t. Leads tree old.state (w.path ++ entry ∷ []) t in
        subst Q (sym is) (Leads-push tree old.state now.state w.path entry w.leads step);
    member = picked_belongs now.state new.state entry.2 w.member step.going (value_within now.state entry step) is;
    gives = let Q : Rest → Type 0 = λ r. Gives source old.rest (w.path ++ entry ∷ []) r in
        subst Q (sym left) (Gives-push source w.path entry old.rest now.rest w.gives answer);
    told = told ∙ ap (λ t. and_then t (entry ∷ [])) w.told ∙ and_then-append old.told w.path (entry ∷ []);
  }

  -- what each part keeps is kept along a path
  pub leads_keep : (P : State → Type 0) → ((s : State) → belongs s → tree.done s ≡ false → P s
      → EachPart (λ p. P p.state) (tree.parts s)) → (path : List Entry) (from to : State) → Leads tree from path to
      → belongs from → P from → P to
  leads_keep P keep [] from to leads b p = subst P (sym leads) p
  leads_keep P keep (entry ∷ path) from to leads b p =
      let within : entry.2 < weight_sum (tree.parts from) = value_within from entry leads.0 in
      leads_keep P keep path (picked from (tree.parts from) entry.2) to leads.1
      (picked_belongs from (picked from (tree.parts from) entry.2) entry.2 b leads.0.going within refl)
      (picked_is_part (λ q. P q.state) P (λ q h. h) from (tree.parts from) entry.2 (keep from b leads.0.going p) within)

  pub leads_belong : (path : List Entry) (from to : State) → Leads tree from path to → belongs from → belongs to
  leads_belong [] from to leads b = subst belongs (sym leads) b
  leads_belong (entry ∷ path) from to leads b =
      let within : entry.2 < weight_sum (tree.parts from) = value_within from entry leads.0 in
      leads_belong path (picked from (tree.parts from) entry.2) to leads.1
      (picked_belongs from (picked from (tree.parts from) entry.2) entry.2 b leads.0.going within refl)

  -- where each part of a state can be reached
  reached_parts : (s default : State) (Reached : State → Type 0) (parts : List (Part State))
      → EachPart (IsPart tree belongs s) parts
      → ((draw : ℕ) → draw < weight_sum parts → Reached (picked default parts draw))
      → EachPart (IsPart tree Reached s) parts
  reached_parts s default Reached [] each reach = tt
  reached_parts s default Reached (p ∷ ps) each reach =
      let heavy = each.0.heavy in (
        record {
          heavy = heavy;
          falls = each.0.falls;
          member = subst Reached (picked_first default p ps heavy) (reach 0 (omega (arith, heavy)));
        },
        reached_parts s default Reached ps each.1
            (λ draw h. subst Reached (picked_later default p ps draw) (reach (p.weight + draw) (omega (arith, h)))),
      )
    where
      picked_first : (default : State) (p : Part State) (ps : List (Part State)) → 1 ≤ p.weight
          → picked default (p ∷ ps) 0 ≡ p.state
      picked_first default p ps heavy = let first : nat_lt 0 p.weight ≡ true = lt-ltb 0 p.weight (omega (arith, heavy)) in rw first refl

      picked_later : (default : State) (p : Part State) (ps : List (Part State)) (draw : ℕ)
          → picked default (p ∷ ps) (p.weight + draw) ≡ picked default ps draw
      picked_later default p ps draw =
          elim (cases_Bool (nat_lt (p.weight + draw) p.weight)) [
            | inl e ↦ absurd (omega (arith, ltb-true (p.weight + draw) p.weight e))
            | inr e ↦ (let rest : p.weight + draw - p.weight ≡ draw = omega arith in rw (e, rest) refl)
          ]

  -- a tree that splits lawfully does so in the states that are reached from one of them
  pub reached_lawful : (start : State) → belongs start → Lawful tree (IsReached tree start)
  reached_lawful start b = record {
    split = λ s reached going.
        (let split = lawful.split s (leads_belong reached.path start s reached.leads b) going in
        record {
          some = split.some;
          narrow = split.narrow;
          each = reached_parts s s (IsReached tree start) (tree.parts s) split.each (λ draw h. next start s reached going draw h);
          even = split.even;
        });
    end = λ s reached done. lawful.end s (leads_belong reached.path start s reached.leads b) done;
  }
    where
      next : (start s : State) → IsReached tree start s → tree.done s ≡ false → (draw : ℕ)
          → draw < weight_sum (tree.parts s) → IsReached tree start (picked s (tree.parts s) draw)
      next start s reached going draw h = record {
        path = reached.path ++ entry_at tree s draw ∷ [];
        leads = Leads-push tree start s reached.path (entry_at tree s draw) reached.leads
            (record { going = going; kind = refl; bound = refl; value = h });
      }
