-- Runs over any source: a run comes to a leaf or a stop exactly where a path leads there and the source gives it.
use Rattle.std.proofs.Common.{◌≡◌, ℕ, zero, suc, ◌<◌, ◌≤◌, true, false, List, [], ◌∷◌, ◌++◌, Result, Ok, Err, arith, refl, sym, ap, subst, ◌∙◌, append_assoc, inl, inr}
use Rattle.std.proofs.{lemmas.Bool.{cases_Bool}, lemmas.List.{append-nil}}
use Rattle.smp_tape.specs.{declared.draws.DrawFault.{DrawFault}, Sources.{Drawn, Source}}
use Rattle.smp_split.specs.{Trees.{Tree, Lawful, weight_sum, picked}, Paths.{Entry, entry_at, IsStep, Leads}}
use Rattle.smp_split.specs.Runs.{Outcome, leaf, stopped, by_answer, run_within, run, Gives, IsLeaf, IsStop, IsOutcome}
use Rattle.smp_split.specs.Laws.Steps.{picked_falls, picked_belongs, value_within}

module _ {State Rest : Type 0} (source : Source Rest) (tree : Tree State) (belongs : State → Type 0) (lawful : Lawful tree belongs) where
  -- what a run has come to, after what went before
  abbrev After : State → Rest → List Entry → Outcome State Rest → Type 0
  After from rest front (leaf to path left) = (walked : List Entry) × ((path ≡ front ++ walked) × IsLeaf source tree from rest to walked left)
  After from rest front (stopped to path fault left) = (walked : List Entry) × ((path ≡ front ++ walked) × IsStop source tree from rest to walked fault left)

  rank_some : (s : State) → belongs s → tree.done s ≡ false → 1 ≤ tree.rank s
  rank_some s b e =
      let within : 0 < weight_sum (tree.parts s) = (lawful.split s b e).some in
      let falls : tree.rank (picked s (tree.parts s) 0) < tree.rank s = picked_falls tree belongs lawful s (picked s (tree.parts s) 0) 0 b e within refl in
      omega arith

  -- one step in front
  push : (from : State) (rest : Rest) (front : List Entry) (entry : Entry) → IsStep tree from entry → (source.next rest entry.1).answer ≡ Ok entry.2 → (outcome : Outcome State Rest)
      → After (picked from (tree.parts from) entry.2) (source.next rest entry.1).rest (front ++ entry ∷ []) outcome → After from rest front outcome
  push from rest front entry step drew (leaf to path left) w =
      (entry ∷ w.0, (w.1.0 ∙ append_assoc front (entry ∷ []) w.0, record { leads = (step, w.1.1.leads); done = w.1.1.done; gives = (drew, w.1.1.gives) }))
  push from rest front entry step drew (stopped to path fault left) w =
      (entry ∷ w.0, (w.1.0 ∙ append_assoc front (entry ∷ []) w.0, record { asked = w.1.1.asked; leads = (step, w.1.1.leads); going = w.1.1.going; gives = (drew, w.1.1.gives); refused = w.1.1.refused }))

  answered : (steps : ℕ) (s : State) (front : List Entry) (rest : Rest) → belongs s → tree.rank s ≤ suc steps → tree.done s ≡ false
      → ((t : State) (path : List Entry) (left : Rest) → belongs t → tree.rank t ≤ steps → After t left path (run_within steps source tree t path left))
      → (answer : Result ℕ DrawFault) (after : Rest) → (source.next rest (weight_sum (tree.parts s))).answer ≡ answer → (source.next rest (weight_sum (tree.parts s))).rest ≡ after
      → After s rest front (by_answer answer after (λ value left. run_within steps source tree (picked s (tree.parts s) value) (front ++ entry_at tree s value ∷ []) left) (λ fault left. stopped s front fault left))
  answered steps s front rest b r e on (Err fault) after is left_is =
      let drawn_is : ◌≡◌ {A = Drawn Rest} (source.next rest (weight_sum (tree.parts s))) (record { answer = Err fault; rest = after }) = rw (← is, ← left_is) refl in
      ([], (sym (append-nil front), record { asked = rest; leads = refl; going = e; gives = refl; refused = drawn_is }))
  answered steps s front rest b r e on (Ok value) after is left_is =
      let some : 1 ≤ weight_sum (tree.parts s) = (lawful.split s b e).some in
      let below : value < weight_sum (tree.parts s) = source.below rest (weight_sum (tree.parts s)) value some is in
      let next : State = picked s (tree.parts s) value in
      let falls : tree.rank next < tree.rank s = picked_falls tree belongs lawful s next value b e below refl in
      let then : After next after (front ++ entry_at tree s value ∷ []) (run_within steps source tree next (front ++ entry_at tree s value ∷ []) after) =
      on next (front ++ entry_at tree s value ∷ []) after (picked_belongs tree belongs lawful s next value b e below refl) (omega arith) in
      let Q : Rest → Type 0 = λ r. After next r (front ++ entry_at tree s value ∷ []) (run_within steps source tree next (front ++ entry_at tree s value ∷ []) after) in
      push s rest front (entry_at tree s value) (record { going = e; kind = refl; bound = refl; value = below }) is
      (run_within steps source tree next (front ++ entry_at tree s value ∷ []) after) (subst Q (sym left_is) then)

  goes : (steps : ℕ) (s : State) (front : List Entry) (rest : Rest) → belongs s → tree.rank s ≤ steps → After s rest front (run_within steps source tree s front rest)
  goes zero s front rest b r =
      elim (cases_Bool (tree.done s)) [
        | inl e ↦ ([], (sym (append-nil front), record { leads = refl; done = e; gives = refl }))
        | inr e ↦ absurd (let some : 1 ≤ tree.rank s = rank_some s b e in omega arith)
      ]
  goes (suc steps) s front rest b r =
      elim (cases_Bool (tree.done s)) [
        | inl e ↦ rw e ([], (sym (append-nil front), record { leads = refl; done = e; gives = refl }))
        | inr e ↦ rw e (answered steps s front rest b r e (λ t path left c l. goes steps t path left c l) (source.next rest (weight_sum (tree.parts s))).answer (source.next rest (weight_sum (tree.parts s))).rest refl refl)
      ]

  from_start : (s : State) (rest : Rest) (outcome : Outcome State Rest) → After s rest [] outcome → IsOutcome source tree s rest outcome
  from_start s rest (leaf to path left) w = subst (λ p. IsLeaf source tree s rest to p left) (sym w.1.0) w.1.1
  from_start s rest (stopped to path fault left) w = subst (λ p. IsStop source tree s rest to p fault left) (sym w.1.0) w.1.1

  -- what a run comes to
  pub run_is : (s : State) (rest : Rest) → belongs s → IsOutcome source tree s rest (run source tree s rest)
  run_is s rest b = from_start s rest (run source tree s rest) (goes (tree.rank s) s [] rest b (omega arith))

  -- ---- and there is no other

  same_entry : (s : State) (entry : Entry) → IsStep tree s entry → ◌≡◌ {A = Entry} (entry_at tree s entry.2) entry
  same_entry s entry step =
      let f : _ → Entry = λ k. (k, weight_sum (tree.parts s), entry.2) in
      let g : ℕ → Entry = λ n. (entry.0, n, entry.2) in
      ap f (sym step.kind) ∙ ap g (sym step.bound)

  -- the run goes on by a step that the source gives
  pass : (steps : ℕ) (s : State) (front : List Entry) (rest : Rest) (entry : Entry) → IsStep tree s entry → (source.next rest entry.1).answer ≡ Ok entry.2
      → run_within (suc steps) source tree s front rest ≡ run_within steps source tree (picked s (tree.parts s) entry.2) (front ++ entry ∷ []) (source.next rest entry.1).rest
  pass steps s front rest entry step drew =
      let is : (source.next rest (weight_sum (tree.parts s))).answer ≡ Ok entry.2 = (let Q : ℕ → Type 0 = λ n. (source.next rest n).answer ≡ Ok entry.2 in subst Q step.bound drew) in
      let left : (source.next rest (weight_sum (tree.parts s))).rest ≡ (source.next rest entry.1).rest = ap (λ n. (source.next rest n).rest) (sym step.bound) in
      rw (step.going, is, left) (ap (λ l. run_within steps source tree (picked s (tree.parts s) entry.2) (front ++ l ∷ []) (source.next rest entry.1).rest) (same_entry s entry step))

  leaf_within : (steps : ℕ) (path : List Entry) (s to : State) (front : List Entry) (rest left : Rest) → belongs s → tree.rank s ≤ steps → Leads tree s path to → tree.done to ≡ true → Gives source rest path left → run_within steps source tree s front rest ≡ leaf to (front ++ path) left
  leaf_within zero [] s to front rest left b r leads done gives = rw (leads, gives, append-nil front) refl
  leaf_within (suc steps) [] s to front rest left b r leads done gives =
      let e : tree.done s ≡ true = subst (λ t. tree.done t ≡ true) leads done in
      rw (e, leads, gives, append-nil front) refl
  leaf_within zero (entry ∷ path) s to front rest left b r leads done gives = absurd (let some : 1 ≤ tree.rank s = rank_some s b leads.0.going in omega arith)
  leaf_within (suc steps) (entry ∷ path) s to front rest left b r leads done gives =
      let next : State = picked s (tree.parts s) entry.2 in
      let within : entry.2 < weight_sum (tree.parts s) = value_within tree belongs lawful s entry leads.0 in
      let falls : tree.rank next < tree.rank s = picked_falls tree belongs lawful s next entry.2 b leads.0.going within refl in
      pass steps s front rest entry leads.0 gives.0
      ∙ leaf_within steps path next to (front ++ entry ∷ []) (source.next rest entry.1).rest left (picked_belongs tree belongs lawful s next entry.2 b leads.0.going within refl) (omega arith) leads.1 done gives.1
      ∙ ap (λ p. leaf to p left) (append_assoc front (entry ∷ []) path)

  stop_within : (steps : ℕ) (path : List Entry) (s to : State) (fault : DrawFault) (front : List Entry) (rest asked left : Rest) → belongs s → tree.rank s ≤ steps → Leads tree s path to → tree.done to ≡ false → Gives source rest path asked
      → source.next asked (weight_sum (tree.parts to)) ≡ record { answer = Err fault; rest = left } → run_within steps source tree s front rest ≡ stopped to (front ++ path) fault left
  stop_within zero [] s to fault front rest asked left b r leads going gives refused =
      absurd (let e : tree.done s ≡ false = subst (λ t. tree.done t ≡ false) leads going in let some : 1 ≤ tree.rank s = rank_some s b e in omega arith)
  stop_within (suc steps) [] s to fault front rest asked left b r leads going gives refused =
      let Stops : Rest → State → Type 0 = λ r t. source.next r (weight_sum (tree.parts t)) ≡ record { answer = Err fault; rest = left } in
      let e : tree.done s ≡ false = subst (λ t. tree.done t ≡ false) leads going in
      let is : Stops rest s = subst (λ r. Stops r s) gives (subst (λ t. Stops asked t) leads refused) in
      rw (e, is, leads, append-nil front) refl
  stop_within zero (entry ∷ path) s to fault front rest asked left b r leads going gives refused = absurd (let some : 1 ≤ tree.rank s = rank_some s b leads.0.going in omega arith)
  stop_within (suc steps) (entry ∷ path) s to fault front rest asked left b r leads going gives refused =
      let next : State = picked s (tree.parts s) entry.2 in
      let within : entry.2 < weight_sum (tree.parts s) = value_within tree belongs lawful s entry leads.0 in
      let falls : tree.rank next < tree.rank s = picked_falls tree belongs lawful s next entry.2 b leads.0.going within refl in
      pass steps s front rest entry leads.0 gives.0
      ∙ stop_within steps path next to fault (front ++ entry ∷ []) (source.next rest entry.1).rest asked left (picked_belongs tree belongs lawful s next entry.2 b leads.0.going within refl) (omega arith) leads.1 going gives.1 refused
      ∙ ap (λ p. stopped to p fault left) (append_assoc front (entry ∷ []) path)

  pub run_to_leaf : (s to : State) (path : List Entry) (rest left : Rest) → belongs s → IsLeaf source tree s rest to path left → run source tree s rest ≡ leaf to path left
  run_to_leaf s to path rest left b is = leaf_within (tree.rank s) path s to [] rest left b (omega arith) is.leads is.done is.gives

  pub run_to_stop : (s to : State) (path : List Entry) (fault : DrawFault) (rest left : Rest) → belongs s → IsStop source tree s rest to path fault left → run source tree s rest ≡ stopped to path fault left
  run_to_stop s to path fault rest left b is = stop_within (tree.rank s) path s to fault [] rest is.asked left b (omega arith) is.leads is.going is.gives is.refused
