-- A full tape is exactly the values of a path to a leaf: over a tape of these values the run comes to that leaf with nothing left.
use Rattle.std.proofs.Common.{◌≡◌, ℕ, ◌+◌, ◌<◌, ◌≤◌, true, false, nat_lt, List, [], ◌∷◌, ◌++◌, length, Result, Ok, Err, arith, refl, sym, ap, subst, ◌∙◌, append_assoc, inl, inr}
use Rattle.std.proofs.{lemmas.Bool.{cases_Bool, ltb-false, lt-ltb}, lemmas.List.{append-nil}}
use Rattle.smp_tape.specs.{declared.draws.DrawFault.{DrawFault}, declared.draws.DrawFault.TheVariants.{Short, TooBig, Rejected}}
use Rattle.smp_tape.specs.{Sources.{Drawn}, Tapes.{Values, tape_of_values, drawn_from, tape_next}, TapeSources.{tape_source}}
use Rattle.smp_split.specs.{Trees.{Tree, Lawful, weight_sum, picked}, Paths.{Entry, Leads, values_of, IsFull}}
use Rattle.smp_split.specs.Runs.{leaf, stopped, run, Gives, IsLeaf, IsStop, IsOutcome}
use Rattle.smp_split.proofs.Runs.{run_is, run_to_leaf}

pub values_of-append : (p q : List Entry) → values_of (p ++ q) ≡ values_of p ++ values_of q
values_of-append [] q = refl
values_of-append (entry ∷ p) q =
    elim (cases_Bool (nat_lt 1 entry.1)) [ inl e ↦ rw e (ap (λ x. entry.2 ∷ x) (values_of-append p q)) | inr e ↦ rw e (values_of-append p q) ]

-- what an entry takes from a tape
abbrev pub taken_by : Entry → List ℕ
taken_by entry = values_of (entry ∷ [])

-- what a step takes
taken_at : (taken left : List ℕ) (entry : Entry) → (drawn_from taken left entry.1).answer ≡ Ok entry.2
    → (left ≡ taken_by entry ++ (drawn_from taken left entry.1).rest.left) × ((drawn_from taken left entry.1).rest.taken ≡ taken ++ taken_by entry)
taken_at taken [] entry h =
    elim (cases_Bool (nat_lt 1 entry.1)) [
      | inl e ↦ absurd (let f : ◌≡◌ {A = Result ℕ DrawFault} (Err Short) (Ok entry.2) = rw e at h in cc)
      | inr e ↦ rw e (refl, sym (append-nil taken))
    ]
taken_at taken (u ∷ left) entry h =
    elim (cases_Bool (nat_lt 1 entry.1)) [
      | inl e ↦ elim (cases_Bool (nat_lt u entry.1)) [
        | inl l ↦
            (let f : ◌≡◌ {A = Result ℕ DrawFault} (Ok u) (Ok entry.2) = rw (e, l) at h in
            let same : u ≡ entry.2 = cc in
            rw (e, l) (ap (λ v. v ∷ left) same, ap (λ v. taken ++ v ∷ []) same))
        | inr l ↦ absurd (let f : ◌≡◌ {A = Result ℕ DrawFault} (Err (TooBig (length taken + 1) u)) (Ok entry.2) = rw (e, l) at h in cc)
      ]
      | inr e ↦ rw e (refl, sym (append-nil taken))
    ]

-- a tape that gives a path began with its values, and they were taken
pub given_values : (path : List Entry) (tape left : Values) → Gives tape_source tape path left → (tape.left ≡ values_of path ++ left.left) × (left.taken ≡ tape.taken ++ values_of path)
given_values [] tape left gives = (ap (λ r. r.left) (sym gives), ap (λ r. r.taken) gives ∙ sym (append-nil tape.taken))
given_values (entry ∷ path) tape left gives =
    let first = taken_at tape.taken tape.left entry gives.0 in
    let then = given_values path (tape_next tape entry.1).rest left gives.1 in
    let split : values_of (entry ∷ path) ≡ taken_by entry ++ values_of path = values_of-append (entry ∷ []) path in (
      first.0 ∙ ap (λ x. taken_by entry ++ x) then.0 ∙ sym (append_assoc (taken_by entry) (values_of path) left.left) ∙ ap (λ x. x ++ left.left) (sym split),
      then.1 ∙ ap (λ x. x ++ values_of path) first.1 ∙ append_assoc tape.taken (taken_by entry) (values_of path) ∙ ap (λ x. tape.taken ++ x) (sym split),
    )

-- a step whose bound is 1 takes nothing
idle_at : (taken left : List ℕ) (entry : Entry) → nat_lt 1 entry.1 ≡ false → entry.2 < entry.1 → drawn_from taken left entry.1 ≡ record { answer = Ok entry.2; rest = tape_of_values taken left }
idle_at taken [] entry e h = let none : entry.2 ≡ 0 = (let l : entry.1 ≤ 1 = ltb-false 1 entry.1 e in omega arith) in rw (e, none) refl
idle_at taken (u ∷ left) entry e h = let none : entry.2 ≡ 0 = (let l : entry.1 ≤ 1 = ltb-false 1 entry.1 e in omega arith) in rw (e, none) refl

-- a step whose bound is 2 or more takes its value
taking_at : (taken left : List ℕ) (entry : Entry) → nat_lt 1 entry.1 ≡ true → entry.2 < entry.1 → drawn_from taken (entry.2 ∷ left) entry.1 ≡ record { answer = Ok entry.2; rest = tape_of_values (taken ++ entry.2 ∷ []) left }
taking_at taken left entry e h = let below : nat_lt entry.2 entry.1 ≡ true = lt-ltb entry.2 entry.1 h in rw (e, below) refl

-- a tape that begins with the values of a path gives it
pub gives_values : {State : Type 0} (tree : Tree State) (path : List Entry) (from to : State) (taken left : List ℕ) → Leads tree from path to
    → Gives tape_source (tape_of_values taken (values_of path ++ left)) path (tape_of_values (taken ++ values_of path) left)
gives_values tree [] from to taken left leads = ap (λ t. tape_of_values t left) (append-nil taken)
gives_values tree (entry ∷ path) from to taken left leads =
    let next = picked from (tree.parts from) entry.2 in
    let Q : List ℕ → Type 0 = λ vs. Gives tape_source (tape_of_values taken (vs ++ left)) (entry ∷ path) (tape_of_values (taken ++ vs) left) in
    let R : List ℕ → Drawn Values → Type 0 = λ ts d. (d.answer ≡ Ok entry.2) × Gives tape_source d.rest path (tape_of_values ts left) in
    elim (cases_Bool (nat_lt 1 entry.1)) [
      | inl e ↦
          (let is : values_of (entry ∷ path) ≡ entry.2 ∷ values_of path = rw e refl in
          let longer : (taken ++ entry.2 ∷ []) ++ values_of path ≡ taken ++ entry.2 ∷ values_of path = append_assoc taken (entry.2 ∷ []) (values_of path) in
          let after : R ((taken ++ entry.2 ∷ []) ++ values_of path) (record { answer = Ok entry.2; rest = tape_of_values (taken ++ entry.2 ∷ []) (values_of path ++ left) }) =
          (refl, gives_values tree path next to (taken ++ entry.2 ∷ []) left leads.1) in
          subst Q (sym is) (subst (λ d. R (taken ++ entry.2 ∷ values_of path) d) (sym (taking_at taken (values_of path ++ left) entry e leads.0.value)) (subst (λ ts. R ts (record { answer = Ok entry.2; rest = tape_of_values (taken ++ entry.2 ∷ []) (values_of path ++ left) })) longer after)))
      | inr e ↦
          (let is : values_of (entry ∷ path) ≡ values_of path = rw e refl in
          let after : R (taken ++ values_of path) (record { answer = Ok entry.2; rest = tape_of_values taken (values_of path ++ left) }) = (refl, gives_values tree path next to taken left leads.1) in
          subst Q (sym is) (subst (λ d. R (taken ++ values_of path) d) (sym (idle_at taken (values_of path ++ left) entry e leads.0.value)) after))
    ]

module _ {State : Type 0} (tree : Tree State) (belongs : State → Type 0) (lawful : Lawful tree belongs) where
  pub full_runs : (s end : State) (path : List Entry) (taken values : List ℕ) → belongs s → IsFull tree s values path end
      → run tape_source tree s (tape_of_values taken values) ≡ leaf end path (tape_of_values (taken ++ values) [])
  full_runs s end path taken values b is =
      let all : values_of path ++ [] ≡ values = append-nil (values_of path) ∙ sym is.all in
      let Q : List ℕ → List ℕ → Type 0 = λ vs ts. Gives tape_source (tape_of_values taken vs) path (tape_of_values (taken ++ ts) []) in
      let gives : Q values values = subst (λ vs. Q vs values) all (subst (λ ts. Q (values_of path ++ []) ts) (sym is.all) (gives_values tree path s end taken [] is.leads)) in
      run_to_leaf tape_source tree belongs lawful s end path (tape_of_values taken values) (tape_of_values (taken ++ values) []) b (record { leads = is.leads; done = is.done; gives = gives })

  pub runs_full : (s end : State) (path : List Entry) (tape left : Values) → belongs s → run tape_source tree s tape ≡ leaf end path left → left.left ≡ [] → IsFull tree s tape.left path end
  runs_full s end path tape left b ran none =
      let is : IsLeaf tape_source tree s tape end path left = subst (IsOutcome tape_source tree s tape) ran (run_is tape_source tree belongs lawful s tape b) in
      let all = given_values path tape left is.gives in
      record { leads = is.leads; done = is.done; all = all.0 ∙ ap (λ x. values_of path ++ x) none ∙ append-nil (values_of path) }

-- a tape rejects no draw
none_rejected : (taken left : List ℕ) (bound rejected : ℕ) → (drawn_from taken left bound).answer ≡ Err (Rejected rejected) → ⊥
none_rejected taken [] bound rejected h =
    elim (cases_Bool (nat_lt 1 bound)) [
      | inl e ↦ (let f : ◌≡◌ {A = Result ℕ DrawFault} (Err Short) (Err (Rejected rejected)) = rw e at h in let same : Short ≡ Rejected rejected = cc in cc)
      | inr e ↦ (let f : ◌≡◌ {A = Result ℕ DrawFault} (Ok 0) (Err (Rejected rejected)) = rw e at h in cc)
    ]
none_rejected taken (u ∷ left) bound rejected h =
    elim (cases_Bool (nat_lt 1 bound)) [
      | inl e ↦ elim (cases_Bool (nat_lt u bound)) [
        | inl l ↦ (let f : ◌≡◌ {A = Result ℕ DrawFault} (Ok u) (Err (Rejected rejected)) = rw (e, l) at h in cc)
        | inr l ↦
            (let f : ◌≡◌ {A = Result ℕ DrawFault} (Err (TooBig (length taken + 1) u)) (Err (Rejected rejected)) = rw (e, l) at h in
            let same : TooBig (length taken + 1) u ≡ Rejected rejected = cc in cc)
      ]
      | inr e ↦ (let f : ◌≡◌ {A = Result ℕ DrawFault} (Ok 0) (Err (Rejected rejected)) = rw e at h in cc)
    ]

pub never_rejected : {State : Type 0} (tree : Tree State) (belongs : State → Type 0) (lawful : Lawful tree belongs) (s to : State) (path : List Entry) (rejected : ℕ) (tape left : Values) → belongs s
    → run tape_source tree s tape ≡ stopped to path (Rejected rejected) left → ⊥
never_rejected tree belongs lawful s to path rejected tape left b ran =
    let is : IsStop tape_source tree s tape to path (Rejected rejected) left = subst (IsOutcome tape_source tree s tape) ran (run_is tape_source tree belongs lawful s tape b) in
    none_rejected is.asked.taken is.asked.left (weight_sum (tree.parts to)) rejected (ap (λ d. d.answer) is.refused)
