-- How a replay stands behind the steps of a part, and how it answers where they stop, by what each step keeps.
use Rattle.std.proofs.Common.{◌≡◌, ℕ, suc, ◌+◌, nat_lt, Bool, true, false, cond, List, [], ◌∷◌, ◌++◌, length, Option, Err, Some, None, option_map, refl, sym, ap, ◌∙◌, subst, arith, append_assoc}
use Rattle.std.specs.Prelude.{option_and_then}
use Rattle.smp_frac.specs.Cuts.{cut_at}
use Rattle.smp_split.specs.{Trees.{Tree, Lawful, weight_sum, picked}, Paths.{Entry, Leads, entry_at}, Runs.{and_then}}
use Rattle.smp_split.specs.Laws.Steps.{and_then-nil, and_then-append, leads_belong, picked_belongs, value_within}
use Rattle.smp_log.specs.{Logs.{step_text, steps_text}, Reading.{step_line, step_value, step_first}, Replayed.{Form, Replays}}
use Rattle.smp_log.specs.{SectionLogs.{tape_place}, SectionReading.{taken_at}, Steps.{AreMade, AreStopped, EachPasses}}
use Rattle.smp_log.specs.{Told.{IsToldAlong, IsToldPart}, declared.fault.ReplayFault.{ReplayFault}}
use Rattle.smp_log.specs.declared.fault.ReplayFault.TheVariants.{Differs, NoMemory}
use Rattle.smp_log.proofs.{LineTexts.{step_text_line}, OnePath.{entry_is, value_read}, Replied.{ran_out, refused}, Texts.{cut_behind}}
use Rattle.smp_log.proofs.{SectionScripts.{tape_place-step}, StepLines.{step_line_lacks}}

-- A form of log is read on through a part behind so many lines: each of its steps keeps how the replay stands, which says what was
-- told so far; and where the line of a step is missing, the log differs there.
pub record ReadsOn {State : Type 0} (tree : Tree State) (has : State → Bool) (form : Form State) (from : State) (old : Option (List Entry)) (lines : ℕ) (Stands : ℕ → ℕ → State → List ℕ → Option (List Entry) → Type 0) : Type 0 where
  pub one : (own taken : ℕ) (s : State) (text : List ℕ) (now : Option (List Entry)) → Stands own taken s text now → has s ≡ true → tree.done s ≡ false → (v : ℕ) (after : List ℕ) → step_first (tree.kind s) (weight_sum (tree.parts s)) text ≡ Some (v, after)
      → Stands (own + 1) (taken + taken_at tree s) (picked s (tree.parts s) v) after (and_then now (entry_at tree s v ∷ []))
  pub begins : (own taken : ℕ) (s : State) (text : List ℕ) (now : Option (List Entry)) → Stands own taken s text now → IsToldPart tree form.told from s old now
  pub along : (own taken : ℕ) (s : State) (text : List ℕ) (now : Option (List Entry)) → Stands own taken s text now → IsToldAlong tree (form.first_told (lines + own)) from s old now
  pub stuck : (own taken : ℕ) (s : State) (text : List ℕ) (now : Option (List Entry)) → Stands own taken s text now → has s ≡ true → step_first (tree.kind s) (weight_sum (tree.parts s)) text ≡ None
      → form.differs (lines + own + 1) × (form.reading ≡ Err (lines + own + 1))

module _ {State : Type 0} {tree : Tree State} {belongs : State → Type 0} (lawful : Lawful tree belongs) {has : State → Bool} {form : Form State} {from : State} {old : Option (List Entry)} {lines : ℕ} {Stands : ℕ → ℕ → State → List ℕ → Option (List Entry) → Type 0}
    (r : ReadsOn tree has form from old lines Stands) where
  moved : {own own' taken taken' : ℕ} {s s' : State} {text text' : List ℕ} {now now' : Option (List Entry)} → own ≡ own' → taken ≡ taken' → s ≡ s' → text ≡ text' → now ≡ now' → Stands own taken s text now → Stands own' taken' s' text' now'
  moved a b c d e stands =
      let At : ℕ × ℕ × State × List ℕ × Option (List Entry) → Type 0 = λ t. Stands t.0 t.1 t.2 t.3 t.4 in
      subst At (λ i. (a i, b i, c i, d i, e i)) stands

  stands_behind : (path : List Entry) (own taken : ℕ) (s to : State) (text rest : List ℕ) (now : Option (List Entry)) → Stands own taken s text now → belongs s → Leads tree s path to → EachPasses tree has s path → text ≡ steps_text path ++ rest
      → Stands (own + length path) (taken + tape_place path) to rest (and_then now path)
  stands_behind [] own taken s to text rest now stands b leads passes is =
      let none : own ≡ own + 0 = omega arith in
      let none_taken : taken ≡ taken + 0 = omega arith in
      moved none none_taken (sym leads) is (and_then-nil now) stands
  stands_behind (l ∷ path) own taken s to text rest now stands b leads passes is =
      let next : State = picked s (tree.parts s) l.2 in
      let after : List ℕ = steps_text path ++ rest in
      let cut : cut_at 10 text ≡ Some (step_line l, after) = ap (cut_at 10) (is ∙ append_assoc (step_text l) (steps_text path) rest ∙ step_text_line l after) ∙ cut_behind 10 (step_line l) after (step_line_lacks l) in
      let read : step_first (tree.kind s) (weight_sum (tree.parts s)) text ≡ Some (l.2, after) =
      ap (option_and_then (λ (q : List ℕ × List ℕ). option_map (λ (v : ℕ). (v, q.1)) (step_value (tree.kind s) (weight_sum (tree.parts s)) q.0))) cut ∙ ap (option_map (λ (v : ℕ). (v, after))) (value_read tree belongs lawful s l b leads.0) in
      let on : belongs next = picked_belongs tree belongs lawful s next l.2 b leads.0.going (value_within tree belongs lawful s l leads.0) refl in
      let behind = stands_behind path (own + 1) (taken + taken_at tree s) next to after rest (and_then now (entry_at tree s l.2 ∷ [])) (r.one own taken s text now stands passes.0 leads.0.going l.2 after read) on leads.1 passes.1 refl in
      let count : own + 1 + length path ≡ own + suc (length path) = omega arith in
      let place = tape_place-step l path in
      let here : taken_at tree s ≡ cond (nat_lt 1 l.1) 1 0 = ap (λ (bound : ℕ). cond (nat_lt 1 bound) 1 0) (sym leads.0.bound) in
      let takes : taken + taken_at tree s + tape_place path ≡ taken + tape_place (l ∷ path) = omega (arith, place, here) in
      moved count takes refl refl (and_then-append now (entry_at tree s l.2 ∷ []) path ∙ ap (λ (e : Entry). and_then now (e ∷ path)) (entry_is tree belongs lawful s l leads.0)) behind

  module _ (taken : ℕ) {s : State} {text : List ℕ} {now : Option (List Entry)} (stands : Stands 0 taken s text now) (b : belongs s) {to : State} {new : Option (List Entry)} where
    -- behind steps that were made
    pub stands_on : {rest : List ℕ} {steps more : ℕ} → AreMade tree has s to text rest steps more now new → Stands steps (taken + more) to rest new
    stands_on {rest} {steps} {more} m =
        let count : 0 + length m.path ≡ steps = omega (arith, m.steps_are) in
        moved count (ap (λ n. taken + n) (sym m.taken_are)) refl refl (sym m.told) (stands_behind m.path 0 taken s to text rest now stands b m.leads m.passes m.text_is)

    -- where they stopped
    pub stopped : (refuses : Bool) (fault : ReplayFault) → AreStopped tree has s to text lines now new refuses fault → Replays tree belongs form from to old new refuses (Err fault)
    stopped refuses (Differs line) at =
        let m = at.begun.made in
        let own : ℕ = at.begun.steps in
        let so = stands_on m in
        let differs = r.stuck own (taken + at.begun.taken) to at.begun.rest new so at.going at.read in
        subst (λ n. Replays tree belongs form from to old new refuses (Err (Differs n))) (sym at.counted)
        (refused tree belongs form from to old new refuses (lines + own) (lines + own + 1) refl differs.0 differs.1 (r.begins own (taken + at.begun.taken) to at.begun.rest new so) (r.along own (taken + at.begun.taken) to at.begun.rest new so)
        (leads_belong tree belongs lawful m.path s to m.leads b))
    stopped refuses NoMemory at =
        let m = at.0.made in
        ran_out tree belongs form from to old new refuses at.1 (r.begins at.0.steps (taken + at.0.taken) to at.0.rest new (stands_on m)) (leads_belong tree belongs lawful m.path s to m.leads b)
