-- The steps that a replay made: one by what it gave, and those of a part together.
use Rattle.std.proofs.Common.{◌≡◌, ℕ, ◌+◌, nat_lt, Bool, true, false, cond, List, [], ◌∷◌, ◌++◌, Option, Some, None, option_map, refl, sym, ap, ◌∙◌, subst, arith, append_assoc, length-append}
use Rattle.std.proofs.{lemmas.Grind.{flat_map-append}, lemmas.List.{append-nil}}
use Rattle.smp_split.specs.{Trees.{Tree, weight_sum, picked}, Paths.{Entry, Leads, entry_at}, Runs.{and_then}}
use Rattle.smp_split.specs.Laws.Steps.{Leads-push, and_then-nil, and_then-append}
use Rattle.smp_log.specs.{Logs.{step_text, steps_text}, SectionLogs.{tape_place}, Steps.{IsLeft, IsMade, StepsOn, EachPasses, AreMade}}
use Rattle.smp_log.proofs.{FirstLines.{first_step}, LineTexts.{step_text_line}, SectionScripts.{tape_place-step}, StepLines.{step_value-is}}
use Rattle.smp_log.proofs.Texts.{cut_parts}

module _ {State Given : Type 0} (tree : Tree State) (from to : State) (text : List ℕ) (seen : Given → List ℕ × ℕ) (old new : Option (List Entry)) where
  -- one that gave something was made
  pub made_by : (step : Option Given) (given : Given) → step ≡ Some given → StepsOn tree from to text (option_map seen step) old new
      → IsMade tree from to text (seen given).0 (seen given).1 old new
  made_by step given is on = subst (λ s. StepsOn tree from to text (option_map seen s) old new) is on

  -- and one that gave nothing wasn't
  pub left_by : (step : Option Given) → ((given : Given) → step ≡ Some given → ⊥) → StepsOn tree from to text (option_map seen step) old new
      → IsLeft tree from to text old new
  left_by None not on = on
  left_by (Some given) not on = absurd (not given refl)

-- ---- those of a part

taken-push : (path : List Entry) (l : Entry) → tape_place (path ++ l ∷ []) ≡ tape_place path + cond (nat_lt 1 l.1) 1 0
taken-push [] l = tape_place-step l [] ∙ omega arith
taken-push (k ∷ path) l =
    let here = tape_place-step k (path ++ l ∷ []) in
    let before = tape_place-step k path in
    let rest = taken-push path l in
    omega (arith, here, before, rest)

module _ {State : Type 0} (tree : Tree State) (has : State → Bool) where
  passes-push : (path : List Entry) (s mid : State) (l : Entry) → EachPasses tree has s path → Leads tree s path mid → has mid ≡ true → EachPasses tree has s (path ++ l ∷ [])
  passes-push [] s mid l each leads e = (ap has (sym leads) ∙ e, tt)
  passes-push (k ∷ path) s mid l each leads e = (each.0, passes-push path (picked s (tree.parts s) k.2) mid l each.1 leads.1 e)

  -- none yet
  pub none_made : (from : State) (text : List ℕ) (old : Option (List Entry)) → AreMade tree has from from text text 0 0 old old
  none_made from text old = record { path = []; leads = refl; passes = tt; text_is = refl; steps_are = refl; taken_are = refl; told = and_then-nil old }

  -- one more
  pub more_made : {from s to : State} {text rest after : List ℕ} {steps taken bound : ℕ} {old now new : Option (List Entry)} → AreMade tree has from s text rest steps taken old now → has s ≡ true → tree.done s ≡ false → IsMade tree s to rest after bound now new
      → AreMade tree has from to text after (steps + 1) (taken + cond (nat_lt 1 bound) 1 0) old new
  more_made {from} {s} {to} {text} {rest} {after} {steps} {taken} {bound} {old} {now} {new} m e going step =
      let l : Entry = entry_at tree s step.value in
      let f = first_step (tree.kind s) (weight_sum (tree.parts s)) step.value rest after step.read in
      let is = step_value-is (tree.kind s) (weight_sum (tree.parts s)) step.value f.line f.read in
      let text_here : rest ≡ step_text l ++ after = (cut_parts 10 rest (f.line, after) f.cut).0 ∙ ap (λ line. line ++ 10 ∷ after) is.0 ∙ sym (step_text_line l after) in
      let one : steps_text (l ∷ []) ≡ step_text l = append-nil (step_text l) in
      let taken_here = taken-push m.path l in
      record {
        path = m.path ++ l ∷ [];
        leads = subst (Leads tree from (m.path ++ l ∷ [])) (sym step.made) (Leads-push tree from s m.path l m.leads (record { going = going; kind = refl; bound = refl; value = is.1 }));
        passes = passes-push m.path from s l m.passes m.leads e;
        text_is = m.text_is ∙ ap (λ t. steps_text m.path ++ t) text_here ∙ sym (append_assoc (steps_text m.path) (step_text l) after)
            ∙ ap (λ t. t ++ after) (ap (λ t. steps_text m.path ++ t) (sym one) ∙ sym (flat_map-append step_text m.path (l ∷ [])));
        steps_are = ap (λ n. n + 1) m.steps_are ∙ sym (length-append m.path (l ∷ []));
        taken_are = ap (λ b. taken + cond (nat_lt 1 b) 1 0) step.bound_is ∙ ap (λ n. n + cond (nat_lt 1 (weight_sum (tree.parts s))) 1 0) m.taken_are ∙ sym taken_here;
        told = step.told ∙ ap (λ (o : Option (List Entry)). and_then o (l ∷ [])) m.told ∙ and_then-append old m.path (l ∷ []);
      }
