-- A replay that is under way, and its ends.
use Rattle.std.proofs.Common.{◌≡◌, ℕ, ◌+◌, ◌<◌, ◌≤◌, Bool, true, false, cond, List, [], ◌∷◌, ◌++◌, length, Some, None, option_map, refl, sym, ap, ◌∙◌, subst, arith, length-append, inl, inr, ◌⊎◌}
use Rattle.std.specs.Str.{bytes_eq}
use Rattle.std.proofs.lemmas.Slice.Eq.{bytes_eq-Decides}
use Rattle.smp_frac.specs.Cuts.{cut_at}
use Rattle.smp_split.specs.{Trees.{Tree, Lawful, weight_sum, picked}, Laws.Steps.{picked_belongs}}
use Rattle.smp_log.specs.{Lines.{whole_lines, lines_text}, Fronts.{IsCompleteLines, StopsAt}, Heads.{IsHead}}
use Rattle.smp_log.specs.Genuine.{IsGenuine, DiffersAt}
use Rattle.smp_log.specs.Reading.{heading, stepping, closed, before, after_line, step_first, step_value, next_step, end_line, log_script}
use Rattle.smp_log.proofs.FirstLines.{FirstStep, first_is, first_step, first_stuck, first_within, shorter_by, step_stuck}
use Rattle.smp_log.proofs.{Heads.{head_lines, head_lines_are}, Kept.{described}, Reached.{LeadsAlong, Reached, reached_more}}
use Rattle.smp_log.proofs.Described.{Describes, whole_text, differs, differs_behind, genuine}

-- the lines so far are those of the head and of the steps that lead to the state
pub record IsReplaying {State : Type 0} (tree : Tree State) (belongs : State → Type 0) (from : State) (head log : List ℕ) (s : State) (rest : List ℕ) (steps : ℕ) : Type 0 where
  pub is_head : IsHead head
  pub reached : Reached (log_script tree end_line from) (before from (head_lines is_head)) (stepping steps s) log rest (steps + 3)
  pub member : belongs s
  pub room : steps + length rest ≤ length log

pub whole_head : (head : List ℕ) → IsHead head → IsCompleteLines head
whole_head head h = h.text ∙ ap lines_text (sym (ap whole_lines h.text ∙ whole_text (head_lines h) (head_lines_are h)))

pub head_count : (head : List ℕ) → IsHead head → length (whole_lines head) ≡ 3
head_count head h = ap length (ap whole_lines h.text ∙ whole_text (head_lines h) (head_lines_are h))

module _ {State : Type 0} (tree : Tree State) (from : State) where
  head_leads : (same others : List (List ℕ)) → LeadsAlong (log_script tree end_line from) (before from (same ++ others)) same (before from others)
  head_leads [] others = refl
  head_leads (l ∷ same) others = (before from (same ++ others), ap (λ (b : Bool). cond b (Some (before from (same ++ others))) None) ((bytes_eq-Decides l l).1 refl), head_leads same others)

module _ {State : Type 0} {tree : Tree State} {belongs : State → Type 0} (lawful : Lawful tree belongs) {from : State} (member : belongs from) (head log : List ℕ) where
  pub logs : (h : IsHead head) → Describes (log_script tree end_line from) (before from (head_lines h)) closed (IsGenuine tree from head)
  logs h = described tree belongs lawful from member head (head_lines h) h.text (head_lines_are h)

  pub first : (rest : List ℕ) → IsHead head → log ≡ head ++ rest → IsReplaying tree belongs from head log from rest 0
  first rest h is = record {
    is_head = h;
    reached = record {
      lines = head_lines h;
      text_is = is ∙ ap (λ t. t ++ rest) h.text;
      are = head_lines_are h;
      counted = refl;
      leads = head_leads tree from (head_lines h) [];
    };
    member = member;
    room = (let size : length log ≡ length head + length rest = ap length is ∙ length-append head rest in omega (arith, size));
  }

  -- the head isn't there
  pub stops : (line : ℕ) → IsHead head → StopsAt head log line → DiffersAt (IsGenuine tree from head) log line
  stops line h at =
      let hs : List (List ℕ) = head_lines h in
      let lines : hs ≡ at.same ++ at.wanted ∷ at.others = sym (ap whole_lines h.text ∙ whole_text hs (head_lines_are h)) ∙ at.front_is in
      let leads : LeadsAlong (log_script tree end_line from) (before from hs) at.same (heading at.wanted at.others) =
      subst (λ ls. LeadsAlong (log_script tree end_line from) (before from ls) at.same (heading at.wanted at.others)) (sym lines) (head_leads tree from at.same (at.wanted ∷ at.others)) in
      subst (DiffersAt (IsGenuine tree from head) log) (sym at.counted)
      (differs (log_script tree end_line from) (before from hs) closed (IsGenuine tree from head) (logs h) log at.rest (length at.same) (heading at.wanted at.others) refl
      (record { lines = at.same; text_is = at.text_is; are = at.are; counted = refl; leads = leads })
      (elim at.other [ inl none ↦ inl none | inr w ↦ inr (w.0, w.1, ap (λ (b : Bool). cond b (Some (before from at.others)) None) w.2) ]))

  module _ {s : State} {rest : List ℕ} {steps : ℕ} (r : IsReplaying tree belongs from head log s rest steps) where
    four : steps + 3 + 1 ≡ steps + 4
    four = omega arith

    pub differs_here : (cut_at 10 rest ≡ None) ⊎ ((p : List ℕ × List ℕ) × (cut_at 10 rest ≡ Some p) × (next_step tree end_line steps s p.0 ≡ None)) → DiffersAt (IsGenuine tree from head) log (steps + 4)
    differs_here h = subst (DiffersAt (IsGenuine tree from head) log) four
        (differs (log_script tree end_line from) (before from (head_lines r.is_head)) closed (IsGenuine tree from head) (logs r.is_head) log rest (steps + 3) (stepping steps s) refl r.reached h)

    pub going : (line : List ℕ) → tree.done s ≡ false → next_step tree end_line steps s line ≡ option_map (λ v. stepping (steps + 1) (picked s (tree.parts s) v)) (step_value (tree.kind s) (weight_sum (tree.parts s)) line)
    going line e = ap (λ (b : Bool). cond b (cond (bytes_eq line (end_line steps)) (Some (closed s)) None) (option_map (λ v. stepping (steps + 1) (picked s (tree.parts s) v)) (step_value (tree.kind s) (weight_sum (tree.parts s)) line))) e

    pub ended : (line : List ℕ) → tree.done s ≡ true → next_step tree end_line steps s line ≡ cond (bytes_eq line (end_line steps)) (Some (closed s)) None
    ended line e = ap (λ (b : Bool). cond b (cond (bytes_eq line (end_line steps)) (Some (closed s)) None) (option_map (λ v. stepping (steps + 1) (picked s (tree.parts s) v)) (step_value (tree.kind s) (weight_sum (tree.parts s)) line))) e

    -- the next line isn't that of a step
    pub no_step : tree.done s ≡ false → step_first (tree.kind s) (weight_sum (tree.parts s)) rest ≡ None → DiffersAt (IsGenuine tree from head) log (steps + 4)
    no_step e none = differs_here (step_stuck (log_script tree end_line from) (stepping steps s) (tree.kind s) (weight_sum (tree.parts s)) (λ v. stepping (steps + 1) (picked s (tree.parts s) v)) rest (λ line. going line e) none)

    -- it is that of a step
    module _ (v : ℕ) (after : List ℕ) (some : step_first (tree.kind s) (weight_sum (tree.parts s)) rest ≡ Some (v, after)) where
      step : FirstStep (tree.kind s) (weight_sum (tree.parts s)) v rest after
      step = first_step (tree.kind s) (weight_sum (tree.parts s)) v rest after some

      pub more : tree.done s ≡ false → IsReplaying tree belongs from head log (picked s (tree.parts s) v) after (steps + 1)
      more e =
          let to : State = picked s (tree.parts s) v in
          let leads : next_step tree end_line steps s step.line ≡ Some (stepping (steps + 1) to) = going step.line e ∙ ap (option_map (λ v. stepping (steps + 1) (picked s (tree.parts s) v))) step.read in
          let reached = reached_more (log_script tree end_line from) (before from (head_lines r.is_head)) (stepping steps s) (stepping (steps + 1) to) log rest step.line after (steps + 3) r.reached step.cut leads in
          let count : steps + 3 + 1 ≡ steps + 1 + 3 = omega arith in
          let short = shorter_by rest step.line after step.cut in
          record {
            is_head = r.is_head;
            reached = subst (Reached (log_script tree end_line from) (before from (head_lines r.is_head)) (stepping (steps + 1) to) log after) count reached;
            member = picked_belongs tree belongs lawful s to v r.member e (first_within (tree.kind s) (weight_sum (tree.parts s)) v rest after some) refl;
            room = omega (arith, r.room, short);
          }

    -- the next line isn't the last one
    pub no_end : tree.done s ≡ true → after_line (end_line steps) rest ≡ None → DiffersAt (IsGenuine tree from head) log (steps + 4)
    no_end e none = differs_here (first_stuck (log_script tree end_line from) (stepping steps s) (closed s) (end_line steps) rest (λ line. ended line e) none)

    -- it is the last one
    module _ (after : List ℕ) (e : tree.done s ≡ true) (some : after_line (end_line steps) rest ≡ Some after) where
      at_end : Reached (log_script tree end_line from) (before from (head_lines r.is_head)) (closed s) log after (steps + 4)
      at_end =
          let leads : next_step tree end_line steps s (end_line steps) ≡ Some (closed s) = ended (end_line steps) e ∙ ap (λ (b : Bool). cond b (Some (closed s)) None) ((bytes_eq-Decides (end_line steps) (end_line steps)).1 refl) in
          subst (Reached (log_script tree end_line from) (before from (head_lines r.is_head)) (closed s) log after) four
          (reached_more (log_script tree end_line from) (before from (head_lines r.is_head)) (stepping steps s) (closed s) log rest (end_line steps) after (steps + 3) r.reached (first_is (end_line steps) rest after some) leads)

      pub something_behind : 0 < length after → DiffersAt (IsGenuine tree from head) log (steps + 5)
      something_behind something =
          let five : steps + 4 + 1 ≡ steps + 5 = omega arith in
          subst (DiffersAt (IsGenuine tree from head) log) five
          (differs_behind (log_script tree end_line from) (before from (head_lines r.is_head)) closed (IsGenuine tree from head) (logs r.is_head) log after (steps + 4) s something at_end)

      pub replayed : length after ≡ 0 → IsGenuine tree from head log s
      replayed none =
          genuine (log_script tree end_line from) (before from (head_lines r.is_head)) closed (IsGenuine tree from head) (logs r.is_head) log (steps + 4) s
          (subst (λ t. Reached (log_script tree end_line from) (before from (head_lines r.is_head)) (closed s) log t (steps + 4)) (nil after none) at_end)
        where
          nil : (t : List ℕ) → length t ≡ 0 → t ≡ []
          nil [] h = refl
          nil (b ∷ t) h = absurd (omega arith)
