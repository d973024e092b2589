-- Of each log the function gives the one answer that is right for a section.
use Rattle.std.proofs.Common.{◌≡◌, ℕ, suc, ◌+◌, ◌≤◌, ◌==◌, Bool, true, false, cond, List, [], ◌∷◌, ◌++◌, length, Option, Some, None, Result, Ok, Err, refl, sym, ap, ◌∙◌, subst, arith, append_assoc, inl, inr, ◌⊎◌}
use Rattle.std.specs.Str.{bytes_eq}
use Rattle.std.proofs.{lemmas.Bool.{eqb-true}, lemmas.Slice.Eq.{bytes_eq-Decides}}
use Rattle.smp_frac.specs.Cuts.{cut_at}
use Rattle.smp_split.specs.Trees.{Tree, Lawful}
use Rattle.smp_log.specs.{Fronts.{HasOtherLine}, Heads.{IsHead}, Lines.{longer, whole_lines, lines_text, Lacks, AreLines}}
use Rattle.smp_log.specs.{Reading.{Script, heading, stepping, closed, follows}, SectionLogs.{sectioned_head}}
use Rattle.smp_log.specs.LoneSections.{IsGenuineSection, opens, NoneOpens, IsOpened, HasSection, IsSectionAnswer, IsExactSection, SectionLine, SectionDiffers, LonePlace, start, is_over, lone_script, section_reading}
use Rattle.smp_log.proofs.{Described.{whole_text, kept, genuine_front}, LoneReplays.{stops, no_opening, opened}}
use Rattle.smp_log.proofs.KeptSections.{sectioned_head_lines, sectioned_head_lines_are, sectioned_head-text}
use Rattle.smp_log.proofs.LoneAnswers.{Differing, differing, has_reading, stopped_reading, stops_reading, unopened_reading}
use Rattle.smp_log.proofs.{LoneScripts.{over_at, described}, Reached.{LeadsAlong, Reached}, Scripts.{follows-some, follows-none}}
use Rattle.smp_log.proofs.Texts.{cons-Lacks, cut_parts, lines_text-append}

-- ---- a text by its whole lines, and what is behind them

abbrev IsByLines : List ℕ → List (List ℕ) → Type 0
IsByLines text ls = (tail : List ℕ) × (text ≡ lines_text ls ++ tail) × AreLines ls

by_lines : (text : List ℕ) → IsByLines text (whole_lines text)
by_lines [] = ([], refl, tt)
by_lines (b ∷ text) = by_test (b == 10) refl (whole_lines text) (by_lines text)
  where
    by_test : (t : Bool) → (b == 10) ≡ t → (ls : List (List ℕ)) → IsByLines text ls → IsByLines (b ∷ text) (cond t ([] ∷ ls) (longer b ls))
    by_test true e ls rest = (let same : b ≡ 10 = eqb-true b 10 e in (rest.0, ap (λ c. c ∷ text) same ∙ ap (λ t. 10 ∷ t) rest.1, (refl, rest.2)))
    by_test false e [] rest = (b ∷ rest.0, ap (λ t. b ∷ t) rest.1, tt)
    by_test false e (l ∷ ls) rest = (rest.0, ap (λ t. b ∷ t) rest.1, (cons-Lacks 10 b l e rest.2.0, rest.2.1))

are_split : (ls ms : List (List ℕ)) → AreLines (ls ++ ms) → AreLines ls × AreLines ms
are_split [] ms h = (tt, h)
are_split (l ∷ ls) ms h = (let rest = are_split ls ms h.1 in ((h.0, rest.0), rest.1))

-- ---- a text either begins with some lines, or stops at one of them

record HasRest (front : List (List ℕ)) (text : List ℕ) : Type 0 where
  rest : List ℕ
  is : text ≡ lines_text front ++ rest

record Stops (front : List (List ℕ)) (text : List ℕ) : Type 0 where
  same : List (List ℕ)
  wanted : List ℕ
  others : List (List ℕ)
  front_is : front ≡ same ++ wanted ∷ others
  rest : List ℕ
  text_is : text ≡ lines_text same ++ rest
  are : AreLines same
  other : HasOtherLine wanted rest

rest_or_stop : (front : List (List ℕ)) (text : List ℕ) → HasRest front text ⊎ Stops front text
rest_or_stop [] text = inl (record { rest = text; is = refl })
rest_or_stop (w ∷ front) text = by_cut (cut_at 10 text) refl (λ after. rest_or_stop front after)
  where
    stop_here : HasOtherLine w text → HasRest (w ∷ front) text ⊎ Stops (w ∷ front) text
    stop_here other = inr (record { same = []; wanted = w; others = front; front_is = refl; rest = text; text_is = refl; are = tt; other = other })

    go_on : (p : List ℕ × List ℕ) → (text ≡ p.0 ++ 10 ∷ p.1) → Lacks 10 p.0 → p.0 ≡ w → HasRest front p.1 ⊎ Stops front p.1 → HasRest (w ∷ front) text ⊎ Stops (w ∷ front) text
    go_on p is lacks same (inl r) = inl (record { rest = r.rest; is = is ∙ ap (λ l. l ++ 10 ∷ p.1) same ∙ ap (λ t. w ++ 10 ∷ t) r.is ∙ sym (append_assoc w (10 ∷ lines_text front) r.rest) })
    go_on p is lacks same (inr s) = inr (record {
      same = w ∷ s.same;
      wanted = s.wanted;
      others = s.others;
      front_is = ap (λ ls. w ∷ ls) s.front_is;
      rest = s.rest;
      text_is = is ∙ ap (λ l. l ++ 10 ∷ p.1) same ∙ ap (λ t. w ++ 10 ∷ t) s.text_is ∙ sym (append_assoc w (10 ∷ lines_text s.same) s.rest);
      are = (subst (Lacks 10) same lacks, s.are);
      other = s.other;
    })

    by_same : (p : List ℕ × List ℕ) → cut_at 10 text ≡ Some p → (t : Bool) → bytes_eq p.0 w ≡ t → HasRest front p.1 ⊎ Stops front p.1 → HasRest (w ∷ front) text ⊎ Stops (w ∷ front) text
    by_same p is true e on = (let parts = cut_parts 10 text p is in go_on p parts.0 parts.1 ((bytes_eq-Decides p.0 w).0 e) on)
    by_same p is false e on = stop_here (inr (p, is, e))

    by_cut : (o : Option (List ℕ × List ℕ)) → cut_at 10 text ≡ o → ((after : List ℕ) → HasRest front after ⊎ Stops front after) → HasRest (w ∷ front) text ⊎ Stops (w ∷ front) text
    by_cut None is on = stop_here (inl is)
    by_cut (Some p) is on = by_same p is (bytes_eq p.0 w) refl (on p.1)

-- ---- of some lines either none opens a section, or there is a first one that does

record FirstOpens (number : ℕ) (lines : List (List ℕ)) : Type 0 where
  before : List (List ℕ)
  first : List ℕ
  after : List (List ℕ)
  is : lines ≡ before ++ first ∷ after
  none : NoneOpens number before
  opening : opens number first ≡ true

first_opens : (number : ℕ) (lines : List (List ℕ)) → NoneOpens number lines ⊎ FirstOpens number lines
first_opens number [] = inl tt
first_opens number (l ∷ lines) = by_test (opens number l) refl (first_opens number lines)
  where
    by_test : (t : Bool) → opens number l ≡ t → NoneOpens number lines ⊎ FirstOpens number lines → NoneOpens number (l ∷ lines) ⊎ FirstOpens number (l ∷ lines)
    by_test true e rest = inr (record { before = []; first = l; after = lines; is = refl; none = tt; opening = e })
    by_test false e (inl none) = inl (e, none)
    by_test false e (inr f) = inr (record { before = l ∷ f.before; first = f.first; after = f.after; is = ap (λ ls. l ∷ ls) f.is; none = (e, f.none); opening = f.opening })

-- ---- the lines that a script follows

record Led {Place : Type 0} (script : Script Place) (place : Place) (lines : List (List ℕ)) : Type 0 where
  taken : List (List ℕ)
  left : List (List ℕ)
  is : lines ≡ taken ++ left
  counted : (follows script place lines).0 ≡ length taken
  leads : LeadsAlong script place taken (follows script place lines).1

led : {Place : Type 0} (script : Script Place) (lines : List (List ℕ)) (place : Place) → Led script place lines
led script [] place = record { taken = []; left = []; is = refl; counted = refl; leads = refl }
led {Place} script (l ∷ lines) place = by_step (script.follow place l) refl (λ next. led script lines next)
  where
    by_step : (o : Option Place) → script.follow place l ≡ o → ((next : Place) → Led script next lines) → Led script place (l ∷ lines)
    by_step None e on = (let none = follows-none script place l lines e in record { taken = []; left = l ∷ lines; is = refl; counted = ap (λ r. r.0) none; leads = ap (λ r. r.1) none })
    by_step (Some next) e on =
        let rest = on next in
        let some = follows-some script place next l lines e in
        record {
          taken = l ∷ rest.taken;
          left = rest.left;
          is = ap (λ ls. l ∷ ls) rest.is;
          counted = ap (λ r. r.0) some ∙ ap suc rest.counted;
          leads = (next, e, subst (LeadsAlong script next rest.taken) (sym (ap (λ r. r.1) some)) rest.leads);
        }

over_is : {State : Type 0} (place : LonePlace State) → is_over place ≡ true → (s : State) × (place ≡ LonePlace.at (closed s))
over_is start h = absurd (let no : ◌≡◌ {A = Bool} false true = h in cc)
over_is (LonePlace.at (heading wanted lines)) h = absurd (let no : ◌≡◌ {A = Bool} false true = h in cc)
over_is (LonePlace.at (stepping steps s)) h = absurd (let no : ◌≡◌ {A = Bool} false true = h in cc)
over_is (LonePlace.at (closed s)) h = (s, refl)

-- ---- the answer

module _ {State : Type 0} (tree : Tree State) (belongs : State → Type 0) (lawful : Lawful tree belongs) (from : State) (member : belongs from) (head : List ℕ) (h : IsHead head) (number : ℕ) (log : List ℕ) where
  abbrev script : Script (LonePlace State)
  script = lone_script tree number from

  abbrev Has : Type 0
  Has = (leaf : State) × HasSection tree from head number log leaf

  abbrev Differs : Type 0
  Differs = (line : ℕ) × Differing tree belongs lawful from member head number log line

  module _ (behind_head : List ℕ) (is : log ≡ sectioned_head head ++ behind_head) (text : List ℕ) (at : ℕ) (o : IsOpened number log 1 text at) where
    read : ℕ × LonePlace State
    read = follows script start (whole_lines text)

    there : (s : State) → (follows script start (whole_lines text)).1 ≡ LonePlace.at (closed s) → HasSection tree from head number log s
    there s over =
        let l = led script (whole_lines text) start in
        let parts = by_lines text in
        let split : text ≡ lines_text l.taken ++ (lines_text l.left ++ parts.0) =
        parts.1 ∙ ap (λ ls. lines_text ls ++ parts.0) l.is ∙ ap (λ t. t ++ parts.0) (lines_text-append l.taken l.left) ∙ append_assoc (lines_text l.taken) (lines_text l.left) parts.0 in
        let reached : Reached script start (LonePlace.at (closed s)) text (lines_text l.left ++ parts.0) (length l.taken) = record {
          lines = l.taken;
          text_is = split;
          are = (are_split l.taken l.left (subst AreLines l.is parts.2)).0;
          counted = refl;
          leads = subst (LeadsAlong script start l.taken) over l.leads;
        } in
        let front = genuine_front script start (over_at tree belongs lawful from member number) (IsGenuineSection tree from number) (described tree belongs lawful from member number) text (lines_text l.left ++ parts.0) (length l.taken) s reached in
        record { behind_head = behind_head; head_is = is; text = text; line = at; opened = o; section = front.front; after = lines_text l.left ++ parts.0; text_is = front.log_is; genuine = front.is }

    -- it is there, or what is kept is what the function counts
    there_or_not : Has ⊎ (section_reading tree from head number log ≡ Err (at + (follows script start (whole_lines text)).0))
    there_or_not = by_over (is_over (follows script start (whole_lines text)).1) refl
      where
        by_over : (t : Bool) → is_over (follows script start (whole_lines text)).1 ≡ t → Has ⊎ (section_reading tree from head number log ≡ Err (at + (follows script start (whole_lines text)).0))
        by_over true e = (let closed_at = over_is (follows script start (whole_lines text)).1 e in inl (closed_at.0, there closed_at.0 closed_at.1))
        by_over false e = inr (stopped_reading tree belongs lawful from member head number log behind_head h is text at o (follows script start (whole_lines text)).0 (follows script start (whole_lines text)).1 refl e)

    decided_here : Has ⊎ Differs
    decided_here = elim there_or_not [
      | inl has ↦ inl has
      | inr reads ↦ inr (
        at + (follows script start (whole_lines text)).0,
        differing tree belongs lawful from member head number log (at + (follows script start (whole_lines text)).0) h
            (SectionLine.in_section behind_head is text at (follows script start (whole_lines text)).0 o
            (kept script start (over_at tree belongs lawful from member number) (IsGenuineSection tree from number) (described tree belongs lawful from member number) text) refl) reads,
      )
    ]

  decided_behind : (rest : List ℕ) → log ≡ sectioned_head head ++ rest → Has ⊎ Differs
  decided_behind rest is = elim (first_opens number (whole_lines rest)) [
    | inl none ↦ inr (4 + length (whole_lines rest), no_opening lawful member head number log rest (4 + length (whole_lines rest)) h is none refl)
    | inr f ↦
        (let parts = by_lines rest in
        let are = are_split f.before (f.first ∷ f.after) (subst AreLines f.is parts.2) in
        let found : List ℕ = f.first ++ 10 ∷ (lines_text f.after ++ parts.0) in
        let split : rest ≡ lines_text f.before ++ found =
        parts.1 ∙ ap (λ ls. lines_text ls ++ parts.0) f.is ∙ ap (λ t. t ++ parts.0) (lines_text-append f.before (f.first ∷ f.after)) ∙ append_assoc (lines_text f.before) (f.first ++ 10 ∷ lines_text f.after) parts.0
        ∙ ap (λ t. lines_text f.before ++ t) (append_assoc f.first (10 ∷ lines_text f.after) parts.0) in
        let o = opened lawful member head number log rest found (4 + length f.before) h is
        (record { before = f.before; log_is = split; are = are.0; none = f.none; first = f.first; rest = lines_text f.after ++ parts.0; text_is = refl; first_lacks = are.1.0; opening = f.opening; counted = refl }) in
        decided_here rest is found (4 + length f.before) o)
  ]

  decided : Has ⊎ Differs
  decided = elim (rest_or_stop (sectioned_head_lines h) log) [
    | inl r ↦ decided_behind r.rest (r.is ∙ ap (λ t. t ++ r.rest) (sym (sectioned_head-text head h)))
    | inr s ↦ inr (
      length s.same + 1,
      stops lawful member head number log (length s.same + 1) h (record {
        same = s.same;
        wanted = s.wanted;
        others = s.others;
        front_is = head_of_two ∙ s.front_is;
        rest = s.rest;
        text_is = s.text_is;
        are = s.are;
        other = s.other;
        counted = refl;
      }),
    )
  ]
    where
      head_of_two : whole_lines (sectioned_head head) ≡ sectioned_head_lines h
      head_of_two = ap whole_lines (sectioned_head-text head h) ∙ whole_text (sectioned_head_lines h) (sectioned_head_lines_are h)

  right : IsSectionAnswer tree from head number log (section_reading tree from head number log)
  right = elim decided [
    | inl has ↦ subst (IsSectionAnswer tree from head number log) (sym (has_reading tree belongs lawful from member head number log h has.0 has.1)) has.1
    | inr d ↦ subst (IsSectionAnswer tree from head number log) (sym d.1.reads) d.1.differs
  ]

  line_alone : (line : ℕ) → SectionDiffers tree from head number log line → Err line ≡ section_reading tree from head number log
  line_alone line d = by_rule d.line_is
    where
      by_rule : SectionLine tree from head number log line → Err line ≡ section_reading tree from head number log
      by_rule (SectionLine.other_head s) = sym (stops_reading tree belongs lawful from member head number log line s)
      by_rule (SectionLine.no_opening rest is none line_is) = sym (unopened_reading tree belongs lawful from member head number log rest line h is none line_is)
      by_rule (SectionLine.in_section rest is text at n o is_kept line_is) = elim (there_or_not rest is text at o) [
        | inl has ↦ absurd (d.none has.0 has.1)
        | inr reads ↦
            (let mine = kept script start (over_at tree belongs lawful from member number) (IsGenuineSection tree from number) (described tree belongs lawful from member number) text in
            let low : n ≤ (follows script start (whole_lines text)).0 = mine.most n is_kept.begins in
            let high : (follows script start (whole_lines text)).0 ≤ n = is_kept.most (follows script start (whole_lines text)).0 mine.begins in
            let same : line ≡ at + (follows script start (whole_lines text)).0 = omega (arith, low, high, line_is) in
            ap Err same ∙ sym reads)
      ]

  pub exact_section : IsExactSection tree from head number log
  exact_section = record { right = right; alone = alone }
    where
      alone : (answer : Result State ℕ) → IsSectionAnswer tree from head number log answer → answer ≡ section_reading tree from head number log
      alone (Ok leaf) has = sym (has_reading tree belongs lawful from member head number log h leaf has)
      alone (Err line) d = line_alone line d
