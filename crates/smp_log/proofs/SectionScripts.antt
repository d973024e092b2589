-- The script of logs of version 2 accepts the lines of genuine ones, and no others.
use Rattle.std.proofs.Common.{◌≡◌, ◌≢◌, ℕ, zero, suc, ◌+◌, ◌-◌, ◌<◌, ◌≤◌, ◌==◌, nat_lt, Bool, true, false, cond, List, [], ◌∷◌, ◌++◌, length, map, Option, Some, None, option_map, refl, sym, ap, ◌∙◌, subst, arith, append_assoc, inl, inr}
use Rattle.std.specs.Str.{bytes_eq}
use Rattle.std.proofs.lemmas.Slice.Eq.{bytes_eq-Decides}
use Rattle.std.proofs.lemmas.Bool.{cases_Bool, eqb-true, eqb-false, eq-eqb, ne_eqb, lt-ltb, le-ltb, ltb-true}
use Rattle.smp_split.specs.{Trees.{Tree, Lawful, weight_sum, picked}, Paths.{Entry, Leads, entry_at, values_of}}
use Rattle.smp_split.specs.{Laws.Steps.{picked_is_part, picked_belongs}, Sectioning.{Sectioning, IsSectioned}}
use Rattle.smp_split.proofs.Paths.{below}
use Rattle.smp_log.specs.{Reading.{Script, step_line, end_line, step_value}, SectionLogs.{placed, tape_place}}
use Rattle.smp_log.proofs.{StepsIn.{steps_before, steps_in}, StepLines.{step_value-is, step_value-line}, Scripts.{Accepts, Ends}}
use Rattle.smp_log.specs.SectionReading.{stratum_line, done_line, SectionPlace, heading, opening, inside, closed, before, section_script, taken_at}
use Rattle.smp_log.proofs.{HeadLines.{AreHeads, HasHead, behind_head, has_head}, Options.{mapped, some_cond}}

-- ---- the lines of sections

-- the lines of a section, where so many values were taken before these steps
abbrev pub section_lines : ℕ → List (ℕ × Entry) → ℕ → List (List ℕ)
section_lines taken steps h = stratum_line (h + 1) (taken + tape_place (steps_before h steps)) ∷ (map step_line (steps_in h steps) ++ done_line (h + 1) (length (steps_in h steps)) ∷ [])

-- k sections from h on, and the last line, where so many steps stand before these
abbrev pub open_lines : ℕ → ℕ → ℕ → ℕ → List (ℕ × Entry) → List (List ℕ)
open_lines h zero taken n steps = end_line (n + length steps) ∷ []
open_lines h (suc k) taken n steps = section_lines taken steps h ++ open_lines (h + 1) k taken n steps

-- the same inside section h, of which `own` steps stand before these
abbrev pub inside_lines : ℕ → ℕ → ℕ → ℕ → ℕ → List (ℕ × Entry) → List (List ℕ)
inside_lines h k taken n own steps = map step_line (steps_in h steps) ++ done_line (h + 1) (own + length (steps_in h steps)) ∷ open_lines (h + 1) k taken n steps

-- a step takes a value of the tape unless its bound is 1
pub tape_place-step : (l : Entry) (path : List Entry) → tape_place (l ∷ path) ≡ cond (nat_lt 1 l.1) 1 0 + tape_place path
tape_place-step l path = by_bound (nat_lt 1 l.1)
  where
    by_bound : (b : Bool) → length (cond b (l.2 ∷ values_of path) (values_of path)) ≡ cond b 1 0 + length (values_of path)
    by_bound true = omega arith
    by_bound false = omega arith

-- a step of an earlier section
step_lines_earlier : (h g taken : ℕ) (l : Entry) (steps : List (ℕ × Entry)) → g < h → section_lines taken ((g, l) ∷ steps) h ≡ section_lines (taken + cond (nat_lt 1 l.1) 1 0) steps h
step_lines_earlier h g taken l steps less =
    let other : (g == h) ≡ false = ne_eqb g h (λ e. omega arith) in
    let earlier : nat_lt g h ≡ true = lt-ltb g h less in
    let own : steps_in h ((g, l) ∷ steps) ≡ steps_in h steps = rw other refl in
    let first : steps_before h ((g, l) ∷ steps) ≡ l ∷ steps_before h steps = rw earlier refl in
    let place : tape_place (steps_before h ((g, l) ∷ steps)) ≡ cond (nat_lt 1 l.1) 1 0 + tape_place (steps_before h steps) = ap tape_place first ∙ tape_place-step l (steps_before h steps) in
    let count : taken + tape_place (steps_before h ((g, l) ∷ steps)) ≡ taken + cond (nat_lt 1 l.1) 1 0 + tape_place (steps_before h steps) = omega (arith, place) in
    ap (λ ls. stratum_line (h + 1) (taken + tape_place (steps_before h ((g, l) ∷ steps))) ∷ (map step_line ls ++ done_line (h + 1) (length ls) ∷ [])) own
    ∙ ap (λ c. stratum_line (h + 1) c ∷ (map step_line (steps_in h steps) ++ done_line (h + 1) (length (steps_in h steps)) ∷ [])) count

open_lines-earlier : (k h g taken n : ℕ) (l : Entry) (steps : List (ℕ × Entry)) → g < h → open_lines h k taken n ((g, l) ∷ steps) ≡ open_lines h k (taken + cond (nat_lt 1 l.1) 1 0) (n + 1) steps
open_lines-earlier zero h g taken n l steps less = (let count : n + suc (length steps) ≡ n + 1 + length steps = omega arith in ap (λ c. end_line c ∷ []) count)
open_lines-earlier (suc k) h g taken n l steps less =
    ap (λ ls. ls ++ open_lines (h + 1) k taken n ((g, l) ∷ steps)) (step_lines_earlier h g taken l steps less)
    ∙ ap (λ ls. section_lines (taken + cond (nat_lt 1 l.1) 1 0) steps h ++ ls) (open_lines-earlier k (h + 1) g taken n l steps (omega arith))

-- a step of the section itself
pub inside_lines-step : (h g k taken n own : ℕ) (l : Entry) (steps : List (ℕ × Entry)) → g ≡ h → inside_lines h k taken n own ((g, l) ∷ steps) ≡ step_line l ∷ inside_lines h k (taken + cond (nat_lt 1 l.1) 1 0) (n + 1) (own + 1) steps
inside_lines-step h g k taken n own l steps is =
    let same : (g == h) ≡ true = eq-eqb g h is in
    let first : steps_in h ((g, l) ∷ steps) ≡ l ∷ steps_in h steps = rw same refl in
    let count : own + suc (length (steps_in h steps)) ≡ own + 1 + length (steps_in h steps) = omega arith in
    ap (λ ls. map step_line ls ++ done_line (h + 1) (own + length ls) ∷ open_lines (h + 1) k taken n ((g, l) ∷ steps)) first
    ∙ ap (λ c. step_line l ∷ (map step_line (steps_in h steps) ++ done_line (h + 1) c ∷ open_lines (h + 1) k taken n ((g, l) ∷ steps))) count
    ∙ ap (λ ls. step_line l ∷ (map step_line (steps_in h steps) ++ done_line (h + 1) (own + 1 + length (steps_in h steps)) ∷ ls)) (open_lines-earlier k (h + 1) g taken n l steps (omega arith))

-- ---- steps of later sections alone

abbrev pub AllFrom : ℕ → List (ℕ × Entry) → Type 0
AllFrom m [] = Unit {0}
AllFrom m (e ∷ steps) = (m ≤ e.0) × AllFrom m steps

pub all_from_less : (m n : ℕ) (steps : List (ℕ × Entry)) → m ≤ n → AllFrom n steps → AllFrom m steps
all_from_less m n [] le h = tt
all_from_less m n (e ∷ steps) le h = (omega (arith, h.0), all_from_less m n steps le h.1)

none_in : (h m : ℕ) (steps : List (ℕ × Entry)) → h < m → AllFrom m steps → steps_in h steps ≡ []
none_in h m [] less from = refl
none_in h m (e ∷ steps) less from =
    let other : (e.0 == h) ≡ false = ne_eqb e.0 h (λ is. omega (arith, from.0, is)) in
    rw other (none_in h m steps less from.1)

none_before : (h m : ℕ) (steps : List (ℕ × Entry)) → h ≤ m → AllFrom m steps → steps_before h steps ≡ []
none_before h m [] less from = refl
none_before h m (e ∷ steps) less from =
    let later : nat_lt e.0 h ≡ false = le-ltb e.0 h (omega (arith, from.0)) in
    rw later (none_before h m steps less from.1)

pub inside_lines-leave : (h m k taken n own : ℕ) (steps : List (ℕ × Entry)) → h < m → AllFrom m steps → inside_lines h k taken n own steps ≡ done_line (h + 1) own ∷ open_lines (h + 1) k taken n steps
inside_lines-leave h m k taken n own steps less from =
    let none = none_in h m steps less from in
    let count : own + 0 ≡ own = omega arith in
    ap (λ ls. map step_line ls ++ done_line (h + 1) (own + length ls) ∷ open_lines (h + 1) k taken n steps) none ∙ ap (λ c. done_line (h + 1) c ∷ open_lines (h + 1) k taken n steps) count

pub open_lines-enter : (h m k taken n : ℕ) (steps : List (ℕ × Entry)) → h ≤ m → AllFrom m steps → open_lines h (suc k) taken n steps ≡ stratum_line (h + 1) taken ∷ inside_lines h k taken n 0 steps
open_lines-enter h m k taken n steps le from =
    let none = none_before h m steps le from in
    let count : taken + 0 ≡ taken = omega arith in
    let own : length (steps_in h steps) ≡ 0 + length (steps_in h steps) = omega arith in
    ap (λ ls. (stratum_line (h + 1) (taken + tape_place ls) ∷ (map step_line (steps_in h steps) ++ done_line (h + 1) (length (steps_in h steps)) ∷ [])) ++ open_lines (h + 1) k taken n steps) none
    ∙ ap (λ c. stratum_line (h + 1) c ∷ ((map step_line (steps_in h steps) ++ done_line (h + 1) (length (steps_in h steps)) ∷ []) ++ open_lines (h + 1) k taken n steps)) count
    ∙ ap (λ ls. stratum_line (h + 1) taken ∷ ls) (append_assoc (map step_line (steps_in h steps)) (done_line (h + 1) (length (steps_in h steps)) ∷ []) (open_lines (h + 1) k taken n steps))
    ∙ ap (λ c. stratum_line (h + 1) taken ∷ (map step_line (steps_in h steps) ++ done_line (h + 1) c ∷ open_lines (h + 1) k taken n steps)) own

module _ {State : Type 0} (tree : Tree State) (belongs : State → Type 0) (lawful : Lawful tree belongs) (sections : Sectioning State) (sectioned : IsSectioned tree belongs sections) (from : State) (member : belongs from) where
  abbrev pub script : Script (SectionPlace State)
  script = section_script tree sections from

  -- ---- what a section is about

  pub later_section : (s : State) (v : ℕ) → belongs s → tree.done s ≡ false → v < weight_sum (tree.parts s) → sections.of s ≤ sections.of (picked s (tree.parts s) v)
  later_section s v b e within = picked_is_part (λ p. sections.of s ≤ sections.of p.state) (λ t. sections.of s ≤ sections.of t) (λ p h. h) s (tree.parts s) v (sectioned.rises s b e) within

  pub placed_from : (path : List Entry) (s leaf : State) → belongs s → Leads tree s path leaf → AllFrom (sections.of s) (placed tree sections s path)
  placed_from [] s leaf b leads = tt
  placed_from (l ∷ path) s leaf b leads =
      let within : l.2 < weight_sum (tree.parts s) = rw leads.0.bound at leads.0.value in
      let next : State = picked s (tree.parts s) l.2 in
      let b' : belongs next = picked_belongs tree belongs lawful s next l.2 b leads.0.going within refl in
      (omega arith, all_from_less (sections.of s) (sections.of next) (placed tree sections next path) (later_section s l.2 b leads.0.going within) (placed_from path next leaf b' leads.1))

  pub going_here : (s : State) → belongs s → sections.of s < sections.count → tree.done s ≡ false
  going_here s b less = elim (cases_Bool (tree.done s)) [
    | inl e ↦ absurd (let at : sections.of s ≡ sections.count = sectioned.done s b e in omega arith)
    | inr e ↦ e
  ]

  pub done_here : (s : State) → belongs s → sections.count ≤ sections.of s → tree.done s ≡ true
  done_here s b le = elim (cases_Bool (tree.done s)) [
    | inl e ↦ e
    | inr e ↦ absurd (let at : sections.of s < sections.count = sectioned.going s b e in omega arith)
  ]

  -- ---- one line

  follow_inside : (h taken n own : ℕ) (s : State) (line : List ℕ) → (sections.of s == h) ≡ true → script.follow (inside h taken n own s) line ≡ option_map (λ v. inside h (taken + taken_at tree s) (n + 1) (own + 1) (picked s (tree.parts s) v)) (step_value (tree.kind s) (weight_sum (tree.parts s)) line)
  follow_inside h taken n own s line e = rw e refl

  follow_leave : (h taken n own : ℕ) (s : State) (line : List ℕ) → (sections.of s == h) ≡ false → script.follow (inside h taken n own s) line ≡ cond (bytes_eq line (done_line (h + 1) own)) (Some (opening (h + 1) taken n s)) None
  follow_leave h taken n own s line e = rw e refl

  follow_enter : (h taken n : ℕ) (s : State) (line : List ℕ) → nat_lt h sections.count ≡ true → script.follow (opening h taken n s) line ≡ cond (bytes_eq line (stratum_line (h + 1) taken)) (Some (inside h taken n 0 s)) None
  follow_enter h taken n s line e = rw e refl

  follow_end : (h taken n : ℕ) (s : State) (line : List ℕ) → nat_lt h sections.count ≡ false → script.follow (opening h taken n s) line ≡ cond (bytes_eq line (end_line n)) (Some (closed s)) None
  follow_end h taken n s line e = rw e refl

  same_line : (line : List ℕ) (next : SectionPlace State) → cond (bytes_eq line line) (Some next) None ≡ Some next
  same_line line next = ap (λ (b : Bool). cond b (Some next) None) ((bytes_eq-Decides line line).1 refl)

  -- ---- the lines of a path are accepted

  abbrev Opens : ℕ → Type 0
  Opens k = (h taken n : ℕ) (path : List Entry) (s leaf : State) → h + k ≡ sections.count → h ≤ sections.of s → belongs s → Leads tree s path leaf → tree.done leaf ≡ true → Accepts script (opening h taken n s) (open_lines h k taken n (placed tree sections s path)) (closed leaf)

  leave_accepted : (k : ℕ) → Opens k → (h taken n own : ℕ) (path : List Entry) (s leaf : State) → h + suc k ≡ sections.count → h < sections.of s → belongs s → Leads tree s path leaf → tree.done leaf ≡ true → Accepts script (inside h taken n own s) (inside_lines h k taken n own (placed tree sections s path)) (closed leaf)
  leave_accepted k opens h taken n own path s leaf at less b leads done =
      let other : (sections.of s == h) ≡ false = ne_eqb (sections.of s) h (λ e. omega arith) in
      let step : script.follow (inside h taken n own s) (done_line (h + 1) own) ≡ Some (opening (h + 1) taken n s) = follow_leave h taken n own s (done_line (h + 1) own) other ∙ same_line (done_line (h + 1) own) (opening (h + 1) taken n s) in
      subst (λ ls. Accepts script (inside h taken n own s) ls (closed leaf)) (sym (inside_lines-leave h (sections.of s) k taken n own (placed tree sections s path) less (placed_from path s leaf b leads)))
      (opening (h + 1) taken n s, step, opens (h + 1) taken n path s leaf (omega arith) (omega arith) b leads done)

  inside_accepted : (k : ℕ) → Opens k → (path : List Entry) (h taken n own : ℕ) (s leaf : State) → h + suc k ≡ sections.count → h ≤ sections.of s → belongs s → Leads tree s path leaf → tree.done leaf ≡ true → Accepts script (inside h taken n own s) (inside_lines h k taken n own (placed tree sections s path)) (closed leaf)
  inside_accepted k opens [] h taken n own s leaf at le b leads done =
      let e : tree.done s ≡ true = subst (λ t. tree.done t ≡ true) leads done in
      let end : sections.of s ≡ sections.count = sectioned.done s b e in
      leave_accepted k opens h taken n own [] s leaf at (omega arith) b leads done
  inside_accepted k opens (l ∷ path) h taken n own s leaf at le b leads done = elim (cases_Bool (sections.of s == h)) [
    | inl e ↦
        (let is : sections.of s ≡ h = eqb-true (sections.of s) h e in
        let within : l.2 < weight_sum (tree.parts s) = rw leads.0.bound at leads.0.value in
        let next : State = picked s (tree.parts s) l.2 in
        let b' : belongs next = picked_belongs tree belongs lawful s next l.2 b leads.0.going within refl in
        let later : sections.of s ≤ sections.of next = later_section s l.2 b leads.0.going within in
        let is_line : ◌≡◌ {A = Entry} (entry_at tree s l.2) l = (λ i. ((sym leads.0.kind) i, (sym leads.0.bound) i, l.2)) in
        let read : step_value (tree.kind s) (weight_sum (tree.parts s)) (step_line l) ≡ Some l.2 = ap (λ (m : Entry). step_value (tree.kind s) (weight_sum (tree.parts s)) (step_line m)) (sym is_line) ∙ step_value-line (tree.kind s) (weight_sum (tree.parts s)) l.2 within (lawful.split s b leads.0.going).narrow in
        let step : script.follow (inside h taken n own s) (step_line l) ≡ Some (inside h (taken + taken_at tree s) (n + 1) (own + 1) next) =
        follow_inside h taken n own s (step_line l) e ∙ ap (option_map (λ v. inside h (taken + taken_at tree s) (n + 1) (own + 1) (picked s (tree.parts s) v))) read in
        let same_taken : taken + taken_at tree s ≡ taken + cond (nat_lt 1 l.1) 1 0 = ap (λ x. taken + cond (nat_lt 1 x) 1 0) (sym leads.0.bound) in
        let lines : inside_lines h k taken n own (placed tree sections s (l ∷ path)) ≡ step_line l ∷ inside_lines h k (taken + taken_at tree s) (n + 1) (own + 1) (placed tree sections next path) =
        inside_lines-step h (sections.of s) k taken n own l (placed tree sections next path) is ∙ ap (λ t. step_line l ∷ inside_lines h k t (n + 1) (own + 1) (placed tree sections next path)) (sym same_taken) in
        subst (λ ls. Accepts script (inside h taken n own s) ls (closed leaf)) (sym lines)
        (inside h (taken + taken_at tree s) (n + 1) (own + 1) next, step, inside_accepted k opens path h (taken + taken_at tree s) (n + 1) (own + 1) next leaf at (omega arith) b' leads.1 done))
    | inr e ↦ (let no : sections.of s ≢ h = eqb-false (sections.of s) h e in leave_accepted k opens h taken n own (l ∷ path) s leaf at (omega arith) b leads done)
  ]

  pub open_accepted : (k : ℕ) → Opens k
  open_accepted zero h taken n path s leaf at le b leads done =
      let e : tree.done s ≡ true = done_here s b (omega arith) in
      let last : nat_lt h sections.count ≡ false = le-ltb h sections.count (omega arith) in
      let w = ends_here path leads e in
      let steps : placed tree sections s path ≡ [] = ap (placed tree sections s) w.0 in
      let none : n + 0 ≡ n = omega arith in
      let lines : open_lines h 0 taken n (placed tree sections s path) ≡ end_line n ∷ [] = ap (λ ps. end_line (n + length ps) ∷ []) steps ∙ ap (λ c. end_line c ∷ []) none in
      subst (λ ls. Accepts script (opening h taken n s) ls (closed leaf)) (sym lines)
      (closed s, follow_end h taken n s (end_line n) last ∙ same_line (end_line n) (closed s), (ap closed w.1, refl))
    where
      ends_here : (path : List Entry) → Leads tree s path leaf → tree.done s ≡ true → (path ≡ []) × (leaf ≡ s)
      ends_here [] leads e = (refl, leads)
      ends_here (l ∷ path) leads e = absurd (let no : true ≡ false = sym e ∙ leads.0.going in cc)
  open_accepted (suc k) h taken n path s leaf at le b leads done =
      let more : nat_lt h sections.count ≡ true = lt-ltb h sections.count (omega arith) in
      let step : script.follow (opening h taken n s) (stratum_line (h + 1) taken) ≡ Some (inside h taken n 0 s) = follow_enter h taken n s (stratum_line (h + 1) taken) more ∙ same_line (stratum_line (h + 1) taken) (inside h taken n 0 s) in
      subst (λ ls. Accepts script (opening h taken n s) ls (closed leaf)) (sym (open_lines-enter h (sections.of s) k taken n (placed tree sections s path) le (placed_from path s leaf b leads)))
      (inside h taken n 0 s, step, inside_accepted k (open_accepted k) path h taken n 0 s leaf at le b leads done)

  -- ---- accepted lines are those of a path

  -- a path to a leaf, by whose steps these are the lines
  pub record HasSections (s : State) (to : SectionPlace State) (lines : List (List ℕ)) (lines_of : List (ℕ × Entry) → List (List ℕ)) : Type 0 where
    pub leaf : State
    pub path : List Entry
    pub leads : Leads tree s path leaf
    pub done : tree.done leaf ≡ true
    pub lines_are : lines ≡ lines_of (placed tree sections s path)
    pub end : to ≡ closed leaf

  closed_end : (s : State) (lines : List (List ℕ)) (to : SectionPlace State) → Accepts script (closed s) lines to → (lines ≡ []) × (to ≡ closed s)
  closed_end s [] to h = (refl, h.0)
  closed_end s (line ∷ lines) to h = absurd (let none : ◌≡◌ {A = Option (SectionPlace State)} None (Some h.0) = h.1 in cc)

  abbrev FromOpening : List (List ℕ) → Type 0
  FromOpening lines = (k h taken n : ℕ) (s : State) (to : SectionPlace State) → h + k ≡ sections.count → h ≤ sections.of s → belongs s → Accepts script (opening h taken n s) lines to → HasSections s to lines (open_lines h k taken n)

  abbrev FromInside : List (List ℕ) → Type 0
  FromInside lines = (k h taken n own : ℕ) (s : State) (to : SectionPlace State) → h + suc k ≡ sections.count → h ≤ sections.of s → belongs s → Accepts script (inside h taken n own s) lines to → HasSections s to lines (inside_lines h k taken n own)

  at_last : (line : List ℕ) (lines : List (List ℕ)) (h taken n : ℕ) (s : State) (to next : SectionPlace State) → sections.count ≤ h → h ≤ sections.of s → belongs s → script.follow (opening h taken n s) line ≡ Some next → Accepts script next lines to → HasSections s to (line ∷ lines) (open_lines h 0 taken n)
  at_last line lines h taken n s to next high le b follows rest =
      let last : nat_lt h sections.count ≡ false = le-ltb h sections.count high in
      let test = some_cond (bytes_eq line (end_line n)) (closed s) next (sym (follow_end h taken n s line last) ∙ follows) in
      let end = closed_end s lines to (subst (λ p. Accepts script p lines to) (sym test.1) rest) in
      let none : n ≡ n + 0 = omega arith in
      record {
        leaf = s;
        path = [];
        leads = refl;
        done = done_here s b (omega arith);
        lines_are = ap (λ l. l ∷ lines) ((bytes_eq-Decides line (end_line n)).0 test.0) ∙ ap (λ ls. end_line n ∷ ls) end.0 ∙ ap (λ c. end_line c ∷ []) none;
        end = end.1;
      }

  -- a line before them that is of no step
  line_more : {s : State} {to : SectionPlace State} {lines : List (List ℕ)} {lines_of more_of : List (ℕ × Entry) → List (List ℕ)} (line first : List ℕ) → line ≡ first → (on : HasSections s to lines lines_of) → more_of (placed tree sections s on.path) ≡ first ∷ lines_of (placed tree sections s on.path) → HasSections s to (line ∷ lines) more_of
  line_more {lines} line first is on more = record {
    leaf = on.leaf;
    path = on.path;
    leads = on.leads;
    done = on.done;
    lines_are = ap (λ l. l ∷ lines) is ∙ ap (λ ls. first ∷ ls) on.lines_are ∙ sym more;
    end = on.end;
  }

  at_enter : (line : List ℕ) (lines : List (List ℕ)) → FromInside lines → (k h taken n : ℕ) (s : State) (to next : SectionPlace State) → h + suc k ≡ sections.count → h ≤ sections.of s → belongs s → script.follow (opening h taken n s) line ≡ Some next → Accepts script next lines to → HasSections s to (line ∷ lines) (open_lines h (suc k) taken n)
  at_enter line lines inner k h taken n s to next at le b follows rest =
      let more : nat_lt h sections.count ≡ true = lt-ltb h sections.count (omega arith) in
      let test = some_cond (bytes_eq line (stratum_line (h + 1) taken)) (inside h taken n 0 s) next (sym (follow_enter h taken n s line more) ∙ follows) in
      let on = inner k h taken n 0 s to at le b (subst (λ p. Accepts script p lines to) (sym test.1) rest) in
      line_more line (stratum_line (h + 1) taken) ((bytes_eq-Decides line (stratum_line (h + 1) taken)).0 test.0) on
      (open_lines-enter h (sections.of s) k taken n (placed tree sections s on.path) le (placed_from on.path s on.leaf b on.leads))

  at_step : (line : List ℕ) (lines : List (List ℕ)) → FromInside lines → (k h taken n own : ℕ) (s : State) (to next : SectionPlace State) → h + suc k ≡ sections.count → belongs s → sections.of s ≡ h → script.follow (inside h taken n own s) line ≡ Some next → Accepts script next lines to → HasSections s to (line ∷ lines) (inside_lines h k taken n own)
  at_step line lines inner k h taken n own s to next at b is follows rest =
      let e : (sections.of s == h) ≡ true = eq-eqb (sections.of s) h is in
      let going : tree.done s ≡ false = going_here s b (omega arith) in
      let step = mapped (λ v. inside h (taken + taken_at tree s) (n + 1) (own + 1) (picked s (tree.parts s) v)) (step_value (tree.kind s) (weight_sum (tree.parts s)) line) next (sym (follow_inside h taken n own s line e) ∙ follows) in
      let value = step_value-is (tree.kind s) (weight_sum (tree.parts s)) step.value line step.is in
      let t : State = picked s (tree.parts s) step.value in
      let b' : belongs t = picked_belongs tree belongs lawful s t step.value b going value.1 refl in
      let later : sections.of s ≤ sections.of t = later_section s step.value b going value.1 in
      let on = inner k h (taken + taken_at tree s) (n + 1) (own + 1) t to at (omega arith) b' (subst (λ p. Accepts script p lines to) (sym step.gives) rest) in
      record {
        leaf = on.leaf;
        path = entry_at tree s step.value ∷ on.path;
        leads = (record { going = going; kind = refl; bound = refl; value = value.1 }, on.leads);
        done = on.done;
        lines_are = ap (λ l. l ∷ lines) value.0 ∙ ap (λ ls. step_line (entry_at tree s step.value) ∷ ls) on.lines_are
            ∙ sym (inside_lines-step h (sections.of s) k taken n own (entry_at tree s step.value) (placed tree sections t on.path) is);
        end = on.end;
      }

  at_leave : (line : List ℕ) (lines : List (List ℕ)) → FromOpening lines → (k h taken n own : ℕ) (s : State) (to next : SectionPlace State) → h + suc k ≡ sections.count → h < sections.of s → belongs s → script.follow (inside h taken n own s) line ≡ Some next → Accepts script next lines to → HasSections s to (line ∷ lines) (inside_lines h k taken n own)
  at_leave line lines outer k h taken n own s to next at less b follows rest =
      let other : (sections.of s == h) ≡ false = ne_eqb (sections.of s) h (λ e. omega arith) in
      let test = some_cond (bytes_eq line (done_line (h + 1) own)) (opening (h + 1) taken n s) next (sym (follow_leave h taken n own s line other) ∙ follows) in
      let on = outer k (h + 1) taken n s to (omega arith) (omega arith) b (subst (λ p. Accepts script p lines to) (sym test.1) rest) in
      line_more line (done_line (h + 1) own) ((bytes_eq-Decides line (done_line (h + 1) own)).0 test.0) on
      (inside_lines-leave h (sections.of s) k taken n own (placed tree sections s on.path) less (placed_from on.path s on.leaf b on.leads))

  from_line : (line : List ℕ) (lines : List (List ℕ)) → FromOpening lines → FromInside lines → FromOpening (line ∷ lines)
  from_line line lines outer inner zero h taken n s to at le b h' = at_last line lines h taken n s to h'.0 (omega arith) le b h'.1 h'.2
  from_line line lines outer inner (suc k) h taken n s to at le b h' = at_enter line lines inner k h taken n s to h'.0 at le b h'.1 h'.2

  from_line_inside : (line : List ℕ) (lines : List (List ℕ)) → FromOpening lines → FromInside lines → FromInside (line ∷ lines)
  from_line_inside line lines outer inner k h taken n own s to at le b h' = elim (cases_Bool (sections.of s == h)) [
    | inl e ↦ at_step line lines inner k h taken n own s to h'.0 at b (eqb-true (sections.of s) h e) h'.1 h'.2
    | inr e ↦ (let no : sections.of s ≢ h = eqb-false (sections.of s) h e in at_leave line lines outer k h taken n own s to h'.0 at (omega arith) b h'.1 h'.2)
  ]

  from_lines : (lines : List (List ℕ)) → FromOpening lines × FromInside lines
  from_lines [] = (
    λ k h taken n s to at le b h'. absurd (let no : ◌≡◌ {A = Bool} false true = h'.1 in cc),
    λ k h taken n own s to at le b h'. absurd (let no : ◌≡◌ {A = Bool} false true = h'.1 in cc),
  )
  from_lines (line ∷ lines) = (let rest = from_lines lines in (from_line line lines rest.0 rest.1, from_line_inside line lines rest.0 rest.1))

  pub accepted_opening : (lines : List (List ℕ)) → FromOpening lines
  accepted_opening lines = (from_lines lines).0

  -- ---- from each place some lines lead to an end

  abbrev pub Good : SectionPlace State → Type 0
  Good (heading wanted lines) = Unit {0}
  Good (opening h taken n s) = belongs s × (h ≤ sections.count) × (h ≤ sections.of s)
  Good (inside h taken n own s) = belongs s × (h < sections.count) × (h ≤ sections.of s)
  Good (closed s) = Unit {0}

  pub good_before : (hs : List (List ℕ)) → Good (before from hs)
  good_before [] = (member, omega arith, omega arith)
  good_before (x ∷ hs) = tt

  pub keeps : (place next : SectionPlace State) (line : List ℕ) → Good place → script.follow place line ≡ Some next → Good next
  keeps (heading x hs) next line good h = subst Good ((some_cond (bytes_eq line x) (before from hs) next h).1) (good_before hs)
  keeps (opening h taken n s) next line good follows = elim (cases_Bool (nat_lt h sections.count)) [
    | inl e ↦
        (let test = some_cond (bytes_eq line (stratum_line (h + 1) taken)) (inside h taken n 0 s) next (sym (follow_enter h taken n s line e) ∙ follows) in
        subst Good test.1 (good.0, ltb-true h sections.count e, good.2))
    | inr e ↦
        (let test = some_cond (bytes_eq line (end_line n)) (closed s) next (sym (follow_end h taken n s line e) ∙ follows) in
        subst Good test.1 tt)
  ]
  keeps (inside h taken n own s) next line good follows = elim (cases_Bool (sections.of s == h)) [
    | inl e ↦
        (let is : sections.of s ≡ h = eqb-true (sections.of s) h e in
        let less : h < sections.count = good.1 in
        let going : tree.done s ≡ false = going_here s good.0 (omega arith) in
        let step = mapped (λ v. inside h (taken + taken_at tree s) (n + 1) (own + 1) (picked s (tree.parts s) v)) (step_value (tree.kind s) (weight_sum (tree.parts s)) line) next (sym (follow_inside h taken n own s line e) ∙ follows) in
        let value = step_value-is (tree.kind s) (weight_sum (tree.parts s)) step.value line step.is in
        let t : State = picked s (tree.parts s) step.value in
        let later : sections.of s ≤ sections.of t = later_section s step.value good.0 going value.1 in
        subst Good step.gives (picked_belongs tree belongs lawful s t step.value good.0 going value.1 refl, less, omega arith))
    | inr e ↦
        (let no : sections.of s ≢ h = eqb-false (sections.of s) h e in
        let le : h ≤ sections.of s = good.2 in
        let less : h < sections.count = good.1 in
        let test = some_cond (bytes_eq line (done_line (h + 1) own)) (opening (h + 1) taken n s) next (sym (follow_leave h taken n own s line e) ∙ follows) in
        subst Good test.1 (good.0, omega arith, omega arith))
  ]
  keeps (closed s) next line good h = absurd (let none : ◌≡◌ {A = Option (SectionPlace State)} None (Some next) = h in cc)

  -- ---- the lines of a head

  are_heads : AreHeads script (before from)
  are_heads = record { takes = λ x hs line. refl; goes_on = λ x hs. refl }

  pub head_accepted : (hs lines : List (List ℕ)) (to : SectionPlace State) → Accepts script (opening 0 0 0 from) lines to → Accepts script (before from hs) (hs ++ lines) to
  head_accepted = behind_head script (before from) are_heads

  pub accepted_head : (hs lines : List (List ℕ)) (to : SectionPlace State) → Accepts script (before from hs) lines to → HasHead script (opening 0 0 0 from) hs lines to
  accepted_head = has_head script (before from) are_heads

  opening_ends : (h taken n : ℕ) (s : State) → belongs s → h ≤ sections.count → h ≤ sections.of s → Ends script (opening h taken n s)
  opening_ends h taken n s b high le =
      let on = below tree belongs lawful s b in
      let split = gap h sections.count high in
      record { lines = open_lines h split.0 taken n (placed tree sections s on.path); to = closed on.leaf; accepted = open_accepted split.0 h taken n on.path s on.leaf split.1 le b on.leads on.done }
    where
      gap : (a c : ℕ) → a ≤ c → (k : ℕ) × (a + k ≡ c)
      gap a c h = (c - a, omega arith)

  pub each_ends : (place : SectionPlace State) → Good place → Ends script place
  each_ends (heading x hs) good =
      let end = opening_ends 0 0 0 from member (omega arith) (omega arith) in
      record { lines = x ∷ hs ++ end.lines; to = end.to; accepted = head_accepted (x ∷ hs) end.lines end.to end.accepted }
  each_ends (opening h taken n s) good = opening_ends h taken n s good.0 good.1 good.2
  each_ends (inside h taken n own s) good =
      let on = below tree belongs lawful s good.0 in
      let split = gap h sections.count good.1 in
      record { lines = inside_lines h split.0 taken n own (placed tree sections s on.path); to = closed on.leaf; accepted = inside_accepted split.0 (open_accepted split.0) on.path h taken n own s on.leaf split.1 good.2 good.0 on.leads on.done }
    where
      gap : (a c : ℕ) → a < c → (k : ℕ) × (a + suc k ≡ c)
      gap a c h = (c - a - 1, omega arith)
  each_ends (closed s) good = record { lines = []; to = closed s; accepted = (refl, refl) }
