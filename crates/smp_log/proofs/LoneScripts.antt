-- The script of one section describes the genuine ones.
use Rattle.std.proofs.Common.{◌≡◌, ℕ, ◌+◌, ◌^◌, ◌<◌, nat_lt, Bool, true, false, cond, List, [], ◌∷◌, ◌++◌, length, map, Option, Some, None, option_map, refl, sym, ap, ◌∙◌, subst, arith, append_assoc, codes}
use Rattle.std.specs.{Prelude.{option_and_then}, Fmt.{decimal}}
use Rattle.std.proofs.lemmas.Bool.{ltb-true, lt-ltb}
use Rattle.smp_split.specs.{Trees.{Tree, Lawful}, Paths.{Entry}}
use Rattle.smp_log.specs.{Lines.{whole_lines, lines_text, AreLines}, SectionLogs.{lone_text}, SectionReading.{stratum_line, done_line}}
use Rattle.smp_log.specs.Reading.{behind, written, below, step_line, Script, LogPlace, stepping, closed, log_script}
use Rattle.smp_log.specs.LoneSections.{IsGenuineSection, opening_words, place_of, LonePlace, start, at, lone_script}
use Rattle.smp_log.proofs.{Texts.{behind-append, behind-is}, Numbers.{written-decimal, written-is}, Options.{goes_on, mapped}}
use Rattle.smp_log.proofs.{Scripts.{Accepts, Ends}, Described.{Describes, IsAccepted, IsLog, whole_text}}
use Rattle.smp_log.proofs.Logs.{lines_after, path_accepted, accepted_path, Good, keeps, each_ends}
use Rattle.smp_log.proofs.KeptSections.{lone_lines, lone_lines_are}

-- ---- the opening line

opening_line : (number place : ℕ) → stratum_line number place ≡ opening_words number ++ decimal place
opening_line number place =
    let word : List ℕ = codes "stratum " in
    sym (append_assoc word (decimal number ++ 32 ∷ []) (decimal place) ∙ ap (λ t. word ++ t) (append_assoc (decimal number) (32 ∷ []) (decimal place)))

place_cond : (value place : ℕ) → below (2 ^ 64) value ≡ Some place → (value ≡ place) × (place < 2 ^ 64)
place_cond value place h = by_test (nat_lt value (2 ^ 64)) refl h
  where
    by_test : (b : Bool) → nat_lt value (2 ^ 64) ≡ b → cond b (Some value) None ≡ Some place → (value ≡ place) × (place < 2 ^ 64)
    by_test true e k = (let f : ◌≡◌ {A = Option ℕ} (Some value) (Some place) = k in let same : value ≡ place = cc in let l : value < 2 ^ 64 = ltb-true value (2 ^ 64) e in (same, omega (arith, same, l)))
    by_test false e k = absurd (let f : ◌≡◌ {A = Option ℕ} None (Some place) = k in cc)

pub place_of-is : (number place : ℕ) (line : List ℕ) → place_of number line ≡ Some place → (line ≡ stratum_line number place) × (place < 2 ^ 64)
place_of-is number place line h =
    let words = goes_on (λ text. option_and_then (below (2 ^ 64)) (written text)) (behind (opening_words number) line) place h in
    let value = goes_on (below (2 ^ 64)) (written words.value) place words.gives in
    let small = place_cond value.value place value.gives in
    let text : line ≡ opening_words number ++ words.value = behind-is (opening_words number) line words.value words.is in
    let digits : words.value ≡ decimal place = (written-is words.value value.value value.is).0 ∙ ap decimal small.0 in
    (text ∙ ap (λ t. opening_words number ++ t) digits ∙ sym (opening_line number place), small.1)

pub place_of-line : (number place : ℕ) → place < 2 ^ 64 → place_of number (stratum_line number place) ≡ Some place
place_of-line number place small =
    let front : behind (opening_words number) (stratum_line number place) ≡ Some (decimal place) = ap (behind (opening_words number)) (opening_line number place) ∙ behind-append (opening_words number) (decimal place) in
    ap (option_and_then (λ text. option_and_then (below (2 ^ 64)) (written text))) front
    ∙ ap (option_and_then (below (2 ^ 64))) (written-decimal place (omega arith))
    ∙ ap (λ (b : Bool). cond b (Some place) None) (lt-ltb place (2 ^ 64) small)

closed_is : {State : Type 0} (a b : State) → at (closed a) ≡ at (closed b) → a ≡ b
closed_is a b h = cc

module _ {State : Type 0} (tree : Tree State) (belongs : State → Type 0) (lawful : Lawful tree belongs) (from : State) (member : belongs from) (number : ℕ) where
  abbrev pub script : Script (LonePlace State)
  script = lone_script tree number from

  abbrev inner : Script (LogPlace State)
  inner = log_script tree (done_line number) from

  abbrev pub over_at : State → LonePlace State
  over_at s = at (closed s)

  lift : (p q : LogPlace State) (lines : List (List ℕ)) → Accepts inner p lines q → Accepts script (at p) lines (at q)
  lift p q [] h = (ap at h.0, h.1)
  lift p q (line ∷ lines) h = (at h.0, ap (option_map at) h.1, lift h.0 q lines h.2)

  -- where lines lead to inside
  record Inside (p : LogPlace State) (lines : List (List ℕ)) (to : LonePlace State) : Type 0 where
    place : LogPlace State
    is : to ≡ at place
    accepted : Accepts inner p lines place

  lower : (p : LogPlace State) (to : LonePlace State) (lines : List (List ℕ)) → Accepts script (at p) lines to → Inside p lines to
  lower p to [] h = record { place = p; is = h.0; accepted = (refl, h.1) }
  lower p to (line ∷ lines) h =
      let step = mapped at (inner.follow p line) h.0 h.1 in
      let on = lower step.value to lines (subst (λ q. Accepts script q lines to) (sym step.gives) h.2) in
      record { place = on.place; is = on.is; accepted = (step.value, step.is, on.accepted) }

  abbrev lines_of : ℕ → List Entry → List (List ℕ)
  lines_of place path = stratum_line number place ∷ lines_after (done_line number) 0 path

  none_before : (path : List Entry) → length path ≡ 0 + length path
  none_before path = omega arith

  -- a section by its lines
  section_lines : (place : ℕ) (path : List Entry) → lone_text number place path ≡ lines_text (lines_of place path)
  section_lines place path = lone_lines number place path ∙ ap (λ n. lines_text (stratum_line number place ∷ (map step_line path ++ done_line number n ∷ []))) (none_before path)

  lines_of_are : (place : ℕ) (path : List Entry) → AreLines (lines_of place path)
  lines_of_are place path = subst (λ n. AreLines (stratum_line number place ∷ (map step_line path ++ done_line number n ∷ []))) (none_before path) (lone_lines_are number place path)

  complete : (text : List ℕ) (leaf : State) → IsGenuineSection tree from number text leaf → IsAccepted script start over_at text leaf
  complete text leaf genuine =
      let is : text ≡ lines_text (lines_of genuine.text.place genuine.path) = genuine.text.is ∙ section_lines genuine.text.place genuine.path in
      let lines : whole_lines text ≡ lines_of genuine.text.place genuine.path = ap whole_lines is ∙ whole_text (lines_of genuine.text.place genuine.path) (lines_of_are genuine.text.place genuine.path) in
      record {
        whole = is ∙ ap lines_text (sym lines);
        accepted = subst (λ ls. Accepts script start ls (over_at leaf)) (sym lines) (
          at (stepping 0 from),
          ap (option_map (λ place. at (stepping 0 from))) (place_of-line number genuine.text.place genuine.text.small),
          lift (stepping 0 from) (closed leaf) (lines_after (done_line number) 0 genuine.path) (path_accepted tree belongs lawful from member (done_line number) genuine.path 0 from leaf member genuine.full.leads genuine.full.done),
        );
      }

  sound : (lines : List (List ℕ)) (to : LonePlace State) → Accepts script start lines to → IsLog over_at (IsGenuineSection tree from number) lines to
  sound [] to h = absurd (let no : ◌≡◌ {A = Bool} false true = h.1 in cc)
  sound (line ∷ lines) to h =
      let first = mapped (λ (place : ℕ). at (stepping 0 from)) (place_of number line) h.0 h.1 in
      let place = place_of-is number first.value line first.is in
      let on = lower (stepping 0 from) to lines (subst (λ q. Accepts script q lines to) (sym first.gives) h.2) in
      let path = accepted_path tree belongs lawful from member (done_line number) lines 0 from on.place member on.accepted in
      let all : line ∷ lines ≡ lines_of first.value path.path = ap (λ l. l ∷ lines) place.0 ∙ ap (λ ls. stratum_line number first.value ∷ ls) path.lines_are in
      record {
        leaf = path.leaf;
        genuine = record {
          path = path.path;
          full = record { leads = path.leads; done = path.done };
          text = record { place = first.value; small = place.1; is = ap lines_text all ∙ sym (section_lines first.value path.path) };
        };
        end = on.is ∙ ap at path.end;
        are = subst AreLines (sym all) (lines_of_are first.value path.path);
      }

  abbrev Fine : LonePlace State → Type 0
  Fine start = Unit {0}
  Fine (at p) = Good tree belongs lawful from member (done_line number) p

  fine_next : (place next : LonePlace State) (line : List ℕ) → Fine place → script.follow place line ≡ Some next → Fine next
  fine_next start next line fine h =
      let first = mapped (λ (place : ℕ). at (stepping 0 from)) (place_of number line) next h in
      subst Fine first.gives member
  fine_next (at p) next line fine h =
      let step = mapped at (inner.follow p line) next h in
      subst Fine step.gives (keeps tree belongs lawful from member (done_line number) p step.value line fine step.is)

  fine_ends : (place : LonePlace State) → Fine place → Ends script place
  fine_ends start fine =
      let end = each_ends tree belongs lawful from member (done_line number) (stepping 0 from) member in
      record {
        lines = stratum_line number 0 ∷ end.lines;
        to = at end.to;
        accepted = (at (stepping 0 from), ap (option_map (λ place. at (stepping 0 from))) (place_of-line number 0 (omega arith)), lift (stepping 0 from) end.to end.lines end.accepted);
      }
  fine_ends (at p) fine =
      let end = each_ends tree belongs lawful from member (done_line number) p fine in
      record { lines = end.lines; to = at end.to; accepted = lift p end.to end.lines end.accepted }

  pub described : Describes script start over_at (IsGenuineSection tree from number)
  described = record {
    complete = complete;
    sound = sound;
    closes = λ a b h. closed_is a b h;
    over = λ s. refl;
    last = λ s line. refl;
    Good = Fine;
    starts = tt;
    keeps = fine_next;
    ends = fine_ends;
  }
