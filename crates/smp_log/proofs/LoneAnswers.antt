-- What the function answers of a section.
use Rattle.std.proofs.Common.{◌≡◌, ℕ, suc, ◌+◌, nat_lt, Bool, true, false, cond, List, [], ◌∷◌, ◌++◌, length, map, take, None, Result, Ok, Err, refl, sym, ap, ◌∙◌, arith, add-one, length-append, inl, inr}
use Rattle.std.proofs.{Math.Seq.{take-append-add}, lemmas.Bool.{lt-ltb, le-ltb}, lemmas.Slice.Eq.{bytes_eq-Decides}}
use Rattle.std.specs.Str.{bytes_eq}
use Rattle.smp_split.specs.{Trees.{Tree, Lawful}, Paths.{Entry}}
use Rattle.smp_log.specs.{Lines.{whole_lines}, Fronts.{HasOtherLine, StopsAt}, Heads.{IsHead}, SectionLogs.{sectioned_head}}
use Rattle.smp_log.specs.{Reading.{heading, stepping, closed, step_line, follows}, SectionReading.{stratum_line, done_line}}
use Rattle.smp_log.specs.Told.{path_along}
use Rattle.smp_log.specs.LoneSections.{opens, NoneOpens, IsOpened, HasSection, SectionLine, SectionDiffers, LonePlace, start, lone_script, is_over, shared, from_opening, leaf_or, lone_leaf, section_reading, section_told}
use Rattle.smp_log.proofs.{Texts.{whole_lines-text, whole_lines-cons, whole_lines-none, cut_parts}, Described.{whole_text, front_followed}}
use Rattle.smp_log.proofs.{Telling.{steps_along}, SectionTelling.{passed_over, stratum_is_no_step}, LoneScripts.{over_at, described}}
use Rattle.smp_log.proofs.KeptSections.{sectioned_head_lines, sectioned_head_lines_are, sectioned_head-text, lone_lines, lone_lines_are}

-- ---- the lines of a front

same_line : (line : List ℕ) → bytes_eq line line ≡ true
same_line line = (bytes_eq-Decides line line).1 refl

pub shared_all : (front more : List (List ℕ)) → shared front (front ++ more) ≡ length front
shared_all [] more = refl
shared_all (w ∷ front) more = (let e : bytes_eq w w ≡ true = same_line w in rw e (ap suc (shared_all front more)))

shared_so_far : (same others rest : List (List ℕ)) (wanted : List ℕ) → shared (wanted ∷ others) rest ≡ 0 → shared (same ++ wanted ∷ others) (same ++ rest) ≡ length same
shared_so_far [] others rest wanted h = h
shared_so_far (l ∷ same) others rest wanted h = (let e : bytes_eq l l ≡ true = same_line l in rw e (ap suc (shared_so_far same others rest wanted h)))

shares_none : (wanted rest : List ℕ) (others : List (List ℕ)) → HasOtherLine wanted rest → shared (wanted ∷ others) (whole_lines rest) ≡ 0
shares_none wanted rest others (inl none) = ap (shared (wanted ∷ others)) (whole_lines-none rest none)
shares_none wanted rest others (inr (p, cut, other)) =
    let parts = cut_parts 10 rest p cut in
    ap (shared (wanted ∷ others)) (ap whole_lines parts.0 ∙ whole_lines-cons p.0 p.1 parts.1) ∙ ap (λ (b : Bool). cond b (suc (shared others (whole_lines p.1))) 0) other

-- ---- the opening line

opening_at : (number : ℕ) (before : List (List ℕ)) (first : List ℕ) (rest : List (List ℕ)) → NoneOpens number before → opens number first ≡ true → from_opening number (before ++ first ∷ rest) ≡ (length before, first ∷ rest)
opening_at number [] first rest none opening = rw opening refl
opening_at number (l ∷ before) first rest none opening = (let e : opens number l ≡ false = none.0 in rw e (ap (λ r. (suc r.0, r.1)) (opening_at number before first rest none.1 opening)))

pub opening_nowhere : (number : ℕ) (lines : List (List ℕ)) → NoneOpens number lines → from_opening number lines ≡ (length lines, [])
opening_nowhere number [] none = refl
opening_nowhere number (l ∷ lines) none = (let e : opens number l ≡ false = none.0 in rw e (ap (λ r. (suc r.0, r.1)) (opening_nowhere number lines none.1)))

pub from_opened : (number : ℕ) (log text : List ℕ) (line : ℕ) (o : IsOpened number log 1 text line) → from_opening number (whole_lines log) ≡ (length o.before, whole_lines text)
from_opened number log text line o =
    let lines : whole_lines text ≡ o.first ∷ whole_lines o.rest = ap whole_lines o.text_is ∙ whole_lines-cons o.first o.rest o.first_lacks in
    ap (from_opening number) (ap whole_lines o.log_is ∙ whole_lines-text o.before text o.are ∙ ap (λ ls. o.before ++ ls) lines)
    ∙ opening_at number o.before o.first (whole_lines o.rest) o.none o.opening ∙ ap (λ ls. (length o.before, ls)) (sym lines)

-- so many lines behind it, among the first lines of a log
pub section_part : (number : ℕ) (log text : List ℕ) (line : ℕ) → IsOpened number log 1 text line → (k : ℕ) → (from_opening number (take (line + k) (whole_lines log))).1 ≡ take (k + 1) (whole_lines text)
section_part number log text line o k =
    let lines : whole_lines text ≡ o.first ∷ whole_lines o.rest = ap whole_lines o.text_is ∙ whole_lines-cons o.first o.rest o.first_lacks in
    let all : whole_lines log ≡ o.before ++ o.first ∷ whole_lines o.rest = ap whole_lines o.log_is ∙ whole_lines-text o.before text o.are ∙ ap (λ ls. o.before ++ ls) lines in
    let count : line + k ≡ length o.before + suc k = omega (arith, o.counted) in
    ap (λ ls. (from_opening number ls).1) (ap (λ n. take n (whole_lines log)) count ∙ ap (take (length o.before + suc k)) all ∙ take-append-add o.before (o.first ∷ whole_lines o.rest) (suc k))
    ∙ ap (λ (r : ℕ × List (List ℕ)). r.1) (opening_at number o.before o.first (take k (whole_lines o.rest)) o.none o.opening)
    ∙ rw add-one (sym (ap (take (suc k)) lines))

-- a place that isn't over has no leaf
no_leaf : {State : Type 0} (place : LonePlace State) → is_over place ≡ false → lone_leaf place ≡ None
no_leaf start h = refl
no_leaf (LonePlace.at (heading wanted lines)) h = refl
no_leaf (LonePlace.at (stepping steps s)) h = refl
no_leaf (LonePlace.at (closed s)) h = absurd (let no : ◌≡◌ {A = Bool} true false = h in cc)

-- ---- the answer

module _ {State : Type 0} (tree : Tree State) (belongs : State → Type 0) (lawful : Lawful tree belongs) (from : State) (member : belongs from) (head : List ℕ) (number : ℕ) (log : List ℕ) where
  abbrev reading : Result State ℕ
  reading = section_reading tree from head number log

  abbrev answer : ℕ → ℕ × List (List ℕ) → Result State ℕ
  answer same opened =
      let front = whole_lines (sectioned_head head) in
      let read = follows (lone_script tree number from) start opened.1 in
      cond (nat_lt same (length front)) (Err (same + 1)) (leaf_or (opened.0 + read.0 + 1) (lone_leaf read.1))

  reading_is : (same : ℕ) (opened : ℕ × List (List ℕ)) → shared (whole_lines (sectioned_head head)) (whole_lines log) ≡ same → from_opening number (whole_lines log) ≡ opened → reading ≡ answer same opened
  unfolding section_reading
  reading_is same opened is at = ap (λ n. answer n (from_opening number (whole_lines log))) is ∙ ap (answer same) at

  pub stops_reading : (line : ℕ) → StopsAt (sectioned_head head) log line → reading ≡ Err line
  stops_reading line s =
      let front : List (List ℕ) = whole_lines (sectioned_head head) in
      let lines : whole_lines log ≡ s.same ++ whole_lines s.rest = ap whole_lines s.text_is ∙ whole_lines-text s.same s.rest s.are in
      let same : shared front (whole_lines log) ≡ length s.same =
      ap (λ ls. shared front ls) lines ∙ ap (λ f. shared f (s.same ++ whole_lines s.rest)) s.front_is ∙ shared_so_far s.same s.others (whole_lines s.rest) s.wanted (shares_none s.wanted s.rest s.others s.other) in
      let long : length front ≡ length s.same + suc (length s.others) = ap length s.front_is ∙ length-append s.same (s.wanted ∷ s.others) in
      let less : nat_lt (length s.same) (length front) ≡ true = lt-ltb (length s.same) (length front) (omega (arith, long)) in
      let read = follows (lone_script tree number from) start (from_opening number (whole_lines log)).1 in
      reading_is (length s.same) (from_opening number (whole_lines log)) same refl
      ∙ ap (λ (b : Bool). cond b (Err (length s.same + 1)) (leaf_or ((from_opening number (whole_lines log)).0 + read.0 + 1) (lone_leaf read.1))) less
      ∙ ap Err (sym s.counted)

  -- behind the head it is that from the opening line on
  behind_reading : (behind_head : List ℕ) (opened : ℕ × List (List ℕ)) → IsHead head → log ≡ sectioned_head head ++ behind_head → from_opening number (whole_lines log) ≡ opened
      → reading ≡ leaf_or (opened.0 + (follows (lone_script tree number from) start opened.1).0 + 1) (lone_leaf (follows (lone_script tree number from) start opened.1).1)
  behind_reading behind_head opened h is at =
      let front : List (List ℕ) = whole_lines (sectioned_head head) in
      let hs : List (List ℕ) = sectioned_head_lines h in
      let front_is : front ≡ hs = ap whole_lines (sectioned_head-text head h) ∙ whole_text hs (sectioned_head_lines_are h) in
      let lines : whole_lines log ≡ hs ++ whole_lines behind_head = ap whole_lines (is ∙ ap (λ t. t ++ behind_head) (sectioned_head-text head h)) ∙ whole_lines-text hs behind_head (sectioned_head_lines_are h) in
      let same : shared front (whole_lines log) ≡ length front = ap (λ ls. shared front ls) lines ∙ ap (λ f. shared f (hs ++ whole_lines behind_head)) front_is ∙ shared_all hs (whole_lines behind_head) ∙ ap length (sym front_is) in
      let not_less : nat_lt (length front) (length front) ≡ false = le-ltb (length front) (length front) (omega arith) in
      let read = follows (lone_script tree number from) start opened.1 in
      reading_is (length front) opened same at
      ∙ ap (λ (b : Bool). cond b (Err (length front + 1)) (leaf_or (opened.0 + read.0 + 1) (lone_leaf read.1))) not_less

  pub unopened_reading : (behind_head : List ℕ) (line : ℕ) → IsHead head → log ≡ sectioned_head head ++ behind_head → NoneOpens number (whole_lines log) → line ≡ 1 + length (whole_lines log) → reading ≡ Err line
  unopened_reading behind_head line h is none line_is =
      let count : length (whole_lines log) + 0 + 1 ≡ line = omega (arith, line_is) in
      behind_reading behind_head (length (whole_lines log), []) h is (opening_nowhere number (whole_lines log) none) ∙ ap Err count

  module _ (behind_head : List ℕ) (h : IsHead head) (is : log ≡ sectioned_head head ++ behind_head) (text : List ℕ) (line : ℕ) (o : IsOpened number log 1 text line) where
    -- where the script stops at a place that isn't over
    pub stopped_reading : (count : ℕ) (place : LonePlace State) → follows (lone_script tree number from) start (whole_lines text) ≡ (count, place) → is_over place ≡ false → reading ≡ Err (line + count)
    stopped_reading count place ended not_over =
        let at : length o.before + count + 1 ≡ line + count = omega (arith, o.counted) in
        behind_reading behind_head (length o.before, whole_lines text) h is (from_opened number log text line o)
        ∙ ap (λ r. leaf_or (length o.before + r.0 + 1) (lone_leaf r.1)) ended
        ∙ ap (leaf_or (length o.before + count + 1)) (no_leaf place not_over) ∙ ap Err at

    -- where it is over
    over_reading : (count : ℕ) (leaf : State) → follows (lone_script tree number from) start (whole_lines text) ≡ (count, LonePlace.at (closed leaf)) → reading ≡ Ok leaf
    over_reading count leaf ended =
        behind_reading behind_head (length o.before, whole_lines text) h is (from_opened number log text line o)
        ∙ ap (λ r. leaf_or (length o.before + r.0 + 1) (lone_leaf r.1)) ended

  -- a section that stands there is read
  pub has_reading : IsHead head → (leaf : State) → HasSection tree from head number log leaf → reading ≡ Ok leaf
  has_reading h leaf has =
      over_reading has.behind_head h has.head_is has.text has.line has.opened (length (whole_lines has.section)) leaf
      (front_followed (lone_script tree number from) start (over_at tree belongs lawful from member number) _ (described tree belongs lawful from member number) has.text has.section has.after leaf has.text_is has.genuine)

  -- it tells its path
  pub has_told : (leaf : State) (has : HasSection tree from head number log leaf) → section_told tree from number log ≡ has.genuine.path
  has_told leaf has =
      let genuine = has.genuine in
      let path : List Entry = genuine.path in
      let place : ℕ = genuine.text.place in
      let own : List (List ℕ) = map step_line path ++ done_line number (length path) ∷ [] in
      let all : List (List ℕ) = stratum_line number place ∷ own in
      let lines : whole_lines has.text ≡ all ++ whole_lines has.after =
      ap whole_lines (has.text_is ∙ ap (λ t. t ++ has.after) (genuine.text.is ∙ lone_lines number place path)) ∙ whole_lines-text all has.after (lone_lines_are number place path) in
      let regrouped : own ++ whole_lines has.after ≡ map step_line path ++ (done_line number (length path) ∷ whole_lines has.after) = regroup (map step_line path) (done_line number (length path)) (whole_lines has.after) in
      ap (λ (r : ℕ × List (List ℕ)). path_along tree from r.1) (from_opened number log has.text has.line has.opened)
      ∙ ap (path_along tree from) lines ∙ passed_over tree from (stratum_line number place) (own ++ whole_lines has.after) (stratum_is_no_step number place)
      ∙ ap (path_along tree from) regrouped ∙ steps_along tree belongs lawful path (done_line number (length path) ∷ whole_lines has.after) from leaf member genuine.full.leads genuine.full.done
    where
      regroup : (ls : List (List ℕ)) (l : List ℕ) (ms : List (List ℕ)) → (ls ++ l ∷ []) ++ ms ≡ ls ++ l ∷ ms
      regroup [] l ms = refl
      regroup (x ∷ ls) l ms = ap (λ t. x ∷ t) (regroup ls l ms)

  -- it differs at a line, and the function says so
  pub record Differing (line : ℕ) : Type 0 where
    pub differs : SectionDiffers tree from head number log line
    pub reads : section_reading tree from head number log ≡ Err line

  -- by one of the rules, where the function answers that line
  pub differing : (line : ℕ) → IsHead head → SectionLine tree from head number log line → reading ≡ Err line → Differing line
  differing line h rule reads = record {
    differs = record {
      none = λ leaf has. (let both : ◌≡◌ {A = Result State ℕ} (Err line) (Ok leaf) = sym reads ∙ has_reading h leaf has in cc);
      line_is = rule;
    };
    reads = reads;
  }
