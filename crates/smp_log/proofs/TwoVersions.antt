-- Logs of two versions, which differ in their first lines.
use Rattle.std.proofs.Common.{◌≡◌, ℕ, zero, suc, ◌≤◌, Bool, true, false, cond, List, [], ◌∷◌, ◌++◌, length, take, drop, get_or, Option, Some, None, Result, Ok, Err, refl, sym, ap, ◌∙◌, subst, arith, codes, inl, inr, ◌⊎◌}
use Rattle.smp_frac.specs.Cuts.{cut_at}
use Rattle.smp_log.specs.{Lines.{whole_lines, lines_text, Lacks, ShareLines}, Heads.{IsHead}, Genuine.{IsGenuine, DiffersAt}}
use Rattle.smp_log.specs.{Answers.{IsAnswer, IsExactAnswer, log_reading}, Logs.{steps_text, end_text}, Reading.{behind}, Told.{path_told}}
use Rattle.smp_split.specs.{Trees.{Tree, Lawful}, Sectioning.{Sectioning, IsSectioned}}
use Rattle.std.specs.{List.{flat_map, range_with_len}, Prelude.{is_some}}
use Rattle.std.proofs.lemmas.Bool.{false≢true}
use Rattle.smp_log.specs.SectionReading.{any_reading, is_sectioned, sectioned_reading}
use Rattle.smp_log.specs.SectionLogs.{placed, section_text, IsSectionedGenuine, IsAnyGenuine, IsOnePathed}
use Rattle.smp_log.proofs.{Texts.{whole_lines-cons, whole_lines-none, cut_parts, behind-append, behind-is}, Answered.{exact_reading}}
use Rattle.smp_log.proofs.{AnsweredSections.{exact_sectioned}, Paths.{one_end}, Telling.{genuine_told}, SectionTelling.{sectioned_told}}

-- a text with this first line
pub record Starts (first text : List ℕ) : Type 0 where
  pub rest : List ℕ
  pub is : text ≡ first ++ 10 ∷ rest

first_whole : (text first : List ℕ) (others : List (List ℕ)) → whole_lines text ≡ first ∷ others → Starts first text
first_whole text first others h = by_cut (cut_at 10 text) refl
  where
    by_cut : (o : Option (List ℕ × List ℕ)) → cut_at 10 text ≡ o → Starts first text
    by_cut None is = absurd (let none : ◌≡◌ {A = List (List ℕ)} [] (first ∷ others) = sym (whole_lines-none text is) ∙ h in cc)
    by_cut (Some p) is =
        let parts = cut_parts 10 text p is in
        let lines : ◌≡◌ {A = List (List ℕ)} (p.0 ∷ whole_lines p.1) (first ∷ others) = sym (ap whole_lines parts.0 ∙ whole_lines-cons p.0 p.1 parts.1) ∙ h in
        let same : p.0 ≡ first = cc in
        record { rest = p.1; is = parts.0 ∙ ap (λ t. t ++ 10 ∷ p.1) same }

-- what shares a line with a text begins with its first line
pub shares_first : (n : ℕ) (text other first : List ℕ) → Lacks 10 first → Starts first other → ShareLines (suc n) text other → Starts first text
shares_first n text other first lacks starts shares =
    let lines : whole_lines other ≡ first ∷ whole_lines starts.rest = ap whole_lines starts.is ∙ whole_lines-cons first starts.rest lacks in
    by_lines (whole_lines text) refl (shares.same ∙ ap (take (suc n)) lines) shares.whole
  where
    by_lines : (ls : List (List ℕ)) → whole_lines text ≡ ls → take (suc n) (whole_lines text) ≡ first ∷ take n (whole_lines starts.rest) → suc n ≤ length (whole_lines text) → Starts first text
    by_lines [] is same le = absurd (let short : suc n ≤ 0 = subst (λ (ls : List (List ℕ)). suc n ≤ length ls) is le in omega arith)
    by_lines (l ∷ ls) is same le =
        let cells : ◌≡◌ {A = List (List ℕ)} (l ∷ take n ls) (first ∷ take n (whole_lines starts.rest)) = sym (ap (take (suc n)) is) ∙ same in
        let head : l ≡ first = cc in
        first_whole text first ls (is ∙ ap (λ x. x ∷ ls) head)

-- where the first line is of one version, the lines that are kept are those of its genuine logs
pub differs_any : {State : Type 0} (Mine Other Any : List ℕ → State → Type 0) (first log : List ℕ) (line : ℕ) → Lacks 10 first
    → ((g : List ℕ) (leaf : State) → Mine g leaf → Any g leaf) → ((g : List ℕ) (leaf : State) → Any g leaf → Mine g leaf ⊎ Other g leaf)
    → ((g : List ℕ) (leaf : State) → Other g leaf → Starts first g) → (Starts first log → ⊥) → DiffersAt Mine log line → DiffersAt Any log line
differs_any {State} Mine Other Any first log line lacks of_mine cases starts away d = record {
  not_genuine = λ leaf any. elim (cases log leaf any) [ inl mine ↦ d.not_genuine leaf mine | inr other ↦ away (starts log leaf other) ];
  kept = d.kept;
  is_kept = record {
    begins = record {
      genuine = d.is_kept.begins.genuine;
      leaf = d.is_kept.begins.leaf;
      is = of_mine d.is_kept.begins.genuine d.is_kept.begins.leaf d.is_kept.begins.is;
      shares = d.is_kept.begins.shares;
    };
    most = λ n b. elim (cases b.genuine b.leaf b.is) [
      | inl mine ↦ d.is_kept.most n (record { genuine = b.genuine; leaf = b.leaf; is = mine; shares = b.shares })
      | inr other ↦ none_shared n b.genuine (starts b.genuine b.leaf other) b.shares
    ];
  };
  next = d.next;
}
  where
    none_shared : (n : ℕ) (g : List ℕ) → Starts first g → ShareLines n log g → n ≤ d.kept
    none_shared zero g s shares = omega arith
    none_shared (suc n) g s shares = absurd (away (shares_first n log g first lacks s shares))

-- ---- the two versions

abbrev one : List ℕ
one = codes "sampler-log 1"

abbrev two : List ℕ
two = codes "sampler-log 2"

-- no text has both first lines
pub apart : (text : List ℕ) → Starts (codes "sampler-log 1") text → Starts (codes "sampler-log 2") text → ⊥
apart text first second =
    let number : 49 ≡ 50 = ap (λ t. get_or t 12 0) (sym first.is ∙ second.is) in
    omega (arith, number)

pub starts_second : (log : List ℕ) → is_sectioned log ≡ true → Starts (codes "sampler-log 2") log
starts_second log h = by_rest (behind (codes "sampler-log 2\n") log) refl h
  where
    by_rest : (o : Option (List ℕ)) → behind (codes "sampler-log 2\n") log ≡ o → is_some o ≡ true → Starts (codes "sampler-log 2") log
    by_rest None is some = absurd (let no : ◌≡◌ {A = Bool} false true = some in cc)
    by_rest (Some rest) is some = record { rest = rest; is = behind-is (codes "sampler-log 2\n") log rest is }

pub not_second : (log : List ℕ) → is_sectioned log ≡ false → Starts (codes "sampler-log 2") log → ⊥
not_second log h starts =
    let some : is_sectioned log ≡ true = ap is_some (ap (behind (codes "sampler-log 2\n")) starts.is ∙ behind-append (codes "sampler-log 2\n") starts.rest) in
    false≢true (sym h ∙ some)

module _ {State : Type 0} (tree : Tree State) (sections : Sectioning State) (from : State) (head : List ℕ) where
  pub old_any : (g : List ℕ) (leaf : State) → IsGenuine tree from head g leaf → IsAnyGenuine tree sections from head g leaf
  old_any g leaf genuine = record { path = genuine.path; full = genuine.full; text = inl genuine.text }

  pub sectioned_any : (g : List ℕ) (leaf : State) → IsSectionedGenuine tree sections from head g leaf → IsAnyGenuine tree sections from head g leaf
  sectioned_any g leaf genuine = record { path = genuine.path; full = genuine.full; text = inr genuine.text }

  any_old : (g : List ℕ) (leaf : State) → IsAnyGenuine tree sections from head g leaf → IsGenuine tree from head g leaf ⊎ IsSectionedGenuine tree sections from head g leaf
  any_old g leaf any = elim any.text [
    | inl text ↦ inl (record { path = any.path; full = any.full; text = text })
    | inr text ↦ inr (record { path = any.path; full = any.full; text = text })
  ]

  any_sectioned : (g : List ℕ) (leaf : State) → IsAnyGenuine tree sections from head g leaf → IsSectionedGenuine tree sections from head g leaf ⊎ IsGenuine tree from head g leaf
  any_sectioned g leaf any = elim any.text [
    | inl text ↦ inr (record { path = any.path; full = any.full; text = text })
    | inr text ↦ inl (record { path = any.path; full = any.full; text = text })
  ]

  old_starts : IsHead head → (g : List ℕ) (leaf : State) → IsGenuine tree from head g leaf → Starts (codes "sampler-log 1") g
  old_starts h g leaf genuine =
      let tail : List ℕ = steps_text genuine.path ++ end_text (length genuine.path) in
      record { rest = lines_text (h.design ∷ h.frame ∷ []) ++ tail; is = genuine.text ∙ ap (λ t. t ++ tail) h.text }

  sectioned_starts : (g : List ℕ) (leaf : State) → IsSectionedGenuine tree sections from head g leaf → Starts (codes "sampler-log 2") g
  sectioned_starts g leaf genuine =
      let steps = placed tree sections from genuine.path in
      record { rest = drop 14 head ++ (flat_map (section_text steps) (range_with_len 0 sections.count) ++ end_text (length steps)); is = genuine.text }

  -- where the first line is that of version 2, the lines that are kept are those of its genuine logs, and else those of version 1
  pub sectioned_differs : IsHead head → (log : List ℕ) (line : ℕ) → is_sectioned log ≡ true → DiffersAt (IsSectionedGenuine tree sections from head) log line → DiffersAt (IsAnyGenuine tree sections from head) log line
  sectioned_differs h log line is d =
      differs_any (IsSectionedGenuine tree sections from head) (IsGenuine tree from head) (IsAnyGenuine tree sections from head) (codes "sampler-log 1") log line refl
      sectioned_any any_sectioned (old_starts h) (λ first. apart log first (starts_second log is)) d

  pub old_differs : (log : List ℕ) (line : ℕ) → is_sectioned log ≡ false → DiffersAt (IsGenuine tree from head) log line → DiffersAt (IsAnyGenuine tree sections from head) log line
  old_differs log line is d =
      differs_any (IsGenuine tree from head) (IsSectionedGenuine tree sections from head) (IsAnyGenuine tree sections from head) (codes "sampler-log 2") log line refl
      old_any any_old sectioned_starts (not_second log is) d

  pub reading_of : (log : List ℕ) (t : Bool) → is_sectioned log ≡ t → any_reading tree sections from head log ≡ cond t (sectioned_reading tree sections from head log) (log_reading tree from head log)
  reading_of log t is = ap (λ (b : Bool). cond b (sectioned_reading tree sections from head log) (log_reading tree from head log)) is

-- ---- what is genuine in either version

module _ {State : Type 0} (tree : Tree State) (belongs : State → Type 0) (lawful : Lawful tree belongs) (sections : Sectioning State) (sectioned : IsSectioned tree belongs sections) (from : State) (member : belongs from) (head : List ℕ) (h : IsHead head) (log : List ℕ) where
  pub any_told : (leaf : State) (genuine : IsAnyGenuine tree sections from head log leaf) → path_told tree from log ≡ genuine.path
  any_told leaf genuine = elim genuine.text [
    | inl text ↦ genuine_told tree belongs lawful from member head log h leaf (record { path = genuine.path; full = genuine.full; text = text })
    | inr text ↦ sectioned_told tree belongs lawful sections sectioned from member head log h leaf (record { path = genuine.path; full = genuine.full; text = text })
  ]

  pub one_pathed : IsOnePathed tree sections from head log
  one_pathed = record {
    one_path = λ a b first second. sym (any_told a first) ∙ any_told b second;
    one_leaf = λ a b first second.
        one_end tree from a b first.path second.path first.full second.full (sym (any_told a first) ∙ any_told b second);
    told = any_told;
  }

  -- any answer that is right of one version is right of both, by the first line
  any_answer : (Mine : List ℕ → State → Type 0) → ((leaf : State) → Mine log leaf → IsAnyGenuine tree sections from head log leaf) → ((line : ℕ) → DiffersAt Mine log line → DiffersAt (IsAnyGenuine tree sections from head) log line)
      → (answer : Result State ℕ) → IsAnswer Mine log answer → IsAnswer (IsAnyGenuine tree sections from head) log answer
  any_answer Mine genuine differs (Ok leaf) is = genuine leaf is
  any_answer Mine genuine differs (Err line) is = differs line is

  right_any : IsAnswer (IsAnyGenuine tree sections from head) log (any_reading tree sections from head log)
  right_any = by_version (is_sectioned log) refl
    where
      by_version : (t : Bool) → is_sectioned log ≡ t → IsAnswer (IsAnyGenuine tree sections from head) log (cond t (sectioned_reading tree sections from head log) (log_reading tree from head log))
      by_version true is =
          any_answer (IsSectionedGenuine tree sections from head) (sectioned_any tree sections from head log) (λ line d. sectioned_differs tree sections from head h log line is d) (sectioned_reading tree sections from head log)
          (exact_sectioned tree belongs lawful sections sectioned from member head h log).right
      by_version false is =
          any_answer (IsGenuine tree from head) (old_any tree sections from head log) (λ line d. old_differs tree sections from head log line is d) (log_reading tree from head log)
          (exact_reading tree belongs lawful from member head h log).right

  -- two right answers are the same
  same_answers : (a b : Result State ℕ) → IsAnswer (IsAnyGenuine tree sections from head) log a → IsAnswer (IsAnyGenuine tree sections from head) log b → a ≡ b
  same_answers (Ok a) (Ok b) first second = ap Ok (one_pathed.one_leaf a b first second)
  same_answers (Ok a) (Err m) first second = absurd (second.not_genuine a first)
  same_answers (Err n) (Ok b) first second = absurd (first.not_genuine b second)
  same_answers (Err n) (Err m) first second =
      let low : first.kept ≤ second.kept = second.is_kept.most first.kept first.is_kept.begins in
      let high : second.kept ≤ first.kept = first.is_kept.most second.kept second.is_kept.begins in
      let same : n ≡ m = omega (arith, low, high, first.next, second.next) in
      ap Err same

  pub exact_any : IsExactAnswer (IsAnyGenuine tree sections from head) log (any_reading tree sections from head log)
  exact_any = record { right = right_any; alone = λ answer is. same_answers answer (any_reading tree sections from head log) is right_any }
