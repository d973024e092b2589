-- How many points of a tree are living.
use Rattle.std.proofs.Common.{◌≡◌, ◌≢◌, ℕ, zero, suc, ◌+◌, ◌-◌, ◌<◌, ◌≤◌, Bool, true, false, List, length, get_or, set, refl, ap, inl, inr, ◌⊎◌, add-one, arith}
use Rattle.std.proofs.{lemmas.Bool.{cases_Bool, cases_lt, both_ways}, lemmas.List.{get_or-set_same, get_or-set_other, get_or_past}}
use Rattle.smp_near.specs.Kept.Trees.{IsCounted, lives_at, living_before, one_if}
use Rattle.smp_places.specs.Trees.{middle, EachRoot}
use Rattle.smp_places.proofs.Roots.{from_parts, each_root_as, first_half, second_half, root_of_tree}

module _ (living : List Bool) (order : List ℕ) where
  pub before_more : (place : ℕ) → living_before living order (place + 1) ≡ living_before living order place + one_if (lives_at living order place)
  before_more place = rw add-one refl

  before_rises : (low high : ℕ) → low ≤ high → living_before living order low ≤ living_before living order high
  before_rises low zero h = let none : low ≡ zero = omega arith in rw none (omega arith)
  before_rises low (suc high) h =
      elim (cases_lt high low) [
        | inl past ↦ (let all : low ≡ suc high = omega arith in rw all (omega arith))
        | inr within ↦ (let less = before_rises low high within in omega arith)
      ]

  pub before_living : (low place high : ℕ) → low ≤ place → place < high → lives_at living order place ≡ true → living_before living order low + 1 ≤ living_before living order high
  before_living low place high from before alive =
      let less = before_rises low place from in
      let more = before_rises (suc place) high before in
      let one : one_if (lives_at living order place) ≡ 1 = rw alive refl in
      omega arith

  -- where as many are living before the end as before the first place, none is in between
  pub none_living : (low place high : ℕ) → living_before living order low ≡ living_before living order high → low ≤ place → place < high → lives_at living order place ≡ false
  none_living low place high same from before =
      elim (cases_Bool (lives_at living order place)) [
        | inl alive ↦ absurd (let more = before_living low place high from before alive in omega arith)
        | inr gone ↦ gone
      ]

  -- other numbers at other roots change nothing
  pub counted_kept : (counts others : List ℕ) (low high : ℕ) → ((place : ℕ) → low ≤ place → place < high → get_or others place 0 ≡ get_or counts place 0) → EachRoot (IsCounted living order counts) low high → EachRoot (IsCounted living order others) low high
  counted_kept counts others low high same is =
      each_root_as (IsCounted living order counts) (IsCounted living order others) low high
      (λ l m h p q r s counted. (let here = same m (omega arith) (omega arith) in rw here counted)) is

  -- the numbers of both halves, and that of the root
  module _ (counts others : List ℕ) (low root high : ℕ) (is_root : root ≡ middle low high) (here : low < high) (first_kept : (place : ℕ) → low ≤ place → place < root → get_or others place 0 ≡ get_or counts place 0) (second_kept : (place : ℕ) → root < place → place < high → get_or others place 0 ≡ get_or counts place 0) (at_root : get_or others root 0 + living_before living order low ≡ living_before living order high) where
    pub counted_all : EachRoot (IsCounted living order counts) low root → EachRoot (IsCounted living order counts) (root + 1) high → EachRoot (IsCounted living order others) low high
    counted_all first second =
        from_parts (IsCounted living order others) low high here (record {
          root = rw (← is_root) at_root;
          first = rw (← is_root) (counted_kept counts others low root first_kept first);
          second = rw (← is_root) (counted_kept counts others (root + 1) high (λ place p q. second_kept place (omega arith) q) second);
        })

-- ---- when one point is taken out

module _ (living : List Bool) (order : List ℕ) (place : ℕ) (within : place < length order) (alive : lives_at living order place ≡ true) (alone : (k : ℕ) → k < length order → get_or order k 0 ≡ get_or order place 0 → k ≡ place) where
  abbrev left : List Bool
  left = set living (get_or order place 0) false

  gone : lives_at left order place ≡ false
  gone =
      elim (cases_lt (get_or order place 0) (length living)) [
        | inl here ↦ get_or-set_same living (get_or order place 0) false false here
        | inr past ↦ absurd (both_ways (lives_at living order place) (get_or_past living (get_or order place 0) false past) alive)
      ]

  same_at : (k : ℕ) → k < length order → k ≢ place → lives_at left order k ≡ lives_at living order k
  same_at k here other = get_or-set_other living (get_or order place 0) (get_or order k 0) false false (λ e. other (alone k here e))

  same_before : (k : ℕ) → k ≤ place → living_before left order k ≡ living_before living order k
  same_before zero h = refl
  same_before (suc k) h =
      let rest = same_before k (omega arith) in
      let other : k ≢ place = omega arith in
      let here : lives_at left order k ≡ lives_at living order k = same_at k (omega arith) other in
      let one : one_if (lives_at left order k) ≡ one_if (lives_at living order k) = ap one_if here in
      omega arith

  less_behind : (k : ℕ) → place < k → k ≤ length order → living_before left order k + 1 ≡ living_before living order k
  less_behind zero p q = absurd (omega arith)
  less_behind (suc k) p q =
      elim (cases_lt place k) [
        | inl behind ↦
            (let rest = less_behind k behind (omega arith) in
            let other : k ≢ place = omega arith in
            let here : lives_at left order k ≡ lives_at living order k = same_at k (omega arith) other in
            let one : one_if (lives_at left order k) ≡ one_if (lives_at living order k) = ap one_if here in
            omega arith)
        | inr last ↦
            (let is : k ≡ place = omega arith in
            let rest = same_before k (omega arith) in
            let was : one_if (lives_at living order k) ≡ 1 = rw (is, alive) refl in
            let now : one_if (lives_at left order k) ≡ 0 = rw (is, gone) refl in
            omega arith)
      ]

  -- a tree that the point does not belong to
  pub counted_apart : (counts : List ℕ) (low high : ℕ) → high ≤ length order → (high ≤ place) ⊎ (place < low) → EachRoot (IsCounted living order counts) low high → EachRoot (IsCounted left order counts) low high
  counted_apart counts low high end apart is =
      each_root_as (IsCounted living order counts) (IsCounted left order counts) low high
      (λ l m h p q r s counted.
      elim apart [
        | inl behind ↦ (let at_low = same_before l (omega arith) in let at_high = same_before h (omega arith) in omega (arith, counted, at_low, at_high))
        | inr before ↦ (let at_low = less_behind l (omega arith) (omega arith) in let at_high = less_behind h (omega arith) (omega arith) in omega (arith, counted, at_low, at_high))
      ]) is

  -- the root of a tree that the point belongs to
  pub counted_root : (counts others : List ℕ) (low root high : ℕ) → low ≤ place → place < high → high ≤ length order → IsCounted living order counts low root high → get_or others root 0 ≡ get_or counts root 0 - 1 → get_or others root 0 + living_before left order low ≡ living_before left order high
  counted_root counts others low root high p q end counted lowered =
      let at_low = same_before low p in
      let at_high = less_behind high q end in
      let some = before_living living order low place high p q alive in
      omega (arith, counted, lowered, at_low, at_high, some)

  pub some_counted : (counts : List ℕ) (low root high : ℕ) → low ≤ place → place < high → IsCounted living order counts low root high → 1 ≤ get_or counts root 0
  some_counted counts low root high p q counted =
      let some = before_living living order low place high p q alive in
      omega (arith, counted, some)

  -- the numbers of a tree, from those of its halves, which are right already
  pub lowered : (counts once : List ℕ) (low root high : ℕ) → root ≡ middle low high → low ≤ place → place < high → high ≤ length order → root < length once → EachRoot (IsCounted living order counts) low high → get_or once root 0 ≡ get_or counts root 0 → EachRoot (IsCounted left order once) low root → EachRoot (IsCounted left order once) (root + 1) high → EachRoot (IsCounted left order (set once root (get_or once root 0 - 1))) low high
  lowered counts once low root high is_root p q end inside counted same first second =
      let here : low < high = omega arith in
      let was = root_of_tree (IsCounted living order counts) low root high is_root here counted in
      let less : ℕ = get_or once root 0 - 1 in
      let now : get_or (set once root less) root 0 ≡ less = get_or-set_same once root less 0 inside in
      counted_all left order once (set once root less) low root high is_root here
      (λ k s t. (let other : k ≢ root = omega arith in get_or-set_other once root k less 0 other))
      (λ k s t. (let other : k ≢ root = omega arith in get_or-set_other once root k less 0 other))
      (counted_root counts (set once root less) low root high p q end was (omega arith))
      first second

-- ---- when one point is taken out of a half, or of the root, and the root's number is lowered

module _ (living : List Bool) (order : List ℕ) (place : ℕ) (alive : lives_at living order place ≡ true) (alone : (k : ℕ) → k < length order → get_or order k 0 ≡ get_or order place 0 → k ≡ place)
    (counts : List ℕ) (low root high : ℕ) (is_root : root ≡ middle low high) (from : low ≤ place) (before : place < high) (within : high ≤ length order) (counted : EachRoot (IsCounted living order counts) low high) where
  abbrev without : List Bool
  without = set living (get_or order place 0) false

  pub lowered_first : (once : List ℕ) (gone : List Bool) → gone ≡ without → place < root → root < length once → EachRoot (IsCounted gone order once) low root → ((k : ℕ) → root ≤ k → get_or once k 0 ≡ get_or counts k 0)
      → EachRoot (IsCounted gone order (set once root (get_or once root 0 - 1))) low high
  lowered_first once gone is less inside first kept =
      let here : place < length order = omega arith in
      let apart = counted_apart living order place here alive alone counts (root + 1) high within (inr (omega arith)) (second_half _ low root high is_root (omega arith) counted) in
      rw is (lowered living order place here alive alone counts once low root high is_root from before within inside counted (kept root (omega arith)) (rw is at first)
      (counted_kept without order counts once (root + 1) high (λ k p q. kept k (omega arith)) apart))

  pub lowered_second : (once : List ℕ) (gone : List Bool) → gone ≡ without → root < place → root < length once → EachRoot (IsCounted gone order once) (root + 1) high → ((k : ℕ) → k < root + 1 → get_or once k 0 ≡ get_or counts k 0)
      → EachRoot (IsCounted gone order (set once root (get_or once root 0 - 1))) low high
  lowered_second once gone is less inside second kept =
      let here : place < length order = omega arith in
      let apart = counted_apart living order place here alive alone counts low root (omega arith) (inl (omega arith)) (first_half _ low root high is_root (omega arith) counted) in
      rw is (lowered living order place here alive alone counts once low root high is_root from before within inside counted (kept root (omega arith))
      (counted_kept without order counts once low root (λ k p q. kept k (omega arith)) apart) (rw is at second))

  pub lowered_root : root ≡ place → root < length counts → EachRoot (IsCounted without order (set counts root (get_or counts root 0 - 1))) low high
  lowered_root is inside =
      let here : place < length order = omega arith in
      lowered living order place here alive alone counts counts low root high is_root from before within inside counted refl
      (counted_apart living order place here alive alone counts low root (omega arith) (inl (omega arith)) (first_half _ low root high is_root (omega arith) counted))
      (counted_apart living order place here alive alone counts (root + 1) high within (inr (omega arith)) (second_half _ low root high is_root (omega arith) counted))

  pub some_at_root : 1 ≤ get_or counts root 0
  some_at_root = some_counted living order place (omega arith) alive alone counts low root high from before (root_of_tree _ low root high is_root (omega arith) counted)
