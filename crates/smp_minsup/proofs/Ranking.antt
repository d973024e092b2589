-- What the code keeps of two groups, and what a move of a unit changes.
use Rattle.std.proofs.Common.{◌≡◌, ◌≢◌, ℕ, suc, ◌+◌, ◌-◌, ◌^◌, ◌<◌, ◌≤◌, Bool, true, false, not, cond, nat_lt, List, [], ◌∷◌, ◌++◌, length, get_or, set, arith, refl, sym, ap, ◌∙◌, subst, inl, inr, ◌⊎◌, length-set, length-append}
use Rattle.std.specs.{List.{count_by}, List.Sorted.{IsPermutation}, BinaryHeap.{IsHeap, IsUpperBound}, Ordering.{is_lt}}
use Rattle.std.specs.declared.cmp.Reverse.{Reverse}
use Rattle.std.proofs.{lemmas.List.Sums.{sum_by-append}, lemmas.Grind.{same_number_lists}, lemmas.List.{get_or-set_same, get_or-set_other}}
use Rattle.std.proofs.lemmas.Bool.{cases_Bool, cases_lt, cases_eq, lt-ltb, le-ltb, eq-eqb, not-true, false_from_ne_true}
use Rattle.std.proofs.{lemmas.List.FromFn.{length-map-range_with_len, get_or-map-range_with_len}, lemmas.List.Sorted.{length_permutation}}
use Rattle.smp_minsup.specs.{Support.{is_larger}, Laws.Ranks.{larger_is}}
use Rattle.smp_split.proofs.NumberSums.{weight_false}
use Rattle.smp_minsup.specs.Kept.Ranked.{RankedUnits, IsMostSmall, IsLeastLarge, IsKept, IsQueue, is_in, placed, lowered_by, ranked_of, small_entry, large_entry, by_numer, by_numer_reversed}
use Rattle.smp_minsup.proofs.Queues.{count-cons, front_known, front_entry, front_group, holds_of, has_some, popped, pushed}

pub by_numer_less : (a b : ℕ × ℕ) → (a.0 < b.0) ⊎ ((a.0 ≡ b.0) × (a.1 < b.1)) → is_lt (by_numer a b) ≡ true
by_numer_less a b (inl l) = rw (lt-ltb a.0 b.0 l) refl
by_numer_less a b (inr same) = rw (le-ltb a.0 b.0 (omega (arith, same.0)), eq-eqb a.0 b.0 same.0, lt-ltb a.1 b.1 same.1) refl

module _ (raw : List ℕ) (large : List Bool) (offset : ℕ) where
  abbrev view : RankedUnits
  view = ranked_of raw large offset

  pub length_view : length view.numer ≡ length raw
  length_view = length-map-range_with_len (λ unit. cond (is_in large unit) (get_or raw unit 0 - offset) (get_or raw unit 0)) 0 (length raw)

  -- a unit of the view is one of the code's
  pub unit_in : (now : RankedUnits) → view ≡ now → (unit : ℕ) → unit < length now.numer → unit < length raw
  unit_in now same unit within =
      let here : unit < length view.numer = subst (λ (v : RankedUnits). unit < length v.numer) (sym same) within in omega (arith, here, length_view)

  pub at_view : (k : ℕ) → k < length raw → get_or view.numer k 0 ≡ cond (is_in large k) (get_or raw k 0 - offset) (get_or raw k 0)
  at_view k h = get_or-map-range_with_len (λ unit. cond (is_in large unit) (get_or raw unit 0 - offset) (get_or raw unit 0)) 0 (length raw) k k 0 h (omega arith)

  pub at_small : (k : ℕ) → k < length raw → is_in large k ≡ false → get_or view.numer k 0 ≡ get_or raw k 0
  at_small k h e = at_view k h ∙ rw e refl

  pub at_large : (k : ℕ) → k < length raw → is_in large k ≡ true → get_or view.numer k 0 ≡ get_or raw k 0 - offset
  at_large k h e = at_view k h ∙ rw e refl

-- ---- what is kept of the groups

module _ {raw : List ℕ} {large : List Bool} {offset : ℕ} {smalls : List (ℕ × ℕ)} {larges : List (Reverse (ℕ × ℕ))} {small_capacity large_capacity : ℕ} (kept : IsKept raw large offset smalls larges small_capacity large_capacity) where
  abbrev seen : RankedUnits
  seen = ranked_of raw large offset

  -- the first of the small ones
  module _ (e : ℕ × ℕ) (some : 1 ≤ length smalls) (front : e ≡ get_or smalls 0 e) where
    pub small_known : e.1 < length raw
    small_known = front_known kept.small_queue e some front

    pub small_in : is_in large e.1 ≡ false
    small_in = not-true (is_in large e.1) (front_group kept.small_queue e some front)

    pub small_numer : e.0 ≡ get_or raw e.1 0
    small_numer = ap (λ (x : ℕ × ℕ). x.0) (front_entry kept.small_queue e some front)

    pub most_small : IsUpperBound by_numer e smalls → IsMostSmall seen e.1
    most_small bound = record {
      within = omega (arith, small_known, length_view raw large offset);
      small = small_in;
      most = λ other l is. (let h : other < length raw = omega (arith, l, length_view raw large offset) in
          let not_less : is_lt (by_numer e (small_entry raw other)) ≡ false = holds_of kept.small_queue (λ x. is_lt (by_numer e x) ≡ false) bound other h (rw is refl) in
          false_from_ne_true (is_larger seen.numer other e.1) (λ above. (let less : is_lt (by_numer e (small_entry raw other)) ≡ true = by_numer_less e (small_entry raw other) (elim (larger_is seen.numer other e.1 above) [
            | inl m ↦ inl (omega (arith, m, at_small raw large offset e.1 small_known small_in, at_small raw large offset other h is, small_numer))
            | inr m ↦ inr (omega (arith, m.0, at_small raw large offset e.1 small_known small_in, at_small raw large offset other h is, small_numer), m.1)
          ]) in cc)));
    }

  -- the first of the large ones
  module _ (e : Reverse (ℕ × ℕ)) (some : 1 ≤ length larges) (front : e ≡ get_or larges 0 e) where
    pub large_known : e.0.1 < length raw
    large_known = front_known kept.large_queue e some front

    pub large_in : is_in large e.0.1 ≡ true
    large_in = front_group kept.large_queue e some front

    pub large_raw : e.0.0 ≡ get_or raw e.0.1 0
    large_raw = ap (λ (x : Reverse (ℕ × ℕ)). x.0.0) (front_entry kept.large_queue e some front)

    pub least_large : IsUpperBound by_numer_reversed e larges → IsLeastLarge seen e.0.1
    least_large bound = record {
      within = omega (arith, large_known, length_view raw large offset);
      large = large_in;
      least = λ other l is. (let h : other < length raw = omega (arith, l, length_view raw large offset) in
          let not_less : is_lt (by_numer_reversed e (large_entry raw other)) ≡ false = holds_of kept.large_queue (λ x. is_lt (by_numer_reversed e x) ≡ false) bound other h is in
          let mine = kept.above e.0.1 large_known large_in in
          let other's = kept.above other h is in
          false_from_ne_true (is_larger seen.numer e.0.1 other) (λ above. (let less : is_lt (by_numer (small_entry raw other) e.0) ≡ true = by_numer_less (small_entry raw other) e.0 (elim (larger_is seen.numer e.0.1 other above) [
            | inl m ↦ inl (omega (arith, m, at_large raw large offset e.0.1 large_known large_in, at_large raw large offset other h is, large_raw, mine, other's))
            | inr m ↦ inr (omega (arith, m.0, at_large raw large offset e.0.1 large_known large_in, at_large raw large offset other h is, large_raw, mine, other's), m.1)
          ]) in cc)));
    }

  -- where some unit is small, there is a first one; so with the large ones
  pub some_small : (k : ℕ) → k < length raw → is_in large k ≡ false → 1 ≤ length smalls
  some_small k h is = has_some kept.small_queue k h (rw is refl)

  pub some_large : (k : ℕ) → k < length raw → is_in large k ≡ true → 1 ≤ length larges
  some_large k h is = has_some kept.large_queue k h is

  -- where no unit is the first of a group, none is of it
  pub none_small : (1 ≤ length smalls → ⊥) → (unit : ℕ) → unit < length seen.numer → is_in large unit ≡ true
  none_small empty unit h =
      elim (cases_Bool (is_in large unit)) [
        | inl e ↦ e
        | inr e ↦ absurd (empty (some_small unit (omega (arith, h, length_view raw large offset)) e))
      ]

  pub none_large : (1 ≤ length larges → ⊥) → (unit : ℕ) → unit < length seen.numer → is_in large unit ≡ false
  none_large empty unit h =
      elim (cases_Bool (is_in large unit)) [
        | inr e ↦ e
        | inl e ↦ absurd (empty (some_large unit (omega (arith, h, length_view raw large offset)) e))
      ]

-- ---- units by their flags

pub some_false : (large : List Bool) → count_by (λ b. b) large < length large → (k : ℕ) × ((k < length large) × (is_in large k ≡ false))
some_false [] h = absurd (omega (arith, h))
some_false (true ∷ large) h =
    let rest = some_false large (omega (arith, h, count-cons (λ b. b) true large)) in (suc rest.0, (omega (arith, rest.1.0), rest.1.1))
some_false (false ∷ large) h = (0, (omega arith, refl))

pub some_true : (large : List Bool) → 1 ≤ count_by (λ b. b) large → (k : ℕ) × ((k < length large) × (is_in large k ≡ true))
some_true [] h = absurd (omega (arith, h))
some_true (true ∷ large) h = (0, (omega arith, refl))
some_true (false ∷ large) h =
    let rest = some_true large (omega (arith, h, count-cons (λ b. b) false large)) in (suc rest.0, (omega (arith, rest.1.0), rest.1.1))

-- ---- a unit moved to the other group

module _ (large : List Bool) (k : ℕ) (b : Bool) where
  pub placed_here : k < length large → is_in (set large k b) k ≡ b
  placed_here h = get_or-set_same large k b false h

  pub placed_other : (j : ℕ) → j ≢ k → is_in (set large k b) j ≡ is_in large j
  placed_other j ne = get_or-set_other large k j b false ne

module _ (raw : List ℕ) (large : List Bool) (offset k new : ℕ) (b : Bool) (h : k < length raw) (paired : length large ≡ length raw) where
  -- with the same numerator, as its group keeps it
  pub placed_view : get_or (ranked_of raw large offset).numer k 0 ≡ cond b (new - offset) new → ranked_of (set raw k new) (set large k b) offset ≡ placed (ranked_of raw large offset) k b
  placed_view same =
      let n : length (set raw k new) ≡ length raw = simp length-set refl in
      let numer_is : (ranked_of (set raw k new) (set large k b) offset).numer ≡ (ranked_of raw large offset).numer =
      same_number_lists (ranked_of (set raw k new) (set large k b) offset).numer (ranked_of raw large offset).numer
      (length_view (set raw k new) (set large k b) offset ∙ n ∙ sym (length_view raw large offset))
      (λ j l. (let m : j < length (set raw k new) = omega (arith, l, length_view (set raw k new) (set large k b) offset) in
      let m' : j < length raw = omega (arith, m, n) in
      at_view (set raw k new) (set large k b) offset j m ∙ elim (cases_eq j k) [
        | inl e ↦ rw (e, placed_here large k b (omega (arith, h, paired)), get_or-set_same raw k new 0 h) (sym same)
        | inr ne ↦ rw (placed_other large k b j ne, get_or-set_other raw k j new 0 ne) (sym (at_view raw large offset j m'))
      ])) in
      ap (λ (numer : List ℕ). record { numer = numer; large = set large k b; lowered = offset }) numer_is

-- what the groups keep of the other units, and of this one
module _ (raw : List ℕ) (large : List Bool) (offset k new : ℕ) (b : Bool) (h : k < length raw) (paired : length large ≡ length raw) where
  moved_in : is_in (set large k b) k ≡ b
  moved_in = placed_here large k b (omega (arith, h, paired))

  moved_above : (b ≡ true → offset ≤ new) → ((unit : ℕ) → unit < length raw → is_in large unit ≡ true → offset ≤ get_or raw unit 0)
      → (unit : ℕ) → unit < length (set raw k new) → is_in (set large k b) unit ≡ true → offset ≤ get_or (set raw k new) unit 0
  moved_above enough above unit l is =
      elim (cases_eq unit k) [
        | inl same ↦ rw (same, get_or-set_same raw k new 0 h) (enough (sym moved_in ∙ ap (is_in (set large k b)) (sym same) ∙ is))
        | inr ne ↦ rw (get_or-set_other raw k unit new 0 ne) (above unit (simp length-set at l) (sym (placed_other large k b unit ne) ∙ is))
      ]

  same_small : (unit : ℕ) → unit ≢ k → small_entry (set raw k new) unit ≡ small_entry raw unit
  same_small unit ne = ap (λ (a : ℕ). (a, unit)) (get_or-set_other raw k unit new 0 ne)

  same_large : (unit : ℕ) → unit ≢ k → large_entry (set raw k new) unit ≡ large_entry raw unit
  same_large unit ne = ap (λ (a : ℕ). record { 0 = (a, unit) }) (get_or-set_other raw k unit new 0 ne)

module _ {raw : List ℕ} {large : List Bool} {offset : ℕ} {smalls : List (ℕ × ℕ)} {larges : List (Reverse (ℕ × ℕ))} {small_capacity large_capacity : ℕ} (kept : IsKept raw large offset smalls larges small_capacity large_capacity) where
  -- the first small unit becomes large
  module _ (e : ℕ × ℕ) (some : 1 ≤ length smalls) (front : e ≡ get_or smalls 0 e) where
    up_known : e.1 < length raw
    up_known = small_known kept e some front

    up_in : is_in large e.1 ≡ false
    up_in = small_in kept e some front

    pub promoted : {small_after large_after : ℕ} → small_capacity ≤ small_after → large_capacity ≤ large_after → (rest : List (ℕ × ℕ)) (more : List (Reverse (ℕ × ℕ))) → IsPermutation smalls (e ∷ rest) → IsPermutation (record { 0 = (e.0 + offset, e.1) } ∷ larges) more → IsHeap by_numer rest → IsHeap by_numer_reversed more
        → IsKept (set raw e.1 (e.0 + offset)) (set large e.1 true) offset rest more small_after large_after
    promoted small_room large_room rest more taken put small_order large_order =
        let less : suc (length rest) ≡ length smalls = length_permutation smalls (e ∷ rest) taken in
        let longer : length more ≡ suc (length larges) = length_permutation (record { 0 = (e.0 + offset, e.1) } ∷ larges) more put in
        let n : length (set raw e.1 (e.0 + offset)) ≡ length raw = simp length-set refl in
        let item : large_entry (set raw e.1 (e.0 + offset)) e.1 ≡ record { 0 = (e.0 + offset, e.1) } = ap (λ (a : ℕ). record { 0 = (a, e.1) }) (get_or-set_same raw e.1 (e.0 + offset) 0 up_known) in
        record {
          paired = simp length-set kept.paired;
          low = kept.low;
          above = moved_above raw large offset e.1 (e.0 + offset) true up_known kept.paired (λ _. let all : offset ≤ e.0 + offset = omega arith in all) kept.above;
          small_queue = rw n (popped kept.small_queue (small_entry (set raw e.1 (e.0 + offset))) (λ j. not (is_in (set large e.1 true) j)) e.1 (same_small raw large offset e.1 (e.0 + offset) true up_known kept.paired) (λ j ne. ap not (placed_other large e.1 true j ne)) e rest some front refl (ap not (moved_in raw large offset e.1 (e.0 + offset) true up_known kept.paired)) taken);
          large_queue = rw n (pushed kept.large_queue (large_entry (set raw e.1 (e.0 + offset))) (is_in (set large e.1 true)) e.1 (same_large raw large offset e.1 (e.0 + offset) true up_known kept.paired) (λ j ne. placed_other large e.1 true j ne) more up_known up_in (moved_in raw large offset e.1 (e.0 + offset) true up_known kept.paired) refl (subst (λ (x : Reverse (ℕ × ℕ)). IsPermutation (x ∷ larges) more) (sym item) put));
          small_order = small_order;
          large_order = large_order;
          all = rw n (omega (arith, less, longer, kept.all));
          small_room = rw n (omega (arith, small_room, kept.small_room));
          large_room = rw n (omega (arith, large_room, kept.large_room));
        }

    pub up_view : ranked_of (set raw e.1 (e.0 + offset)) (set large e.1 true) offset ≡ placed (ranked_of raw large offset) e.1 true
    up_view =
        let back : e.0 + offset - offset ≡ e.0 = omega arith in
        placed_view raw large offset e.1 (e.0 + offset) true up_known kept.paired
        (at_small raw large offset e.1 up_known up_in ∙ sym (small_numer kept e some front) ∙ sym back)

  -- the least large unit becomes small
  module _ (e : Reverse (ℕ × ℕ)) (some : 1 ≤ length larges) (front : e ≡ get_or larges 0 e) where
    down_known : e.0.1 < length raw
    down_known = large_known kept e some front

    down_in : is_in large e.0.1 ≡ true
    down_in = large_in kept e some front

    -- its own numerator isn't below the offset
    pub down_within : offset ≤ e.0.0
    down_within = omega (arith, kept.above e.0.1 down_known down_in, large_raw kept e some front)

    pub demoted : {small_after large_after : ℕ} → small_capacity ≤ small_after → large_capacity ≤ large_after → (rest : List (Reverse (ℕ × ℕ))) (more : List (ℕ × ℕ)) → IsPermutation larges (e ∷ rest) → IsPermutation ((e.0.0 - offset, e.0.1) ∷ smalls) more → IsHeap by_numer_reversed rest → IsHeap by_numer more
        → IsKept (set raw e.0.1 (e.0.0 - offset)) (set large e.0.1 false) offset more rest small_after large_after
    demoted small_room large_room rest more taken put large_order small_order =
        let less : suc (length rest) ≡ length larges = length_permutation larges (e ∷ rest) taken in
        let longer : length more ≡ suc (length smalls) = length_permutation ((e.0.0 - offset, e.0.1) ∷ smalls) more put in
        let n : length (set raw e.0.1 (e.0.0 - offset)) ≡ length raw = simp length-set refl in
        let item : small_entry (set raw e.0.1 (e.0.0 - offset)) e.0.1 ≡ (e.0.0 - offset, e.0.1) = ap (λ (a : ℕ). (a, e.0.1)) (get_or-set_same raw e.0.1 (e.0.0 - offset) 0 down_known) in
        record {
          paired = simp length-set kept.paired;
          low = kept.low;
          above = moved_above raw large offset e.0.1 (e.0.0 - offset) false down_known kept.paired (λ is. absurd (let no : false ≡ true = is in cc)) kept.above;
          small_queue = rw n (pushed kept.small_queue (small_entry (set raw e.0.1 (e.0.0 - offset))) (λ j. not (is_in (set large e.0.1 false) j)) e.0.1 (same_small raw large offset e.0.1 (e.0.0 - offset) false down_known kept.paired) (λ j ne. ap not (placed_other large e.0.1 false j ne)) more down_known (ap not down_in) (ap not (moved_in raw large offset e.0.1 (e.0.0 - offset) false down_known kept.paired)) refl (subst (λ (x : ℕ × ℕ). IsPermutation (x ∷ smalls) more) (sym item) put));
          large_queue = rw n (popped kept.large_queue (large_entry (set raw e.0.1 (e.0.0 - offset))) (is_in (set large e.0.1 false)) e.0.1 (same_large raw large offset e.0.1 (e.0.0 - offset) false down_known kept.paired) (λ j ne. placed_other large e.0.1 false j ne) e rest some front refl (moved_in raw large offset e.0.1 (e.0.0 - offset) false down_known kept.paired) taken);
          small_order = small_order;
          large_order = large_order;
          all = rw n (omega (arith, less, longer, kept.all));
          small_room = rw n (omega (arith, small_room, kept.small_room));
          large_room = rw n (omega (arith, large_room, kept.large_room));
        }

    pub down_view : ranked_of (set raw e.0.1 (e.0.0 - offset)) (set large e.0.1 false) offset ≡ placed (ranked_of raw large offset) e.0.1 false
    down_view =
        placed_view raw large offset e.0.1 (e.0.0 - offset) false down_known kept.paired
        (at_large raw large offset e.0.1 down_known down_in ∙ ap (λ a. a - offset) (sym (large_raw kept e some front)))

-- ---- all large units lowered

module _ (by : ℕ) {raw : List ℕ} {large : List Bool} {offset : ℕ} {smalls : List (ℕ × ℕ)} {larges : List (Reverse (ℕ × ℕ))} {small_capacity large_capacity : ℕ} (kept : IsKept raw large offset smalls larges small_capacity large_capacity) where
  pub lowered_kept : offset + by < 2 ^ 126 → ((unit : ℕ) → unit < length (ranked_of raw large offset).numer → is_in large unit ≡ true → by ≤ get_or (ranked_of raw large offset).numer unit 0) → IsKept raw large (offset + by) smalls larges small_capacity large_capacity
  lowered_kept low above = record {
    paired = kept.paired;
    low = low;
    above = λ unit h is. omega (arith, kept.above unit h is, at_large raw large offset unit h is, above unit (omega (arith, h, length_view raw large offset)) is);
    small_queue = kept.small_queue;
    large_queue = kept.large_queue;
    small_order = kept.small_order;
    large_order = kept.large_order;
    all = kept.all;
    small_room = kept.small_room;
    large_room = kept.large_room;
  }

  pub lowered_view : ranked_of raw large (offset + by) ≡ lowered_by (ranked_of raw large offset) by
  lowered_view =
      let n : length (ranked_of raw large offset).numer ≡ length raw = length_view raw large offset in
      let f : ℕ → ℕ = λ unit. cond (is_in large unit) (get_or (ranked_of raw large offset).numer unit 0 - by) (get_or (ranked_of raw large offset).numer unit 0) in
      let count : length (lowered_by (ranked_of raw large offset) by).numer ≡ length raw = length-map-range_with_len f 0 (length (ranked_of raw large offset).numer) ∙ n in
      let numer_is : (ranked_of raw large (offset + by)).numer ≡ (lowered_by (ranked_of raw large offset) by).numer =
      same_number_lists (ranked_of raw large (offset + by)).numer (lowered_by (ranked_of raw large offset) by).numer (length_view raw large (offset + by) ∙ sym count)
      (λ k l. (let h : k < length raw = omega (arith, l, length_view raw large (offset + by)) in
      let there : get_or (lowered_by (ranked_of raw large offset) by).numer k 0 ≡ f k = get_or-map-range_with_len f 0 (length (ranked_of raw large offset).numer) k k 0 (omega (arith, h, n)) (omega arith) in
      at_view raw large (offset + by) k h ∙ elim (cases_Bool (is_in large k)) [
        | inl e ↦ (let value : get_or (ranked_of raw large offset).numer k 0 ≡ get_or raw k 0 - offset = at_large raw large offset k h e in rw (there, e) (omega (arith, value)))
        | inr e ↦ (let value : get_or (ranked_of raw large offset).numer k 0 ≡ get_or raw k 0 = at_small raw large offset k h e in rw (there, e) (sym value))
      ])) in
      ap (λ (numer : List ℕ). record { numer = numer; large = large; lowered = offset + by }) numer_is

-- ---- the first state, in which no unit is large

-- the units before one are put into the queue of the small ones
pub record IsFilling (raw : List ℕ) (unit : ℕ) (large : List Bool) (smalls : List (ℕ × ℕ)) : Type 0 where
  pub count : length large ≡ unit
  pub none : count_by (λ b. b) large ≡ 0
  pub queue : IsQueue (λ e. e.1) (small_entry raw) (λ k. nat_lt k unit) (length raw) smalls
  pub order : IsHeap by_numer smalls
  pub filled_to : length smalls ≡ unit

pub empty_queue : {Entry : Type 0} (unit : Entry → ℕ) (entry : ℕ → Entry) (group : ℕ → Bool) (units : ℕ) → ((k : ℕ) → k < units → group k ≡ false) → IsQueue unit entry group units []
empty_queue unit entry group units none = record {
  entries = λ k d l. absurd (omega (arith, l));
  known = λ k d l. absurd (omega (arith, l));
  once = λ k l. sym (weight_false (none k l));
}

same_group : {Entry : Type 0} (unit : Entry → ℕ) (entry : ℕ → Entry) (group group' : ℕ → Bool) (units : ℕ) (queue : List Entry) → ((k : ℕ) → k < units → group' k ≡ group k) → IsQueue unit entry group units queue → IsQueue unit entry group' units queue
same_group unit entry group group' units queue same is = record {
  entries = is.entries;
  known = is.known;
  once = λ k l. rw (same k l) (is.once k l);
}

pub filling_first : (raw : List ℕ) (large : List Bool) (smalls : List (ℕ × ℕ)) → large ≡ [] → smalls ≡ [] → IsHeap by_numer smalls → IsFilling raw 0 large smalls
filling_first raw large smalls large_is smalls_is order = record {
  count = rw large_is refl;
  none = rw large_is refl;
  queue = rw smalls_is (empty_queue (λ e. e.1) (small_entry raw) (λ k. nat_lt k 0) (length raw) (λ k l. le-ltb k 0 (omega arith)));
  order = order;
  filled_to = rw smalls_is refl;
}

pub filling_more : (raw : List ℕ) (unit a : ℕ) (large large' : List Bool) (smalls more : List (ℕ × ℕ)) → IsFilling raw unit large smalls → unit < length raw → a ≡ get_or raw unit 0 → large' ≡ large ++ false ∷ [] → IsPermutation ((a, unit) ∷ smalls) more → IsHeap by_numer more → length more ≡ length smalls + 1 → IsFilling raw (unit + 1) large' more
filling_more raw unit a large large' smalls more is h a_is large_is put order longer = record {
  count = rw large_is (simp length-append (omega (arith, is.count)));
  none = rw large_is (omega (arith, sum_by-append (λ b. cond b 1 0) large (false ∷ []), count-cons (λ b. b) false [], is.none));
  queue = pushed is.queue (small_entry raw) (λ k. nat_lt k (unit + 1)) unit (λ j _. refl) other more h (le-ltb unit unit (omega arith)) (lt-ltb unit (unit + 1) (omega arith)) refl
      (subst (λ (n : ℕ). IsPermutation ((n, unit) ∷ smalls) more) a_is put);
  order = order;
  filled_to = omega (arith, longer, is.filled_to);
}
  where
    other : (j : ℕ) → j ≢ unit → nat_lt j (unit + 1) ≡ nat_lt j unit
    other j ne =
        elim (cases_lt j unit) [
          | inl l ↦ lt-ltb j (unit + 1) (omega arith) ∙ sym (lt-ltb j unit l)
          | inr l ↦ le-ltb j (unit + 1) (omega (arith, l, ne)) ∙ sym (le-ltb j unit l)
        ]

pub filled : (raw : List ℕ) (large : List Bool) (smalls : List (ℕ × ℕ)) (larges : List (Reverse (ℕ × ℕ))) (small_capacity large_capacity : ℕ) → IsFilling raw (length raw) large smalls → larges ≡ [] → IsHeap by_numer_reversed larges → length raw ≤ small_capacity → length raw ≤ large_capacity → ((k : ℕ) → is_in large k ≡ false) → IsKept raw large 0 smalls larges small_capacity large_capacity
filled raw large smalls larges small_capacity large_capacity is larges_is order small_room large_room none = record {
  paired = is.count;
  low = omega arith;
  above = λ unit h e. omega arith;
  small_queue = same_group (λ e. e.1) (small_entry raw) (λ k. nat_lt k (length raw)) (λ k. not (is_in large k)) (length raw) smalls (λ k h. ap not (none k) ∙ sym (lt-ltb k (length raw) h)) is.queue;
  large_queue = rw larges_is (empty_queue (λ e. e.0.1) (large_entry raw) (is_in large) (length raw) (λ k l. none k));
  small_order = is.order;
  large_order = order;
  all = rw larges_is (omega (arith, is.filled_to));
  small_room = small_room;
  large_room = large_room;
}

pub first_view : (raw : List ℕ) (large : List Bool) → ((k : ℕ) → is_in large k ≡ false) → (ranked_of raw large 0).numer ≡ raw
first_view raw large none =
    same_number_lists (ranked_of raw large 0).numer raw (length_view raw large 0)
    (λ k l. at_small raw large 0 k (omega (arith, l, length_view raw large 0)) (none k))
