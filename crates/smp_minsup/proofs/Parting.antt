-- Units that change groups, until each large one counts as larger than each small one.
use Rattle.std.proofs.Common.{◌≡◌, ◌≢◌, ℕ, zero, suc, ◌+◌, ◌<◌, ◌≤◌, min, Bool, true, false, cond, List, [], ◌∷◌, length, map, get_or, set, arith, refl, sym, ap, ◌∙◌, subst, inl, inr, length-set}
use Rattle.std.specs.List.{count_by, range_with_len}
use Rattle.std.proofs.{lemmas.Bool.{cases_Bool, cases_eq, cases_lt}, lemmas.List.{get_or_past}}
use Rattle.std.proofs.lemmas.List.FromFn.{length-map-range_with_len, get_or-map-range_with_len}
use Rattle.std.proofs.lemmas.List.Sums.{sum_by-set, count_by-le-length}
use Rattle.smp_minsup.specs.{Support.{is_larger, larger_units, least}, Laws.Ranks.{larger_of, larger_total, fewer_larger}}
use Rattle.smp_split.proofs.NumberSums.{sums, sums_but, weight_true, weight_false}
use Rattle.smp_values.specs.Largest.{largest_of}
use Rattle.smp_values.proofs.Largest.{largest-at}
use Rattle.smp_minsup.specs.Laws.Bounds.{least-at, least_within}
use Rattle.smp_minsup.specs.Kept.Ranked.{RankedUnits, IsMostSmall, IsLeastLarge, IsParted, IsMixed, is_in, large_count, largest_small, least_large, placed}
use Rattle.smp_minsup.proofs.{Queues.{count-cons, none_passes}, Ranking.{placed_here, placed_other}}

-- a unit is in one group alone
pub not_both : (large : List Bool) (i j : ℕ) → is_in large i ≡ true → is_in large j ≡ false → i ≢ j
not_both large i j is not e = let other : is_in large i ≡ false = ap (is_in large) e ∙ not in cc

-- ---- how many are large

pub placed_more : (large : List Bool) (k : ℕ) → k < length large → is_in large k ≡ false → count_by (λ b. b) (set large k true) ≡ count_by (λ b. b) large + 1
placed_more large k h is = omega (arith, sum_by-set (λ b. cond b 1 0) large k true false h, weight_false is)

pub placed_fewer : (large : List Bool) (k : ℕ) → k < length large → is_in large k ≡ true → count_by (λ b. b) (set large k false) + 1 ≡ count_by (λ b. b) large
placed_fewer large k h is = omega (arith, sum_by-set (λ b. cond b 1 0) large k false false h, weight_true is)

-- where none is counted, each unit is small
pub none_large : (large : List Bool) → count_by (λ b. b) large ≡ 0 → (k : ℕ) → is_in large k ≡ false
none_large large none k =
    elim (cases_lt k (length large)) [ inl h ↦ none_passes (λ b. b) large none k false h | inr h ↦ get_or_past large k false h ]

pub parted_none : (v : RankedUnits) → large_count v ≡ 0 → IsParted v
parted_none v none unit other h l is small = let not : is_in v.large unit ≡ false = none_large v.large none unit in absurd (cc)

-- where a small unit is left, there are fewer large ones than units
pub fewer_than_all : (large : List Bool) (k : ℕ) → k < length large → is_in large k ≡ false → count_by (λ b. b) large < length large
fewer_than_all [] k h is = absurd (omega (arith, h))
fewer_than_all (b ∷ large) zero h is = omega (arith, count-cons (λ x. x) b large, weight_false is, count_by-le-length (λ x. x) large)
fewer_than_all (b ∷ large) (suc k) h is =
    elim (cases_Bool b) [
      | inl e ↦ omega (arith, count-cons (λ x. x) b large, weight_true e, fewer_than_all large k (omega (arith, h)) is)
      | inr e ↦ omega (arith, count-cons (λ x. x) b large, weight_false e, fewer_than_all large k (omega (arith, h)) is)
    ]

-- ---- a small unit becomes large

module _ (v : RankedUnits) (paired : length v.large ≡ length v.numer) where
  only_most : (i j : ℕ) → IsMostSmall v i → IsMostSmall v j → i ≡ j
  only_most i j one other =
      elim (cases_eq i j) [
        | inl e ↦ e
        | inr ne ↦ (let above : is_larger v.numer j i ≡ true = larger_total v.numer i j ne (other.most i one.within one.small) in let not : is_larger v.numer j i ≡ false = one.most j other.within other.small in absurd (cc))
      ]

  pub promoted_parted : (y : ℕ) → IsParted v → IsMostSmall v y → IsParted (placed v y true)
  promoted_parted y parted most unit other h l is small =
      let flag : y < length v.large = omega (arith, most.within, paired) in
      elim (cases_eq other y) [
        | inl e ↦ (let in_it : is_in (set v.large y true) other ≡ true = ap (is_in (set v.large y true)) e ∙ placed_here v.large y true flag in absurd (cc))
        | inr ne ↦
            (let was : is_in v.large other ≡ false = sym (placed_other v.large y true other ne) ∙ small in
            elim (cases_eq unit y) [
              | inl e ↦ rw e (larger_total v.numer other y ne (most.most other l was))
              | inr nu ↦ parted unit other h l (sym (placed_other v.large y true unit nu) ∙ is) was
            ])
      ]

  -- ---- an exchange

  abbrev measure_of : RankedUnits → ℕ
  measure_of w = sums (length w.numer) (λ k. cond (is_in w.large k) (larger_units w.numer k) 0)

  measure_up : (y : ℕ) → y < length v.numer → is_in v.large y ≡ false → measure_of (placed v y true) ≡ measure_of v + larger_units v.numer y
  measure_up y h is =
      let flag : y < length v.large = omega (arith, h, paired) in
      let moved = sums_but (length v.numer) y (λ k. cond (is_in (set v.large y true) k) (larger_units v.numer k) 0) (λ k. cond (is_in v.large k) (larger_units v.numer k) 0) h
      (λ k _ ne. rw (placed_other v.large y true k ne) refl) in
      let now : cond (is_in (set v.large y true) y) (larger_units v.numer y) 0 ≡ larger_units v.numer y = rw (placed_here v.large y true flag) refl in
      let was : cond (is_in v.large y) (larger_units v.numer y) 0 ≡ 0 = rw is refl in
      omega (arith, moved, now, was)

  measure_down : (x : ℕ) → x < length v.numer → is_in v.large x ≡ true → measure_of (placed v x false) + larger_units v.numer x ≡ measure_of v
  measure_down x h is =
      let flag : x < length v.large = omega (arith, h, paired) in
      let moved = sums_but (length v.numer) x (λ k. cond (is_in (set v.large x false) k) (larger_units v.numer k) 0) (λ k. cond (is_in v.large k) (larger_units v.numer k) 0) h
      (λ k _ ne. rw (placed_other v.large x false k ne) refl) in
      let now : cond (is_in (set v.large x false) x) (larger_units v.numer x) 0 ≡ 0 = rw (placed_here v.large x false flag) refl in
      let was : cond (is_in v.large x) (larger_units v.numer x) 0 ≡ larger_units v.numer x = rw is refl in
      omega (arith, moved, now, was)

-- what an exchange of units keeps
pub record IsExchanged (was now : RankedUnits) : Type 0 where
  pub numer : now.numer ≡ was.numer
  pub lowered : now.lowered ≡ was.lowered
  pub paired : length now.large ≡ length now.numer
  pub count : large_count now ≡ large_count was

pub exchanged_trans : (a b c : RankedUnits) → IsExchanged a b → IsExchanged b c → IsExchanged a c
exchanged_trans a b c first second = record {
  numer = second.numer ∙ first.numer;
  lowered = second.lowered ∙ first.lowered;
  paired = second.paired;
  count = second.count ∙ first.count;
}

-- by how much the groups are out of order
abbrev pub disorder : RankedUnits → ℕ
disorder v = sums (length v.numer) (λ k. cond (is_in v.large k) (larger_units v.numer k) 0)

module _ (v : RankedUnits) (paired : length v.large ≡ length v.numer) (mixed : IsMixed v) (y : ℕ) (most : IsMostSmall v y) where
  y_is : mixed.small ≡ y
  y_is = only_most v paired mixed.small y mixed.most most

  flag_y : y < length v.large
  flag_y = omega (arith, most.within, paired)

  pub mixed_fewer : large_count v < length v.numer
  mixed_fewer = omega (arith, paired, fewer_than_all v.large y flag_y most.small)

  pub mixed_some : 1 ≤ large_count (placed v y true)
  mixed_some = omega (arith, placed_more v.large y flag_y most.small)

  module _ (x : ℕ) (least : IsLeastLarge (placed v y true) x) where
    apart : x ≢ y
    apart e =
        let other : mixed.large ≢ y = not_both v.large mixed.large y mixed.least.large most.small in
        let in_it : is_in (set v.large y true) mixed.large ≡ true = placed_other v.large y true mixed.large other ∙ mixed.least.large in
        let not_above : is_larger v.numer y mixed.large ≡ false = subst (λ k. is_larger v.numer k mixed.large ≡ false) e (least.least mixed.large mixed.least.within in_it) in
        let above : is_larger v.numer y mixed.large ≡ true = subst (λ k. is_larger v.numer k mixed.large ≡ true) y_is mixed.above in
        cc

    was_large : is_in v.large x ≡ true
    was_large = sym (placed_other v.large y true x apart) ∙ least.large

    y_in : is_in (set v.large y true) y ≡ true
    y_in = placed_here v.large y true flag_y

    y_above : is_larger v.numer y x ≡ true
    y_above = larger_total v.numer x y apart (least.least y most.within y_in)

    up_paired : length (set v.large y true) ≡ length v.numer
    up_paired = simp length-set paired

    pub exchange_falls : disorder (placed (placed v y true) x false) < disorder v
    exchange_falls =
        omega (arith, measure_up v paired y most.within most.small, measure_down (placed v y true) up_paired x least.within least.large, fewer_larger v.numer y x most.within y_above)

    pub exchange_keeps : IsExchanged v (placed (placed v y true) x false)
    exchange_keeps = record {
      numer = refl;
      lowered = refl;
      paired = simp length-set paired;
      count = omega (arith, placed_more v.large y flag_y most.small, placed_fewer (set v.large y true) x (omega (arith, least.within, up_paired)) least.large);
    }

-- ---- the units that come next

module _ (v : RankedUnits) (bound : ℕ) where
  abbrev smalls : ℕ → ℕ
  smalls k = cond (is_in v.large k) 0 (get_or v.numer k 0)

  abbrev larges : ℕ → ℕ
  larges k = cond (is_in v.large k) (get_or v.numer k 0) bound

  pub for_each : (f : ℕ → ℕ) (k : ℕ) → k < length v.numer → get_or (map f (range_with_len 0 (length v.numer))) k 0 ≡ f k
  for_each f k h = get_or-map-range_with_len f 0 (length v.numer) k k 0 h (omega arith)

  pub for_length : (f : ℕ → ℕ) → length (map f (range_with_len 0 (length v.numer))) ≡ length v.numer
  for_length f = length-map-range_with_len f 0 (length v.numer)

  largest_most : (m : ℕ) (xs : List ℕ) → ((k : ℕ) → k < length xs → get_or xs k 0 ≤ m) → largest_of xs ≤ m
  largest_most m [] h = omega arith
  largest_most m (x ∷ xs) h = omega (arith, h 0 (omega arith), largest_most m xs (λ k l. h (suc k) (omega (arith, l))))

  least_least : (m : ℕ) (xs : List ℕ) → m ≤ bound → ((k : ℕ) → k < length xs → m ≤ get_or xs k 0) → m ≤ least bound xs
  least_least m [] l h = l
  least_least m (x ∷ xs) l h = omega (arith, h 0 (omega arith), least_least m xs l (λ k j. h (suc k) (omega (arith, j))))

  pub largest_small_within : (m : ℕ) → ((k : ℕ) → k < length v.numer → is_in v.large k ≡ false → get_or v.numer k 0 ≤ m) → largest_small v ≤ m
  largest_small_within m h =
      largest_most m (map smalls (range_with_len 0 (length v.numer))) (λ k l. (let here : k < length v.numer = omega (arith, l, for_length smalls) in
      rw (for_each smalls k here) (elim (cases_Bool (is_in v.large k)) [ inl e ↦ rw e (omega arith) | inr e ↦ rw e (h k here e) ])))

  pub largest_small_at : (k : ℕ) → k < length v.numer → is_in v.large k ≡ false → get_or v.numer k 0 ≤ largest_small v
  largest_small_at k h e =
      let is : smalls k ≡ get_or v.numer k 0 = rw e refl in
      omega (arith, largest-at (map smalls (range_with_len 0 (length v.numer))) k, for_each smalls k h, is)

  pub least_large_within : (m : ℕ) → m ≤ bound → ((k : ℕ) → k < length v.numer → is_in v.large k ≡ true → m ≤ get_or v.numer k 0) → m ≤ least_large bound v
  least_large_within m l h =
      least_least m (map larges (range_with_len 0 (length v.numer))) l (λ k j. (let here : k < length v.numer = omega (arith, j, for_length larges) in
      rw (for_each larges k here) (elim (cases_Bool (is_in v.large k)) [ inl e ↦ rw e (h k here e) | inr e ↦ rw e l ])))

  pub least_large_at : (k : ℕ) → k < length v.numer → is_in v.large k ≡ true → least_large bound v ≤ get_or v.numer k 0
  least_large_at k h e =
      let is : larges k ≡ get_or v.numer k 0 = rw e refl in
      omega (arith, least-at bound (map larges (range_with_len 0 (length v.numer))) k (omega (arith, h, for_length larges)), for_each larges k h, is)

  pub least_large_bound : least_large bound v ≤ bound
  least_large_bound = least_within bound (map larges (range_with_len 0 (length v.numer)))

not_larger : (numer : List ℕ) (i j : ℕ) → is_larger numer i j ≡ false → get_or numer i 0 ≤ get_or numer j 0
not_larger numer i j is =
    elim (cases_lt (get_or numer j 0) (get_or numer i 0)) [
      | inl l ↦ (let above : is_larger numer i j ≡ true = larger_of numer i j (inl l) in absurd (cc))
      | inr l ↦ l
    ]

pub largest_small_is : (v : RankedUnits) (unit : ℕ) → IsMostSmall v unit → get_or v.numer unit 0 ≡ largest_small v
largest_small_is v unit most =
    omega (arith, largest_small_at v 0 unit most.within most.small, largest_small_within v 0 (get_or v.numer unit 0) (λ k h e. not_larger v.numer k unit (most.most k h e)))

pub largest_small_none : (v : RankedUnits) → ((k : ℕ) → k < length v.numer → is_in v.large k ≡ true) → 0 ≡ largest_small v
largest_small_none v all =
    omega (arith, largest_small_within v 0 0 (λ k h e. (let is : is_in v.large k ≡ true = all k h in absurd (cc))))

pub least_large_is : (v : RankedUnits) (bound unit : ℕ) → IsLeastLarge v unit → min (get_or v.numer unit 0) bound ≡ least_large bound v
least_large_is v bound unit is =
    omega (
      arith,
      least_large_at v bound unit is.within is.large,
      least_large_bound v bound,
      least_large_within v bound (min (get_or v.numer unit 0) bound) (omega arith)
          (λ k h e. omega (arith, not_larger v.numer unit k (is.least k h e))),
    )

pub least_large_none : (v : RankedUnits) (bound : ℕ) → ((k : ℕ) → k < length v.numer → is_in v.large k ≡ false) → bound ≡ least_large bound v
least_large_none v bound none =
    omega (arith, least_large_bound v bound, least_large_within v bound bound (omega arith) (λ k h e. (let not : is_in v.large k ≡ false = none k h in absurd (cc))))

-- ---- the largest units taken one after the other

pub record IsTaking (was : RankedUnits) (taken : ℕ) (now : RankedUnits) : Type 0 where
  pub numer : now.numer ≡ was.numer
  pub lowered : now.lowered ≡ was.lowered
  pub paired : length now.large ≡ length now.numer
  pub count : large_count now ≡ taken
  pub parted : IsParted now

pub taking_more : (was now : RankedUnits) (taken y : ℕ) → IsTaking was taken now → IsMostSmall now y → IsTaking was (taken + 1) (placed now y true)
taking_more was now taken y is most = record {
  numer = is.numer;
  lowered = is.lowered;
  paired = simp length-set is.paired;
  count = omega (arith, placed_more now.large y (omega (arith, most.within, is.paired)) most.small, is.count);
  parted = promoted_parted now is.paired y is.parted most;
}
