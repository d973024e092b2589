-- The large units of a state are the r largest.
use Rattle.std.proofs.Common.{◌≡◌, ◌≢◌, ℕ, ◌-◌, ◌^◌, ◌<◌, ◌≤◌, min, Bool, true, false, cond, nat_eq, ◌&&◌, List, [], ◌∷◌, length, map, get_or, arith, refl, sym, ap, ◌∙◌, subst, inl, inr}
use Rattle.std.specs.List.{count_by, range_with_len}
use Rattle.std.proofs.lemmas.Bool.{cases_Bool, cases_eq, lt-ltb, le-ltb, eqb-false, eq-eqb, ne_eqb, and_left, and_right, false_from_ne_true}
use Rattle.std.proofs.lemmas.List.{get_or-map, length-map}
use Rattle.std.proofs.lemmas.List.FromFn.{fill_by_all, length-map-range_with_len, get_or-map-range_with_len}
use Rattle.smp_prob.specs.Shares.{Shares}
use Rattle.smp_values.specs.{Values.{fractional, fractional_count, is_settled}, Largest.{largest_of}}
use Rattle.smp_split.specs.Trees.{weight_sum, picked}
use Rattle.smp_values.proofs.{Fractional.{fractional_den, fractional_is, not_fractional}, Units.{none_fractional}}
use Rattle.smp_minsup.specs.Support.{IsSupport, is_larger, larger_units, draws_of, is_large, most_small, least_large as least_of, least, lambda, settled, lowered, support_parts}
use Rattle.smp_split.proofs.NumberSums.{counts, sums_most, sums_less, weight_true, weight_false, counts_found, sum_by-list}
use Rattle.smp_minsup.specs.Laws.Ranks.{larger_trans, not_itself, larger_units_are}
use Rattle.smp_minsup.specs.Laws.Splits.{draws_are, large_positive, small_below, lambda_large, lambda_less, lowered_sum, lowered_belongs, fractional_count_is}
use Rattle.smp_minsup.specs.Kept.Ranked.{RankedUnits, IsCut, IsParted, is_in, large_count, largest_small, least_large, lowered_by, shares_over, shares_kept}
use Rattle.smp_minsup.proofs.Queues.{count-cons}
use Rattle.smp_minsup.proofs.Parting.{largest_small_within, largest_small_at, least_large_within, least_large_at, least_large_bound}

-- lists made from functions that agree
for_same : {X : Type 0} (n : ℕ) (f g : ℕ → X) (d : X) → ((k : ℕ) → k < n → g k ≡ f k) → map g (range_with_len 0 n) ≡ map f (range_with_len 0 n)
for_same n f g d h =
    fill_by_all f (map g (range_with_len 0 n)) n d (length-map-range_with_len g 0 n) (λ k l. get_or-map-range_with_len g 0 n k k d l (omega arith) ∙ h k l)

module _ (den : ℕ) (v : RankedUnits) (cut : IsCut den v) where
  abbrev s : Shares
  s = shares_over den v

  count_is : counts (length v.numer) (is_in v.large) ≡ draws_of s
  count_is = subst (λ (n : ℕ). counts n (is_in v.large) ≡ draws_of s) cut.paired (sym (sum_by-list (λ b. cond b 1 0) v.large false) ∙ cut.count)

  large_first : (k : ℕ) → k < length v.numer → is_in v.large k ≡ true → larger_units v.numer k < draws_of s
  large_first k h is =
      let less = sums_less (length v.numer) k (λ j. cond (is_larger v.numer j k) 1 0) (λ j. cond (is_in v.large j) 1 0) h
      (λ j l. elim (cases_Bool (is_in v.large j)) [
        | inl e ↦ (elim (cases_Bool (is_larger v.numer j k)) [ inl f ↦ rw (e, f) (omega arith) | inr f ↦ rw (e, f) (omega arith) ])
        | inr e ↦
            (let not : is_larger v.numer j k ≡ false = false_from_ne_true (is_larger v.numer j k) (λ f. (let itself : is_larger v.numer k k ≡ true = larger_trans v.numer k j k (cut.parted k j h l is e) f in let never : is_larger v.numer k k ≡ false = not_itself v.numer k in cc)) in
            rw (e, not) (omega arith))
      ]) in
      omega (arith, less, weight_true is, weight_false (not_itself v.numer k), larger_units_are v.numer k, count_is)

  small_last : (k : ℕ) → k < length v.numer → is_in v.large k ≡ false → draws_of s ≤ larger_units v.numer k
  small_last k h is =
      let most = sums_most (length v.numer) (λ j. cond (is_in v.large j) 1 0) (λ j. cond (is_larger v.numer j k) 1 0)
      (λ j l. elim (cases_Bool (is_in v.large j)) [ inl e ↦ rw (e, cut.parted j k l h e is) (omega arith) | inr e ↦ rw e (omega arith) ]) in
      omega (arith, most, larger_units_are v.numer k, count_is)

  pub cut_is : (k : ℕ) → k < length v.numer → is_in v.large k ≡ is_large s k
  cut_is k h =
      elim (cases_Bool (is_in v.large k)) [
        | inl e ↦ e ∙ sym (lt-ltb (larger_units v.numer k) (draws_of s) (large_first k h e))
        | inr e ↦ e ∙ sym (le-ltb (larger_units v.numer k) (draws_of s) (small_last k h e))
      ]

  -- what the state's own numbers are
  pub largest_small_most : largest_small v ≡ most_small s
  largest_small_most =
      ap largest_of (for_same (length v.numer) (λ k. cond (is_large s k) 0 (get_or v.numer k 0)) (λ k. cond (is_in v.large k) 0 (get_or v.numer k 0)) 0 (λ k h. rw (cut_is k h) refl))

  pub least_large_least : least_large den v ≡ least_of s
  least_large_least =
      ap (least den) (for_same (length v.numer) (λ k. cond (is_large s k) (get_or v.numer k 0) den) (λ k. cond (is_in v.large k) (get_or v.numer k 0) den) 0 (λ k h. rw (cut_is k h) refl))

  pub lambda_is : min (den - largest_small v) (least_large den v) ≡ lambda s
  lambda_is = rw (largest_small_most, least_large_least) refl

  pub settled_is : shares_kept true den v ≡ settled s
  settled_is =
      let flags : v.large ≡ map (is_in v.large) (range_with_len 0 (length v.numer)) = fill_by_all (is_in v.large) v.large (length v.numer) false cut.paired (λ k h. refl) in
      let numer_is : map (λ large. cond large den 0) v.large ≡ map (λ k. cond (is_large s k) den 0) (range_with_len 0 (length v.numer)) =
      fill_by_all (λ k. cond (is_large s k) den 0) (map (λ large. cond large den 0) v.large) (length v.numer) 0 (length-map v.large (λ large. cond large den 0) ∙ cut.paired)
      (λ k h. get_or-map (λ large. cond large den 0) v.large k false 0 (omega (arith, h, cut.paired)) ∙ ap (λ b. cond b den 0) (cut_is k h)) in
      ap (λ (numer : List ℕ). record { numer = numer; den = den }) numer_is

  module _ (units : ℕ) (ok : IsSupport units s) where
    pub most_within : largest_small v ≤ den
    most_within = largest_small_within v 0 den (λ k h e. ok.values.each k)

    -- nothing is fractional where the largest small one is 0 and the least large one is 1
    pub done_is : (nat_eq (largest_small v) 0 && nat_eq (least_large den v) den) ≡ is_settled s
    done_is =
        elim (cases_eq (fractional_count s) 0) [
          | inl none ↦
              (let smalls : largest_small v ≡ 0 = omega (
                arith,
                largest_small_within v 0 0 (λ k h e. elim (not_fractional den (get_or v.numer k 0) (ok.values.each k) (none_fractional s none k)) [
                  | inl nought ↦ omega (arith, nought)
                  | inr full ↦ absurd (omega (arith, full, small_below units s ok k h (sym (cut_is k h) ∙ e)))
                ]),
              ) in
              let larges : least_large den v ≡ den = omega (
                arith,
                least_large_bound v den,
                least_large_within v den den (omega arith) (λ k h e. elim (not_fractional den (get_or v.numer k 0) (ok.values.each k) (none_fractional s none k)) [
                  | inl nought ↦ absurd (omega (arith, nought, large_positive units s ok k (sym (cut_is k h) ∙ e)))
                  | inr full ↦ omega (arith, full)
                ]),
              ) in
              rw (eq-eqb (largest_small v) 0 smalls, eq-eqb (least_large den v) den larges, eq-eqb (fractional_count s) 0 none) refl)
          | inr some ↦
              (let found = counts_found (length v.numer) (λ k. fractional den (get_or v.numer k 0)) (omega (arith, some, fractional_count_is units s ok)) in
              let between = fractional_is den (get_or v.numer found.0 0) found.1.1 in
              rw (ne_eqb (fractional_count s) 0 some) (elim (cases_Bool (is_in v.large found.0)) [
                | inl e ↦ and_right (nat_eq (largest_small v) 0) (nat_eq (least_large den v) den) (ne_eqb (least_large den v) den (omega (arith, least_large_at v den found.0 found.1.0 e, between.1)))
                | inr e ↦ and_left (nat_eq (largest_small v) 0) (nat_eq (least_large den v) den) (ne_eqb (largest_small v) 0 (omega (arith, largest_small_at v 0 found.0 found.1.0 e, between.0)))
              ]))
        ]

    pub lowered_paired : length v.large ≡ length (lowered_by v (lambda s)).numer
    lowered_paired = cut.paired ∙ sym (length-map-range_with_len (λ k. cond (is_in v.large k) (get_or v.numer k 0 - lambda s) (get_or v.numer k 0)) 0 (length v.numer))

    -- what it takes to lower the large ones
    pub lower_within : (unit : ℕ) → unit < length v.numer → is_in v.large unit ≡ true → lambda s ≤ get_or v.numer unit 0
    lower_within k h e = lambda_large units s ok k h (sym (cut_is k h) ∙ e)

    module _ (going : 1 ≤ fractional_count s) where
      pub lowered_is : (lowered_by v (lambda s)).numer ≡ (lowered s).numer
      lowered_is =
          for_same (length v.numer) (λ k. cond (is_large s k) (get_or v.numer k 0 - lambda s) (get_or v.numer k 0)) (λ k. cond (is_in v.large k) (get_or v.numer k 0 - lambda s) (get_or v.numer k 0)) 0 (λ k h. rw (cut_is k h) refl)

      pub lowered_narrow : (unit : ℕ) → get_or (lowered_by v (lambda s)).numer unit 0 < 2 ^ 126
      lowered_narrow unit =
          let each : get_or (lowered s).numer unit 0 ≤ den - lambda s = (lowered_belongs units s ok going).values.each unit in
          rw lowered_is (omega (arith, each, ok.values.narrow))

      -- after the exchanges the large units are again the largest
      pub cut_again : (w : RankedUnits) → w.numer ≡ (lowered_by v (lambda s)).numer → w.lowered ≡ (lowered_by v (lambda s)).lowered → length w.large ≡ length w.numer → large_count w ≡ large_count (lowered_by v (lambda s)) → IsParted w → IsCut (den - lambda s) w
      cut_again w numer_is lowered_to paired count parted = record {
        paired = paired;
        parted = parted;
        count = (let draws : draws_of (lowered s) ≡ draws_of s = draws_are (draws_of s) (lowered s) (omega (arith, lambda_less units s ok going)) (lowered_sum units s ok going) in
            count ∙ cut.count ∙ sym draws ∙ ap (λ (numer : List ℕ). draws_of (record { numer = numer; den = den - lambda s })) (sym (numer_is ∙ lowered_is)));
        low = omega (arith, lowered_to, cut.low, lambda_less units s ok going);
      }

-- the kept state, whether or not it is settled
pub kept_den : (b : Bool) (den : ℕ) (v : RankedUnits) → (shares_kept b den v).den ≡ den
kept_den true den v = refl
kept_den false den v = refl

pub bound_is : (s : Shares) → weight_sum (support_parts s) ≡ s.den
bound_is s = omega arith

pub kept_done : (den : ℕ) (v : RankedUnits) → is_settled (shares_kept true den v) ≡ true
kept_done den v =
    let none : (large : List Bool) → count_by (fractional den) (map (λ b. cond b den 0) large) ≡ 0 = none_between_ends den in
    eq-eqb (fractional_count (shares_kept true den v)) 0 (none v.large)
  where
    none_between_ends : (den : ℕ) (large : List Bool) → count_by (fractional den) (map (λ b. cond b den 0) large) ≡ 0
    none_between_ends den [] = refl
    none_between_ends den (true ∷ large) = omega (arith, count-cons (fractional den) den (map (λ b. cond b den 0) large), weight_false (fractional_den den), none_between_ends den large)
    none_between_ends den (false ∷ large) = omega (arith, count-cons (fractional den) 0 (map (λ b. cond b den 0) large), none_between_ends den large)

-- the state that a draw leads to
pub picked_settled : (s : Shares) (draw : ℕ) → draw < lambda s → settled s ≡ picked s (support_parts s) draw
picked_settled s draw h = rw (lt-ltb draw (lambda s) h) refl

pub picked_lowered : (s : Shares) (draw : ℕ) → lambda s ≤ draw → draw < weight_sum (support_parts s) → lowered s ≡ picked s (support_parts s) draw
picked_lowered s draw h within = rw (le-ltb draw (lambda s) h, lt-ltb (draw - lambda s) (s.den - lambda s) (omega (arith, h, within))) refl

-- a settled unit is selected where it is large
pub selected_is : (den : ℕ) (v : RankedUnits) (unit : ℕ) → 1 ≤ den → unit < length v.large → is_in v.large unit ≡ nat_eq (get_or (shares_kept true den v).numer unit 0) den
selected_is den v unit one h =
    let value : get_or (shares_kept true den v).numer unit 0 ≡ cond (is_in v.large unit) den 0 = get_or-map (λ b. cond b den 0) v.large unit false 0 h in
    rw value (elim (cases_Bool (is_in v.large unit)) [ inl e ↦ rw (e, eq-eqb den den refl) refl | inr e ↦ rw (e, ne_eqb 0 den (omega (arith, one))) refl ])

-- a state that goes on isn't settled
pub record IsOpen (b : Bool) (den : ℕ) (v : RankedUnits) (s : Shares) : Type 0 where
  pub is_open : b ≡ false
  pub same : s ≡ shares_over den v
  pub cut : IsCut den v
  pub state : IsSupport (length v.numer) (shares_over den v)
  pub going : 1 ≤ fractional_count (shares_over den v)

pub opened : (b : Bool) (den : ℕ) (v : RankedUnits) (s : Shares) → shares_kept b den v ≡ s → (b ≡ false → IsCut den v) → IsSupport (length s.numer) s → is_settled s ≡ false → IsOpen b den v s
opened true den v s is cut state going =
    let done : is_settled s ≡ true = subst (λ (t : Shares). is_settled t ≡ true) is (kept_done den v) in absurd (cc)
opened false den v s is cut state going =
    let ok : IsSupport (length v.numer) (shares_over den v) = subst (λ (t : Shares). IsSupport (length t.numer) t) (sym is) state in
    let some : fractional_count (shares_over den v) ≢ 0 = eqb-false (fractional_count (shares_over den v)) 0 (subst (λ (t : Shares). is_settled t ≡ false) (sym is) going) in
    record { is_open = refl; same = sym is; cut = cut refl; state = ok; going = omega (arith, some) }
