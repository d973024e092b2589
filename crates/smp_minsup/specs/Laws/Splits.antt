-- The splits of the minimum support design are lawful, and keep a whole sum of the values.
use Rattle.std.proofs.Common.{◌≡◌, ◌≢◌, ℕ, zero, suc, ◌+◌, ◌-◌, ◌*◌, ◌/◌, ◌<◌, ◌≤◌, Bool}
use Rattle.std.proofs.Common.{true, false, cond, length, get_or, arith, refl, sym, ap, ◌∙◌, inl, inr}
use Rattle.std.specs.List.{sum}
use Rattle.std.proofs.Math.Nat.{mul-le-mul_right, mul-div_cancel}
use Rattle.std.proofs.lemmas.Bool.{cases_Bool, cases_lt, ltb-true, ltb-false, eqb-false}
use Rattle.std.proofs.lemmas.List.{get_or_past}
use Rattle.std.proofs.lemmas.List.FromFn.{length-map-range_with_len, get_or-map-range_with_len}
use Rattle.smp_prob.specs.Shares.{Shares}
use Rattle.smp_frac.specs.Limits.{wide_limit}
use Rattle.smp_frac.specs.Fractions.{Same, whole, plus, times, over}
use Rattle.smp_frac.proofs.Arithmetic.{same_refl, same_sym, same_trans, plus_same, times_same, times-zero, times-one}
use Rattle.smp_frac.proofs.Over.{over_zero, over_one}
use Rattle.smp_split.specs.Counts.{AddsUp, LeavesSelect}
use Rattle.smp_split.specs.Trees.{EachPart, LawfulSplit, Lawful, weight_sum, weighted}
use Rattle.smp_split.specs.declared.kind.Kind.TheVariants.{Support}
use Rattle.smp_split.proofs.NumberSums.{sums, counts, sums_most, sums_less, sums-none, sums_scaled, sums_constant, weight_true}
use Rattle.smp_split.proofs.NumberSums.{weight_false, counts_found, sum_by-list, sum_by-map-range}
use Rattle.smp_split.proofs.Over.{whole-over}
use Rattle.smp_split.specs.Laws.Parts.{plus-whole}
use Rattle.smp_values.specs.Values.{AddTo, fractional, fractional_count, is_settled}
use Rattle.smp_values.proofs.Designs.{values_lawful, values_count}
use Rattle.smp_values.proofs.Fractional.{fractional_is, is_fractional-between, fractional_den, not_fractional}
use Rattle.smp_minsup.specs.Support.{is_larger, larger_units, draws_of, is_large, for_units, most_small, least_large, lambda, settled}
use Rattle.smp_minsup.specs.Support.{lowered, support_parts, support_tree, IsSupport}
use Rattle.smp_minsup.specs.Laws.Ranks.{larger_of, larger_means, not_itself, larger_units_are, ranked}
use Rattle.smp_values.proofs.Largest.{largest-at, largest_found}
use Rattle.smp_minsup.specs.Laws.Bounds.{least-at, least_within, least_found}

-- ---- fractions

-- both parts together, where the first has the value b once it is multiplied by its weight
parts_even : (l w d x y b a : ℕ) → 1 ≤ w → l + (w + 0) ≡ d → b + y ≡ a → Same (times (whole l) (over x d)) (whole b)
    → Same (plus (times (whole l) (over x d)) (plus (times (whole w) (over y w)) (whole 0)))
    (times (whole (l + (w + 0))) (over a d))
parts_even l w d x y b a p d_is a_is first =
    let rest : Same (plus (times (whole w) (over y w)) (whole 0)) (whole (y + 0)) =
    same_trans (plus_same (whole-over w y p) (same_refl (whole 0))) (plus-whole y 0) in
    let both : Same (plus (times (whole l) (over x d)) (plus (times (whole w) (over y w)) (whole 0)))
    (whole (b + (y + 0))) = same_trans (plus_same first rest) (plus-whole b (y + 0)) in
    let total : b + (y + 0) ≡ a = omega (arith, a_is) in
    let all : Same (times (whole d) (over a d)) (whole a) = whole-over d a (omega (arith, p, d_is)) in
    rw d_is (same_trans (rw total at both) (same_sym all))

one_of : (l d : ℕ) → 1 ≤ d → Same (times (whole l) (over d d)) (whole l)
one_of l d p = same_trans (times_same (same_refl (whole l)) (over_one d p)) (times-one (whole l))

none_of : (l d : ℕ) → Same (times (whole l) (over 0 d)) (whole 0)
none_of l d = same_trans (times_same (same_refl (whole l)) (over_zero d)) (times-zero (whole l))

-- the values of a state are enough to tell how many units are to be selected
pub draws_are : (r : ℕ) (s : Shares) → 1 ≤ s.den → sum s.numer ≡ r * s.den → draws_of s ≡ r
draws_are r s one total = let some : 0 < s.den = omega arith in ap (λ x. x / s.den) total ∙ mul-div_cancel r some

pub whole_sum : (r : ℕ) (s : Shares) → 1 ≤ s.den → sum s.numer ≡ r * s.den → sum s.numer ≡ draws_of s * s.den
whole_sum r s one total = rw (draws_are r s one total) total

-- the sum where some are lowered by l
lowered_total : (n : ℕ) (p : ℕ → Bool) (l : ℕ) (f : ℕ → ℕ) → ((k : ℕ) → k < n → p k ≡ true → l ≤ f k)
    → sums n (λ k. cond (p k) (f k - l) (f k)) + counts n p * l ≡ sums n f
lowered_total zero p l f h = omega arith
lowered_total (suc n) p l f h =
    let rest = lowered_total n p l f (λ k m. h k (omega arith)) in
    elim (cases_Bool (p n)) [ inl e ↦ rw e (omega (arith, rest, h n (omega arith) e)) | inr e ↦ rw e (omega (arith, rest)) ]

module _ (units : ℕ) (s : Shares) (ok : IsSupport units s) where
  abbrev n : ℕ
  n = length s.numer

  abbrev at : ℕ → ℕ
  at k = get_or s.numer k 0

  abbrev large : ℕ → Bool
  large k = is_large s k

  pub sum_is : sums n at ≡ draws_of s * s.den
  sum_is = sym (sum_by-list (λ x. x) s.numer 0) ∙ ok.whole

  pub draws_within : draws_of s ≤ n
  draws_within =
      elim (cases_lt n (draws_of s)) [
        | inr l ↦ l
        | inl l ↦
            (let more : (n + 1) * s.den ≤ draws_of s * s.den = mul-le-mul_right s.den (omega arith) in
            absurd (omega (
              arith,
              more,
              sum_is,
              ok.values.positive,
              sums_most n at (λ k. s.den) (λ k _. ok.values.each k),
              sums_constant n s.den,
            )))
      ]

  pub count_is : counts n large ≡ draws_of s
  count_is = ranked s.numer (draws_of s) draws_within

  -- a unit of value 0 isn't large, and one of value 1 is
  pub large_positive : (k : ℕ) → large k ≡ true → 1 ≤ at k
  large_positive k h =
      let few : larger_units s.numer k < draws_of s = ltb-true (larger_units s.numer k) (draws_of s) h in
      elim (cases_lt 0 (at k)) [
        | inl l ↦ omega arith
        | inr none ↦
            (let above : sums n at ≤ counts n (λ j. is_larger s.numer j k) * s.den =
            (let most = sums_most n at (λ j. cond (is_larger s.numer j k) s.den 0) (λ j _. elim (cases_lt 0 (at j)) [
              | inl l ↦ rw (larger_of s.numer j k (inl (omega arith))) (ok.values.each j)
              | inr l ↦ omega (arith, l)
            ]) in
            omega (arith, most, sums_scaled n s.den (λ j. is_larger s.numer j k))) in
            let more : (larger_units s.numer k + 1) * s.den ≤ draws_of s * s.den = mul-le-mul_right s.den (omega arith) in
            absurd (omega (arith, above, more, sum_is, ok.values.positive, ap (λ x. x * s.den) (larger_units_are s.numer k))))
      ]

  pub small_below : (k : ℕ) → k < n → large k ≡ false → at k < s.den
  small_below k here h =
      let many : draws_of s ≤ larger_units s.numer k = ltb-false (larger_units s.numer k) (draws_of s) h in
      elim (cases_lt (at k) s.den) [
        | inl l ↦ l
        | inr full ↦
            (let above = sums_less n k (λ j. cond (is_larger s.numer j k) s.den 0) at here
            (λ j _. elim (cases_Bool (is_larger s.numer j k)) [
              | inl e ↦ rw e (omega (arith, full, larger_means s.numer j k e))
              | inr e ↦ rw e (omega arith)
            ]) in
            let none : cond (is_larger s.numer k k) s.den 0 ≡ 0 = rw (not_itself s.numer k) refl in
            let more : draws_of s * s.den ≤ larger_units s.numer k * s.den = mul-le-mul_right s.den many in
            absurd (omega (
              arith,
              above,
              none,
              more,
              full,
              sum_is,
              ok.values.positive,
              sums_scaled n s.den (λ j. is_larger s.numer j k),
              ap (λ x. x * s.den) (larger_units_are s.numer k),
            )))
      ]

  -- ---- lambda

  pub at_units : (f : ℕ → ℕ) (k : ℕ) → k < n → get_or (for_units s f) k 0 ≡ f k
  at_units f k h = get_or-map-range_with_len f 0 n k k 0 h (omega arith)

  pub length-units : (f : ℕ → ℕ) → length (for_units s f) ≡ n
  length-units f = length-map-range_with_len f 0 n

  abbrev smalls : ℕ → ℕ
  smalls k = cond (large k) 0 (at k)

  abbrev larges : ℕ → ℕ
  larges k = cond (large k) (at k) s.den

  least_positive : 1 ≤ least_large s
  least_positive =
      elim (cases_lt (least_large s) s.den) [
        | inr l ↦ omega (arith, l, ok.values.positive)
        | inl l ↦
            (let found = least_found s.den (for_units s larges) l in
            let here : found.place < n = omega (arith, found.holds.0, length-units larges) in
            let is : larges found.place ≡ least_large s = sym (at_units larges found.place here) ∙ found.holds.1 in
            elim (cases_Bool (large found.place)) [
              | inl e ↦ (let same : at found.place ≡ least_large s = rw e at is in omega (arith, same, large_positive found.place e))
              | inr e ↦ (let same : s.den ≡ least_large s = rw e at is in omega (arith, same, ok.values.positive))
            ])
      ]

  most_below : most_small s < s.den
  most_below =
      elim (cases_lt 0 (most_small s)) [
        | inr l ↦ omega (arith, l, ok.values.positive)
        | inl l ↦
            (let found = largest_found (for_units s smalls) (omega (arith, l)) in
            let here : found.place < n = omega (arith, found.holds.0, length-units smalls) in
            let is : smalls found.place ≡ most_small s = sym (at_units smalls found.place here) ∙ found.holds.1 in
            elim (cases_Bool (large found.place)) [
              | inl e ↦ (let same : 0 ≡ most_small s = rw e at is in omega (arith, same, ok.values.positive))
              | inr e ↦ (let same : at found.place ≡ most_small s = rw e at is in omega (arith, same, small_below found.place here e))
            ])
      ]

  pub lambda_positive : 1 ≤ lambda s
  lambda_positive = omega (arith, least_positive, most_below)

  pub lambda_large : (k : ℕ) → k < n → large k ≡ true → lambda s ≤ at k
  lambda_large k h e =
      let same : larges k ≡ at k = rw e refl in
      omega (arith, least-at s.den (for_units s larges) k (omega (arith, h, length-units larges)), at_units larges k h, same)

  pub lambda_small : (k : ℕ) → k < n → large k ≡ false → at k + lambda s ≤ s.den
  lambda_small k h e =
      let same : smalls k ≡ at k = rw e refl in
      omega (arith, largest-at (for_units s smalls) k, at_units smalls k h, same, most_below)

  -- ---- the parts

  abbrev after_settling : ℕ → ℕ
  after_settling k = cond (large k) s.den 0

  abbrev after_lowering : ℕ → ℕ
  after_lowering k = cond (large k) (at k - lambda s) (at k)

  pub fractional_count_is : fractional_count s ≡ counts n (λ k. fractional s.den (at k))
  fractional_count_is = sum_by-list (λ a. cond (fractional s.den a) 1 0) s.numer 0

  pub settled_done : fractional_count (settled s) ≡ 0
  settled_done =
      sum_by-map-range n (λ a. cond (fractional s.den a) 1 0) after_settling
      ∙ sums-none n (λ k. cond (fractional s.den (after_settling k)) 1 0)
      (λ k _. elim (cases_Bool (large k)) [ inl e ↦ rw (e, fractional_den s.den) refl | inr e ↦ rw e refl ])

  pub settled_sum : sum (settled s).numer ≡ draws_of s * s.den
  settled_sum = sum_by-map-range n (λ x. x) after_settling ∙ sums_scaled n s.den large ∙ ap (λ x. x * s.den) count_is

  settled_each : (k : ℕ) → get_or (settled s).numer k 0 ≤ s.den
  settled_each k =
      elim (cases_lt k n) [
        | inl h ↦ rw (at_units after_settling k h)
            (elim (cases_Bool (large k)) [ inl e ↦ rw e (omega arith) | inr e ↦ rw e (omega arith) ])
        | inr h ↦ rw (get_or_past (settled s).numer k 0 (omega (arith, h, length-units after_settling))) (omega arith)
      ]

  pub settled_belongs : IsSupport units (settled s)
  settled_belongs = record {
    values = record {
      count = length-units after_settling ∙ ok.values.count;
      positive = ok.values.positive;
      narrow = ok.values.narrow;
      each = settled_each;
    };
    whole = whole_sum (draws_of s) (settled s) ok.values.positive settled_sum;
  }

  module _ (going : 1 ≤ fractional_count s) where
    pub some_between : (k : ℕ) × ((k < n) × (fractional s.den (at k) ≡ true))
    some_between = counts_found n (λ k. fractional s.den (at k)) (omega (arith, going, fractional_count_is))

    pub lambda_less : lambda s < s.den
    lambda_less =
        let found = some_between in
        let between = fractional_is s.den (at found.0) found.1.1 in
        elim (cases_Bool (large found.0)) [
          | inl e ↦ omega (arith, lambda_large found.0 found.1.0 e, between.1)
          | inr e ↦ omega (arith, lambda_small found.0 found.1.0 e, between.0)
        ]

    -- a unit that isn't fractional stays so
    lowered_keeps : (k : ℕ) → k < n → fractional s.den (at k) ≡ false → fractional (s.den - lambda s) (after_lowering k) ≡ false
    lowered_keeps k h e =
        elim (not_fractional s.den (at k) (ok.values.each k) e) [
          | inl none ↦ elim (cases_Bool (large k)) [
            | inl f ↦ absurd (omega (arith, none, large_positive k f))
            | inr f ↦ rw (f, none) refl
          ]
          | inr full ↦ elim (cases_Bool (large k)) [
            | inl f ↦ rw (f, full) (fractional_den (s.den - lambda s))
            | inr f ↦ absurd (omega (arith, full, small_below k h f))
          ]
        ]

    falls_at : (k : ℕ) → k < n → fractional s.den (at k) ≡ true
        → fractional (s.den - lambda s) (after_lowering k) ≡ false
        → fractional_count (lowered s) < fractional_count s
    falls_at k h was is =
        let less = sums_less n k (λ j. cond (fractional (s.den - lambda s) (after_lowering j)) 1 0)
        (λ j. cond (fractional s.den (at j)) 1 0) h
        (λ j l. elim (cases_Bool (fractional s.den (at j))) [
          | inl e ↦ elim (cases_Bool (fractional (s.den - lambda s) (after_lowering j)))
              [ inl f ↦ rw (e, f) (omega arith) | inr f ↦ rw (e, f) (omega arith) ]
          | inr e ↦ rw (e, lowered_keeps j l e) (omega arith)
        ]) in
        omega (
          arith,
          less,
          weight_true was,
          weight_false is,
          fractional_count_is,
          sum_by-map-range n (λ a. cond (fractional (s.den - lambda s) a) 1 0) after_lowering,
        )

    -- where lambda is met, one is fractional no more
    pub lowered_falls : fractional_count (lowered s) < fractional_count s
    lowered_falls =
        elim (cases_lt (s.den - most_small s) (least_large s)) [
          | inl l ↦
              (let within : least_large s ≤ s.den = least_within s.den (for_units s larges) in
              let found = largest_found (for_units s smalls) (omega (arith, l, within)) in
              let here : found.place < n = omega (arith, found.holds.0, length-units smalls) in
              let is : smalls found.place ≡ most_small s = sym (at_units smalls found.place here) ∙ found.holds.1 in
              elim (cases_Bool (large found.place)) [
                | inl e ↦ (let same : 0 ≡ most_small s = rw e at is in absurd (omega (arith, same, l, within)))
                | inr e ↦
                    (let same : at found.place ≡ most_small s = rw e at is in
                    let den_is : s.den - lambda s ≡ at found.place = omega (arith, l, same, most_below) in
                    falls_at found.place here (is_fractional-between s.den (at found.place)
                    (omega (arith, same, l, within)) (omega (arith, same, most_below)))
                    (rw (e, den_is) (fractional_den (at found.place))))
              ])
          | inr l ↦
              (let less : lambda s < s.den = lambda_less in
              let found = least_found s.den (for_units s larges) (omega (arith, l, less)) in
              let here : found.place < n = omega (arith, found.holds.0, length-units larges) in
              let is : larges found.place ≡ least_large s = sym (at_units larges found.place here) ∙ found.holds.1 in
              elim (cases_Bool (large found.place)) [
                | inl e ↦
                    (let same : at found.place ≡ least_large s = rw e at is in
                    let none : at found.place - lambda s ≡ 0 = omega (arith, l, same) in
                    falls_at found.place here (is_fractional-between s.den (at found.place)
                    (omega (arith, same, least_positive)) (omega (arith, same, l, less))) (rw (e, none) refl))
                | inr e ↦ (let same : s.den ≡ least_large s = rw e at is in absurd (omega (arith, same, l, less)))
              ])
        ]

    pub lowered_sum : sum (lowered s).numer ≡ draws_of s * (s.den - lambda s)
    lowered_sum =
        let taken = lowered_total n large (lambda s) at lambda_large in
        let den_is : s.den ≡ s.den - lambda s + lambda s = omega (arith, lambda_less) in
        let product : draws_of s * s.den ≡ draws_of s * (s.den - lambda s) + draws_of s * lambda s =
        ap (λ x. draws_of s * x) den_is ∙ omega arith in
        omega (arith, taken, sum_is, product, ap (λ x. x * lambda s) count_is, sum_by-map-range n (λ x. x) after_lowering)

    lowered_each : (k : ℕ) → get_or (lowered s).numer k 0 ≤ s.den - lambda s
    lowered_each k =
        elim (cases_lt k n) [
          | inl h ↦ rw (at_units after_lowering k h)
              (elim (cases_Bool (large k)) [
                | inl e ↦ rw e (omega (arith, ok.values.each k))
                | inr e ↦ rw e (omega (arith, lambda_small k h e))
              ])
          | inr h ↦ rw (get_or_past (lowered s).numer k 0 (omega (arith, h, length-units after_lowering))) (omega arith)
        ]

    pub lowered_belongs : IsSupport units (lowered s)
    lowered_belongs = record {
      values = record {
        count = length-units after_lowering ∙ ok.values.count;
        positive = omega (arith, lambda_less);
        narrow = omega (arith, ok.values.narrow);
        each = lowered_each;
      };
      whole = whole_sum (draws_of s) (lowered s) (omega (arith, lambda_less)) lowered_sum;
    }

    support_even : (k : ℕ) → k < n → Same (weighted (λ t. over (get_or t.numer k 0) t.den) (support_parts s))
        (times (whole (weight_sum (support_parts s))) (over (at k) s.den))
    support_even k h =
        let weight : 1 ≤ s.den - lambda s = omega (arith, lambda_less) in
        let total : lambda s + (s.den - lambda s + 0) ≡ s.den = omega (arith, lambda_less) in
        rw (at_units after_settling k h, at_units after_lowering k h) (elim (cases_Bool (large k)) [
          | inl e ↦ rw e (parts_even (lambda s) (s.den - lambda s) s.den s.den (at k - lambda s) (lambda s) (at k)
              weight total (omega (arith, lambda_large k h e)) (one_of (lambda s) s.den ok.values.positive))
          | inr e ↦ rw e (parts_even (lambda s) (s.den - lambda s) s.den 0 (at k) 0 (at k) weight total
              (omega arith) (none_of (lambda s) s.den))
        ])

    pub support_split : LawfulSplit (support_tree units) (IsSupport units) s
    support_split = record {
      some = omega (arith, lambda_positive);
      narrow = omega (arith, lambda_less, ok.values.narrow);
      each = (
        record { heavy = lambda_positive; falls = omega (arith, settled_done, going); member = settled_belongs },
        (record { heavy = omega (arith, lambda_less); falls = lowered_falls; member = lowered_belongs }, tt),
      );
      even = λ k l. support_even k (omega (arith, l, ok.values.count));
    }

    pub support_keep : (r : ℕ) → AddTo r s → EachPart (λ p. AddTo r p.state) (support_parts s)
    support_keep r whole =
        let draws : draws_of s ≡ r = draws_are r s ok.values.positive whole in
        (settled_sum ∙ ap (λ k. k * s.den) draws, (lowered_sum ∙ ap (λ k. k * (s.den - lambda s)) draws, tt))

still_going : (s : Shares) → is_settled s ≡ false → 1 ≤ fractional_count s
still_going s going = let some : fractional_count s ≢ 0 = eqb-false (fractional_count s) 0 going in omega arith

pub support_lawful : (units : ℕ) → Lawful (support_tree units) (IsSupport units)
support_lawful units =
    values_lawful units (wide_limit - 1) (λ _. Support) support_parts (λ fractional. fractional) (IsSupport units) (λ s ok. ok.values)
    (λ s ok going. support_split units s ok (still_going s going))

-- where the values add up to n, each leaf selects n units
pub leaf_count : (units n : ℕ) (s : Shares) → IsSupport units s → AddsUp (support_tree units) n s
    → LeavesSelect (support_tree units) n s
leaf_count units n s ok adds =
    values_count units (wide_limit - 1) (λ _. Support) support_parts (λ fractional. fractional) (IsSupport units)
    (λ t here. here.values) (support_lawful units) n
    (λ t here going whole. support_keep units t here (still_going t going) n whole) s ok adds
