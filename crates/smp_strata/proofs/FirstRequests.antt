-- The request over the first stage units of a stratum.
use Rattle.std.proofs.Common.{◌≡◌, ℕ, zero, suc, ◌+◌, ◌*◌, ◌<◌, ◌≤◌, ◌==◌, pos, true, false, not, Bool, List, [], ◌∷◌, length, map, filter, get_or, true≢false, nat_eq, nat_lt, Option, Some, None, inl, inr, arith, refl, sym, ap, subst, ◌∙◌}
use Rattle.std.specs.{Prelude.{All, IsSome, IsTrue, OnSome}, List.{list_any}, Str.{bytes_eq}}
use Rattle.std.proofs.{lemmas.Bool.{cases_Bool, eqb-false, eqb-true, ltb-false}, lemmas.List.{get_or-map, length-map}}
use Rattle.std.proofs.{lemmas.List.Folds.{list_any_at}, lemmas.List.Elements.{All-filter, All-map}}
use Rattle.std.proofs.lemmas.List.Sums.{count_by-le-length, length-filter}
use Rattle.smp_frac.specs.{Bounds.{absolute}, Fractions.{Fraction, Same, sum_below, whole}, Limits.{most_rows}, Exact.{fraction}}
use Rattle.smp_frac.proofs.{Arithmetic.{same_sym, same_trans}, Unique.{same_frac}, LowestTerms.{lowest_terms-value}}
use Rattle.smp_frac.specs.{declared.fractions.Frac.{Frac}, LowestTerms.{lowest_terms}}
use Rattle.smp_frame.specs.Bounds.{IsFrame}
use Rattle.smp_prob.specs.{Given.{AreGiven, IsWholeNumber, expected_size, given_fraction, given_of}, declared.requests.Request.{Request}}
use Rattle.smp_design.specs.{Bounds.{HasOnlyProbabilities, IsDesign}, Words.{row}, declared.design.Design.{Design}}
use Rattle.smp_frame.specs.declared.frame.Unit as unit
use Rattle.smp_strata.specs.declared.strata.Stratum as stratum
use Rattle.smp_prob.specs.Requested.{positive_units}
use Rattle.smp_strata.specs.{Clusters.{clusters, clusters_in, stratum_names, stratum_name, first_row}, Kept.Layouts.{AreRows}}
use Rattle.smp_strata.specs.{Misfits.{no_size, not_whole, short, sum_of, unwhole, when}, Rows.{prob_at, rows_of, size_of, stratum_at}}
use Rattle.smp_strata.specs.Plans.{first_probs, first_sizes, request_by, sample_size}
use Rattle.smp_strata.specs.declared.misfit.Misfit.TheVariants.{NoSize, NotWhole, TooMany}
use Rattle.smp_strata.specs.Kept.Built.{IsFirstRequest, IsGivenRequest, IsSizedRequest}
use Rattle.smp_strata.proofs.{ClusterRows.{any_by_places, strata}, Founds.{none_at, when_false}, Members.{count_all}}
use Rattle.smp_strata.proofs.TextPlaces.{any_distinct, itself}

module _ (design : Design) (units : List unit.Unit) where
  -- the request itself, and what is known of it
  pub asked : (k : ℕ) (request : Request) → IsFirstRequest design units k request
      → IsFirstRequest design units k (request_by design.columns.prob design units k)
  asked k request is = subst (IsFirstRequest design units k) is.value is

  -- a request in proportion to size
  pub by_sizes : design.columns.prob ≡ None → (k : ℕ) → 1 ≤ sample_size design units k → sample_size design units k ≤ positive_units (first_sizes design units k)
      → (request : Request) → IsSizedRequest (first_sizes design units k) (sample_size design units k) request → IsFirstRequest design units k request
  by_sizes none k some enough request is =
      let long : length (first_sizes design units k) ≡ length (clusters_in design units k) = length-map (clusters_in design units k) (size_of units) in
      record {
        some = omega (arith, some, enough, count_by-le-length (nat_lt 0) (first_sizes design units k), long);
        value = rw none is.value;
        over = rw (← long) is.over.over;
        whole = λ whole. is.over.whole;
        asks = λ u l. rw none (rw (get_or-map (size_of units) (clusters_in design units k) u [] 0 l) at (is.asks u (omega (arith, l, long))));
        draws = λ n number. (let is_n : n ≡ sample_size design units k = rw none at number in rw (is_n, ← long) is.draws);
      }

-- ---- strata have rows

some_pass : {A : Type 0} (q : A → Bool) (xs : List A) → list_any q xs ≡ true → 1 ≤ length (filter q xs)
some_pass q [] e = absurd (true≢false (sym e))
some_pass q (x ∷ xs) e =
    elim (cases_Bool (q x)) [
      | inl t ↦ rw t (omega arith)
      | inr f ↦ rw f (some_pass q xs (rw f at e))
    ]

any_mapped : {A B : Type 0} (q : B → Bool) (f : A → B) (xs : List A) → list_any q (map f xs) ≡ list_any (λ x. q (f x)) xs
any_mapped q f [] = refl
any_mapped q f (x ∷ xs) = rw (any_mapped q f xs) refl

module _ (design : Design) (units : List unit.Unit) where
  -- with one stage a stratum has a first stage unit for each of its rows
  pub has_rows : design.second ≡ None → (k : ℕ) → k < length (stratum_names units) → 1 ≤ length (clusters_in design units k)
  has_rows one k here =
      let name : List ℕ = stratum_name units k in
      let q : List ℕ → Bool = λ rows. bytes_eq (stratum_at units (first_row rows)) name in
      let named : list_any (λ t. bytes_eq t name) (strata units) ≡ true =
      any_distinct (λ t. bytes_eq t name) (strata units) (list_any_at (λ t. bytes_eq t name) (stratum_names units) k [] here (itself name)) in
      let placed : list_any (λ row. q (row ∷ [])) (rows_of units) ≡ true =
      rw (length-map units (λ (u : unit.Unit). u.stratum)) at (sym (any_by_places (λ t. bytes_eq t name) (strata units)) ∙ named) in
      rw one (some_pass q (map (λ row. row ∷ []) (rows_of units)) (any_mapped q (λ row. row ∷ []) (rows_of units) ∙ placed))

-- ---- given probabilities

abbrev nonneg : Fraction → Type 0
nonneg a = (n : ℕ) × (a.num ≡ pos n)

given_nonneg : (probs : List Frac) (unit : ℕ) → nonneg (get_or (map fraction probs) unit (whole 0))
given_nonneg [] unit = (0, refl)
given_nonneg (p ∷ probs) zero = (p.num, refl)
given_nonneg (p ∷ probs) (suc unit) = given_nonneg probs unit

sum_nonneg : (n : ℕ) (f : ℕ → Fraction) → ((k : ℕ) → nonneg (f k)) → nonneg (sum_below n f)
sum_nonneg zero f each = (0, refl)
sum_nonneg (suc n) f each =
    let before = sum_nonneg n f each in
    let last = each n in
    (before.0 * (f n).den + last.0 * (sum_below n f).den, rw (before.1, last.1) refl)

module _ (probs : List Frac) where
  abbrev size : Fraction
  size = expected_size probs

  -- the sum in lowest terms has the value of the sum
  pub sum_of-value : Same (fraction (sum_of probs)) size
  sum_of-value = by_num (sum_nonneg (length probs) (given_fraction probs) (given_nonneg probs))
    where
      by_num : nonneg size → Same (fraction (sum_of probs)) size
      by_num (n, is) =
          let plain : Same (absolute size) size = record { cross = rw is refl } in
          same_trans (lowest_terms-value size) plain

  pub sum_is : (f : Frac) → Same (fraction f) size → f ≡ sum_of probs
  sum_is f same = same_frac f (sum_of probs) (same_trans same (same_sym sum_of-value))

  -- it is whole where its denominator is 1
  pub whole_sum : (sum_of probs).den ≡ 1 → IsWholeNumber size
  whole_sum one = ((sum_of probs).num, same_trans (same_sym sum_of-value) record { cross = rw one refl })

-- where sums are whole that are looked at, a whole number is expected of each stratum
pub whole_size : (design : Design) (units : List unit.Unit) → not_whole design units ≡ None → IsTrue (row design.procedure.method).draws_whole → (k : ℕ) → k < length (stratum_names units)
    → IsWholeNumber (expected_size (first_probs design units k))
whole_size design units none_is needed k here =
    let sum : Frac = sum_of (first_probs design units k) in
    let none = rw needed at none_is in
    let here_none = none_at (λ j. unwhole (stratum_name units j) (sum_of (first_probs design units j))) (length (stratum_names units)) none k here in
    let one : (sum.den == 1) ≡ true = not_false (sum.den == 1) (when_false (not (sum.den == 1)) (NotWhole (stratum_name units k) sum) here_none) in
    whole_sum (first_probs design units k) (eqb-true sum.den 1 one)
  where
    not_false : (b : Bool) → not b ≡ false → b ≡ true
    not_false true e = refl
    not_false false e = absurd (true≢false e)

module _ (design : Design) (units : List unit.Unit) (column : List ℕ) (is : design.columns.prob ≡ Some column) (whole_sums : not_whole design units ≡ None) where
  -- a request by given probabilities
  pub by_probs : design.second ≡ None → (k : ℕ) → k < length (stratum_names units) → (request : Request) → IsGivenRequest (first_probs design units k) request
      → IsFirstRequest design units k request
  by_probs one k here request given =
      let cs : List (List ℕ) = clusters_in design units k in
      let prob : List ℕ → Frac = λ rows. prob_at units (first_row rows) in
      let long : length (first_probs design units k) ≡ length cs = length-map cs prob in
      record {
        some = has_rows design units one k here;
        value = rw is given.value;
        over = rw (← long) given.over;
        whole = λ needed. (let size = whole_size design units whole_sums needed k here in (given.draws size.0 size.1).whole);
        asks = λ u l. (let value : given_fraction (first_probs design units k) u ≡ fraction (prob (get_or cs u [])) =
            get_or-map fraction (first_probs design units k) u (prob []) (whole 0) (omega (arith, l, long)) ∙ ap fraction (get_or-map prob cs u [] (prob []) l) in
            rw is (rw value at (given.asks u (omega (arith, l, long)))));
        draws = λ n asked. (let same : Same (expected_size (first_probs design units k)) (whole n) = rw is at asked in rw (← long) (given.draws n same));
      }

-- ---- the same, where a column of probabilities is there

what_is : {A : Type 0} (o : Option A) → IsSome o → (x : A) × (o ≡ Some x)
what_is (Some x) some = (x, refl)
what_is None some = absurd (cc)

module _ (design : Design) (units : List unit.Unit) where
  -- a stratum's probabilities can be given
  pub given_probs : IsFrame units → All (AreRows (length units)) (clusters design.second units) → (k : ℕ) → AreGiven (first_probs design units k)
  given_probs frame rows k =
      let p : List ℕ → Bool = λ g. bytes_eq (stratum_at units (first_row g)) (stratum_name units k) in
      let cs : List (List ℕ) = clusters_in design units k in
      let few : length cs ≤ most_rows = omega (arith, frame.few, length-filter p (clusters design.second units), count_by-le-length p (clusters design.second units), count_all design.second units) in
      let own : All (AreRows (length units)) cs = All-filter p (AreRows (length units)) (clusters design.second units) rows in
      record {
        few = omega (arith, few, length-map cs (λ g. prob_at units (first_row g)));
        at_most_one = All-map (λ (f : Frac). f.num ≤ f.den) (λ g. prob_at units (first_row g)) cs
            (λ j d l. (let here : first_row (get_or cs j d) < length units = (own j d l).within 0 0 (omega (arith, (own j d l).some)) in
            (frame.probabilities (first_row (get_or cs j d)) (lowest_terms (whole 1)) (omega (arith, here, length-map units (λ (u : unit.Unit). u.prob)))).at_most_one));
      }

  -- the request of the probabilities, where they are given
  pub given_is : (prob : Option (List ℕ)) → IsSome prob → (k : ℕ) → given_of (first_probs design units k) ≡ request_by prob design units k
  given_is (Some column) some k = refl
  given_is None some k = absurd (cc)

  pub by_given : IsDesign design → IsSome design.columns.prob → not_whole design units ≡ None → (k : ℕ) → k < length (stratum_names units) → (request : Request)
      → IsGivenRequest (first_probs design units k) request → IsFirstRequest design units k request
  by_given is some whole k here request given =
      let column = what_is design.columns.prob some in
      by_probs design units column.0 column.1 whole (only design.columns.prob is.prob some).one_stage k here request given
    where
      only : (prob : Option (List ℕ)) → OnSome prob (HasOnlyProbabilities design) → IsSome prob → HasOnlyProbabilities design
      only (Some name) given there = given
      only None given there = absurd (cc)

-- a number of units is given for each stratum
pub some_size : (design : Design) (units : List unit.Unit) → no_size design units ≡ None → (k : ℕ) → k < length (stratum_names units) → 1 ≤ sample_size design units k
some_size design units none k l =
    let is = when_false (nat_eq (sample_size design units k) 0) (NoSize (stratum_name units k))
    (none_at (λ j. when (nat_eq (sample_size design units j) 0) (NoSize (stratum_name units j))) (length (stratum_names units)) none k l) in
    omega (arith, eqb-false (sample_size design units k) 0 is)

-- enough of them have a positive size where no stratum is short
pub enough_positive : (name sizes : List ℕ) (n : ℕ) → short name sizes n ≡ None → n ≤ positive_units sizes
enough_positive name sizes n none = ltb-false (positive_units sizes) n (when_false (nat_lt (positive_units sizes) n) (TooMany name n (positive_units sizes)) none)

-- a stratum by what stands in it
pub is_stratum : (s t : stratum.Stratum) → s.name ≡ t.name → s.units ≡ t.units → s.request ≡ t.request → s ≡ t
is_stratum s t name us request =
    ap (λ n. record { name = n; units = s.units; request = s.request }) name
    ∙ ap (λ u. record { name = t.name; units = u; request = s.request }) us
    ∙ ap (λ r. record { name = t.name; units = t.units; request = r }) request
