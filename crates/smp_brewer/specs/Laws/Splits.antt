-- The splits of Brewer's method by offers are lawful.
use Rattle.std.proofs.Common.{◌≡◌, ◌≢◌, ℕ, zero, suc, ◌+◌, ◌-◌, ◌*◌, ◌<◌, ◌≤◌, true, false}
use Rattle.std.proofs.Common.{nat_eq, List, [], ◌∷◌, length, get_or, arith, rules, refl, ◌∙◌, inl, inr}
use Rattle.std.specs.List.{sum, count_by}
use Rattle.std.proofs.lemmas.Bool.{cases_Bool, cases_lt, cases_eq, eqb-true, eqb-false, eq-eqb, ne_eqb}
use Rattle.std.proofs.lemmas.List.{get_or_past, get_or-map, length-map}
use Rattle.std.proofs.lemmas.List.Sums.{count_by-le-length}
use Rattle.smp_frac.specs.Limits.{most_denominator}
use Rattle.smp_frac.specs.Fractions.{Fraction, Same, whole, times, over}
use Rattle.smp_frac.proofs.Arithmetic.{same_refl, same_sym, same_trans, plus_same, times_same, times-one, plus-zero}
use Rattle.smp_frac.proofs.Over.{over_zero, over_one, over_plus}
use Rattle.smp_prob.specs.Shares.{Shares}
use Rattle.smp_split.specs.Lenses.{as_unit, Lens}
use Rattle.smp_split.specs.Trees.{EachPart, IsPart, LawfulSplit, LawfulEnd, Lawful, weighted}
use Rattle.smp_split.specs.Laws.Lenses.{split_through}
use Rattle.smp_split.specs.Laws.Means.{weighted_same}
use Rattle.smp_split.proofs.Over.{whole-over, over_whole}
use Rattle.smp_split.specs.Laws.Parts.{plus-whole}
use Rattle.smp_values.specs.Steps.{steps_tree}
use Rattle.smp_values.specs.Values.{IsValues, fractional}
use Rattle.smp_values.proofs.Pivotal.{steps_lawful}
use Rattle.smp_brewer.specs.declared.offers.Offers.{Offers}
use Rattle.smp_brewer.specs.Brewer.{Brewing, offering, offered, spent, total, largest, size_of, is_taken, allowed, offer_parts}
use Rattle.smp_brewer.specs.Kept.Sizes.{share_of}
use Rattle.smp_brewer.specs.Brewer.{shares_left, brewing_tree, IsOffers, IsBrewing}
use Rattle.smp_brewer.specs.Laws.Sums.{sum-cons}
use Rattle.smp_brewer.specs.Laws.Identities.{in_parts, offers_keep}
use Rattle.smp_brewer.specs.Laws.Offers.{offers_from, offers_are, weight_sum-offers, each_offer}
use Rattle.smp_brewer.specs.Laws.Answers.{offered_number, offered_over, some_left, heaviest, offered_is, take_split}

-- ---- the value of each unit, as one numerator over one denominator

abbrev pub value_over : ℕ → Brewing → ℕ → Fraction
value_over units (offering o) unit = (brewing_tree units).value (offering o) unit
value_over units (offered o j) unit = offered_over o j unit
value_over units (spent s) unit = (brewing_tree units).value (spent s) unit

value_is : (units : ℕ) (b : Brewing) → IsBrewing units b → (k : ℕ) → Same ((brewing_tree units).value b k) (value_over units b k)
value_is units (offering o) ok k = same_refl ((brewing_tree units).value (offering o) k)
value_is units (offered o j) ok k = offered_is units o ok.offers ok.going j (omega (arith, ok.unit, ok.offers.count)) ok.has_size k
value_is units (spent s) ok k = same_refl ((brewing_tree units).value (spent s) k)

-- ---- over the offers, the mean value is the value

module _ (units : ℕ) (o : Offers) where
  -- a unit that is taken keeps its value
  offers_even_taken : (k unit : ℕ) (zs : List ℕ) → is_taken o k ≡ true
      → Same (weighted (λ s. value_over units s k) (offers_from o unit zs)) (whole (sum zs))
  offers_even_taken k unit [] taken = same_refl (whole 0)
  offers_even_taken k unit (z ∷ zs) taken =
      elim (cases_Bool (nat_eq z 0)) [
        | inl e ↦ (let all : sum (z ∷ zs) ≡ sum zs = omega (arith, eqb-true z 0 e, sum-cons z zs) in
            rw (e, all) (offers_even_taken k (unit + 1) zs taken))
        | inr e ↦ rw (e, taken, sum-cons z zs)
            (same_trans (plus_same (times-one (whole z)) (offers_even_taken k (unit + 1) zs taken))
            (plus-whole z (sum zs)))
      ]

  -- of an open one: the sum of its numerators
  abbrev numbers : ℕ → ℕ → List ℕ → ℕ
  numbers k unit [] = 0
  numbers k unit (z ∷ zs) = z * offered_number o unit k + numbers k (unit + 1) zs

  -- a unit past these
  numbers-past : (k unit : ℕ) (zs : List ℕ) → k < unit → numbers k unit zs ≡ sum zs * (size_of o k * (o.draws - 1))
  numbers-past k unit [] h = omega arith
  numbers-past k unit (z ∷ zs) h =
      let ne : k ≢ unit = omega arith in
      rw (ne_eqb k unit ne, sum-cons z zs) (omega (arith, numbers-past k (unit + 1) zs (omega arith)))

  numbers-at : (k unit n : ℕ) (zs : List ℕ) → k ≡ unit + n
      → numbers k unit zs ≡ sum zs * (size_of o k * (o.draws - 1)) + get_or zs n 0 * (total o - o.draws * largest o)
  numbers-at k unit n [] h = omega arith
  numbers-at k unit zero (z ∷ zs) h =
      let same : k ≡ unit = omega arith in
      rw (eq-eqb k unit same, sum-cons z zs) (omega (arith, numbers-past k (unit + 1) zs (omega arith)))
  numbers-at k unit (suc n) (z ∷ zs) h =
      let ne : k ≢ unit = omega arith in
      rw (ne_eqb k unit ne, sum-cons z zs) (omega (arith, numbers-at k (unit + 1) n zs (omega arith)))

  offers_even_open : (k unit : ℕ) (zs : List ℕ) → is_taken o k ≡ false
      → Same (weighted (λ s. value_over units s k) (offers_from o unit zs))
      (over (numbers k unit zs) (total o - largest o))
  offers_even_open k unit [] free = same_sym (over_zero (total o - largest o))
  offers_even_open k unit (z ∷ zs) free =
      elim (cases_Bool (nat_eq z 0)) [
        | inl e ↦
            (let none : z ≡ 0 = eqb-true z 0 e in
            let rest : 0 * offered_number o unit k + numbers k (unit + 1) zs ≡ numbers k (unit + 1) zs = omega arith in
            rw e (rw none (rw rest (offers_even_open k (unit + 1) zs free))))
        | inr e ↦
            rw (e, free) (same_trans (plus_same
            (same_refl (times (whole z) (over (offered_number o unit k) (total o - largest o))))
            (offers_even_open k (unit + 1) zs free))
            (over_plus z (offered_number o unit k) (numbers k (unit + 1) zs) (total o - largest o)))
      ]

-- the sum of the numerators is the value, times the denominator
keeps_open : (all draws m z : ℕ) → 1 ≤ draws → draws * m < all
    → all * (z * (draws - 1)) + z * (all - draws * m) ≡ z * draws * (all - m)
keeps_open all draws m z p l =
    let parts = in_parts all draws m m p (omega arith) l in
    let none : m - m ≡ 0 = omega arith in
    let s_is : draws - 1 + 1 ≡ draws = omega arith in
    let without : all - m ≡ (all - draws * m) + (draws - 1) * m =
    (let h = parts.without_m in let m_is : m + (m - m) ≡ m = omega arith in rw m_is at h) in
    let whole_is : all ≡ (all - draws * m) + (draws - 1 + 1) * m =
    (let h = parts.total_is in let m_is : m + (m - m) ≡ m = omega arith in rw m_is at h) in
    let keep = offers_keep (all - draws * m) (draws - 1) m z in
    rw (← without, ← whole_is, s_is) at keep

-- ---- before an offer

module _ (units : ℕ) (o : Offers) (ok : IsOffers units o) (going : 1 ≤ o.draws) where
  offers_over : (k : ℕ) → Same (weighted (λ s. value_over units s k) (offers_from o 0 o.sizes))
      (times (whole (total o)) ((brewing_tree units).value (offering o) k))
  offers_over k =
      elim (cases_Bool (is_taken o k)) [
        | inl e ↦ same_trans (offers_even_taken units o k 0 o.sizes e) (rw e (same_sym (times-one (whole (total o)))))
        | inr e ↦
            (let high : o.draws * largest o < total o = heaviest units o ok going in
            let parts = in_parts (total o) o.draws (largest o) (largest o) going (omega arith) high in
            let keeps = numbers-at units o k 0 k o.sizes (omega arith)
            ∙ keeps_open (total o) o.draws (largest o) (size_of o k) going high in
            same_trans (offers_even_open units o k 0 o.sizes e) (rw (e, keeps)
            (same_trans (over_whole (size_of o k * o.draws) (total o - largest o)
            (omega (arith, parts.without_m, high)))
            (same_sym (whole-over (total o) (size_of o k * o.draws) (some_left units o ok going))))))
      ]

  offers_each : o.refused < allowed units → EachPart (IsPart (brewing_tree units) (IsBrewing units) (offering o)) (offer_parts o)
  offers_each left =
      each_offer o (IsPart (brewing_tree units) (IsBrewing units) (offering o))
      (λ unit here some. record {
        heavy = some;
        falls = omega arith;
        member = record {
          offers = ok;
          going = going;
          left = left;
          unit = omega (arith, here, ok.count);
          has_size = some;
        };
      })

  offers_even : o.refused < allowed units → (k : ℕ)
      → Same (weighted (λ s. (brewing_tree units).value s k) (offer_parts o))
      (times (whole (total o)) ((brewing_tree units).value (offering o) k))
  offers_even left k =
      same_trans
      (weighted_same (IsPart (brewing_tree units) (IsBrewing units) (offering o)) (λ s. (brewing_tree units).value s k)
      (λ s. value_over units s k) (λ p part. value_is units p.state part.member k)
      (offer_parts o) (offers_each left))
      (rw (offers_are o) (offers_over k))

  offer_split : o.refused < allowed units → LawfulSplit (brewing_tree units) (IsBrewing units) (offering o)
  offer_split left =
      let ne : o.refused ≢ allowed units = omega arith in
      let not_spent : nat_eq o.refused (allowed units) ≡ false = ne_eqb o.refused (allowed units) ne in
      record {
        some = rw (not_spent, weight_sum-offers o) (some_left units o ok going);
        narrow = rw (not_spent, weight_sum-offers o) (omega (arith, ok.narrow));
        each = rw not_spent (offers_each left);
        even = λ k _. rw (not_spent, weight_sum-offers o) (offers_even left k);
      }

  share_within : (z : ℕ) → o.draws * z < total o → share_of (total o) o.draws z ≤ total o
  share_within z h =
      elim (cases_Bool (nat_eq z 0)) [
        | inl e ↦ rw e (omega arith)
        | inr e ↦ rw e (omega (arith, h))
      ]

  shares_each : (k : ℕ) → get_or (shares_left o).numer k 0 ≤ total o
  shares_each k =
      elim (cases_lt k (length o.sizes)) [
        | inl l ↦ rw (get_or-map (share_of (total o) o.draws) o.sizes k 0 0 l) (share_within (size_of o k) (ok.light going k))
        | inr l ↦ rw (get_or_past (shares_left o).numer k 0 (simp length-map l)) (omega arith)
      ]

  pub spent_belongs : IsValues units most_denominator (shares_left o)
  spent_belongs = record {
    count = simp length-map ok.count;
    positive = some_left units o ok going;
    narrow = omega (arith, ok.narrow);
    each = shares_each;
  }

  spent_value : (k : ℕ) → k < units → Same (over (get_or (shares_left o).numer k 0) (total o))
      ((brewing_tree units).value (offering o) k)
  spent_value k l =
      rw (get_or-map (share_of (total o) o.draws) o.sizes k 0 0 (omega (arith, l, ok.count))) (elim (cases_Bool (nat_eq (size_of o k) 0)) [
        | inl e ↦ rw e (over_one (total o) (some_left units o ok going))
        | inr e ↦ rw e (same_refl (over (size_of o k * o.draws) (total o)))
      ])

  spent_split : o.refused ≡ allowed units → LawfulSplit (brewing_tree units) (IsBrewing units) (offering o)
  spent_split none =
      let is_spent : nat_eq o.refused (allowed units) ≡ true = eq-eqb o.refused (allowed units) none in
      let short : count_by (fractional (total o)) (shares_left o).numer ≤ units =
      omega (arith, count_by-le-length (fractional (total o)) (shares_left o).numer, spent_belongs.count) in
      record {
        some = rw is_spent (omega arith);
        narrow = rw is_spent (omega arith);
        each = rw is_spent (record { heavy = omega arith; falls = omega (arith, short); member = spent_belongs }, tt);
        even = λ k l. rw is_spent (same_trans
            (plus-zero (times (whole 1) (over (get_or (shares_left o).numer k 0) (total o))))
            (times_same (same_refl (whole 1)) (spent_value k l)));
      }

-- ---- the pivotal steps

module _ (units : ℕ) where
  spent_lens : Lens (steps_tree units) (IsValues units most_denominator) (brewing_tree units) spent as_unit
  spent_lens = record {
    within = λ k h. h;
    going = λ i e. e;
    kind = λ i e. refl;
    parts = λ i e. refl;
    falls = λ i j less. less;
    value = λ i here k h. same_refl ((steps_tree units).value i k);
  }

  steps_through : (s : Shares) → IsValues units most_denominator s → (steps_tree units).done s ≡ false
      → LawfulSplit (brewing_tree units) (IsBrewing units) (spent s)
  steps_through s ok going =
      split_through (steps_tree units) (IsValues units most_denominator) (brewing_tree units) spent as_unit spent_lens
      (IsBrewing units) (λ i m. m) s ok going
      ((steps_lawful units).split s ok going)

-- ---- all states

brewing_split : (units : ℕ) (b : Brewing) → IsBrewing units b → (brewing_tree units).done b ≡ false
    → LawfulSplit (brewing_tree units) (IsBrewing units) b
brewing_split units (offering o) ok going =
    let ne : o.draws ≢ 0 = eqb-false o.draws 0 going in
    elim (cases_eq o.refused (allowed units)) [
      | inl e ↦ spent_split units o ok (omega arith) e
      | inr n ↦ offer_split units o ok (omega arith) (omega (arith, ok.again, n))
    ]
brewing_split units (offered o j) ok going =
    take_split units o ok.offers ok.going j (omega (arith, ok.unit, ok.offers.count)) ok.has_size ok.left
brewing_split units (spent s) ok going = steps_through units s ok going

brewing_end : (units : ℕ) (b : Brewing) → IsBrewing units b → (brewing_tree units).done b ≡ true
    → LawfulEnd (brewing_tree units) b
brewing_end units (offering o) ok done unit l =
    let none : o.draws ≡ 0 = eqb-true o.draws 0 done in
    let nothing : size_of o unit * 0 ≡ 0 = omega arith in
    elim (cases_Bool (is_taken o unit)) [
      | inl e ↦ rw e (same_refl (whole 1))
      | inr e ↦ rw (e, none, nothing) (over_zero (total o))
    ]
brewing_end units (offered o j) ok done unit l = absurd (search (rules, done))
brewing_end units (spent s) ok done unit l = (steps_lawful units).end s ok done unit l

pub brewing_lawful : (units : ℕ) → Lawful (brewing_tree units) (IsBrewing units)
brewing_lawful units = record { split = brewing_split units; end = brewing_end units }
