-- Values over a common denominator, and values that some units take over from numerators.
use Rattle.std.proofs.Common.{◌≡◌, ℕ, ◌*◌, ◌/◌, ◌<◌, ◌≤◌, ◌^◌, Bool, true, false, cond, List, length, get_or}
use Rattle.std.proofs.Common.{arith, refl, sym, ap, ◌∙◌, subst, inl, inr}
use Rattle.std.proofs.lemmas.Bool.{cases_Bool, cases_lt, cond_both, true≢false}
use Rattle.std.proofs.lemmas.List.{length-map, get_or-map, get_or_past}
use Rattle.std.proofs.lemmas.List.FromFn.{get_or-map-range_with_len, length-map-range_with_len}
use Rattle.std.proofs.Math.Nat.{div-le_of_le-mul, mul-div-le, mul-le-mul_right, mul-div_cancel', one-dvd}
use Prim.Native.Nat.{◌∣◌}
use Rattle.smp_frac.specs.Fractions.{Same, over}
use Rattle.smp_frac.proofs.Over.{over_same}
use Rattle.smp_frac.specs.Laws.Coprime.{quotient_divides}
use Rattle.smp_frac.specs.Laws.Gcds.{IsGcd-greatest_common_divisor}
use Rattle.smp_frac.specs.Divisors.{greatest_common_divisor}
use Rattle.smp_prob.specs.Shares.{Shares}
use Rattle.smp_values.specs.Values.{IsValues, fractional}
use Rattle.smp_values.specs.Values as shares
use Rattle.smp_moves.specs.declared.lines.Ratio.{Ratio}
use Rattle.smp_moves.specs.Ends.{lowest}
use Rattle.smp_moves.specs.Moves.{fraction_of}
use Rattle.smp_moves.specs.Kept.Ends.{IsOver}
use Rattle.smp_moves.proofs.LineEnds.{lowest_is}
use Rattle.smp_moves.proofs.Moved.{same_fractional, same_tests}
use Rattle.smp_stratcube.specs.declared.values.Value.{Value}
use Rattle.smp_stratcube.specs.Values.{AreValues, IsValue, is_fractional, nothing, over_common, taken_over, value, value_at}

-- ---- lowest terms

-- the same value
pub lowest_same : (a b : ℕ) → 1 ≤ b → Same (fraction_of (lowest a b)) (over a b)
lowest_same a b p = (let is = lowest_is a b p in over_same (lowest a b).num a (lowest a b).den b is.some p (sym is.same))

pub lowest_value : (a b : ℕ) (touched : Bool) → 1 ≤ b → a ≤ b → IsValue (record { at = lowest a b; touched = touched })
lowest_value a b touched p le =
    let is = lowest_is a b p in
    let g : ℕ = greatest_common_divisor a b in
    record {
      positive = is.some;
      most = div-le_of_le-mul g (omega (arith, le, mul-div_cancel' g (IsGcd-greatest_common_divisor a b).1));
      reduced = is.reduced;
    }

pub lowest_fractional : (a b : ℕ) → 1 ≤ b → fractional (lowest a b).den (lowest a b).num ≡ fractional b a
lowest_fractional a b p =
    let is = lowest_is a b p in
    same_tests (fractional (lowest a b).den (lowest a b).num) (fractional b a)
    (same_fractional a b (lowest a b).num (lowest a b).den p (sym is.same))
    (same_fractional (lowest a b).num (lowest a b).den a b is.some is.same)

pub lowest_divides : (a b : ℕ) → (lowest a b).den ∣ b
lowest_divides a b = quotient_divides b (greatest_common_divisor a b) (IsGcd-greatest_common_divisor a b).1

-- ---- over a common denominator

module _ (n : ℕ) (values : List Value) (are : AreValues n values) (den : ℕ) (some : 1 ≤ den) where
  abbrev s : Shares
  s = over_common den values

  pub length_over : length (over_common den values).numer ≡ n
  length_over = length-map values (λ (v : Value). v.at.num * (den / v.at.den)) ∙ are.count

  none_left : (q : ℕ) → 0 ≡ nothing.at.num * q
  none_left q = omega arith

  -- the numerator of a unit
  pub numer_over : (k : ℕ) → get_or (over_common den values).numer k 0 ≡ (value values k).at.num * (den / (value values k).at.den)
  numer_over k =
      elim (cases_lt k (length values)) [
        | inl l ↦ get_or-map (λ (v : Value). v.at.num * (den / v.at.den)) values k nothing 0 l
        | inr past ↦
            (let none : value values k ≡ nothing = get_or_past values k nothing past in
            get_or_past (over_common den values).numer k 0
            (omega (arith, past, length-map values (λ (v : Value). v.at.num * (den / v.at.den))))
            ∙ (none_left (den / nothing.at.den) ∙ sym (ap (λ (v : Value). v.at.num * (den / v.at.den)) none)))
      ]

  numer_most : (k : ℕ) → get_or (over_common den values).numer k 0 ≤ den
  numer_most k =
      let v : Value = value values k in
      let is = are.each k in
      let q : ℕ = den / v.at.den in
      let a : v.at.num * q ≤ v.at.den * q = mul-le-mul_right q is.most in
      omega (arith, numer_over k, a, mul-div-le den v.at.den)

  pub over_values : den ≤ 2 ^ 80 → IsValues n (2 ^ 80) (over_common den values)
  over_values narrow = record { count = length_over; positive = some; narrow = narrow; each = numer_most }

  pub is_over : den ≤ 2 ^ 80 → IsOver 1 (over_common den values)
  is_over narrow = record {
    some = omega arith;
    multiple = one-dvd den;
    values = record { count = refl; positive = some; narrow = narrow; each = numer_most };
  }

  -- a unit whose denominator divides it has its value
  module _ (k : ℕ) (divides : (value values k).at.den ∣ den) where
    whole : (value values k).at.den * (den / (value values k).at.den) ≡ den
    whole = mul-div_cancel' (value values k).at.den divides

    pub cross : get_or (over_common den values).numer k 0 * (value values k).at.den ≡ (value values k).at.num * den
    cross =
        let v : Value = value values k in
        let q : ℕ = den / v.at.den in
        let e : v.at.num * q * v.at.den ≡ v.at.num * (v.at.den * q) = omega arith in
        ap (λ x. x * v.at.den) (numer_over k) ∙ e ∙ ap (λ x. v.at.num * x) whole

    pub over_value : Same (shares.value_at (over_common den values) k) (value_at values k)
    over_value = over_same (get_or (over_common den values).numer k 0) (value values k).at.num den
        (value values k).at.den some (are.each k).positive cross

    pub over_fractional : shares.is_fractional (over_common den values) k ≡ is_fractional values k
    over_fractional =
        same_tests (shares.is_fractional (over_common den values) k) (is_fractional values k)
        (same_fractional (value values k).at.num (value values k).at.den (get_or (over_common den values).numer k 0)
        den (are.each k).positive cross)
        (same_fractional (get_or (over_common den values).numer k 0) den (value values k).at.num (value values k).at.den some (sym cross))

-- ---- values taken over

module _ (moves : ℕ → Bool) (values : List Value) (t : Shares) where
  abbrev given : ℕ → Value
  given k = cond (moves k) (record { at = lowest (get_or t.numer k 0) t.den; touched = true }) (value values k)

  pub length_taken : length (taken_over moves values t) ≡ length values
  length_taken = length-map-range_with_len given 0 (length values)

  pub taken_in : (k : ℕ) → k < length values → value (taken_over moves values t) k ≡ given k
  taken_in k l = get_or-map-range_with_len given 0 (length values) k k nothing l (omega arith)

  -- a unit that moves
  pub taken_moved : (k : ℕ) → k < length values → moves k ≡ true
      → value (taken_over moves values t) k ≡ record { at = lowest (get_or t.numer k 0) t.den; touched = true }
  taken_moved k l h = taken_in k l ∙ (rw h refl)

  -- one that isn't there
  taken_past : (k : ℕ) → length values ≤ k → value (taken_over moves values t) k ≡ value values k
  taken_past k past =
      get_or_past (taken_over moves values t) k nothing (omega (arith, past, length_taken)) ∙ sym (get_or_past values k nothing past)

  -- a unit that doesn't
  pub taken_kept : (k : ℕ) → moves k ≡ false → value (taken_over moves values t) k ≡ value values k
  taken_kept k h = elim (cases_lt k (length values)) [ inl l ↦ taken_in k l ∙ (rw h refl) | inr past ↦ taken_past k past ]

  -- a unit that isn't touched there has the value that it had
  pub taken_fresh : (share : ℕ → Ratio) (n : ℕ) → length values ≡ n
      → ((k : ℕ) → k < n → (value values k).touched ≡ false → (value values k).at ≡ share k)
      → (k : ℕ) → k < n → (value (taken_over moves values t) k).touched ≡ false
      → (value (taken_over moves values t) k).at ≡ share k
  taken_fresh share n count was k l fresh =
      elim (cases_Bool (moves k)) [
        | inr f ↦ ap (λ (v : Value). v.at) (taken_kept k f) ∙ was k l (ap (λ (v : Value). v.touched) (sym (taken_kept k f)) ∙ fresh)
        | inl h ↦ absurd (true≢false (sym (ap (λ (v : Value). v.touched) (taken_moved k (omega (arith, l, count)) h)) ∙ fresh))
      ]

  module _ (n : ℕ) (are : AreValues n values) (positive : 1 ≤ t.den) (most : (k : ℕ) → get_or t.numer k 0 ≤ t.den) where
    pub taken_values : AreValues n (taken_over moves values t)
    taken_values = record {
      count = length_taken ∙ are.count;
      each = λ k. elim (cases_lt k (length values)) [
        | inr past ↦ subst IsValue (sym (taken_past k past)) (are.each k)
        | inl l ↦ subst IsValue (sym (taken_in k l)) (cond_both (moves k) _ _ IsValue
            (λ h. lowest_value (get_or t.numer k 0) t.den true positive (most k)) (λ f. are.each k))
      ];
    }

    pub taken_value : (k : ℕ) → k < length values → moves k ≡ true
        → Same (value_at (taken_over moves values t) k) (shares.value_at t k)
    taken_value k l h =
        subst (λ (v : Value). Same (fraction_of v.at) (shares.value_at t k)) (sym (taken_moved k l h))
        (lowest_same (get_or t.numer k 0) t.den positive)

    pub taken_fractional : (k : ℕ) → k < length values → moves k ≡ true
        → is_fractional (taken_over moves values t) k ≡ shares.is_fractional t k
    taken_fractional k l h =
        ap (λ (v : Value). fractional v.at.den v.at.num) (taken_moved k l h) ∙ lowest_fractional (get_or t.numer k 0) t.den positive

    -- the denominator of a unit that moves divides that of the numerators
    pub taken_divides : (k : ℕ) → k < length values → moves k ≡ true → (value (taken_over moves values t) k).at.den ∣ t.den
    taken_divides k l h =
        subst (λ (v : Value). v.at.den ∣ t.den) (sym (taken_moved k l h)) (lowest_divides (get_or t.numer k 0) t.den)
