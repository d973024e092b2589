-- The least common multiple of the denominators of fractions.
use Rattle.std.proofs.Common.{◌≡◌, ℕ, zero, suc, ◌<◌, ◌≤◌, ◌+◌, List, [], ◌∷◌, length, get_or, take, inl, inr, arith, sym, ap, ◌∙◌, subst}
use Rattle.std.specs.Prelude.{fold, All}
use Rattle.std.proofs.{lemmas.Bool.{cases_eq}, lemmas.List.Elements.{All-take}, lemmas.List.Sums.{fold_more}, Math.Nat.{one-dvd}}
use Rattle.std.proofs.lemmas.Nat.Gcd.{dvd_antisymm, dvd_refl, dvd_trans, dvd-zero}
use Prim.Native.Nat.{◌∣◌}
use Rattle.smp_frac.specs.{declared.fractions.Frac.{Frac}, Divisors.{greatest_common_divisor, IsCommonMultiple, IsLeastMultiple}}
use Rattle.smp_frac.specs.{Laws.Coprime.{IsLeastMultiple-from_gcd}, Laws.Gcds.{IsGcd-greatest_common_divisor}}
use Rattle.smp_prob.specs.Given.{IsLeastMultipleOf, least_multiple, common_multiple}

IsLeastMultiple-least_multiple : (a b : ℕ) → 1 ≤ a → 1 ≤ b → IsLeastMultiple a b (least_multiple a b)
IsLeastMultiple-least_multiple a b some also =
    IsLeastMultiple-from_gcd a b (greatest_common_divisor a b) some also (IsGcd-greatest_common_divisor a b)

-- there is one least multiple
pub least_multiple_is : (a b m : ℕ) → 1 ≤ a → 1 ≤ b → IsLeastMultiple a b m → m ≡ least_multiple a b
least_multiple_is a b m some also is =
    let own = IsLeastMultiple-least_multiple a b some also in
    dvd_antisymm (is.least (least_multiple a b) own.common) (own.least m is.common)

-- the least common multiple of m and the denominators
abbrev multiple_from : ℕ → List Frac → ℕ
multiple_from m probs = fold (λ multiple p. least_multiple multiple p.den) m probs

multiple_positive : (m : ℕ) (probs : List Frac) → 1 ≤ m → 1 ≤ multiple_from m probs
multiple_positive m [] some = some
multiple_positive m (p ∷ ps) some =
    multiple_positive (least_multiple m p.den) ps (IsLeastMultiple-least_multiple m p.den some p.positive).common.positive

start_divides : (m : ℕ) (probs : List Frac) → 1 ≤ m → m ∣ multiple_from m probs
start_divides m [] some = dvd_refl m
start_divides m (p ∷ ps) some =
    let is = IsLeastMultiple-least_multiple m p.den some p.positive in
    dvd_trans m is.common.first (start_divides (least_multiple m p.den) ps is.common.positive)

each_divides : (m : ℕ) (probs : List Frac) (i : ℕ) (d : Frac) → 1 ≤ m → i < length probs → (get_or probs i d).den ∣ multiple_from m probs
each_divides m [] i d some here = absurd (omega (arith, here))
each_divides m (p ∷ ps) zero d some here =
    let is = IsLeastMultiple-least_multiple m p.den some p.positive in
    dvd_trans p.den is.common.second (start_divides (least_multiple m p.den) ps is.common.positive)
each_divides m (p ∷ ps) (suc i) d some here =
    each_divides (least_multiple m p.den) ps i d (IsLeastMultiple-least_multiple m p.den some p.positive).common.positive (omega (arith, here))

divides_multiple : (m n : ℕ) (probs : List Frac) → 1 ≤ m → 1 ≤ n → m ∣ n → All (λ p. p.den ∣ n) probs → multiple_from m probs ∣ n
divides_multiple m n [] some also divides all = divides
divides_multiple m n (p ∷ ps) some also divides all =
    let is = IsLeastMultiple-least_multiple m p.den some p.positive in
    let both : IsCommonMultiple m p.den n = record { positive = also; first = divides; second = all 0 p (omega arith) } in
    divides_multiple (least_multiple m p.den) n ps is.common.positive also (is.least n both) (λ i d here. all (suc i) d (omega (arith, here)))

module _ (probs : List Frac) where
  pub common_multiple_positive : 1 ≤ common_multiple probs
  common_multiple_positive = multiple_positive 1 probs (omega arith)

  pub denominators_divide : All (λ p. p.den ∣ common_multiple probs) probs
  denominators_divide i d here = each_divides 1 probs i d (omega arith) here

  pub IsLeastMultipleOf-common_multiple : IsLeastMultipleOf probs (common_multiple probs)
  IsLeastMultipleOf-common_multiple = record {
    positive = common_multiple_positive;
    common = denominators_divide;
    least = λ n all. elim (cases_eq n 0) [
      | inl none ↦ rw none (dvd-zero (common_multiple probs))
      | inr some ↦ divides_multiple 1 n probs (omega arith) (omega (arith, some)) (one-dvd n) all
    ];
  }

  -- that of the first ones, and the next denominator, divide that of all
  pub next_divides : (i m : ℕ) (p : Frac) → i < length probs → m ≡ common_multiple (take i probs) → p ≡ get_or probs i p → IsCommonMultiple m p.den (common_multiple probs)
  next_divides i m p here m_is p_is = record {
    positive = common_multiple_positive;
    first = rw m_is (divides_multiple 1 (common_multiple probs) (take i probs) (omega arith) common_multiple_positive (one-dvd (common_multiple probs)) (All-take (λ p. p.den ∣ common_multiple probs) i probs denominators_divide));
    second = subst (λ (q : Frac). q.den ∣ common_multiple probs) (sym p_is) (denominators_divide i p here);
  }

  pub next_multiple : (i m n : ℕ) (p : Frac) → i < length probs → m ≡ common_multiple (take i probs) → p ≡ get_or probs i p → 1 ≤ m → IsLeastMultiple m p.den n → n ≡ common_multiple (take (i + 1) probs)
  next_multiple i m n p here m_is p_is some least =
      least_multiple_is m p.den n some p.positive least ∙ ap (λ k. least_multiple k p.den) m_is
      ∙ ap (λ (q : Frac). least_multiple (common_multiple (take i probs)) q.den) p_is
      ∙ sym (fold_more (λ multiple p. least_multiple multiple p.den) 1 probs i p here)
