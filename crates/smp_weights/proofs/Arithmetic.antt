-- What the arithmetic on fractions in lowest terms answers, and what its results are worth.
use Rattle.std.proofs.Common.{◌≡◌, ℕ, zero, suc, ◌*◌, ◌^◌, ◌<◌, ◌≤◌, Bool, true, false, ℤ, pos, negsuc, neg_ℤ, ◌*ℤ◌, Result, Ok, Err, IfOk, OnOk, OnErr, nat_lt, arith, refl, sym, ap, subst, inl, inr}
use Rattle.std.proofs.{Props.{props}, lemmas.Bool.{cases_Bool, lt-ltb, le-ltb}, lemmas.Int.{ints}, lemmas.Result.{IfOk-weaker}}
use Rattle.std.specs.Prelude.{if◌then◌else◌}
use Rattle.smp_frac.specs.{Fractions.{Fraction, Same, plus, minus, times, positive_product}, declared.fractions.Frac.{Frac}}
use Rattle.smp_frac.specs.{declared.fractions.Wide.{Wide}, declared.signed.Signed.{Signed}, Laws.Gcds.{IsGcd-greatest_common_divisor}}
use Rattle.smp_frac.specs.{Exact.{fraction, signed_fraction, product_size, sum_size, difference_size}, Laws.Lowest.{same_value}}
use Rattle.smp_frac.specs.LowestTerms.{lowest_terms}
use Rattle.smp_frac.proofs.LowestTerms.{lowest_terms-value, same-lowest_terms}
use Rattle.smp_weights.specs.{Arithmetic.{signed_lowest_terms, within_limit, product_of, sum_of, difference_of}, Signs.{not_negative}}

abbrev ratio : (z : ℤ) (d : ℕ) → 1 ≤ d → Fraction
ratio z d some = record { num = z; den = d; positive = some }

-- cross products with a numerator below zero
below_zero : (n d m e : ℕ) → m * d ≡ suc n * e → neg_ℤ (pos m) *ℤ pos d ≡ negsuc n *ℤ pos e
below_zero n d zero e h = omega (arith, ints, h)
below_zero n d (suc m) e h = omega (arith, ints, h)

both_below : (m d n e : ℕ) → neg_ℤ (pos m) *ℤ pos d ≡ negsuc n *ℤ pos e → m * d ≡ suc n * e
both_below zero d n e h = omega (arith, ints, h)
both_below (suc m) d n e h = omega (arith, ints, h)

not_above : (m d n e : ℕ) → 1 ≤ m → 1 ≤ d → neg_ℤ (pos m) *ℤ pos d ≡ pos n *ℤ pos e → ⊥
not_above zero d n e some positive h = absurd (omega (arith, some))
not_above (suc m) d n e some positive h = omega (arith, ints, h, positive_product (suc m) d some positive)

signed_terms_value : (z : ℤ) (d : ℕ) (some : 1 ≤ d) → Same (signed_fraction (signed_lowest_terms (ratio z d some))) (ratio z d some)
unfolding lowest_terms
signed_terms_value (pos n) d some = rw (not_negative n) (lowest_terms-value (ratio (pos n) d some))
signed_terms_value (negsuc n) d some =
    let divides = IsGcd-greatest_common_divisor (suc n) d in
    record { cross = below_zero n d _ _ (same_value (suc n) d _ divides.0 divides.1) }

pub signed_lowest_terms_value : (a : Fraction) → Same (signed_fraction (signed_lowest_terms a)) a
signed_lowest_terms_value a = signed_terms_value a.num a.den a.positive

-- ---- and one with a sign

abbrev signed : (below : Bool) (size : Frac) → (below ≡ true → 1 ≤ size.num) → Signed
signed below size sign = record { minus = below; size = size; sign = sign }

same_sign : (below : Bool) (size : Frac) (s t : below ≡ true → 1 ≤ size.num) → signed below size s ≡ signed below size t
same_sign below size s t =
    let one : IsProp (below ≡ true → 1 ≤ size.num) = hlevel props in ap (λ sign. signed below size sign) (one s t)

same_size : (below : Bool) (p q : Frac) → p ≡ q → (s : below ≡ true → 1 ≤ p.num) (t : below ≡ true → 1 ≤ q.num) → signed below p s ≡ signed below q t
same_size below p q e =
    subst (λ (q : Frac). (s : below ≡ true → 1 ≤ p.num) (t : below ≡ true → 1 ≤ q.num) → signed below p s ≡ signed below q t) e (same_sign below p)

same_signed : (b c : Bool) → b ≡ c → (p q : Frac) → p ≡ q → (s : b ≡ true → 1 ≤ p.num) (t : c ≡ true → 1 ≤ q.num) → signed b p s ≡ signed c q t
same_signed b c e p q f =
    subst (λ (c : Bool). (s : b ≡ true → 1 ≤ p.num) (t : c ≡ true → 1 ≤ q.num) → signed b p s ≡ signed c q t) e (same_size b p q f)

by_signs : (below : Bool) (size : Frac) (sign : below ≡ true → 1 ≤ size.num) (z : ℤ) (d : ℕ) (some : 1 ≤ d) → Same (signed_fraction (signed below size sign)) (ratio z d some) → signed below size sign ≡ signed_lowest_terms (ratio z d some)
by_signs true size sign (pos n) d some same =
    absurd (not_above size.num d n size.den (sign refl) some same.cross)
by_signs true size sign (negsuc n) d some same =
    let plain : Same (fraction size) (ratio (pos (suc n)) d some) = record { cross = ap pos (both_below size.num d n size.den same.cross) } in
    same_signed true true refl size _ (same-lowest_terms size (ratio (negsuc n) d some) plain) sign _
by_signs false size sign (pos n) d some same =
    same_signed false _ (sym (not_negative n)) size _ (same-lowest_terms size (ratio (pos n) d some) same) sign _
by_signs false size sign (negsuc n) d some same =
    absurd (omega (arith, ints, same.cross, positive_product (suc n) size.den (omega arith) size.positive))

pub signed_lowest_terms_is : (d : Signed) (a : Fraction) → Same (signed_fraction d) a → d ≡ signed_lowest_terms a
signed_lowest_terms_is d a same = by_signs d.minus d.size d.sign a.num a.den a.positive same

-- ---- results within the limit

limited_is : {A : Type 0} (r : Result A Wide) (a : A) (needed limit : ℕ) → IfOk r (λ x. x ≡ a) → OnOk r (needed < limit) → OnErr r (limit ≤ needed) → r ≡ if nat_lt needed limit then Ok a else Err (record {})
limited_is (Ok x) a needed limit same fits wide = rw (lt-ltb needed limit fits) (ap Ok same)
limited_is (Err w) a needed limit same fits wide = rw (le-ltb needed limit wide) refl

within_limit_holds : {A : Type 0} (needed : ℕ) (a : A) (P : A → Type 0) → P a → IfOk (within_limit needed a) P
within_limit_holds needed a P h =
    elim (cases_Bool (nat_lt needed (2 ^ 126))) [
      | inl e ↦ rw e h
      | inr e ↦ rw e tt
    ]

-- ---- products, sums and differences

pub product_is : (p q : Frac) (r : Result Frac Wide) → IfOk r (λ f. Same (fraction f) (times (fraction p) (fraction q))) → OnOk r (product_size p q < 2 ^ 126) → OnErr r (2 ^ 126 ≤ product_size p q) → r ≡ product_of p q
product_is p q r value fits wide =
    limited_is r _ (product_size p q) (2 ^ 126) (IfOk-weaker r _ _ (λ f same. same-lowest_terms f (times (fraction p) (fraction q)) same) value) fits wide

pub sum_is : (p q : Frac) (r : Result Frac Wide) → IfOk r (λ f. Same (fraction f) (plus (fraction p) (fraction q))) → OnOk r (sum_size p q < 2 ^ 126) → OnErr r (2 ^ 126 ≤ sum_size p q) → r ≡ sum_of p q
sum_is p q r value fits wide =
    limited_is r _ (sum_size p q) (2 ^ 126) (IfOk-weaker r _ _ (λ f same. same-lowest_terms f (plus (fraction p) (fraction q)) same) value) fits wide

pub difference_is : (p q : Frac) (r : Result Signed Wide) → IfOk r (λ d. Same (signed_fraction d) (minus (fraction p) (fraction q))) → OnOk r (difference_size p q < 2 ^ 126) → OnErr r (2 ^ 126 ≤ difference_size p q) → r ≡ difference_of p q
difference_is p q r value fits wide =
    limited_is r _ (difference_size p q) (2 ^ 126) (IfOk-weaker r _ _ (λ d same. signed_lowest_terms_is d (minus (fraction p) (fraction q)) same) value) fits wide

pub product_value : (p q : Frac) → IfOk (product_of p q) (λ f. Same (fraction f) (times (fraction p) (fraction q)))
product_value p q = within_limit_holds (product_size p q) _ _ (lowest_terms-value (times (fraction p) (fraction q)))

pub sum_value : (p q : Frac) → IfOk (sum_of p q) (λ f. Same (fraction f) (plus (fraction p) (fraction q)))
sum_value p q = within_limit_holds (sum_size p q) _ _ (lowest_terms-value (plus (fraction p) (fraction q)))

pub difference_value : (p q : Frac) → IfOk (difference_of p q) (λ d. Same (signed_fraction d) (minus (fraction p) (fraction q)))
difference_value p q = within_limit_holds (difference_size p q) _ _ (signed_lowest_terms_value (minus (fraction p) (fraction q)))
