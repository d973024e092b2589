-- Decimal digits, and the number that they write.
use Rattle.std.proofs.Common.{◌≡◌, ℕ, zero, suc, ◌+◌, ◌-◌, ◌*◌, ◌^◌, ◌<◌, ◌≤◌, ◌&&◌, Bool, cond, List, [], ◌∷◌, Some, None, Err, length, get_or, take, nat_lt, sym, ap, ◌∙◌, true, rules, arith, inl, inr}
use Rattle.std.specs.{List.{list_all}, Char.{is_ascii_digit, digit_value}, Str.{IsUtf8}, Str.Parse.{digits_value, ParsesUnsigned}}
use Rattle.std.proofs.{lemmas.Bool.{cases_Bool}, lemmas.Bool.Decides.{nat_tests}, lemmas.Int.Digits.{digits_value_more}}
use Rattle.std.proofs.lemmas.Str.Parse.{IsNumeralModel, numerals_by_value, parse_digits, digits_value_short, digits_value-take-le}
use Rattle.smp_frac.specs.Decimals.{is_decimal, number_below}
use Rattle.smp_frac.proofs.Ascii.{both, IsUtf8-from_test}

abbrev AreDigits : List ℕ → Type 0
AreDigits ds = list_all is_ascii_digit ds ≡ true

numerals : IsNumeralModel AreDigits (digits_value 10)
numerals = numerals_by_value AreDigits (search rules)

-- digits that a u128 refuses write a number that is too large for it
pub too_large : {E : Type 0} (bs : List ℕ) (e : E) → ParsesUnsigned 128 10 bs (Err e) → is_decimal bs ≡ true → None ≡ number_below (2 ^ 128) bs
too_large bs e parses is =
    let (some, digits) = both (nat_lt 0 (length bs)) (list_all is_ascii_digit bs) is in
    let not = parse_digits numerals 128 bs (Err e) parses digits in
    let here : 0 < length bs = grind (arith, nat_tests) in
    let value = digits_value 10 bs in
    elim (cases_Bool (nat_lt value (2 ^ 128))) [
      | inl below ↦ let lt : value < 2 ^ 128 = grind (arith, nat_tests) in absurd (not (here, lt))
      | inr above ↦ ap (λ b. cond b (Some value) None) (sym (ap (λ d. d && nat_lt value (2 ^ 128)) is ∙ above))
    ]

digit_is_ascii : (b : ℕ) → is_ascii_digit b ≡ true → b < 128
digit_is_ascii b h = grind (arith, nat_tests)

-- decimal digits are text
pub IsUtf8-from_decimal : (bs : List ℕ) → is_decimal bs ≡ true → IsUtf8 bs
IsUtf8-from_decimal bs is = IsUtf8-from_test is_ascii_digit digit_is_ascii bs (both (nat_lt 0 (length bs)) (list_all is_ascii_digit bs) is).1

passes_at : (test : ℕ → Bool) (bs : List ℕ) (i : ℕ) → list_all test bs ≡ true → i < length bs → test (get_or bs i 0) ≡ true
passes_at test [] i h l = absurd (omega (arith, l))
passes_at test (b ∷ bs) zero h l = (both (test b) (list_all test bs) h).0
passes_at test (b ∷ bs) (suc i) h l = passes_at test bs i (both (test b) (list_all test bs) h).1 (omega (arith, l))

digit_is : (b : ℕ) → is_ascii_digit b ≡ true → digit_value b ≡ b - 48
digit_is b h = grind (arith, nat_tests)

-- at most 19 digits, of which one more is read at a time
module _ (bs : List ℕ) (is : is_decimal bs ≡ true) (short : length bs ≤ 19) where
  are_digits : AreDigits bs
  are_digits = (both (nat_lt 0 (length bs)) (list_all is_ascii_digit bs) is).1

  pub few_below : digits_value 10 bs < 10 ^ 19
  few_below = digits_value_short numerals bs 19 are_digits short

  module _ (i : ℕ) (here : i < length bs) where
    pub next_digit : digits_value 10 (take (i + 1) bs) ≡ digits_value 10 (take i bs) * 10 + (get_or bs i 0 - 48)
    next_digit = digits_value_more 10 bs i here ∙ ap (λ d. digits_value 10 (take i bs) * 10 + d) (digit_is (get_or bs i 0) (passes_at is_ascii_digit bs i are_digits here))

    pub next_fits : digits_value 10 (take i bs) * 10 + (get_or bs i 0 - 48) < 2 ^ 64
    next_fits =
        let up : digits_value 10 (take (i + 1) bs) ≤ digits_value 10 bs = digits_value-take-le 10 bs (i + 1) (omega arith) in
        omega (arith, up, next_digit, few_below)
