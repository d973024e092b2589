-- Decimal numbers without leading zeros.
use Rattle.std.proofs.Common.{◌≡◌, ℕ, zero, suc, ◌+◌, ◌*◌, ◌/◌, ◌%◌, ◌^◌, ◌<◌, ◌≤◌, ◌==◌, ◌&&◌, Bool, true, false, cond, nat_lt, List, [], ◌∷◌, ◌++◌, length, get_or, Option, Some, None, refl, sym, ap, ◌∙◌, arith, append_assoc, length-append, inl, inr, ◌⊎◌, rules}
use Rattle.std.proofs.lemmas.Bool.{cases_Bool, and_parts, and_from, and_left, and_right, eq-eqb, ne_eqb, ltb-true, ltb-false, lt-ltb, le-ltb, cases_eq}
use Rattle.std.proofs.{lemmas.List.{append-nil}, lemmas.Str.Parse.{IsNumeralModel, numerals_by_value, digit_from_value}}
use Rattle.std.proofs.lemmas.Fmt.{decimal_digit, decimal_step_wide, decimal_by_steps_wide, decimal_is_IsNumeral_wide}
use Rattle.std.proofs.lemmas.Str.{digit_value_digit}
use Rattle.std.specs.{Fmt.{decimal, digits, digits_onto, digit_glyph}, List.{list_all}, Char.{is_ascii_digit, digit_value}}
use Rattle.std.specs.Str.Parse.{AllDigits, digits_value, digits_value_after}
use Rattle.smp_frac.specs.Decimals.{is_decimal, number_below}
use Rattle.smp_log.specs.{Reading.{written}, Lines.{Lacks}}
use Rattle.smp_log.proofs.{Options.{some_cond}, Texts.{cons-Lacks}}

-- ---- a decimal number lacks each byte that is no digit

glyph_is : (d : ℕ) → d < 10 → digit_glyph false d ≡ 48 + d
glyph_is d h = rw (lt-ltb d 10 h) refl

onto_lacks : (c : ℕ) → (c < 48) ⊎ (57 < c) → (k n : ℕ) (acc : List ℕ) → Lacks c acc → Lacks c (digits_onto k 10 false n acc)
onto_lacks c away zero n acc h = h
onto_lacks c away (suc k) n acc h =
    let small : n % 10 < 10 = omega arith in
    let glyph : digit_glyph false (n % 10) ≡ 48 + n % 10 = glyph_is (n % 10) small in
    let other : (digit_glyph false (n % 10) == c) ≡ false = ne_eqb (digit_glyph false (n % 10)) c (λ e. elim away [ inl l ↦ omega (arith, glyph, e, l) | inr l ↦ omega (arith, glyph, e, l) ]) in
    let more : Lacks c (digit_glyph false (n % 10) ∷ acc) = cons-Lacks c (digit_glyph false (n % 10)) acc other h in
    elim (cases_Bool (n / 10 == 0)) [
      | inl e ↦ rw e more
      | inr e ↦ rw e (onto_lacks c away k (n / 10) (digit_glyph false (n % 10) ∷ acc) more)
    ]

pub decimal_lacks : (c n : ℕ) → (c < 48) ⊎ (57 < c) → Lacks c (decimal n)
unfolding digits
decimal_lacks c n away = onto_lacks c away 64 n [] refl

-- ---- what is read of a decimal number

numerals : IsNumeralModel (λ ds. list_all is_ascii_digit ds ≡ true) (digits_value 10)
numerals = numerals_by_value (λ ds. list_all is_ascii_digit ds ≡ true) (search rules)

pub decimal_is_decimal : (n : ℕ) → n < 10 ^ 64 → is_decimal (decimal n) ≡ true
decimal_is_decimal n h =
    let parts = decimal_is_IsNumeral_wide n h in
    and_from (nat_lt 0 (length (decimal n))) (list_all is_ascii_digit (decimal n)) (lt-ltb 0 (length (decimal n)) parts.0.0) (numerals.from (decimal n) parts.0.1)

-- it begins with 0 only where it is 0 alone
no_zero_first : (n : ℕ) → n < 10 ^ 64 → (0 < length (decimal n)) × (0 < n → 48 < get_or (decimal n) 0 0) × (n < 10 → length (decimal n) ≡ 1)
no_zero_first = decimal_by_steps_wide (λ m ds. (0 < length ds) × (0 < m → 48 < get_or ds 0 0) × (m < 10 → length ds ≡ 1))
    (λ m l. (omega arith, λ a. omega arith, λ a. refl))
    (λ m ds l h. (omega (arith, length-append ds ((48 + m % 10) ∷ [])), λ a. (let first : get_or (ds ++ ((48 + m % 10) ∷ [])) 0 0 ≡ get_or ds 0 0 = same_first ds ((48 + m % 10) ∷ []) h.0 in omega (arith, first, h.1 (omega arith))), λ a. absurd (omega arith)))
  where
    same_first : (xs ys : List ℕ) → 0 < length xs → get_or (xs ++ ys) 0 0 ≡ get_or xs 0 0
    same_first [] ys h = absurd (omega arith)
    same_first (x ∷ xs) ys h = refl

written_by : (text : List ℕ) (t : Bool) → (get_or text 0 0 == 48 && nat_lt 1 (length text)) ≡ t → written text ≡ cond t None (number_below (2 ^ 128) text)
unfolding written
written_by text t h = ap (λ (b : Bool). cond b None (number_below (2 ^ 128) text)) h

number_of : (bound : ℕ) (text : List ℕ) (v : ℕ) → is_decimal text ≡ true → digits_value 10 text ≡ v → v < bound → number_below bound text ≡ Some v
number_of bound text v is value small =
    let within : nat_lt (digits_value 10 text) bound ≡ true = lt-ltb (digits_value 10 text) bound (omega (arith, value, small)) in
    let test : (is_decimal text && nat_lt (digits_value 10 text) bound) ≡ true = and_from _ _ is within in
    ap (λ (b : Bool). cond b (Some (digits_value 10 text)) None) test ∙ ap Some value

pub written-decimal : (n : ℕ) → n < 2 ^ 128 → written (decimal n) ≡ Some n
written-decimal n h =
    let wide : n < 10 ^ 64 = omega arith in
    let first = no_zero_first n wide in
    let plain : (get_or (decimal n) 0 0 == 48 && nat_lt 1 (length (decimal n))) ≡ false =
    elim (cases_eq n 0) [
      | inl z ↦ and_right _ _ (le-ltb 1 (length (decimal n)) (omega (arith, first.2 (omega arith))))
      | inr nz ↦ and_left _ _ (ne_eqb (get_or (decimal n) 0 0) 48 (λ e. omega (arith, e, first.1 (omega arith))))
    ] in
    written_by (decimal n) false plain
    ∙ number_of (2 ^ 128) (decimal n) n (decimal_is_decimal n wide) (decimal_is_IsNumeral_wide n wide).1 h

-- ---- what is read is a decimal number

le_value_after : (n : ℕ) (ds : List ℕ) → n ≤ digits_value_after 10 n ds
le_value_after n [] = omega arith
le_value_after n (c ∷ cs) = omega (arith, le_value_after (n * 10 + digit_value c) cs)

decimal_value_after : (n : ℕ) (ds : List ℕ) → 0 < n → AllDigits 10 ds → digits_value_after 10 n ds < 10 ^ 64 → decimal (digits_value_after 10 n ds) ≡ decimal n ++ ds
decimal_value_after n [] some d small = sym (append-nil (decimal n))
decimal_value_after n (c ∷ cs) some d small =
    let m : ℕ = n * 10 + digit_value c in
    let k = digit_value_digit c (digit_from_value c d.0) in
    let front : m / 10 ≡ n = omega (arith, d.0) in
    let end : 48 + m % 10 ≡ c = omega (arith, d.0) in
    decimal_value_after m cs (omega arith) d.1 small
    ∙ ap (λ x. x ++ cs) (decimal_step_wide m (omega arith) (omega (arith, le_value_after m cs)) ∙ (λ i. decimal (front i) ++ (end i ∷ [])))
    ∙ append_assoc (decimal n) (c ∷ []) cs

decimal_value_digits : (ds : List ℕ) → AllDigits 10 ds → 0 < length ds → (get_or ds 0 0 ≡ 48 → length ds ≡ 1) → digits_value 10 ds < 10 ^ 64 → decimal (digits_value 10 ds) ≡ ds
decimal_value_digits [] d some lead small = absurd (omega arith)
decimal_value_digits (c ∷ []) d some lead small =
    let k = digit_value_digit c (digit_from_value c d.0) in
    decimal_digit (0 * 10 + digit_value c) (omega (arith, d.0)) ∙ ap (λ x. x ∷ []) (omega arith)
decimal_value_digits (c ∷ e ∷ cs) d some lead small =
    let k = digit_value_digit c (digit_from_value c d.0) in
    let no : c ≡ 48 → ⊥ = λ z. omega (arith, lead z) in
    let is : 48 + (0 * 10 + digit_value c) ≡ c = omega arith in
    decimal_value_after (0 * 10 + digit_value c) (e ∷ cs) (omega arith) d.1 small
    ∙ ap (λ x. x ++ (e ∷ cs)) (decimal_digit (0 * 10 + digit_value c) (omega (arith, d.0)) ∙ ap (λ x. x ∷ []) is)

pub written-is : (text : List ℕ) (v : ℕ) → written text ≡ Some v → (text ≡ decimal v) × (v < 2 ^ 128)
written-is text v h = elim (cases_Bool (get_or text 0 0 == 48 && nat_lt 1 (length text))) [
  | inl e ↦ absurd (let none : ◌≡◌ {A = Option ℕ} None (Some v) = sym (written_by text true e) ∙ h in cc)
  | inr e ↦
      (let number : number_below (2 ^ 128) text ≡ Some v = sym (written_by text false e) ∙ h in
      let test = some_cond (is_decimal text && nat_lt (digits_value 10 text) (2 ^ 128)) (digits_value 10 text) v number in
      let parts = and_parts (is_decimal text) (nat_lt (digits_value 10 text) (2 ^ 128)) test.0 in
      let shape = and_parts (nat_lt 0 (length text)) (list_all is_ascii_digit text) parts.0 in
      let some : 0 < length text = ltb-true 0 (length text) shape.0 in
      let small : digits_value 10 text < 2 ^ 128 = ltb-true (digits_value 10 text) (2 ^ 128) parts.1 in
      let lead : get_or text 0 0 ≡ 48 → length text ≡ 1 = λ z. elim (cases_Bool (nat_lt 1 (length text))) [
        | inl l ↦ absurd (let both : (get_or text 0 0 == 48 && nat_lt 1 (length text)) ≡ true = and_from _ _ (eq-eqb (get_or text 0 0) 48 z) l in cc)
        | inr l ↦ (let le : length text ≤ 1 = ltb-false 1 (length text) l in omega arith)
      ] in
      let same : decimal (digits_value 10 text) ≡ text = decimal_value_digits text (numerals.to text shape.1) some lead (omega arith) in
      (sym same ∙ ap decimal test.1, omega (arith, test.1, small)))
]
