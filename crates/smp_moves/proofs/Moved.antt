-- The values at the end of a line lie from 0 to 1, and fewer of them are fractional.
use Rattle.std.proofs.Common.{◌≡◌, ℕ, zero, suc, ◌+◌, ◌*◌, ◌<◌, ◌≤◌, ◌^◌, Bool, true, false, cond, List, [], ◌∷◌, length, get_or, pos, arith, refl, sym, ◌∙◌, subst, inl, inr, le_of_suc-le-suc, eq-zero-or-pos, mul-pos}
use Rattle.std.specs.List.{count_by}
use Rattle.std.proofs.{lemmas.Bool.{cases_Bool, cases_lt}, lemmas.List.Sums.{sum_by-cons}, Math.Nat.{mul-le-mul_right, dvd-mul_right}}
use Prim.Native.Nat.{◌∣◌}
use Rattle.smp_frac.specs.Fractions.{Same}
use Rattle.smp_frac.proofs.{Arithmetic.{same_refl, same_trans, plus_same, plus-zero, times-zero}, Signs.{over_cross, over_at_most_one}}
use Rattle.smp_prob.specs.Shares.{Shares}
use Rattle.smp_values.specs.Values.{IsValues, fractional, fractional_count, is_fractional, value_at}
use Rattle.smp_values.proofs.{Fractional.{fractional_is, is_fractional-between}, Units.{fractional_within}}
use Rattle.smp_moves.specs.{Moves.{Line, IsLine, IsMoved, along, entry_of, fraction_of}, Ends.{extent, end_of}, Kept.Ends.{IsOver}}
use Rattle.smp_moves.proofs.{Entries.{order_going, off_line, place_or}, LineEnds.{moved, greatest, settled_unit, first_unit}}

-- a value that did not change
pub same_fractional : (a c b d : ℕ) → 1 ≤ c → b * c ≡ a * d → fractional d b ≡ true → fractional c a ≡ true
same_fractional a c b d pc h t =
    let r = fractional_is d b t in
    is_fractional-between c a
    (elim (eq-zero-or-pos a) [ inl z ↦ absurd (let g : a * d ≡ 0 = rw z (omega arith) in let m : 0 < b * c = mul-pos r.0 pc in omega arith) | inr p ↦ p ])
    (elim (cases_lt a c) [ inl l ↦ l | inr m ↦ absurd (let g : c * d ≤ a * d = mul-le-mul_right d m in let k : (b + 1) * c ≤ d * c = mul-le-mul_right c (let t : b + 1 ≤ d = omega (arith, r.1) in t) in omega arith) ])

pub same_tests : (b c : Bool) → (b ≡ true → c ≡ true) → (c ≡ true → b ≡ true) → b ≡ c
same_tests true c h k = sym (h refl)
same_tests false true h k = k refl
same_tests false false h k = refl

-- ---- counting
-- not more elements pass the second test than the first, and fewer do where one passes the first alone
count_most : (P Q : ℕ → Bool) (xs ys : List ℕ) → length xs ≡ length ys → ((k : ℕ) → k < length xs → Q (get_or ys k 0) ≡ true → P (get_or xs k 0) ≡ true) →
    (count_by Q ys ≤ count_by P xs) × ((j : ℕ) → j < length xs → P (get_or xs j 0) ≡ true → Q (get_or ys j 0) ≡ false → count_by Q ys < count_by P xs)
count_most P Q [] [] e h = (omega arith, λ j l p q. absurd (omega (arith, l)))
count_most P Q [] (y ∷ ys) e h = absurd (omega arith)
count_most P Q (x ∷ xs) [] e h = absurd (omega arith)
count_most P Q (x ∷ xs) (y ∷ ys) e h =
    let r = count_most P Q xs ys (omega arith) (λ k l. h (suc k) (omega arith)) in
    let cx : count_by P (x ∷ xs) ≡ cond (P x) 1 0 + count_by P xs = sum_by-cons (λ a. cond (P a) 1 0) x xs in
    let cy : count_by Q (y ∷ ys) ≡ cond (Q y) 1 0 + count_by Q ys = sum_by-cons (λ a. cond (Q a) 1 0) y ys in
    let one : cond (Q y) 1 0 ≤ cond (P x) 1 0 = elim (cases_Bool (Q y)) [ inl t ↦ rw (t, h 0 (omega arith) t) (omega arith) | inr f ↦ rw f (omega arith) ] in (
      omega (arith, r.0, cx, cy, one),
      elim [
        | zero ↦ λ l p q. (let a : 1 ≤ cond (P x) 1 0 = rw p (omega arith) in let b : cond (Q y) 1 0 ≤ 0 = rw q (omega arith) in omega (arith, r.0, cx, cy, a, b))
        | suc j ↦ λ l p q. (let rest = r.1 j (le_of_suc-le-suc l) p q in omega (arith, rest, cx, cy, one))
      ],
    )

pub count_falls : (P Q : ℕ → Bool) (xs ys : List ℕ) (j : ℕ) → length xs ≡ length ys → ((k : ℕ) → k < length xs → Q (get_or ys k 0) ≡ true → P (get_or xs k 0) ≡ true) → j < length xs → P (get_or xs j 0) ≡ true → Q (get_or ys j 0) ≡ false → count_by Q ys < count_by P xs
count_falls P Q xs ys j e h = (count_most P Q xs ys e h).1 j

-- ---- the values at the end

module _ (first : ℕ) (s : Shares) (is_over : IsOver first s) (line : Line) (ok : IsLine s line) where
  abbrev last : Shares
  last = end_of first s line

  last_moved : IsMoved first s line (extent s line) last
  last_moved = moved first s is_over line ok

  pub end_within : (k : ℕ) → get_or last.numer k 0 ≤ last.den
  end_within k = over_at_most_one (get_or last.numer k 0) last.den (along s line (fraction_of (extent s line)) k) last_moved.positive (last_moved.values k) ((greatest first s is_over line ok).stays.high k)

  -- a unit at which the line is 0 keeps its value
  pub keeps_still : (k : ℕ) → entry_of line k ≡ pos 0 → get_or last.numer k 0 * s.den ≡ get_or s.numer k 0 * last.den
  keeps_still k none =
      let t = fraction_of (extent s line) in
      let stays : Same (along s line t k) (value_at s k) =
      rw none (same_trans (plus_same (same_refl (value_at s k)) (times-zero t)) (plus-zero (value_at s k))) in
      over_cross (get_or last.numer k 0) last.den (get_or s.numer k 0) s.den last_moved.positive is_over.values.positive (same_trans (last_moved.values k) stays)

  -- and is fractional where it was so before
  pub same_still : (k : ℕ) → entry_of line k ≡ pos 0 → is_fractional last k ≡ is_fractional s k
  same_still k none =
      same_tests (is_fractional last k) (is_fractional s k)
      (same_fractional (get_or s.numer k 0) s.den (get_or last.numer k 0) last.den is_over.values.positive (keeps_still k none))
      (same_fractional (get_or last.numer k 0) last.den (get_or s.numer k 0) s.den last_moved.positive (sym (keeps_still k none)))

  -- what is fractional after the move was so before
  pub keeps_fractional : (k : ℕ) → is_fractional last k ≡ true → is_fractional s k ≡ true
  keeps_fractional k b =
      elim (place_or line.units k) [
        | inl h ↦ subst (λ (x : ℕ). is_fractional s x ≡ true) h.2 (order_going s line.units ok.order h.0 h.1)
        | inr out ↦ same_fractional (get_or s.numer k 0) s.den (get_or last.numer k 0) last.den is_over.values.positive (keeps_still k (off_line s line ok k out)) b
      ]

  pub end_settles : fractional_count last < fractional_count s
  end_settles =
      let unit = first_unit first s is_over line ok in
      let settled = settled_unit first s is_over line ok in
      count_falls (fractional s.den) (fractional last.den) s.numer last.numer unit (sym last_moved.same_length) (λ k l. keeps_fractional k) (fractional_within s unit settled.0) settled.0 settled.1

  pub end_values : (n : ℕ) → length s.numer ≡ n → last.den ≤ 2 ^ 80 → IsValues n (2 ^ 80) last
  end_values n count narrow = record { count = last_moved.same_length ∙ count; positive = last_moved.positive; narrow = narrow; each = end_within }

  pub end_multiple : first ∣ last.den
  end_multiple = let P : ℕ → Type 0 = λ x. first ∣ x in subst P (sym last_moved.multiple) (dvd-mul_right first last_moved.times)
