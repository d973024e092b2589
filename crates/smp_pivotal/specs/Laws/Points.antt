-- The points that a systematic draw picks: the draw, and all points that are whole multiples of the denominator further on.
use Rattle.std.proofs.Common.{◌≡◌, ℕ, zero, suc, ◌+◌, ◌-◌, ◌*◌, ◌/◌, ◌%◌, ◌<◌, ◌≤◌, Bool, true, false}
use Rattle.std.proofs.Common.{cond, nat_lt, nat_le, ◌&&◌, length, arith, refl, sym, ap, ◌∙◌, inl, inr}
use Rattle.std.specs.Bool.{Decides}
use Rattle.std.specs.List.{list_any, range_with_len}
use Rattle.std.proofs.Math.Nat.{add-mul-div_right, div-eq_of_lt, mul-le-mul_right, mul-le-mul_left}
use Rattle.std.proofs.lemmas.Bool.{cases_Bool, cases_lt, ltb-true, ltb-false, leb-true, lt-ltb, le-ltb, le-leb, lt-leb, and_parts}
use Rattle.std.proofs.lemmas.Bool.{and_right}
use Rattle.std.proofs.lemmas.List.Folds.{list_any_at}
use Rattle.std.proofs.lemmas.List.FromFn.{length-range_with_len, get_or-range_with_len}
use Rattle.smp_split.proofs.NumberSums.{sums, counts, sums_front, sums_plus, sums_same, sums-none}
use Rattle.smp_pivotal.specs.Systematic.{meets, Meets}

-- ---- points and pieces

-- `gap` is how far the first point that isn't before `start` lies from it, and `steps` is how many points lie before it
pub record IsGap (den start draw gap steps : ℕ) : Type 0 where
  pub at : draw + steps * den ≡ start + gap
  pub short : gap < den

-- ---- a piece holds a point where its length passes the gap

none_of : (test : ℕ → Bool) (n i : ℕ) → ((j : ℕ) → test j ≡ false) → list_any test (range_with_len i n) ≡ false
none_of test zero i h = refl
none_of test (suc n) i h = rw (h i) (none_of test n (i + 1) h)

abbrev holds : ℕ → ℕ → ℕ → ℕ → ℕ → Bool
holds den start after draw j = nat_le start (draw + j * den) && nat_lt (draw + j * den) after

-- a point of the piece is found
found : (den start after draw j : ℕ) → 1 ≤ den → start ≤ draw + j * den → draw + j * den < after
    → meets den start after draw ≡ true
found den start after draw j one from below =
    let few : j * 1 ≤ j * den = mul-le-mul_left j one in
    let index : j < after = omega arith in
    let here : j < length (range_with_len 0 after) = omega (arith, length-range_with_len 0 after) in
    let none : 0 + j ≡ j = omega arith in
    list_any_at (holds den start after draw) (range_with_len 0 after) j 0 here
    (rw (get_or-range_with_len 0 after j 0 index, none, le-leb start (draw + j * den) from, lt-ltb (draw + j * den) after below) refl)

point_of : (test : ℕ → Bool) (n i : ℕ) → list_any test (range_with_len i n) ≡ true → (j : ℕ) × (test j ≡ true)
point_of test zero i h = absurd (cc)
point_of test (suc n) i h =
    elim (cases_Bool (test i)) [ inl e ↦ (i, e) | inr e ↦ point_of test n (i + 1) (rw e at h) ]

-- the test decides whether some point lies in the piece
pub meets_decides : (den start after draw : ℕ) → 1 ≤ den → Decides (meets den start after draw) (Meets den start after draw)
meets_decides den start after draw one = (
  λ e. (let point = point_of (holds den start after draw) after 0 e in
      let parts = and_parts (nat_le start (draw + point.0 * den)) (nat_lt (draw + point.0 * den) after) point.1 in
      record { j = point.0; from = leb-true start (draw + point.0 * den) parts.0; below = ltb-true (draw + point.0 * den) after parts.1 }),
  λ point. found den start after draw point.j one point.from point.below,
)

module _ (den start draw gap steps : ℕ) (is : IsGap den start draw gap steps) where
  -- a point that isn't before the start isn't before the gap's end
  past_gap : (j : ℕ) → start ≤ draw + j * den → start + gap ≤ draw + j * den
  past_gap j h =
      elim (cases_lt j steps) [
        | inl l ↦
            (let turn : (j + 1) * den ≤ steps * den = mul-le-mul_right den (let le : j + 1 ≤ steps = omega arith in le) in
            let more : (j + 1) * den ≡ j * den + den = omega arith in
            absurd (omega (arith, is.at, is.short)))
        | inr l ↦ (let far : steps * den ≤ j * den = mul-le-mul_right den l in omega (arith, is.at))
      ]

  pub meets_is : (size after : ℕ) → after ≡ start + size → meets den start after draw ≡ nat_lt gap size
  meets_is size after end =
      elim (cases_Bool (nat_lt gap size)) [
        | inl e ↦
            (let within : gap < size = ltb-true gap size e in
            let below : draw + steps * den < after = omega (arith, is.at) in
            let from : start ≤ draw + steps * den = omega (arith, is.at) in
            rw e (found den start after draw steps (let one : 1 ≤ den = omega (arith, is.short) in one) from below))
        | inr e ↦
            (let long : size ≤ gap = ltb-false gap size e in
            rw e (none_of (holds den start after draw) after 0 (λ j.
            elim (cases_lt (draw + j * den) start) [
              | inl before ↦ rw (lt-leb start (draw + j * den) before) refl
              | inr not_before ↦ and_right (nat_le start (draw + j * den)) (nat_lt (draw + j * den) after)
                  (le-ltb (draw + j * den) after (omega (arith, past_gap j not_before)))
            ])))
      ]

  -- the gap of the next piece
  pub next_gap : (size : ℕ) → size ≤ den
      → IsGap den (start + size) draw (cond (nat_lt gap size) (gap + (den - size)) (gap - size))
      (cond (nat_lt gap size) 1 0 + steps)
  next_gap size le =
      elim (cases_Bool (nat_lt gap size)) [
        | inl e ↦ (let within : gap < size = ltb-true gap size e in rw e (record { at = omega (arith, is.at); short = omega arith }))
        | inr e ↦ (let long : size ≤ gap = ltb-false gap size e in
            rw e (record { at = omega (arith, is.at); short = omega (arith, is.short) }))
      ]

-- ---- how many points lie before a place, and how many draws have one in a piece

-- how many of the points of a draw are below a number
abbrev pub points : ℕ → ℕ → ℕ → ℕ
points den below draw = (below + (den - 1 - draw)) / den

pub gap_of : (den start draw : ℕ) → draw < den
    → IsGap den start draw (den - 1 - (start + (den - 1 - draw)) % den) (points den start draw)
gap_of den start draw h =
    let x : ℕ = start + (den - 1 - draw) in
    let r : x % den < den = omega arith in
    let split : den * (x / den) + x % den ≡ x = omega arith in
    record { at = omega arith; short = omega arith }

points_are : (den start draw gap steps : ℕ) → draw < den → IsGap den start draw gap steps → points den start draw ≡ steps
points_are den start draw gap steps h is =
    let some : 0 < den = omega arith in
    let sum : start + (den - 1 - draw) ≡ (den - 1 - gap) + steps * den = omega (arith, is.at, is.short) in
    ap (λ x. x / den) sum ∙ add-mul-div_right (den - 1 - gap) steps some
    ∙ (let none : (den - 1 - gap) / den ≡ 0 = div-eq_of_lt (omega arith) in omega arith)

-- one whole turn on
turn : (den x : ℕ) → 1 ≤ den → (x + den) / den ≡ x / den + 1
turn den x p =
    let some : 0 < den = omega arith in
    let one : x + den ≡ x + 1 * den = omega arith in
    ap (λ y. y / den) one ∙ add-mul-div_right x 1 some

-- over all draws, each number below c is a point once
points_sum : (m c : ℕ) → sums (suc m) (points (suc m) c) ≡ c
points_sum m zero = sums-none (suc m) (points (suc m) 0) (λ d l. div-eq_of_lt (omega arith))
points_sum m (suc c) =
    let first : points (suc m) (suc c) 0 ≡ points (suc m) c m + 1 =
    (let e : suc c + (suc m - 1 - 0) ≡ c + suc m = omega arith in
    let f : c + (suc m - 1 - m) ≡ c = omega arith in
    ap (λ x. x / suc m) e ∙ turn (suc m) c (omega arith) ∙ ap (λ x. x / suc m + 1) (sym f)) in
    let rest : sums m (λ d. points (suc m) (suc c) (suc d)) ≡ sums m (points (suc m) c) =
    sums_same m (λ d. points (suc m) (suc c) (suc d)) (points (suc m) c)
    (λ d l. (let e : suc c + (suc m - 1 - suc d) ≡ c + (suc m - 1 - d) = omega arith in ap (λ x. x / suc m) e)) in
    omega (arith, sums_front m (points (suc m) (suc c)), points_sum m c)

points_sum_all : (den c : ℕ) → 1 ≤ den → sums den (points den c) ≡ c
points_sum_all zero c h = absurd (omega arith)
points_sum_all (suc m) c h = points_sum m c

-- the points before the end of a piece
pub points_next : (den start size after draw : ℕ) → draw < den → size ≤ den → after ≡ start + size
    → points den after draw ≡ cond (meets den start after draw) 1 0 + points den start draw
points_next den start size after draw h le end =
    let is = gap_of den start draw h in
    let gap : ℕ = den - 1 - (start + (den - 1 - draw)) % den in
    ap (λ x. points den x draw) end
    ∙ points_are den (start + size) draw _ _ h (next_gap den start draw gap (points den start draw) is size le)
    ∙ sym (ap (λ b. cond b 1 0 + points den start draw) (meets_is den start draw gap (points den start draw) is size after end))

-- a piece is met by as many draws as it is long
pub meets_count : (den start size after : ℕ) → 1 ≤ den → size ≤ den → after ≡ start + size
    → counts den (meets den start after) ≡ size
meets_count den start size after one le end =
    omega (
      arith,
      sums_plus den (points den after) (λ d. cond (meets den start after d) 1 0) (points den start)
          (λ d l. points_next den start size after d l le end),
      points_sum_all den after one,
      points_sum_all den start one,
    )

-- before 0 no point lies
pub points_zero : (den draw : ℕ) → draw < den → points den 0 draw ≡ 0
points_zero den draw h = div-eq_of_lt (omega arith)
