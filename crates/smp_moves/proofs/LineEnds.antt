-- A line is followed to the greatest fraction, and the state at its end stands over the least denominator. A unit is settled there.
use Rattle.std.proofs.Common.{◌≡◌, ℕ, zero, suc, ◌+◌, ◌-◌, ◌*◌, ◌/◌, ◌<◌, ◌≤◌, true, false, List, [], ◌∷◌, ℤ, pos, negsuc, length, get_or, arith, refl, sym, ap, ◌∙◌, subst, inl, inr, ◌⊎◌, mul-pos, eq-zero-or-pos}
use Rattle.std.specs.{Int.{IsGcd}, Int.RustNames.{unsigned_abs}}
use Rattle.std.proofs.{lemmas.Bool.{cases_lt}, lemmas.List.{length-map, get_or-map, get_or_past, get_or_default}}
use Rattle.std.proofs.lemmas.Nat.Gcd.{dvd_refl, dvd_trans}
use Rattle.std.proofs.Math.Nat.{mul-dvd-mul_left, mul-div_cancel', dvd-mul_left, dvd-mul_right_of_dvd, dvd_of_mul-dvd-mul_left, pos_of_dvd_of_pos, le_of_dvd}
use Prim.Native.Nat.{◌∣◌}
use Rattle.smp_frac.specs.{Fractions.{Same, over}, Divisors.{greatest_common_divisor}, Laws.Gcds.{IsGcd-greatest_common_divisor}}
use Rattle.smp_frac.proofs.{Arithmetic.{cancel, same_trans}, Over.{over_same}, Signs.{over_at_most_one}}
use Rattle.smp_frac.specs.{Laws.Coprime.{coprime_parts, divisor_positive, part_positive}, Laws.Lowest.{same_value}}
use Rattle.smp_kernel.specs.Vectors.{entry}
use Rattle.smp_kernel.proofs.Primitive.{dvd_of_primitive, one_from_le}
use Rattle.smp_values.specs.Values.{fractional, is_fractional}
use Rattle.smp_values.proofs.Fractional.{fractional_den}
use Rattle.smp_moves.specs.{declared.lines.Ratio.{Ratio}, declared.reaches.Reach.{Reach}, Kept.Ends.{IsOver, MakesWhole}}
use Rattle.smp_prob.specs.Shares.{Shares}
use Rattle.smp_moves.specs.Moves.{Line, IsLine, along, entry_of, fraction_of, StaysWithin, IsGreatest, IsMoved}
use Rattle.smp_moves.specs.Ends.{room, reach, lowest, extent, advanced, advanced_numbers, common_factor, end_of}
use Rattle.smp_moves.proofs.{Along.{StaysAt, stays_at, furthest, advanced_is}, Reaching.{IsReach, is_reach}}
use Rattle.smp_moves.proofs.Places.{advanced_at, length_advanced}
use Rattle.smp_moves.proofs.Entries.{order_going, order_within, some_entry, room_some, on_line, off_line, place_or}

-- ---- lowest terms

pub record IsLowest (a b : ℕ) (r : Ratio) : Type 0 where
  pub same : a * r.den ≡ r.num * b
  pub reduced : IsGcd r.num r.den 1
  pub some : 1 ≤ r.den

pub lowest_is : (a b : ℕ) → 1 ≤ b → IsLowest a b (lowest a b)
lowest_is a b p =
    let r = IsGcd-greatest_common_divisor a b in
    record {
      same = sym (same_value a b (greatest_common_divisor a b) r.0 r.1);
      reduced = coprime_parts a b (greatest_common_divisor a b) (divisor_positive a b (greatest_common_divisor a b) p r) r;
      some = part_positive b (greatest_common_divisor a b) p r.1;
    }

-- ---- what a number and a list have in common

pub divides_first : (d : ℕ) (xs : List ℕ) → common_factor d xs ∣ d
divides_first d [] = dvd_refl d
divides_first d (x ∷ xs) = dvd_trans _ (divides_first (greatest_common_divisor d x) xs) (IsGcd-greatest_common_divisor d x).0

pub divides_each : (d : ℕ) (xs : List ℕ) (i : ℕ) → i < length xs → common_factor d xs ∣ get_or xs i 0
divides_each d [] i h = absurd (omega (arith, h))
divides_each d (x ∷ xs) zero h = dvd_trans _ (divides_first (greatest_common_divisor d x) xs) (IsGcd-greatest_common_divisor d x).1
divides_each d (x ∷ xs) (suc i) h = divides_each (greatest_common_divisor d x) xs i (omega (arith, h))

pub divides_common : (k d : ℕ) (xs : List ℕ) → k ∣ d → ((i : ℕ) → i < length xs → k ∣ get_or xs i 0) → k ∣ common_factor d xs
divides_common k d [] h each = h
divides_common k d (x ∷ xs) h each =
    divides_common k (greatest_common_divisor d x) xs ((IsGcd-greatest_common_divisor d x).2 k h (each 0 (omega arith))) (λ i l. each (suc i) (omega (arith, l)))

-- a unit that uses up all its room
advanced_out : (a c : ℕ) (r : Reach) (e : ℤ) → a ≤ c → r.left ≡ room c a e → r.size ≡ unsigned_abs e → (advanced a r e ≡ c * r.size) ⊎ (advanced a r e ≡ 0)
advanced_out a c r (pos n) le left size =
    let l : r.left ≡ c - a = left in
    let s : r.size ≡ n = size in
    let e : c ≡ a + (c - a) = omega arith in
    inl (rw (l, s) (omega (arith, ap (λ x. x * n) e)))
advanced_out a c r (negsuc n) le left size =
    let l : r.left ≡ a = left in
    let s : r.size ≡ suc n = size in
    inr (rw (l, s) (omega arith))

-- ---- the end of a line

module _ (first : ℕ) (s : Shares) (is_over : IsOver first s) (line : Line) (ok : IsLine s line) where
  abbrev c : ℕ
  c = s.den

  abbrev a_at : ℕ → ℕ
  a_at k = get_or s.numer k 0

  abbrev N : ℕ
  N = (reach s line).left

  abbrev U : ℕ
  U = (reach s line).size

  some_den : 1 ≤ c
  some_den = is_over.values.positive

  pub reached : IsReach s line
  reached = let e = some_entry line.entries ok.some in is_reach s line ok.lengths (room_some s line ok) e.0 (omega (arith, e.1, ok.lengths)) e.2

  pub full_positive : 1 ≤ s.den * (reach s line).size
  full_positive = mul-pos some_den reached.some_size

  pub extent_is : IsLowest (reach s line).left (s.den * (reach s line).size) (extent s line)
  extent_is = lowest_is N (c * U) full_positive

  -- it goes some way
  pub extent_some : 1 ≤ (extent s line).num
  extent_some =
      elim (eq-zero-or-pos (extent s line).num) [
        | inr p ↦ p
        | inl z ↦ absurd (let n : 1 ≤ N * (extent s line).den = mul-pos reached.some extent_is.some in
            let none : (extent s line).num * (c * U) ≡ 0 = rw z (omega arith) in
            omega (arith, n, none, extent_is.same))
      ]

  -- no unit uses up more than its room
  within_room : (k : ℕ) → N * unsigned_abs (entry_of line k) ≤ room c (a_at k) (entry_of line k) * U
  within_room k =
      elim (place_or line.units k) [
        | inl h ↦
            subst (λ (x : ℕ). N * unsigned_abs (entry_of line x) ≤ room c (a_at x) (entry_of line x) * U) h.2
            (rw (on_line s line ok h.0 h.1) (reached.least h.0 h.1))
        | inr out ↦ rw (off_line s line ok k out) (omega arith)
      ]

  stays : StaysWithin s line (fraction_of (extent s line))
  stays =
      let at : (k : ℕ) → StaysAt (a_at k) c (fraction_of (extent s line)) (entry_of line k) =
      λ k. stays_at (a_at k) c N U (extent s line).num (extent s line).den (entry_of line k) some_den extent_is.some reached.some_size (is_over.values.each k) extent_is.same (within_room k) in
      record { low = λ k. (at k).low; high = λ k. (at k).high }

  -- the unit that meets its end first, and its entry
  abbrev pub first_unit : ℕ
  first_unit = get_or line.units reached.place 0

  first_entry : entry_of line first_unit ≡ entry line.entries reached.place
  first_entry = on_line s line ok reached.place reached.within

  first_left : N ≡ room c (a_at first_unit) (entry_of line first_unit)
  first_left = rw first_entry (ap (λ (x : Reach). x.left) reached.is)

  first_size : U ≡ unsigned_abs (entry_of line first_unit)
  first_size = rw first_entry (ap (λ (x : Reach). x.size) reached.is)

  pub greatest : IsGreatest s line (extent s line)
  greatest = record {
    some = extent_is.some;
    reduced = extent_is.reduced;
    stays = stays;
    greatest = λ t h.
        furthest (a_at first_unit) c N U (extent s line).num (extent s line).den (entry_of line first_unit) t some_den extent_is.some reached.some_size (is_over.values.each first_unit)
        extent_is.same first_left first_size (record { low = h.low first_unit; high = h.high first_unit });
  }

  -- ---- the numerators at the end

  abbrev full : ℕ
  full = s.den * (reach s line).size

  abbrev numbers : List ℕ
  numbers = advanced_numbers s.numer line (reach s line)

  abbrev g : ℕ
  g = common_factor (s.den * (reach s line).size / first) (advanced_numbers s.numer line (reach s line))

  start_divides : first ∣ full
  start_divides = dvd-mul_right_of_dvd first is_over.multiple U

  full_is : first * (full / first) ≡ full
  full_is = mul-div_cancel' first start_divides

  times_some : 1 ≤ full / first
  times_some = part_positive full first full_positive start_divides

  g_divides : g ∣ full / first
  g_divides = divides_first (full / first) numbers

  pub common_some : 1 ≤ common_factor (s.den * (reach s line).size / first) (advanced_numbers s.numer line (reach s line))
  common_some = pos_of_dvd_of_pos g_divides times_some

  abbrev times : ℕ
  times = full / first / g

  times_is : g * times ≡ full / first
  times_is = mul-div_cancel' g g_divides

  g_full : g ∣ full
  g_full = let P : ℕ → Type 0 = λ x. g ∣ x in subst P full_is (dvd_trans g g_divides (dvd-mul_left (full / first) first))

  den_whole : g * (full / g) ≡ full
  den_whole = mul-div_cancel' g g_full

  den_some : 1 ≤ full / g
  den_some = part_positive full g full_positive g_full

  den_is : full / g ≡ first * times
  den_is =
      let f : first * (g * times) ≡ first * (full / first) = ap (λ x. first * x) times_is in
      cancel (full / g) (first * times) g common_some (omega (arith, den_whole, f, full_is))

  abbrev last : Shares
  last = end_of first s line

  length_last : length last.numer ≡ length s.numer
  length_last = length-map numbers (λ n. n / g) ∙ length_advanced s.numer line (reach s line)

  -- each numerator, times what is taken out
  last_whole : (k : ℕ) → g * get_or last.numer k 0 ≡ advanced (a_at k) (reach s line) (entry_of line k)
  last_whole k =
      elim (cases_lt k (length s.numer)) [
        | inl l ↦
            (let here : get_or last.numer k 0 ≡ get_or numbers k 0 / g = get_or-map (λ n. n / g) numbers k 0 0 (omega (arith, l, length_advanced s.numer line (reach s line))) in
            ap (λ x. g * x) here ∙ mul-div_cancel' g (divides_each (full / first) numbers k (omega (arith, l, length_advanced s.numer line (reach s line)))) ∙ advanced_at s.numer line (reach s line) k l)
        | inr past ↦
            (let none : get_or last.numer k 0 ≡ 0 = get_or_past last.numer k 0 (omega (arith, length_last)) in
            let was : a_at k ≡ 0 = get_or_past s.numer k 0 past in
            let off : entry_of line k ≡ pos 0 = off_line s line ok k (λ h. in_line k past h.0 h.1 h.2) in
            rw (none, was, off) (omega arith))
      ]
    where
      in_line : (k : ℕ) → length s.numer ≤ k → (i : ℕ) → i < length line.units → get_or line.units i k ≡ k → ⊥
      in_line k past i l e = (let h : get_or line.units i 0 < length s.numer = order_within s line.units ok.order i l in let same : get_or line.units i k ≡ get_or line.units i 0 = get_or_default line.units i k 0 l in omega (arith, h, past, e, same))

  values : (k : ℕ) → Same (over (get_or last.numer k 0) last.den) (over (advanced (a_at k) (reach s line) (entry_of line k)) full)
  values k =
      over_same (get_or last.numer k 0) (advanced (a_at k) (reach s line) (entry_of line k)) (full / g) full den_some full_positive
      (let e : get_or last.numer k 0 * (g * (full / g)) ≡ get_or last.numer k 0 * full = ap (λ x. get_or last.numer k 0 * x) den_whole in
      let f : g * get_or last.numer k 0 * (full / g) ≡ advanced (a_at k) (reach s line) (entry_of line k) * (full / g) = ap (λ x. x * (full / g)) (last_whole k) in
      omega (arith, e, f))

  -- ---- no smaller multiple of the requested denominator makes the values whole

  abbrev parts_of : ℕ → ℕ
  parts_of zero = full / first / g
  parts_of (suc k) = get_or last.numer k 0

  no_divisor : (d : ℕ) → ((i : ℕ) → d ∣ parts_of i) → d ≡ 1
  no_divisor d all =
      let into : (x y : ℕ) → g * x ≡ y → d ∣ x → g * d ∣ y = λ x y e h. (let P : ℕ → Type 0 = λ z. g * d ∣ z in subst P e (mul-dvd-mul_left d g h)) in
      let both : g * d ∣ g =
      divides_common (g * d) (full / first) numbers (into times (full / first) times_is (all 0))
      (λ i l. (let h : i < length s.numer = omega (arith, l, length_advanced s.numer line (reach s line)) in into (get_or last.numer i 0) (get_or numbers i 0) (last_whole i ∙ sym (advanced_at s.numer line (reach s line) i h)) (all (suc i)))) in
      let pd : 0 < d = pos_of_dvd_of_pos (dvd_trans d (dvd-mul_left d g) both) common_some in
      one_from_le d g pd common_some (let le : g * d ≤ g = le_of_dvd common_some both in omega (arith, le))

  least : (m : ℕ) → 1 ≤ m → MakesWhole (first * m) last → times ≤ m
  least m p h =
      le_of_dvd p (dvd_of_primitive times m parts_of (let s : 0 < times = part_positive (full / first) g times_some g_divides in s) no_divisor (at m h))
    where
      at : (m : ℕ) → MakesWhole (first * m) last → (i : ℕ) → times ∣ m * parts_of i
      at m h zero = dvd-mul_left times m
      at m h (suc k) =
          dvd_of_mul-dvd-mul_left times is_over.some
          (let P : ℕ → Type 0 = λ x. x ∣ first * (m * get_or last.numer k 0) in
          subst P den_is (let Q : ℕ → Type 0 = λ x. full / g ∣ x in subst Q (let e : get_or last.numer k 0 * (first * m) ≡ first * (m * get_or last.numer k 0) = omega arith in e) (h k)))

  pub moved : IsMoved first s line (extent s line) (end_of first s line)
  moved = record {
    same_length = length_last;
    values = λ k.
        same_trans (values k)
        (advanced_is (a_at k) c (reach s line) (extent s line).num (extent s line).den (entry_of line k) some_den extent_is.some reached.some_size extent_is.same (within_room k));
    positive = den_some;
    times = times;
    multiple = den_is;
    least = least;
  }

  -- ---- the unit that meets its end first is settled

  pub settled_unit : (is_fractional s first_unit ≡ true) × (is_fractional last first_unit ≡ false)
  settled_unit = (
    order_going s line.units ok.order reached.place reached.within,
    elim (advanced_out (a_at first_unit) c (reach s line) (entry_of line first_unit) (is_over.values.each first_unit) first_left first_size) [
      | inl all ↦ (let e : get_or last.numer first_unit 0 ≡ full / g = same_part g (get_or last.numer first_unit 0) (full / g) common_some (last_whole first_unit ∙ all ∙ sym den_whole) in rw e (fractional_den (full / g)))
      | inr none ↦ (let e : get_or last.numer first_unit 0 ≡ 0 = same_part g (get_or last.numer first_unit 0) 0 common_some (last_whole first_unit ∙ none ∙ (let z : 0 ≡ g * 0 = omega arith in z)) in rw e refl)
    ],
  )
    where
      same_part : (m x y : ℕ) → 1 ≤ m → m * x ≡ m * y → x ≡ y
      same_part m x y p e = cancel x y m p (omega (arith, e))

  -- ---- the numerators before what they have in common is taken out

  pub advanced_along : (k : ℕ) → Same (over (advanced (get_or s.numer k 0) (reach s line) (entry_of line k)) (s.den * (reach s line).size)) (along s line (fraction_of (extent s line)) k)
  advanced_along k = advanced_is (a_at k) c (reach s line) (extent s line).num (extent s line).den (entry_of line k) some_den extent_is.some reached.some_size extent_is.same (within_room k)

  pub advanced_within : (k : ℕ) → advanced (get_or s.numer k 0) (reach s line) (entry_of line k) ≤ s.den * (reach s line).size
  advanced_within k = over_at_most_one (advanced (a_at k) (reach s line) (entry_of line k)) full (along s line (fraction_of (extent s line)) k) full_positive (advanced_along k) (stays.high k)

  pub advanced_settled : fractional (s.den * (reach s line).size) (advanced (get_or s.numer first_unit 0) (reach s line) (entry_of line first_unit)) ≡ false
  advanced_settled =
      elim (advanced_out (a_at first_unit) c (reach s line) (entry_of line first_unit) (is_over.values.each first_unit) first_left first_size) [
        | inl all ↦ rw all (fractional_den full)
        | inr none ↦ rw none refl
      ]
