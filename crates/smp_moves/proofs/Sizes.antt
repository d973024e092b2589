-- The numbers of a line that fits its gate: they fit the code's numbers, no numerator falls below 0, and the bound is below 2^126.
use Rattle.std.proofs.Common.{◌≡◌, ℕ, ◌+◌, ◌*◌, ◌<◌, ◌≤◌, ◌^◌, List, ℤ, pos, negsuc, neg_ℤ, ◌<ℤ◌, map, take, length, get_or, arith, refl, ap, subst, inl, inr, length-take, get_or-take}
use Rattle.std.proofs.{Math.Nat.{mul-le-mul, div-le_self}, lemmas.Bool.{cases_lt}, lemmas.Int.{ints}, lemmas.List.{get_or_past, length-map}}
use Rattle.std.proofs.lemmas.List.Elements.{All-from_get_or}
use Rattle.std.specs.Int.RustNames.{unsigned_abs}
use Rattle.smp_frac.specs.Divisors.{greatest_common_divisor}
use Rattle.smp_kernel.specs.Vectors.{entry, Within}
use Rattle.smp_prob.specs.Shares.{Shares}
use Rattle.smp_moves.specs.{Moves.{Line, IsLine, entry_of, turned}, Ends.{room, reach, lowest, move_along}, Kept.Ends.{CanAdvance, IsOver}}
use Rattle.smp_moves.proofs.{Entries.{entry_turned, on_line, off_line, place_or, turned_line}, LineEnds.{reached}}

room_most : (a d : ℕ) (e : ℤ) → a ≤ d → room d a e ≤ d
room_most a d (pos n) h = omega arith
room_most a d (negsuc n) h = h

room_back : (d a : ℕ) (e : ℤ) → e <ℤ pos 0 → room d a e ≡ a
room_back d a (pos n) l = absurd (omega (arith, ints))
room_back d a (negsuc n) l = refl

pub entry_small : (limit : ℕ) (es : List ℤ) → Within limit es → (j : ℕ) → unsigned_abs (entry es j) ≤ limit
entry_small limit es w j =
    elim (cases_lt j (length es)) [
      | inl l ↦ w j (pos 0) l
      | inr m ↦ (let z : entry es j ≡ pos 0 = get_or_past es j (pos 0) m in rw z (omega arith))
    ]

-- the entries in the first places of an array, and all of them where 0 stands in the others
pub small_places : (n : ℕ) (es : List ℤ) → ((i : ℕ) → unsigned_abs (entry es i) ≤ 2 ^ 44) → Within (2 ^ 44) (take n es)
small_places n es h = All-from_get_or (λ e. unsigned_abs e ≤ 2 ^ 44) (take n es) (pos 0) (λ i l. rw (get_or-take n es i (pos 0) (omega (arith, l, length-take n es))) (h i))

pub all_small : (n : ℕ) (es : List ℤ) → Within (2 ^ 44) (take n es) → ((i : ℕ) → n ≤ i → entry es i ≡ pos 0) → (i : ℕ) → unsigned_abs (entry es i) ≤ 2 ^ 44
all_small n es w past i =
    elim (cases_lt i n) [
      | inl l ↦ (let h = entry_small (2 ^ 44) (take n es) w i in rw (get_or-take n es i (pos 0) l) at h)
      | inr m ↦ rw (past i m) (omega arith)
    ]

pub turned_within : (line : Line) → Within (2 ^ 44) line.entries → Within (2 ^ 44) (turned line).entries
turned_within line w = All-from_get_or (λ e. unsigned_abs e ≤ 2 ^ 44) (turned line).entries (pos 0) (λ i l.
    (let d : unsigned_abs (entry line.entries i) ≤ 2 ^ 44 = w i (pos 0) (let m : i < length (map neg_ℤ line.entries) = l in omega (arith, m, length-map line.entries neg_ℤ)) in
    let e : entry (turned line).entries i ≡ neg_ℤ (entry line.entries i) = entry_turned line.entries i in
    rw e (omega (arith, ints, d))))

module _ (first : ℕ) (s : Shares) (is_over : IsOver first s) (line : Line) (ok : IsLine s line) (w : Within (2 ^ 44) line.entries) where
  pub reach_small : ((reach s line).left ≤ 2 ^ 80) × ((reach s line).size ≤ 2 ^ 44)
  reach_small =
      let r = reached first s is_over line ok in
      let a : (reach s line).left ≡ room s.den (get_or s.numer (get_or line.units r.place 0) 0) (entry line.entries r.place) = ap (λ x. x.left) r.is in
      let b : (reach s line).size ≡ unsigned_abs (entry line.entries r.place) = ap (λ x. x.size) r.is in
      let c = room_most (get_or s.numer (get_or line.units r.place 0) 0) s.den (entry line.entries r.place) (is_over.values.each (get_or line.units r.place 0)) in
      let d : unsigned_abs (entry line.entries r.place) ≤ 2 ^ 44 = entry_small (2 ^ 44) line.entries w r.place in
      (omega (arith, a, c, is_over.values.narrow), omega (arith, b, d))

  entry_at_most : (k : ℕ) → unsigned_abs (entry_of line k) ≤ 2 ^ 44
  entry_at_most k =
      elim (place_or line.units k) [
        | inl h ↦ subst (λ (x : ℕ). unsigned_abs (entry_of line x) ≤ 2 ^ 44) h.2 (rw (on_line s line ok h.0 h.1) (entry_small (2 ^ 44) line.entries w h.0))
        | inr out ↦ rw (off_line s line ok k out) (omega arith)
      ]

  stays_above : (k : ℕ) → entry_of line k <ℤ pos 0 → (reach s line).left * unsigned_abs (entry_of line k) ≤ get_or s.numer k 0 * (reach s line).size
  stays_above k l =
      elim (place_or line.units k) [
        | inr out ↦ absurd (let z : entry_of line k ≡ pos 0 = off_line s line ok k out in omega (arith, ints, z, l))
        | inl h ↦
            subst (λ (x : ℕ). (reach s line).left * unsigned_abs (entry_of line x) ≤ get_or s.numer x 0 * (reach s line).size) h.2
            (let e : entry_of line (get_or line.units h.0 0) ≡ entry line.entries h.0 = on_line s line ok h.0 h.1 in
            let back : entry line.entries h.0 <ℤ pos 0 = rw (← h.2, e) at l in
            let r = (reached first s is_over line ok).least h.0 h.1 in
            rw e (rw (room_back s.den (get_or s.numer (get_or line.units h.0 0) 0) (entry line.entries h.0) back) at r))
      ]

  pub can_advance : CanAdvance s.numer line (reach s line)
  can_advance k = record {
    small = (let a = is_over.values.each k in let b = is_over.values.narrow in omega (arith, a, b));
    left = reach_small.0;
    size = reach_small.1;
    entry = entry_at_most k;
    stays = stays_above k;
  }

-- ---- the bound of a move

lowest_most : (a b : ℕ) → ((lowest a b).num ≤ a) × ((lowest a b).den ≤ b)
lowest_most a b = (div-le_self a (greatest_common_divisor a b), div-le_self b (greatest_common_divisor a b))

module _ (first : ℕ) (s : Shares) (is_over : IsOver first s) (line : Line) (ok : IsLine s line) (w : Within (2 ^ 44) line.entries) where
  pub weights_small : (move_along s line).plus_weight + (move_along s line).minus_weight < 2 ^ 126
  weights_small =
      let u = reach_small first s is_over line ok w in
      let d = reach_small first s is_over (turned line) (turned_line s line ok) (turned_within line w) in
      let up = reach s line in
      let down = reach s (turned line) in
      let m = lowest_most (down.left * up.size) (up.left * down.size) in
      let a : down.left * up.size ≤ 2 ^ 80 * 2 ^ 44 = mul-le-mul d.0 u.1 in
      let b : up.left * down.size ≤ 2 ^ 80 * 2 ^ 44 = mul-le-mul u.0 d.1 in
      omega (arith, m.0, m.1, a, b)
