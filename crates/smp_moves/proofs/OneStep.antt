-- The properties of a step fix it, in whatever the values are kept, where there is one state at the end of a line: there is one direction, one
-- greatest fraction and one pair of weights, and so one step.
use Rattle.std.proofs.Common.{◌≡◌, ℕ, ◌*◌, ◌<◌, ◌≤◌, pos, List, ℤ, length, map, arith, refl, sym, ap, ap₂, ◌∙◌, subst, inl, inr, mul-pos, eq-zero-or-pos}
use Rattle.std.proofs.{lemmas.List.{ext_get_or}, Math.Nat.{dvd-zero, le_of_dvd}, lemmas.Nat.Gcd.{IsGcd-swap}}
use Rattle.std.specs.Int.{IsGcd}
use Prim.Native.Nat.{◌∣◌}
use Rattle.smp_kernel.specs.{RowReduction.{cut}, Reduced.{IsReduced}, Searches.{Search, found, none, too_wide}}
use Rattle.smp_kernel.proofs.{Reduce.{one_reduced}, SearchLaw.{one_answer}}
use Rattle.smp_prob.specs.Shares.{Shares}
use Rattle.smp_moves.specs.{declared.lines.Ratio.{Ratio}, Moves.{Line, Move, Setting, IsLine, Next, independent, move, turned, wide}}
use Rattle.smp_moves.specs.{Cubes.{Flight}, Ends.{extent}, Kept.Ends.{IsOver}}
use Rattle.smp_moves.specs.Steps.{Finds, FitsAtEnds, IsDirection, IsFlown, IsMove, FitsOnLine, IsNext, IsWide, scale_of, scaled}
use Rattle.smp_moves.proofs.{Entries.{turned_line}, Fixed.{one_greatest, one_weights, weights_cross}, LineEnds.{extent_some, greatest}}

-- a line over values that it can move
pub record Goes (s : Shares) (line : Line) : Type 0 where
  pub first : ℕ
  pub over : IsOver first s
  pub ok : IsLine s line

pub one_direction : (share : ℕ → Ratio) (order : List ℕ) (w : List ℤ) (l k : Line) → IsDirection share order w l → IsDirection share order w k → l ≡ k
one_direction share order w l k a b =
    let us : l.units ≡ k.units = a.prefix ∙ sym b.prefix in
    let other = subst (λ (ks : List ℕ). IsReduced (scaled share (scale_of share ks w) ks w) k.entries) (sym us) b.entries in
    ap₂ (λ (x : List ℕ) (e : List ℤ). record { units = x; entries = e }) us
    (ext_get_or (pos 0) l.entries k.entries (a.lengths ∙ ap length us ∙ sym b.lengths) (λ i h. one_reduced (scaled share (scale_of share l.units w) l.units w) l.entries k.entries a.entries other i))

-- neither of two weights without common divisor is 0
some_weight : (w x p q : ℕ) → 1 ≤ p → w * p ≡ x * q → IsGcd w x 1 → 1 ≤ x
some_weight w x p q pp h r =
    elim (eq-zero-or-pos x) [
      | inr s ↦ s
      | inl z ↦ absurd (let n : x * q ≡ 0 = rw z (omega arith) in
          let wz : w ≡ 0 = elim (eq-zero-or-pos w) [ inl e ↦ e | inr s ↦ absurd (let m : 0 < w * p = mul-pos s pp in omega (arith, m, h, n)) ] in
          let two : 2 ∣ 1 = r.2 2 (subst (λ (y : ℕ). 2 ∣ y) (sym wz) (dvd-zero 2)) (subst (λ (y : ℕ). 2 ∣ y) (sym z) (dvd-zero 2)) in
          let le : 2 ≤ 1 = le_of_dvd (let one : 0 < 1 = omega arith in one) two in omega (arith, le))
    ]

-- ---- the move

module _ {Values : Type 0} (setting : Setting Values) (values : Values) (order : List ℕ) (w : List ℤ) (m : Move) (plus minus : Values) (a : IsMove setting values order w m plus minus) (goes : Goes (setting.over values m.direction.units) m.direction) where
  abbrev s : Shares
  s = setting.over values m.direction.units

  back_ok : IsLine (setting.over values m.direction.units) (turned m.direction)
  back_ok = turned_line s m.direction goes.ok

  -- both fractions go some way
  pub some_up : 1 ≤ m.up.num
  some_up =
      rw (one_greatest s m.direction m.up (extent s m.direction) a.up (greatest goes.first s goes.over m.direction goes.ok))
      (extent_some goes.first s goes.over m.direction goes.ok)

  pub some_down : 1 ≤ m.down.num
  some_down =
      rw (one_greatest s (turned m.direction) m.down (extent s (turned m.direction)) a.down (greatest goes.first s goes.over (turned m.direction) back_ok))
      (extent_some goes.first s goes.over (turned m.direction) back_ok)

  up_some : 1 ≤ m.up.num * m.down.den
  up_some = mul-pos some_up a.down.some

  balance : m.plus_weight * (m.up.num * m.down.den) ≡ m.minus_weight * (m.down.num * m.up.den)
  balance = weights_cross m.plus_weight m.minus_weight m.up m.down a.up.some a.down.some a.weights

  pub minus_some : 1 ≤ m.minus_weight
  minus_some = some_weight m.plus_weight m.minus_weight (m.up.num * m.down.den) (m.down.num * m.up.den) up_some balance a.coprime

  pub plus_some : 1 ≤ m.plus_weight
  plus_some = some_weight m.minus_weight m.plus_weight (m.down.num * m.up.den) (m.up.num * m.down.den) (mul-pos some_down a.up.some) (sym balance) (IsGcd-swap m.plus_weight m.minus_weight 1 a.coprime)

  module _ (one_end : (line : Line) (r : Ratio) (p q : Values) → setting.IsEnd values line r p → setting.IsEnd values line r q → p ≡ q) where
    abbrev SameMove : Line → Type 0
    SameMove l = (up down : Ratio) (x y : ℕ) (p q : Values) → IsMove setting values order w (record { plus_weight = x; minus_weight = y; up = up; down = down; direction = l }) p q →
        (m ≡ record { plus_weight = x; minus_weight = y; up = up; down = down; direction = l }) × (plus ≡ p) × (minus ≡ q)

    same_here : SameMove m.direction
    same_here up down x y p q b =
        let eu : m.up ≡ up = one_greatest s m.direction m.up up a.up b.up in
        let ed : m.down ≡ down = one_greatest s (turned m.direction) m.down down a.down b.down in
        let their : x * (up.num * down.den) ≡ y * (down.num * up.den) = weights_cross x y up down b.up.some b.down.some b.weights in
        let other : x * (m.up.num * m.down.den) ≡ y * (m.down.num * m.up.den) = rw (eu, ed) their in
        let ws = one_weights m.plus_weight m.minus_weight x y (m.up.num * m.down.den) (m.down.num * m.up.den) up_some minus_some balance other a.coprime b.coprime in
        let end_up = subst (λ (r : Ratio). setting.IsEnd values m.direction r p) (sym eu) b.plus_moved in
        let end_down = subst (λ (r : Ratio). setting.IsEnd values (turned m.direction) r q) (sym ed) b.minus_moved in (
          ap₂ (λ (z : ℕ × ℕ) (r : Ratio × Ratio). record { plus_weight = z.0; minus_weight = z.1; up = r.0; down = r.1; direction = m.direction }) (ap₂ (λ c d. (c, d)) ws.0 ws.1) (ap₂ (λ c d. (c, d)) eu ed),
          one_end m.direction m.up plus p a.plus_moved end_up,
          one_end (turned m.direction) m.down minus q a.minus_moved end_down,
        )

    pub one_move : (n : Move) (p q : Values) → IsMove setting values order w n p q → (m ≡ n) × (plus ≡ p) × (minus ≡ q)
    one_move n p q b =
        subst SameMove (one_direction setting.share order w m.direction n.direction a.direction b.direction) same_here n.up n.down n.plus_weight n.minus_weight p q b

-- ---- the step

module _ {Values Fixed : Type 0} (setting : Setting Values) (f : Flight Values Fixed) (order : List ℕ) where
  one_search : (x y : Search) → Finds setting f order x → Finds setting f order y → x ≡ y
  one_search x y a b = one_answer f.rows (cut f.rows (map setting.column order)) x y a b

  same_circuit : (w v : List ℤ) → Finds setting f order (found w) → Finds setting f order (found v) → w ≡ v
  same_circuit w v a b = (let e : found w ≡ found v = one_search (found w) (found v) a b in cc)

  none_wide : Finds setting f order none → IsWide setting f order → ⊥
  none_wide a (IsWide.search_wide b) = (let e : none ≡ too_wide = one_search none too_wide a b in absurd (cc))
  none_wide a (IsWide.direction_wide v l b is never) = (let e : none ≡ found v = one_search none (found v) a b in absurd (cc))
  none_wide a (IsWide.move_wide v n p q b is never) = (let e : none ≡ found v = one_search none (found v) a b in absurd (cc))

  flown_none : (m : Move) → IsFlown setting f order m → Finds setting f order none → ⊥
  flown_none m a b = (let e : found a.circuit ≡ none = one_search (found a.circuit) none a.finds b in absurd (cc))

  -- where there is one state at the end of a line, and the line of a direction can move the values
  module _ (one_end : (line : Line) (r : Ratio) (p q : Values) → setting.IsEnd f.values line r p → setting.IsEnd f.values line r q → p ≡ q)
      (goes : (w : List ℤ) (line : Line) → Finds setting f order (found w) → IsDirection setting.share order w line → FitsOnLine setting f.values w line → Goes (setting.over f.values line.units) line) where
    flown_flown : (m n : Move) → IsFlown setting f order m → IsFlown setting f order n → m ≡ n
    flown_flown m n a b =
        let e : b.circuit ≡ a.circuit = same_circuit b.circuit a.circuit b.finds a.finds in
        let is = subst (λ (w : List ℤ). IsMove setting f.values order w n b.plus_end b.minus_end) e b.is in
        (one_move setting f.values order a.circuit m a.plus_end a.minus_end a.is (goes a.circuit m.direction a.finds a.is.direction a.fits_on_line) one_end n b.plus_end b.minus_end is).0

    flown_wide : (m : Move) → IsFlown setting f order m → IsWide setting f order → ⊥
    flown_wide m a (IsWide.search_wide b) = (let e : found a.circuit ≡ too_wide = one_search (found a.circuit) too_wide a.finds b in absurd (cc))
    flown_wide m a (IsWide.direction_wide v l b is never) =
        let e : v ≡ a.circuit = same_circuit v a.circuit b a.finds in
        let other = subst (λ (w : List ℤ). IsDirection setting.share order w l) e is in
        let narrow = subst (FitsOnLine setting f.values a.circuit) (one_direction setting.share order a.circuit m.direction l a.is.direction other) a.fits_on_line in
        never (subst (λ (w : List ℤ). FitsOnLine setting f.values w l) (sym e) narrow)
    flown_wide m a (IsWide.move_wide v n p q b is never) =
        let e : v ≡ a.circuit = same_circuit v a.circuit b a.finds in
        let other = subst (λ (w : List ℤ). IsMove setting f.values order w n p q) e is in
        let same = one_move setting f.values order a.circuit m a.plus_end a.minus_end a.is (goes a.circuit m.direction a.finds a.is.direction a.fits_on_line) one_end n p q other in
        never (subst (λ (y : Values). FitsAtEnds setting y q) same.1 (subst (λ (y : Values). FitsAtEnds setting a.plus_end y) same.2 a.fits_at_ends))

    pub one_next : (a b : Next) → IsNext setting f order a → IsNext setting f order b → a ≡ b
    one_next (move m) (move n) a b = ap move (flown_flown m n a b)
    one_next (move m) independent a b = absurd (flown_none m a b)
    one_next (move m) wide a b = absurd (flown_wide m a b)
    one_next independent (move n) a b = absurd (flown_none n b a)
    one_next independent independent a b = refl
    one_next independent wide a b = absurd (none_wide a b)
    one_next wide (move n) a b = absurd (flown_wide n b a)
    one_next wide independent a b = absurd (none_wide b a)
    one_next wide wide a b = refl
