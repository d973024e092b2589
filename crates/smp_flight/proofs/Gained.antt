-- What the values of a flight have gained since its start, over a common denominator of all shares: in each row in force it adds up to 0.
use Rattle.std.proofs.Common.{◌≡◌, ◌≢◌, ℕ, suc, ◌+◌, ◌*◌, ◌/◌, ◌<◌, ◌≤◌, max, List, [], ◌∷◌, ℤ, pos, neg_ℤ, ◌+ℤ◌, ◌*ℤ◌, map, length, get_or, arith, refl, sym, ap, ap₂, ◌∙◌, suc-le-suc, mul-pos}
use Rattle.std.specs.List.{range_with_len}
use Rattle.std.proofs.{lemmas.Int.{ints}, lemmas.List.FromFn.{length-range_with_len, get_or-range_with_len}, Math.Nat.{mul-div_cancel'}}
use Prim.Native.Nat.{◌∣◌}
use lib.IntN.{*ℤ-zero, zero-*ℤ}
use Rattle.smp_frac.specs.Fractions.{Same, integer, over, plus, times}
use Rattle.smp_frac.proofs.Integers.{diff, by_diff, diffs, diff-same, same-diff}
use Rattle.smp_kernel.specs.Vectors.{dot}
use Rattle.smp_kernel.proofs.Ring.{*ℤ_assoc, +ℤ-*ℤ, *ℤ-+ℤ, sum_swap, zero_of_product}
use Rattle.smp_prob.specs.Shares.{Shares}
use Rattle.smp_moves.specs.{declared.lines.Ratio.{Ratio}, Moves.{IsMoved, Line, entry_of}}
use Rattle.smp_flight.specs.{States.{Units, IsUnits, size}, Laws.MoveTotals.{number_in}}

-- ---- products of lists

pub map_same : {A : Type 0} (f g : ℕ → A) (us : List ℕ) → ((j : ℕ) → j < length us → f (get_or us j 0) ≡ g (get_or us j 0)) → map f us ≡ map g us
map_same f g [] h = refl
map_same f g (u ∷ us) h = ap₂ (λ x xs. x ∷ xs) (h 0 (omega arith)) (map_same f g us (λ j l. h (suc j) (suc-le-suc l)))

mix_step : (a b c y p q : ℤ) → (a +ℤ c *ℤ b) *ℤ y +ℤ (p +ℤ c *ℤ q) ≡ (a *ℤ y +ℤ p) +ℤ c *ℤ (b *ℤ y +ℤ q)
mix_step a b c y p q =
    ap (λ x. x +ℤ (p +ℤ c *ℤ q)) (+ℤ-*ℤ a (c *ℤ b) y ∙ ap (λ x. a *ℤ y +ℤ x) (*ℤ_assoc c b y))
    ∙ sum_swap (a *ℤ y) (c *ℤ (b *ℤ y)) p (c *ℤ q) ∙ ap (λ x. (a *ℤ y +ℤ p) +ℤ x) (sym (*ℤ-+ℤ c (b *ℤ y) q))

pub dot_mix : (c : ℤ) (f g : ℕ → ℤ) (us : List ℕ) (ys : List ℤ) → dot (map (λ k. f k +ℤ c *ℤ g k) us) ys ≡ dot (map f us) ys +ℤ c *ℤ dot (map g us) ys
dot_mix c f g [] ys = sym (ap (λ x. pos 0 +ℤ x) (*ℤ-zero c))
dot_mix c f g (u ∷ us) [] = sym (ap (λ x. pos 0 +ℤ x) (*ℤ-zero c))
dot_mix c f g (u ∷ us) (y ∷ ys) =
    ap (λ x. (f u +ℤ c *ℤ g u) *ℤ y +ℤ x) (dot_mix c f g us ys) ∙ mix_step (f u) (g u) c y (dot (map f us) ys) (dot (map g us) ys)

pub dot_scaled : (c : ℤ) (f : ℕ → ℤ) (us : List ℕ) (ys : List ℤ) → dot (map (λ k. c *ℤ f k) us) ys ≡ c *ℤ dot (map f us) ys
dot_scaled c f [] ys = sym (*ℤ-zero c)
dot_scaled c f (u ∷ us) [] = sym (*ℤ-zero c)
dot_scaled c f (u ∷ us) (y ∷ ys) =
    ap₂ (λ x z. x +ℤ z) (*ℤ_assoc c (f u) y) (dot_scaled c f us ys) ∙ sym (*ℤ-+ℤ c (f u *ℤ y) (dot (map f us) ys))

dot_none : (us : List ℕ) (ys : List ℤ) → dot (map (λ k. pos 0) us) ys ≡ pos 0
dot_none [] ys = refl
dot_none (u ∷ us) [] = refl
dot_none (u ∷ us) (y ∷ ys) = ap₂ (λ x z. x +ℤ z) (zero-*ℤ y) (dot_none us ys)

both_none : (a b c d : ℤ) → a ≡ pos 0 → b ≡ pos 0 → c *ℤ a +ℤ d *ℤ b ≡ pos 0
both_none a b c d p q = ap₂ (λ x y. c *ℤ x +ℤ d *ℤ y) p q ∙ ap₂ (λ x y. x +ℤ y) (*ℤ-zero c) (*ℤ-zero d)

-- ---- one unit

-- the change of a share is that of the value, divided by the size
gain_at : (n d m c t r p x u v : ℕ) → m * (d * r) + t * v * d * c ≡ (n * r + t * u * d) * c →
    pos (d * r) *ℤ (pos (m * p) +ℤ neg_ℤ (pos (c * x))) ≡ pos (c * r) *ℤ (pos (n * p) +ℤ neg_ℤ (pos (d * x))) +ℤ pos (d * c * t) *ℤ (pos p *ℤ diff u v)
gain_at n d m c t r p x u v h =
    let e : (m * (d * r) + t * v * d * c) * p ≡ (n * r + t * u * d) * c * p = ap (λ z. z * p) h in
    simp diffs (diff-same _ _ _ _ (omega (arith, e)))

cross_at : (n d m c t r u v : ℕ) → pos m *ℤ pos (d * (r * 1)) ≡ (pos n *ℤ pos (r * 1) +ℤ (pos t *ℤ diff u v) *ℤ pos d) *ℤ pos c → m * (d * r) + t * v * d * c ≡ (n * r + t * u * d) * c
cross_at n d m c t r u v h =
    let left : pos m *ℤ pos (d * (r * 1)) ≡ diff (m * (d * r)) 0 = simp diffs (diff-same _ _ _ _ (omega arith)) in
    let right : (pos n *ℤ pos (r * 1) +ℤ (pos t *ℤ diff u v) *ℤ pos d) *ℤ pos c ≡ diff ((n * r + t * u * d) * c) (t * v * d * c) = simp diffs (diff-same _ _ _ _ (omega arith)) in
    let both = same-diff (m * (d * r)) 0 ((n * r + t * u * d) * c) (t * v * d * c) (sym left ∙ h ∙ right) in
    omega (arith, both)

pub gain : (n d m c t r p x : ℕ) (e : ℤ) → 1 ≤ d → 1 ≤ c → 1 ≤ r → Same (over m c) (plus (over n d) (times (over t r) (integer e))) →
    pos (d * r) *ℤ (pos (m * p) +ℤ neg_ℤ (pos (c * x))) ≡ pos (c * r) *ℤ (pos (n * p) +ℤ neg_ℤ (pos (d * x))) +ℤ pos (d * c * t) *ℤ (pos p *ℤ e)
gain n d m c t r p x e pd pc pr h =
    let ed : max 1 d ≡ d = omega arith in
    let ec : max 1 c ≡ c = omega arith in
    let er : max 1 r ≡ r = omega arith in
    let with_max : pos m *ℤ pos (max 1 d * (max 1 r * 1)) ≡ (pos n *ℤ pos (max 1 r * 1) +ℤ (pos t *ℤ e) *ℤ pos (max 1 d)) *ℤ pos (max 1 c) = h.cross in
    let cross : pos m *ℤ pos (d * (r * 1)) ≡ (pos n *ℤ pos (r * 1) +ℤ (pos t *ℤ e) *ℤ pos d) *ℤ pos c = rw (ed, ec, er) at with_max in
    by_diff (λ z. pos m *ℤ pos (d * (r * 1)) ≡ (pos n *ℤ pos (r * 1) +ℤ (pos t *ℤ z) *ℤ pos d) *ℤ pos c →
    pos (d * r) *ℤ (pos (m * p) +ℤ neg_ℤ (pos (c * x))) ≡ pos (c * r) *ℤ (pos (n * p) +ℤ neg_ℤ (pos (d * x))) +ℤ pos (d * c * t) *ℤ (pos p *ℤ z))
    (λ u v g. gain_at n d m c t r p x u v (cross_at n d m c t r u v g)) e cross

-- ---- all units

abbrev pub all_units : Units → List ℕ
all_units units = range_with_len 0 (length units.sizes)

pub unit_inside : (units : Units) (j : ℕ) → j < length (all_units units) → get_or (all_units units) j 0 < length units.sizes
unit_inside units j l =
    let e : get_or (range_with_len 0 (length units.sizes)) j 0 ≡ 0 + j = get_or-range_with_len 0 (length units.sizes) j 0 (omega (arith, l, length-range_with_len 0 (length units.sizes))) in
    omega (arith, e, l, length-range_with_len 0 (length units.sizes))

module _ (units : Units) (are : IsUnits units) (multiple : ℕ) (of_denominator : units.requested.den ∣ multiple) (of_sizes : (k : ℕ) → k < length units.sizes → size units k ∣ multiple) where
  -- the multiple over a size
  abbrev pub part : ℕ → ℕ
  part k = multiple / size units k

  -- what each unit has of it at the start, over the denominator
  abbrev pub fair : ℕ
  fair = are.factor * (multiple / units.requested.den)

  pub part_is : (k : ℕ) → k < length units.sizes → size units k * part k ≡ multiple
  part_is k l = mul-div_cancel' (size units k) (of_sizes k l)

  pub fair_is : units.requested.den * fair ≡ multiple * are.factor
  fair_is =
      let e : units.requested.den * (multiple / units.requested.den) ≡ multiple = mul-div_cancel' units.requested.den of_denominator in
      let f : units.requested.den * (multiple / units.requested.den) * are.factor ≡ multiple * are.factor = ap (λ x. x * are.factor) e in
      omega (arith, f)

  -- what a unit has gained
  abbrev pub gained : Shares → ℕ → ℤ
  gained t k = pos (get_or t.numer k 0 * part k) +ℤ neg_ℤ (pos (t.den * fair))

  -- in so many rows it adds up to 0
  abbrev pub AddsUp : Shares → ℕ → Type 0
  AddsUp t rows = (row : ℕ) → row < rows → dot (map (gained t) (all_units units)) (map (number_in units row) (all_units units)) ≡ pos 0

  none_gained : (a b : ℕ) → a ≡ b → pos a +ℤ neg_ℤ (pos b) ≡ pos 0
  none_gained a b e = omega (arith, ints)

  pub start_adds : (rows : ℕ) → AddsUp units.requested rows
  start_adds rows row l =
      ap (λ xs. dot xs (map (number_in units row) (all_units units)))
      (map_same (gained units.requested) (λ k. pos 0) (all_units units) (λ j m.
      let k : ℕ = get_or (all_units units) j 0 in
      let b : get_or (all_units units) j 0 < length units.sizes = unit_inside units j m in
      let e : get_or units.requested.numer (get_or (all_units units) j 0) 0 * part (get_or (all_units units) j 0) ≡ size units (get_or (all_units units) j 0) * are.factor * part (get_or (all_units units) j 0) =
      ap (λ x. x * part (get_or (all_units units) j 0)) (are.proportional (get_or (all_units units) j 0) b) in
      let f : size units (get_or (all_units units) j 0) * part (get_or (all_units units) j 0) * are.factor ≡ multiple * are.factor = ap (λ x. x * are.factor) (part_is (get_or (all_units units) j 0) b) in
      none_gained (get_or units.requested.numer (get_or (all_units units) j 0) 0 * part (get_or (all_units units) j 0)) (units.requested.den * fair) (omega (arith, e, f, fair_is))))
      ∙ dot_none (all_units units) (map (number_in units row) (all_units units))

  -- ---- along a line whose parts add up to 0
  module _ (s t : Shares) (line : Line) (r : Ratio) (some : 1 ≤ s.den) (some_r : 1 ≤ r.den) (m : IsMoved units.requested.den s line r t) where
    pub gain_of : (k : ℕ) → pos (s.den * r.den) *ℤ gained t k ≡ pos (t.den * r.den) *ℤ gained s k +ℤ pos (s.den * t.den * r.num) *ℤ (pos (part k) *ℤ entry_of line k)
    gain_of k = gain (get_or s.numer k 0) s.den (get_or t.numer k 0) t.den r.num r.den (part k) fair (entry_of line k) some m.positive some_r (m.values k)

    not_none : pos (s.den * r.den) ≢ pos 0
    not_none e = (let p : 1 ≤ s.den * r.den = mul-pos some some_r in absurd (omega (arith, ints)))

    pub still_adds : (rows : ℕ) → AddsUp s rows → ((row : ℕ) → row < rows → dot (map (λ k. pos (part k) *ℤ entry_of line k) (all_units units)) (map (number_in units row) (all_units units)) ≡ pos 0) → AddsUp t rows
    still_adds rows before along row l =
        let ys : List ℤ = map (number_in units row) (all_units units) in
        zero_of_product (pos (s.den * r.den)) (dot (map (gained t) (all_units units)) (map (number_in units row) (all_units units))) not_none
        (sym (dot_scaled (pos (s.den * r.den)) (gained t) (all_units units) (map (number_in units row) (all_units units)))
        ∙ ap (λ xs. dot xs (map (number_in units row) (all_units units))) (map_same (λ k. pos (s.den * r.den) *ℤ gained t k)
        (λ k. pos (t.den * r.den) *ℤ gained s k +ℤ pos (s.den * t.den * r.num) *ℤ (pos (part k) *ℤ entry_of line k)) (all_units units) (λ j _. gain_of (get_or (all_units units) j 0)))
        ∙ dot_mix (pos (s.den * t.den * r.num)) (λ k. pos (t.den * r.den) *ℤ gained s k) (λ k. pos (part k) *ℤ entry_of line k) (all_units units) (map (number_in units row) (all_units units))
        ∙ ap (λ x. x +ℤ pos (s.den * t.den * r.num) *ℤ dot (map (λ k. pos (part k) *ℤ entry_of line k) (all_units units)) (map (number_in units row) (all_units units))) (dot_scaled (pos (t.den * r.den)) (gained s) (all_units units) (map (number_in units row) (all_units units)))
        ∙ both_none (dot (map (gained s) (all_units units)) (map (number_in units row) (all_units units))) (dot (map (λ k. pos (part k) *ℤ entry_of line k) (all_units units)) (map (number_in units row) (all_units units)))
        (pos (t.den * r.den)) (pos (s.den * t.den * r.num)) (before row l) (along row l))
