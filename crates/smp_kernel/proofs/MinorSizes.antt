-- How large minors are: half of the permutations have either sign.
use Rattle.std.proofs.Common.{◌≡◌, ℕ, suc, ◌+◌, ◌*◌, ◌≤◌, List, [], ◌∷◌, ℤ, pos, neg_ℤ, ◌+ℤ◌, ◌*ℤ◌, length, arith, sym, refl, ap, ap₂, ◌∙◌, subst, mul-le-mul, mul_assoc, suc-mul}
use Rattle.std.proofs.lemmas.Int.{ints, unsigned_abs-mul}
use Rattle.std.specs.Int.RustNames.{unsigned_abs}
use lib.IntN.{*ℤ-one, *ℤ-zero, pos-*ℤ-pos}
use Rattle.smp_kernel.specs.{Vectors.{entry}, Minors.{wedge, minor, IsFrom, AreFrom, sign_count, row_product}}

abs_minus : (p w : ℤ) → unsigned_abs (p +ℤ neg_ℤ w) ≤ unsigned_abs p + unsigned_abs w
abs_minus p w = omega (arith, ints)

sum_step : (u w q r s t : ℕ) → t ≤ u + w → u ≤ q → w ≤ r → s ≡ r + q → t ≤ s
sum_step u w q r s t h a b e = omega arith

-- ---- one column more
bound_step : (a x w mr k p n t : ℕ) → t ≤ a * x + w → a ≤ mr → x ≤ k * p → w ≤ n * ((k * mr) * p) → t ≤ suc n * (k * (mr * p))
bound_step a x w mr k p n t h ha hx hw =
    let e1 : a * x ≤ mr * (k * p) = mul-le-mul ha hx in
    let e2 : mr * (k * p) ≡ k * (mr * p) = omega arith in
    let e3 : n * ((k * mr) * p) ≡ n * (k * (mr * p)) = ap (λ z. n * z) (mul_assoc k mr p) in
    let e4 : suc n * (k * (mr * p)) ≡ n * (k * (mr * p)) + k * (mr * p) = suc-mul n (k * (mr * p)) in
    let e5 : a * x ≤ k * (mr * p) = omega (arith, e1, e2) in
    sum_step (a * x) w (k * (mr * p)) (n * (k * (mr * p))) (suc n * (k * (mr * p))) t h e5 (omega (arith, hw, e3)) e4

wedge_bound : (c : List ℤ) (rows : List ℕ) (f : List ℕ → ℤ) (m : ℕ → ℕ) (k : ℕ) → ((r : ℕ) → unsigned_abs (entry c r) ≤ m r) →
    ((s : List ℕ) → suc (length s) ≡ length rows → unsigned_abs (f s) ≤ k * row_product m s) → unsigned_abs (wedge c rows f) ≤ length rows * (k * row_product m rows)
wedge_bound c [] f m k hc hf = omega arith
wedge_bound c (r ∷ rows) f m k hc hf =
    bound_step (unsigned_abs (entry c r)) (unsigned_abs (f rows)) (unsigned_abs (wedge c rows (λ s. f (r ∷ s)))) (m r) k (row_product m rows) (length rows)
    (unsigned_abs (entry c r *ℤ f rows +ℤ neg_ℤ (wedge c rows (λ s. f (r ∷ s)))))
    (let e : unsigned_abs (entry c r *ℤ f rows) ≡ unsigned_abs (entry c r) * unsigned_abs (f rows) = unsigned_abs-mul (entry c r) (f rows) in
    let P : ℕ → Type 0 = λ x. unsigned_abs (entry c r *ℤ f rows +ℤ neg_ℤ (wedge c rows (λ s. f (r ∷ s)))) ≤ x + unsigned_abs (wedge c rows (λ s. f (r ∷ s))) in
    subst P e (abs_minus (entry c r *ℤ f rows) (wedge c rows (λ s. f (r ∷ s)))))
    (hc r) (hf rows refl)
    (wedge_bound c rows (λ s. f (r ∷ s)) m (k * m r) hc
    (λ s l. let h : unsigned_abs (f (r ∷ s)) ≤ k * (m r * row_product m s) = hf (r ∷ s) (ap suc l) in
    let P : ℕ → Type 0 = λ x. unsigned_abs (f (r ∷ s)) ≤ x in subst P (sym (mul_assoc k (m r) (row_product m s))) h))

-- ---- one row, and two rows
from_abs : (m : ℕ → ℕ) (c : List ℤ) → IsFrom m c → (r : ℕ) → unsigned_abs (entry c r) ≤ m r
from_abs m c h r = let P : ℤ → Type 0 = λ z. unsigned_abs z ≤ m r in subst P (sym (h r).1) (h r).2

minus_none : (a : ℤ) → a +ℤ neg_ℤ (pos 0) ≡ a
minus_none a = omega (arith, ints)

one_times : (u : ℕ) → pos u *ℤ pos 1 +ℤ neg_ℤ (pos 0) ≡ pos u
unfolding lib.IntN.one
one_times u = ap (λ z. z +ℤ neg_ℤ (pos 0)) (*ℤ-one (pos u)) ∙ minus_none (pos u)

none_times : (x : ℤ) → x *ℤ pos 0 +ℤ neg_ℤ (pos 0) ≡ pos 0
none_times x = ap (λ z. z +ℤ neg_ℤ (pos 0)) (*ℤ-zero x) ∙ minus_none (pos 0)

one_row : (m : ℕ → ℕ) (cs : List (List ℤ)) → AreFrom m cs → (x : ℕ) → (a : ℕ) × (minor cs (x ∷ []) ≡ pos a) × (a ≤ m x)
one_row m [] h x = (0, refl, omega arith)
one_row m (c ∷ []) h x = ((h.0 x).0, ap (λ z. z *ℤ pos 1 +ℤ neg_ℤ (pos 0)) (h.0 x).1 ∙ one_times (h.0 x).0, (h.0 x).2)
one_row m (c ∷ d ∷ ds) h x = (0, none_times (entry c x), omega arith)

apart_bound : (s t : ℤ) (m n k : ℕ) → s ≡ pos m → t ≡ pos n → m ≤ k → n ≤ k → unsigned_abs (s +ℤ neg_ℤ (t +ℤ neg_ℤ (pos 0))) ≤ k
apart_bound s t m n k e f a b = omega (arith, ints)

two_bound : (cx fy cy fx : ℤ) (u b v a mx my : ℕ) → cx ≡ pos u → fy ≡ pos b → cy ≡ pos v → fx ≡ pos a → u ≤ mx → b ≤ my → v ≤ my → a ≤ mx →
    unsigned_abs (cx *ℤ fy +ℤ neg_ℤ (cy *ℤ fx +ℤ neg_ℤ (pos 0))) ≤ 1 * (mx * (my * 1))
two_bound cx fy cy fx u b v a mx my e1 e2 e3 e4 hu hb hv ha =
    let p : u * b ≤ mx * my = mul-le-mul hu hb in
    let q : v * a ≤ my * mx = mul-le-mul hv ha in
    let c : my * mx ≡ mx * my = omega arith in
    let k : mx * my ≡ 1 * (mx * (my * 1)) = omega arith in
    let P : ℕ → Type 0 = λ n. unsigned_abs (cx *ℤ fy +ℤ neg_ℤ (cy *ℤ fx +ℤ neg_ℤ (pos 0))) ≤ n in
    let Q : ℕ → Type 0 = λ n. v * a ≤ n in
    subst P k
    (apart_bound (cx *ℤ fy) (cy *ℤ fx) (u * b) (v * a) (mx * my) (ap₂ (λ x y. x *ℤ y) e1 e2 ∙ pos-*ℤ-pos u b) (ap₂ (λ x y. x *ℤ y) e3 e4 ∙ pos-*ℤ-pos v a) p (subst Q c q))

-- ---- all minors
counted : (m : ℕ → ℕ) (z : ℤ) (s : List ℕ) (n : ℕ) → length s ≡ n → unsigned_abs z ≤ sign_count (length s) * row_product m s → unsigned_abs z ≤ sign_count n * row_product m s
counted m z s n l h = let P : ℕ → Type 0 = λ i. unsigned_abs z ≤ sign_count i * row_product m s in subst P l h

pub minor_bound : (m : ℕ → ℕ) (cs : List (List ℤ)) → AreFrom m cs → (rows : List ℕ) → unsigned_abs (minor cs rows) ≤ sign_count (length rows) * row_product m rows
minor_bound m [] h [] = omega arith
minor_bound m [] h (x ∷ rows) = omega arith
minor_bound m (c ∷ cs) h [] = omega arith
minor_bound m (c ∷ cs) h (x ∷ []) =
    let b : unsigned_abs (wedge c (x ∷ []) (λ s. minor cs s)) ≤ 1 * (1 * row_product m (x ∷ [])) =
    wedge_bound c (x ∷ []) (λ s. minor cs s) m 1 (from_abs m c h.0) (λ s l. counted m (minor cs s) s 0 (omega arith) (minor_bound m cs h.1 s)) in
    omega (arith, b)
minor_bound m (c ∷ cs) h (x ∷ y ∷ []) =
    let fx = one_row m cs h.1 x in
    let fy = one_row m cs h.1 y in
    two_bound (entry c x) (minor cs (y ∷ [])) (entry c y) (minor cs (x ∷ [])) (h.0 x).0 fy.0 (h.0 y).0 fx.0 (m x) (m y) (h.0 x).1 fy.1 (h.0 y).1 fx.1 (h.0 x).2 fy.2 (h.0 y).2 fx.2
minor_bound m (c ∷ cs) h (x ∷ y ∷ z ∷ rows) =
    let k : ℕ = sign_count (suc (suc (length rows))) in
    let b : unsigned_abs (wedge c (x ∷ y ∷ z ∷ rows) (λ s. minor cs s)) ≤ length (x ∷ y ∷ z ∷ rows) * (k * row_product m (x ∷ y ∷ z ∷ rows)) =
    wedge_bound c (x ∷ y ∷ z ∷ rows) (λ s. minor cs s) m k (from_abs m c h.0) (λ s l. counted m (minor cs s) s (suc (suc (length rows))) (omega arith) (minor_bound m cs h.1 s)) in
    let e : suc (suc (suc (length rows))) ≡ length rows + 3 = omega arith in
    let P : ℕ → Type 0 = λ n. unsigned_abs (wedge c (x ∷ y ∷ z ∷ rows) (λ s. minor cs s)) ≤ n in
    subst P (ap (λ n. n * (k * row_product m (x ∷ y ∷ z ∷ rows))) e ∙ sym (mul_assoc (length rows + 3) k (row_product m (x ∷ y ∷ z ∷ rows)))) b
