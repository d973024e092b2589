-- The law on minors. A minor is a function of a list of rows; a column before such a function is linear, keeps that it alternates,
-- and is met by a vector as a derivation.
use Rattle.std.proofs.Common.{◌≡◌, ◌≢◌, ℕ, zero, suc, ◌*◌, ◌<◌, ◌≤◌, List, [], ◌∷◌, ◌++◌, ℤ, pos, neg_ℤ, ◌+ℤ◌, ◌*ℤ◌, length, arith, sym, refl, ap, ap₂, ◌∙◌, subst, inl, inr, le_of_suc-le-suc, suc-le-suc, zero-lt-suc, mul-le-mul_right, le_of_mul-le-mul_right, zero-mul}
use Rattle.std.proofs.{lemmas.Int.{ints, unsigned_abs-mul}, lemmas.Nat.Gcd.{le_of_dvd}, Math.Nat.{dvd-zero, dvd-mul_right}}
use Rattle.std.specs.{Int.RustNames.{unsigned_abs}, List.{Contains}}
use Prim.Native.Nat.{◌∣◌}
use lib.IntN.{*ℤ_comm, *ℤ-zero, zero-*ℤ, +ℤ_idl, +ℤ_idr}
use Rattle.smp_kernel.proofs.{Ring.{*ℤ_assoc, +ℤ-*ℤ, *ℤ-+ℤ, neg-*ℤ, abs_zero, zero_of_product, zero_left, zero_right}, Dot.{dot_zero}}
use Rattle.smp_kernel.proofs.{Lists.{contains_cases}, Primitive.{abs_positive, dvd_of_primitive, not_primitive}}
use Rattle.smp_kernel.specs.{Vectors.{entry, dot, IsPrimitive}, Minors.{wedge, no_rows, minor, IsOrthogonal}}

-- ---- sums of whole numbers
both_zero : (a b : ℤ) → a ≡ pos 0 → b ≡ pos 0 → a +ℤ b ≡ pos 0
both_zero a b p q = omega (arith, ints)

pub minus_zero : (a b : ℤ) → a ≡ pos 0 → b ≡ pos 0 → a +ℤ neg_ℤ b ≡ pos 0
minus_zero a b p q = omega (arith, ints)

pub less_zero : (a b : ℤ) → b ≡ pos 0 → a +ℤ neg_ℤ b ≡ a
less_zero a b p = omega (arith, ints)

first_gone : (a b x : ℤ) → a ≡ pos 0 → b ≡ x → a +ℤ neg_ℤ b ≡ neg_ℤ x
first_gone a b x p q = omega (arith, ints)

apart : (p a b w u v : ℤ) → p ≡ a +ℤ b → w ≡ u +ℤ v → p +ℤ neg_ℤ w ≡ (a +ℤ neg_ℤ u) +ℤ (b +ℤ neg_ℤ v)
apart p a b w u v e f = omega (arith, ints)

gather : (p m u w v t z : ℤ) → p ≡ u +ℤ neg_ℤ w → m ≡ v +ℤ neg_ℤ t → z ≡ u +ℤ v → p +ℤ m ≡ z +ℤ neg_ℤ (w +ℤ t)
gather p m u w v t z e f g = omega (arith, ints)

pub exchanged : (a b u v : ℤ) → u +ℤ v ≡ pos 0 → (a +ℤ neg_ℤ (b +ℤ neg_ℤ u)) +ℤ (b +ℤ neg_ℤ (a +ℤ neg_ℤ v)) ≡ pos 0
exchanged a b u v e = omega (arith, ints)

collected : (p q u v : ℤ) → p +ℤ q ≡ pos 0 → u +ℤ v ≡ pos 0 → (p +ℤ neg_ℤ u) +ℤ (q +ℤ neg_ℤ v) ≡ pos 0
collected p q u v e f = omega (arith, ints)

pub doubled : (a : ℤ) → a +ℤ a ≡ pos 0 → a ≡ pos 0
doubled a e = omega (arith, ints)

pub opposite_zero : (a b : ℤ) → a +ℤ b ≡ pos 0 → b ≡ pos 0 → a ≡ pos 0
opposite_zero a b e f = omega (arith, ints)

pub same_abs : (a b : ℤ) → a +ℤ b ≡ pos 0 → unsigned_abs a ≡ unsigned_abs b
same_abs a b e = omega (arith, ints)

pub abs_neg : (k : ℤ) → unsigned_abs (neg_ℤ k) ≡ unsigned_abs k
abs_neg k = omega (arith, ints)

pub right_neg : (k u : ℤ) → k *ℤ neg_ℤ u ≡ neg_ℤ (k *ℤ u)
right_neg k u = *ℤ_comm k (neg_ℤ u) ∙ neg-*ℤ u k ∙ ap neg_ℤ (*ℤ_comm u k)

pub swap_factors : (k a x : ℤ) → a *ℤ (k *ℤ x) ≡ k *ℤ (a *ℤ x)
swap_factors k a x = sym (*ℤ_assoc a k x) ∙ ap (λ y. y *ℤ x) (*ℤ_comm a k) ∙ *ℤ_assoc k a x

times_minus : (k a x u p w : ℤ) → p ≡ k *ℤ (a *ℤ x) → w ≡ k *ℤ u → p +ℤ neg_ℤ w ≡ k *ℤ (a *ℤ x +ℤ neg_ℤ u)
times_minus k a x u p w e f = ap₂ (λ y z. y +ℤ neg_ℤ z) e f ∙ ap (λ z. k *ℤ (a *ℤ x) +ℤ z) (sym (right_neg k u)) ∙ sym (*ℤ-+ℤ k (a *ℤ x) (neg_ℤ u))

split_step : (a b x w s t m : ℤ) → m ≡ s *ℤ x +ℤ neg_ℤ t → a *ℤ (b *ℤ x +ℤ neg_ℤ w) +ℤ m ≡ (a *ℤ b +ℤ s) *ℤ x +ℤ neg_ℤ (a *ℤ w +ℤ t)
split_step a b x w s t m e =
    gather (a *ℤ (b *ℤ x +ℤ neg_ℤ w)) m ((a *ℤ b) *ℤ x) (a *ℤ w) (s *ℤ x) t ((a *ℤ b +ℤ s) *ℤ x)
    (*ℤ-+ℤ a (b *ℤ x) (neg_ℤ w) ∙ ap₂ (λ y z. y +ℤ z) (sym (*ℤ_assoc a b x)) (right_neg a w)) e (+ℤ-*ℤ (a *ℤ b) s x)

both_parts : (a x y u v : ℤ) → x +ℤ y ≡ pos 0 → u +ℤ v ≡ pos 0 → (a *ℤ x +ℤ neg_ℤ u) +ℤ (a *ℤ y +ℤ neg_ℤ v) ≡ pos 0
both_parts a x y u v p q = collected (a *ℤ x) (a *ℤ y) u v (sym (*ℤ-+ℤ a x y) ∙ zero_right a (x +ℤ y) p) q

-- ---- sums below n
abbrev pub sum_of : ℕ → (ℕ → ℤ) → ℤ
sum_of zero g = pos 0
sum_of (suc n) g = g zero +ℤ sum_of n (λ k. g (suc k))

pub sum_none : (n : ℕ) (g : ℕ → ℤ) → ((k : ℕ) → g k ≡ pos 0) → sum_of n g ≡ pos 0
sum_none zero g h = refl
sum_none (suc n) g h = both_zero (g zero) (sum_of n (λ k. g (suc k))) (h zero) (sum_none n (λ k. g (suc k)) (λ k. h (suc k)))

pub sum_single : (n : ℕ) (g : ℕ → ℤ) (i : ℕ) → i < n → ((k : ℕ) → k ≢ i → g k ≡ pos 0) → sum_of n g ≡ g i
sum_single zero g i l h = absurd (omega arith)
sum_single (suc n) g zero l h = ap (λ z. g zero +ℤ z) (sum_none n (λ k. g (suc k)) (λ k. h (suc k) (λ e. absurd (omega arith)))) ∙ +ℤ_idr (g zero)
sum_single (suc n) g (suc i) l h =
    ap₂ (λ y z. y +ℤ z) (h zero (λ e. absurd (omega arith))) (sum_single n (λ k. g (suc k)) i (le_of_suc-le-suc l) (λ k ne. h (suc k) (λ e. ne (omega arith)))) ∙ +ℤ_idl (g (suc i))

dot_sum : (n : ℕ) (e c : List ℤ) → ((i : ℕ) → n ≤ i → entry e i ≡ pos 0) → sum_of n (λ r. entry e r *ℤ entry c r) ≡ dot e c
dot_sum zero e c s = sym (dot_zero e c (λ i. zero_left (entry e i) (entry c i) (s i (omega arith))))
dot_sum (suc n) [] c s = sum_none (suc n) (λ r. pos 0 *ℤ entry c r) (λ k. zero-*ℤ (entry c k))
dot_sum (suc n) (x ∷ xs) [] s = sum_none (suc n) (λ r. entry (x ∷ xs) r *ℤ pos 0) (λ k. *ℤ-zero (entry (x ∷ xs) k))
dot_sum (suc n) (x ∷ xs) (y ∷ ys) s = ap (λ z. x *ℤ y +ℤ z) (dot_sum n xs ys (λ i m. s (suc i) (suc-le-suc m)))

sum_split : (n : ℕ) (a b w : ℕ → ℤ) (x : ℤ) → sum_of n (λ r. a r *ℤ (b r *ℤ x +ℤ neg_ℤ (w r))) ≡ sum_of n (λ r. a r *ℤ b r) *ℤ x +ℤ neg_ℤ (sum_of n (λ r. a r *ℤ w r))
sum_split zero a b w x = sym (minus_zero (pos 0 *ℤ x) (pos 0) (zero-*ℤ x) refl)
sum_split (suc n) a b w x =
    split_step (a zero) (b zero) x (w zero) (sum_of n (λ r. a (suc r) *ℤ b (suc r))) (sum_of n (λ r. a (suc r) *ℤ w (suc r)))
    (sum_of n (λ r. a (suc r) *ℤ (b (suc r) *ℤ x +ℤ neg_ℤ (w (suc r))))) (sum_split n (λ r. a (suc r)) (λ r. b (suc r)) (λ r. w (suc r)) x)

-- ---- a column before a function is linear in it
pub wedge_zero : (c : List ℤ) (rows : List ℕ) (f : List ℕ → ℤ) → ((s : List ℕ) → f s ≡ pos 0) → wedge c rows f ≡ pos 0
wedge_zero c [] f h = refl
wedge_zero c (r ∷ rows) f h =
    minus_zero (entry c r *ℤ f rows) (wedge c rows (λ s. f (r ∷ s))) (zero_right (entry c r) (f rows) (h rows)) (wedge_zero c rows (λ s. f (r ∷ s)) (λ s. h (r ∷ s)))

pub wedge_same : (c : List ℤ) (rows : List ℕ) (f g : List ℕ → ℤ) → ((s : List ℕ) → f s ≡ g s) → wedge c rows f ≡ wedge c rows g
wedge_same c [] f g h = refl
wedge_same c (r ∷ rows) f g h = ap₂ (λ x y. entry c r *ℤ x +ℤ neg_ℤ y) (h rows) (wedge_same c rows (λ s. f (r ∷ s)) (λ s. g (r ∷ s)) (λ s. h (r ∷ s)))

pub wedge_plus : (c : List ℤ) (rows : List ℕ) (f g : List ℕ → ℤ) → wedge c rows (λ s. f s +ℤ g s) ≡ wedge c rows f +ℤ wedge c rows g
wedge_plus c [] f g = sym (+ℤ_idl (pos 0))
wedge_plus c (r ∷ rows) f g =
    apart (entry c r *ℤ (f rows +ℤ g rows)) (entry c r *ℤ f rows) (entry c r *ℤ g rows) (wedge c rows (λ s. f (r ∷ s) +ℤ g (r ∷ s)))
    (wedge c rows (λ s. f (r ∷ s))) (wedge c rows (λ s. g (r ∷ s))) (*ℤ-+ℤ (entry c r) (f rows) (g rows)) (wedge_plus c rows (λ s. f (r ∷ s)) (λ s. g (r ∷ s)))

pub wedge_times : (c : List ℤ) (rows : List ℕ) (f : List ℕ → ℤ) (k : ℤ) → wedge c rows (λ s. k *ℤ f s) ≡ k *ℤ wedge c rows f
wedge_times c [] f k = sym (*ℤ-zero k)
wedge_times c (r ∷ rows) f k =
    times_minus k (entry c r) (f rows) (wedge c rows (λ s. f (r ∷ s))) (entry c r *ℤ (k *ℤ f rows)) (wedge c rows (λ s. k *ℤ f (r ∷ s)))
    (swap_factors k (entry c r) (f rows)) (wedge_times c rows (λ s. f (r ∷ s)) k)

wedge_sum : (n : ℕ) (c : List ℤ) (rows : List ℕ) (a : ℕ → ℤ) (f : ℕ → List ℕ → ℤ) → wedge c rows (λ s. sum_of n (λ r. a r *ℤ f r s)) ≡ sum_of n (λ r. a r *ℤ wedge c rows (λ s. f r s))
wedge_sum zero c rows a f = wedge_zero c rows (λ s. pos 0) (λ s. refl)
wedge_sum (suc n) c rows a f =
    wedge_plus c rows (λ s. a zero *ℤ f zero s) (λ s. sum_of n (λ r. a (suc r) *ℤ f (suc r) s))
    ∙ ap₂ (λ y z. y +ℤ z) (wedge_times c rows (λ s. f zero s) (a zero)) (wedge_sum n c rows (λ r. a (suc r)) (λ r s. f (suc r) s))

-- ---- what a vector makes of a function: the sum of its entries times the values with their places in front
abbrev pub meet : ℕ → List ℤ → (List ℕ → ℤ) → List ℕ → ℤ
meet q e f rows = sum_of q (λ r. entry e r *ℤ f (r ∷ rows))

module _ (q : ℕ) (e : List ℤ) (short : (i : ℕ) → q ≤ i → entry e i ≡ pos 0) where
  pub meet_wedge : (c : List ℤ) (rows : List ℕ) (f : List ℕ → ℤ) → meet q e (λ s. wedge c s f) rows ≡ dot e c *ℤ f rows +ℤ neg_ℤ (wedge c rows (λ s. meet q e f s))
  meet_wedge c rows f =
      sum_split q (λ r. entry e r) (λ r. entry c r) (λ r. wedge c rows (λ s. f (r ∷ s))) (f rows)
      ∙ ap₂ (λ y z. y *ℤ f rows +ℤ neg_ℤ z) (dot_sum q e c short) (sym (wedge_sum q c rows (λ r. entry e r) (λ r s. f (r ∷ s))))

  -- 0 of the minors of columns with which it has the product 0
  pub meet_none : (cs : List (List ℤ)) → IsOrthogonal e cs → (rows : List ℕ) → meet q e (λ s. minor cs s) rows ≡ pos 0
  meet_none [] o rows = sum_none q (λ r. entry e r *ℤ pos 0) (λ r. *ℤ-zero (entry e r))
  meet_none (c ∷ cs) o rows =
      meet_wedge c rows (λ s. minor cs s)
      ∙ minus_zero (dot e c *ℤ minor cs rows) (wedge c rows (λ s. meet q e (λ t. minor cs t) s)) (zero_left (dot e c) (minor cs rows) o.0)
      (wedge_zero c rows (λ s. meet q e (λ t. minor cs t) s) (λ s. meet_none cs o.1 s))

  -- and where it has another product with one column alone, that product, up to its sign, times the minors of the others
  pub meet_one : (before : List (List ℤ)) (c : List ℤ) (after : List (List ℤ)) → IsOrthogonal e before → IsOrthogonal e after →
      (k : ℤ) × (unsigned_abs k ≡ unsigned_abs (dot e c)) × ((rows : List ℕ) → meet q e (λ s. minor (before ++ c ∷ after) s) rows ≡ k *ℤ minor (before ++ after) rows)
  meet_one [] c after ob oa = (
    dot e c,
    refl,
    λ rows. meet_wedge c rows (λ s. minor after s)
        ∙ less_zero (dot e c *ℤ minor after rows) (wedge c rows (λ s. meet q e (λ t. minor after t) s)) (wedge_zero c rows (λ s. meet q e (λ t. minor after t) s) (λ s. meet_none after oa s)),
  )
  meet_one (d ∷ ds) c after ob oa =
      let r = meet_one ds c after ob.1 oa in (
        neg_ℤ r.0,
        abs_neg r.0 ∙ r.1,
        λ rows. meet_wedge d rows (λ s. minor (ds ++ c ∷ after) s)
            ∙ first_gone (dot e d *ℤ minor (ds ++ c ∷ after) rows) (wedge d rows (λ s. meet q e (λ t. minor (ds ++ c ∷ after) t) s)) (r.0 *ℤ wedge d rows (λ s. minor (ds ++ after) s))
            (zero_left (dot e d) (minor (ds ++ c ∷ after) rows) ob.0)
            (wedge_same d rows (λ s. meet q e (λ t. minor (ds ++ c ∷ after) t) s) (λ s. r.0 *ℤ minor (ds ++ after) s) (λ s. r.2 s) ∙ wedge_times d rows (λ s. minor (ds ++ after) s) r.0)
            ∙ sym (neg-*ℤ r.0 (wedge d rows (λ s. minor (ds ++ after) s))),
      )

-- ---- minors alternate in their rows
abbrev pub IsAlternating : (List ℕ → ℤ) → Type 0
IsAlternating f = (xs : List ℕ) (r s : ℕ) (rows : List ℕ) → f (xs ++ r ∷ s ∷ rows) +ℤ f (xs ++ s ∷ r ∷ rows) ≡ pos 0

wedge_alternates : (c : List ℤ) (xs : List ℕ) (f : List ℕ → ℤ) → IsAlternating f → (r s : ℕ) (rows : List ℕ) → wedge c (xs ++ r ∷ s ∷ rows) f +ℤ wedge c (xs ++ s ∷ r ∷ rows) f ≡ pos 0
wedge_alternates c [] f alt r s rows =
    exchanged (entry c r *ℤ f (s ∷ rows)) (entry c s *ℤ f (r ∷ rows)) (wedge c rows (λ t. f (r ∷ s ∷ t))) (wedge c rows (λ t. f (s ∷ r ∷ t)))
    (sym (wedge_plus c rows (λ t. f (r ∷ s ∷ t)) (λ t. f (s ∷ r ∷ t))) ∙ wedge_zero c rows (λ t. f (r ∷ s ∷ t) +ℤ f (s ∷ r ∷ t)) (λ t. alt [] r s t))
wedge_alternates c (x ∷ xs) f alt r s rows =
    both_parts (entry c x) (f (xs ++ r ∷ s ∷ rows)) (f (xs ++ s ∷ r ∷ rows)) (wedge c (xs ++ r ∷ s ∷ rows) (λ t. f (x ∷ t))) (wedge c (xs ++ s ∷ r ∷ rows) (λ t. f (x ∷ t)))
    (alt xs r s rows) (wedge_alternates c xs (λ t. f (x ∷ t)) (λ ys. alt (x ∷ ys)) r s rows)

none_alternates : (xs : List ℕ) (r s : ℕ) (rows : List ℕ) → no_rows (xs ++ r ∷ s ∷ rows) +ℤ no_rows (xs ++ s ∷ r ∷ rows) ≡ pos 0
none_alternates [] r s rows = +ℤ_idl (pos 0)
none_alternates (x ∷ xs) r s rows = +ℤ_idl (pos 0)

pub minor_alternates : (cs : List (List ℤ)) → IsAlternating (λ s. minor cs s)
minor_alternates [] = none_alternates
minor_alternates (c ∷ cs) = λ xs r s rows. wedge_alternates c xs (λ s. minor cs s) (minor_alternates cs) r s rows

-- a row that comes twice
pub repeated : (rows : List ℕ) (f : List ℕ → ℤ) → IsAlternating f → (x : ℕ) → Contains rows x → f (x ∷ rows) ≡ pos 0
repeated [] f alt x h = absurd (let l : h.0 < 0 = h.1 in omega arith)
repeated (y ∷ ys) f alt x (zero, l, e) = subst (λ (z : ℕ). f (x ∷ z ∷ ys) ≡ pos 0) (sym e) (doubled (f (x ∷ x ∷ ys)) (alt [] x x ys))
repeated (y ∷ ys) f alt x (suc k, l, e) =
    opposite_zero (f (x ∷ y ∷ ys)) (f (y ∷ x ∷ ys)) (alt [] x y ys) (repeated ys (λ t. f (y ∷ t)) (λ zs. alt (y ∷ zs)) x (k, le_of_suc-le-suc l, e))

-- a row brought to the front
pub to_front : (xs : List ℕ) (f : List ℕ → ℤ) → IsAlternating f → (r : ℕ) (rows : List ℕ) → unsigned_abs (f (xs ++ r ∷ rows)) ≡ unsigned_abs (f (r ∷ (xs ++ rows)))
to_front [] f alt r rows = refl
to_front (x ∷ xs) f alt r rows =
    to_front xs (λ t. f (x ∷ t)) (λ ys. alt (x ∷ ys)) r rows ∙ same_abs (f (x ∷ r ∷ (xs ++ rows))) (f (r ∷ x ∷ (xs ++ rows))) (alt [] x r (xs ++ rows))

pub contains_others : (xs ys : List ℕ) (x r : ℕ) → Contains (xs ++ x ∷ ys) r → r ≢ x → Contains (xs ++ ys) r
contains_others [] ys x r (zero, l, e) ne = absurd (ne (sym e))
contains_others [] ys x r (suc k, l, e) ne = (k, le_of_suc-le-suc l, e)
contains_others (y ∷ xs) ys x r (zero, l, e) ne = (0, zero-lt-suc (length (xs ++ ys)), e)
contains_others (y ∷ xs) ys x r (suc k, l, e) ne = let h = contains_others xs ys x r (k, le_of_suc-le-suc l, e) ne in (suc h.0, suc-le-suc h.1, h.2)

pub split_rows : (rows : List ℕ) (x : ℕ) → Contains rows x → (xs : List ℕ) × (ys : List ℕ) × (rows ≡ xs ++ x ∷ ys)
split_rows [] x h = absurd (let l : h.0 < 0 = h.1 in omega arith)
split_rows (y ∷ ys) x (zero, l, e) = ([], ys, ap (λ z. z ∷ ys) e)
split_rows (y ∷ ys) x (suc k, l, e) = let h = split_rows ys x (k, le_of_suc-le-suc l, e) in (y ∷ h.0, h.1, ap (λ t. y ∷ t) h.2)

pub contains_split : (xs ys : List ℕ) (x : ℕ) → Contains (xs ++ x ∷ ys) x
contains_split [] ys x = (0, zero-lt-suc (length ys), refl)
contains_split (y ∷ xs) ys x = let h = contains_split xs ys x in (suc h.0, suc-le-suc h.1, h.2)

pub times_zero : (m : ℕ) → m * 0 ≡ 0
times_zero m = omega arith

-- ---- the law
module _ (q : ℕ) (before after : List (List ℤ)) (c e : List ℤ) (rows : List ℕ) (prim : IsPrimitive e) (short : (i : ℕ) → q ≤ i → entry e i ≡ pos 0)
    (ob : IsOrthogonal e before) (oa : IsOrthogonal e after) (below : (i : ℕ) → Contains rows i → i < q) (off : (i : ℕ) → (Contains rows i → ⊥) → entry e i ≡ pos 0) where
  abbrev all_of : List ℕ → ℤ
  all_of s = minor (before ++ c ∷ after) s

  abbrev others_of : List ℕ → ℤ
  others_of s = minor (before ++ after) s

  pub factor : (k : ℤ) × (unsigned_abs k ≡ unsigned_abs (dot e c)) × ((s : List ℕ) → meet q e (λ t. minor (before ++ c ∷ after) t) s ≡ k *ℤ minor (before ++ after) s)
  factor = meet_one q e short before c after ob oa

  other_terms : (xs ys : List ℕ) (x : ℕ) → rows ≡ xs ++ x ∷ ys → (r : ℕ) → r ≢ x → entry e r *ℤ all_of (r ∷ (xs ++ ys)) ≡ pos 0
  other_terms xs ys x s r ne =
      elim (contains_cases rows r) [
        | inl h ↦ zero_right (entry e r) (all_of (r ∷ (xs ++ ys)))
            (repeated (xs ++ ys) (λ t. minor (before ++ c ∷ after) t) (minor_alternates (before ++ c ∷ after)) r (contains_others xs ys x r (subst (λ (t : List ℕ). Contains t r) s h) ne))
        | inr out ↦ zero_left (entry e r) (all_of (r ∷ (xs ++ ys))) (off r out)
      ]

  in_rows : (xs ys : List ℕ) (x : ℕ) → rows ≡ xs ++ x ∷ ys → x < q
  in_rows xs ys x s = below x (subst (λ (t : List ℕ). Contains t x) (sym s) (contains_split xs ys x))

  -- the entries are in proportion to the minors of the other columns in the other rows
  pub proportion : (xs ys : List ℕ) (x : ℕ) → rows ≡ xs ++ x ∷ ys → unsigned_abs (entry e x) * unsigned_abs (all_of rows) ≡ unsigned_abs factor.0 * unsigned_abs (others_of (xs ++ ys))
  proportion xs ys x s =
      let m : entry e x *ℤ all_of (x ∷ (xs ++ ys)) ≡ factor.0 *ℤ others_of (xs ++ ys) =
      sym (sum_single q (λ r. entry e r *ℤ all_of (r ∷ (xs ++ ys))) x (in_rows xs ys x s) (other_terms xs ys x s)) ∙ factor.2 (xs ++ ys) in
      ap (λ z. unsigned_abs (entry e x) * z) (ap (λ (t : List ℕ). unsigned_abs (all_of t)) s ∙ to_front xs (λ t. minor (before ++ c ∷ after) t) (minor_alternates (before ++ c ∷ after)) x ys)
      ∙ sym (unsigned_abs-mul (entry e x) (all_of (x ∷ (xs ++ ys)))) ∙ ap unsigned_abs m ∙ unsigned_abs-mul factor.0 (others_of (xs ++ ys))

  module _ (some : minor (before ++ c ∷ after) rows ≢ pos 0) where
    gone_at : factor.0 ≡ pos 0 → (i : ℕ) → entry e i ≡ pos 0
    gone_at z i =
        elim (contains_cases rows i) [
          | inr out ↦ off i out
          | inl h ↦
              let t = split_rows rows i h in
              let p : unsigned_abs (entry e i) * unsigned_abs (all_of rows) ≡ 0 =
              proportion t.0 t.1 i t.2 ∙ ap (λ u. unsigned_abs u * unsigned_abs (others_of (t.0 ++ t.1))) z ∙ zero-mul (unsigned_abs (others_of (t.0 ++ t.1))) in
              zero_of_product (all_of rows) (entry e i) some (*ℤ_comm (all_of rows) (entry e i) ∙ abs_zero (entry e i *ℤ all_of rows) (unsigned_abs-mul (entry e i) (all_of rows) ∙ p))
        ]

    factor_some : factor.0 ≢ pos 0
    factor_some z = not_primitive e (gone_at z) prim

    divides_at : (i : ℕ) → unsigned_abs factor.0 ∣ unsigned_abs (all_of rows) * unsigned_abs (entry e i)
    divides_at i =
        let P : ℕ → Type 0 = λ x. unsigned_abs factor.0 ∣ x in
        elim (contains_cases rows i) [
          | inl h ↦
              let t = split_rows rows i h in
              let e1 : unsigned_abs factor.0 * unsigned_abs (others_of (t.0 ++ t.1)) ≡ unsigned_abs (all_of rows) * unsigned_abs (entry e i) =
              omega (arith, proportion t.0 t.1 i t.2) in
              subst P e1 (dvd-mul_right (unsigned_abs factor.0) (unsigned_abs (others_of (t.0 ++ t.1))))
          | inr out ↦
              let e2 : unsigned_abs (all_of rows) * unsigned_abs (entry e i) ≡ 0 =
              ap (λ z. unsigned_abs (all_of rows) * unsigned_abs z) (off i out) ∙ times_zero (unsigned_abs (all_of rows)) in
              subst P (sym e2) (dvd-zero (unsigned_abs factor.0))
        ]

    factor_bound : unsigned_abs factor.0 ≤ unsigned_abs (all_of rows)
    factor_bound =
        le_of_dvd (abs_positive (all_of rows) some)
        (dvd_of_primitive (unsigned_abs factor.0) (unsigned_abs (all_of rows)) (λ i. unsigned_abs (entry e i)) (abs_positive factor.0 factor_some) prim divides_at)

    pub entry_bound : (xs ys : List ℕ) (x : ℕ) → rows ≡ xs ++ x ∷ ys → unsigned_abs (entry e x) ≤ unsigned_abs (others_of (xs ++ ys))
    entry_bound xs ys x s =
        le_of_mul-le-mul_right {k = unsigned_abs (all_of rows)}
        (omega (arith, proportion xs ys x s, mul-le-mul_right (unsigned_abs (others_of (xs ++ ys))) factor_bound))
        (abs_positive (all_of rows) some)
