-- No entry of a circuit passes half of the permutations times the product of the bounds of all rows: minors alternate in their columns
-- too, so the circuit is in proportion to minors.
use Rattle.std.proofs.Common.{◌≡◌, ◌≢◌, ℕ, zero, suc, ◌*◌, ◌<◌, ◌≤◌, List, [], ◌∷◌, ◌++◌, ℤ, pos, neg_ℤ, ◌+ℤ◌, ◌*ℤ◌, length, length-append, map, get_or, take, arith, sym, refl, ap, ap₂, ◌∙◌, subst, inl, inr, le_of_suc-le-suc, suc-le-suc, zero-lt-suc, mul-le-mul_right, le_of_mul-le-mul_right}
use Rattle.std.proofs.{lemmas.Bool.{cases_eq, cases_lt}, lemmas.Int.{ints, unsigned_abs-mul}, lemmas.Nat.Gcd.{le_of_dvd}}
use Rattle.std.proofs.{lemmas.List.{get_or_past, get_or_append_left, length-map}, Math.Nat.{dvd-zero, dvd-mul_left, dvd-mul_right}}
use Rattle.std.specs.{Int.RustNames.{unsigned_abs}, List.{Contains}}
use Prim.Native.Nat.{◌∣◌}
use lib.IntN.{*ℤ_comm, *ℤ-one, *ℤ-zero, zero-*ℤ, +ℤ_idl, +ℤ_idr, +ℤ_assoc}
use Rattle.smp_kernel.proofs.{Ring.{*ℤ_assoc, *ℤ-+ℤ, +ℤ-*ℤ, neg-*ℤ, zero_right, positive_some}, Dot.{entry-plus, entry-times}}
use Rattle.smp_kernel.proofs.{Columns.{dot_single}, Lists.{at_last, entry-map, get_or_default, map_last}, Limits.{Within-from_entries}}
use Rattle.smp_kernel.proofs.{Primitive.{abs_positive, dvd_of_primitive}, Existence.{AllShort, HasElimination, cut_short, elimination_of}}
use Rattle.smp_kernel.proofs.Minors.{abs_neg, doubled, exchanged, minus_zero, opposite_zero, right_neg, same_abs, swap_factors, times_zero, wedge_same, wedge_times, wedge_zero}
use Rattle.smp_kernel.proofs.{TableMinors.{used_minor, wedge_off}, UsedLists.{used_unique}}
use Rattle.smp_kernel.proofs.TableSizes.{AreApart, apart_from, minor_within, from_others}
use Rattle.smp_kernel.specs.Vectors.{entry, plus, times, dot, combination, Within}
use Rattle.smp_kernel.specs.RowReduction.{cut, AreIndependent, InForce, IsRelationOn, IsUsed, IsCircuit}
use Rattle.smp_kernel.specs.Minors.{wedge, minor, HasDenominator, IsFrom, AreFrom, minor_limit}

-- ---- linear in the column too
plus_apart : (p q x y u v w : ℤ) → p ≡ x +ℤ y → w ≡ u +ℤ v → p +ℤ neg_ℤ w ≡ (x +ℤ neg_ℤ u) +ℤ (y +ℤ neg_ℤ v)
plus_apart p q x y u v w e f = omega (arith, ints)

wedge_left_plus : (a b : List ℤ) (rows : List ℕ) (f : List ℕ → ℤ) → wedge (plus a b) rows f ≡ wedge a rows f +ℤ wedge b rows f
wedge_left_plus a b [] f = sym (+ℤ_idl (pos 0))
wedge_left_plus a b (r ∷ rows) f =
    plus_apart (entry (plus a b) r *ℤ f rows) (pos 0) (entry a r *ℤ f rows) (entry b r *ℤ f rows) (wedge a rows (λ s. f (r ∷ s))) (wedge b rows (λ s. f (r ∷ s)))
    (wedge (plus a b) rows (λ s. f (r ∷ s))) (ap (λ z. z *ℤ f rows) (entry-plus a b r) ∙ +ℤ-*ℤ (entry a r) (entry b r) (f rows)) (wedge_left_plus a b rows (λ s. f (r ∷ s)))

times_apart : (k a x u p w : ℤ) → p ≡ k *ℤ (a *ℤ x) → w ≡ k *ℤ u → p +ℤ neg_ℤ w ≡ k *ℤ (a *ℤ x +ℤ neg_ℤ u)
times_apart k a x u p w e f = ap₂ (λ y z. y +ℤ neg_ℤ z) e f ∙ ap (λ z. k *ℤ (a *ℤ x) +ℤ z) (sym (right_neg k u)) ∙ sym (*ℤ-+ℤ k (a *ℤ x) (neg_ℤ u))

wedge_left_times : (k : ℤ) (a : List ℤ) (rows : List ℕ) (f : List ℕ → ℤ) → wedge (times k a) rows f ≡ k *ℤ wedge a rows f
wedge_left_times k a [] f = sym (*ℤ-zero k)
wedge_left_times k a (r ∷ rows) f =
    times_apart k (entry a r) (f rows) (wedge a rows (λ s. f (r ∷ s))) (entry (times k a) r *ℤ f rows) (wedge (times k a) rows (λ s. f (r ∷ s)))
    (ap (λ z. z *ℤ f rows) (entry-times k a r) ∙ *ℤ_assoc k (entry a r) (f rows)) (wedge_left_times k a rows (λ s. f (r ∷ s)))

wedge_combination : (w : List ℤ) (cs : List (List ℤ)) (rows : List ℕ) (f : List ℕ → ℤ) → wedge (combination w cs) rows f ≡ dot w (map (λ c. wedge c rows f) cs)
wedge_combination [] cs rows f = wedge_off [] rows f (λ r h. refl)
wedge_combination (w ∷ ws) [] rows f = wedge_off [] rows f (λ r h. refl)
wedge_combination (w ∷ ws) (c ∷ cs) rows f =
    wedge_left_plus (times w c) (combination ws cs) rows f ∙ ap₂ (λ x y. x +ℤ y) (wedge_left_times w c rows f) (wedge_combination ws cs rows f)

-- ---- minors alternate in their columns
minus_gather : (l m y w u v r : ℤ) → l ≡ m +ℤ neg_ℤ y → r ≡ m +ℤ neg_ℤ u → w ≡ u +ℤ neg_ℤ v → l +ℤ neg_ℤ w ≡ r +ℤ neg_ℤ (y +ℤ neg_ℤ v)
minus_gather l m y w u v r e f g = omega (arith, ints)

minus_step : (b d x y w u v : ℤ) → w ≡ d *ℤ u +ℤ neg_ℤ v → b *ℤ (d *ℤ x +ℤ neg_ℤ y) +ℤ neg_ℤ w ≡ d *ℤ (b *ℤ x +ℤ neg_ℤ u) +ℤ neg_ℤ (b *ℤ y +ℤ neg_ℤ v)
minus_step b d x y w u v e =
    let l : b *ℤ (d *ℤ x +ℤ neg_ℤ y) ≡ d *ℤ (b *ℤ x) +ℤ neg_ℤ (b *ℤ y) =
    *ℤ-+ℤ b (d *ℤ x) (neg_ℤ y) ∙ ap₂ (λ p q. p +ℤ q) (swap_factors d b x) (right_neg b y) in
    let r : d *ℤ (b *ℤ x +ℤ neg_ℤ u) ≡ d *ℤ (b *ℤ x) +ℤ neg_ℤ (d *ℤ u) = *ℤ-+ℤ d (b *ℤ x) (neg_ℤ u) ∙ ap (λ p. d *ℤ (b *ℤ x) +ℤ p) (right_neg d u) in
    minus_gather (b *ℤ (d *ℤ x +ℤ neg_ℤ y)) (d *ℤ (b *ℤ x)) (b *ℤ y) w (d *ℤ u) v (d *ℤ (b *ℤ x +ℤ neg_ℤ u)) l r e

wedge_minus : (c : List ℤ) (rows : List ℕ) (d : ℤ) (f g : List ℕ → ℤ) → wedge c rows (λ s. d *ℤ f s +ℤ neg_ℤ (g s)) ≡ d *ℤ wedge c rows f +ℤ neg_ℤ (wedge c rows g)
wedge_minus c [] d f g = sym (minus_zero (d *ℤ pos 0) (pos 0) (*ℤ-zero d) refl)
wedge_minus c (r ∷ rows) d f g =
    minus_step (entry c r) d (f rows) (g rows) (wedge c rows (λ s. d *ℤ f (r ∷ s) +ℤ neg_ℤ (g (r ∷ s)))) (wedge c rows (λ s. f (r ∷ s))) (wedge c rows (λ s. g (r ∷ s)))
    (wedge_minus c rows d (λ s. f (r ∷ s)) (λ s. g (r ∷ s)))

wedge_swap : (c d : List ℤ) (rows : List ℕ) (f : List ℕ → ℤ) → wedge c rows (λ s. wedge d s f) +ℤ wedge d rows (λ s. wedge c s f) ≡ pos 0
wedge_swap c d [] f = +ℤ_idl (pos 0)
wedge_swap c d (r ∷ rows) f =
    ap₂ (λ x y. (entry c r *ℤ wedge d rows f +ℤ neg_ℤ x) +ℤ (entry d r *ℤ wedge c rows f +ℤ neg_ℤ y))
    (wedge_minus c rows (entry d r) f (λ s. wedge d s (λ t. f (r ∷ t)))) (wedge_minus d rows (entry c r) f (λ s. wedge c s (λ t. f (r ∷ t))))
    ∙ exchanged (entry c r *ℤ wedge d rows f) (entry d r *ℤ wedge c rows f) (wedge c rows (λ s. wedge d s (λ t. f (r ∷ t)))) (wedge d rows (λ s. wedge c s (λ t. f (r ∷ t))))
    (wedge_swap c d rows (λ t. f (r ∷ t)))

-- a column that comes twice
column_twice : (cs : List (List ℤ)) (i : ℕ) → i < length cs → (rows : List ℕ) → wedge (get_or cs i []) rows (λ s. minor cs s) ≡ pos 0
column_twice [] i l rows = absurd (omega arith)
column_twice (d ∷ ds) zero l rows = doubled (wedge d rows (λ s. wedge d s (λ t. minor ds t))) (wedge_swap d d rows (λ t. minor ds t))
column_twice (d ∷ ds) (suc i) l rows =
    opposite_zero (wedge (get_or ds i []) rows (λ s. wedge d s (λ t. minor ds t))) (wedge d rows (λ s. wedge (get_or ds i []) s (λ t. minor ds t)))
    (wedge_swap (get_or ds i []) d rows (λ t. minor ds t))
    (wedge_zero d rows (λ s. wedge (get_or ds i []) s (λ t. minor ds t)) (λ s. column_twice ds i (le_of_suc-le-suc l) s))

-- a column brought to the front
minus_of : (a y : ℤ) → a +ℤ y ≡ pos 0 → a ≡ neg_ℤ y
minus_of a y e = omega (arith, ints)

one_of : (a : ℤ) → pos 1 *ℤ a ≡ a
unfolding lib.IntN.one
one_of a = *ℤ_comm (pos 1) a ∙ *ℤ-one a

opposite_times : (a b k x : ℤ) → a +ℤ b ≡ pos 0 → b ≡ k *ℤ x → a ≡ neg_ℤ (k *ℤ x)
opposite_times a b k x e f = let g : a +ℤ k *ℤ x ≡ pos 0 = ap (λ z. a +ℤ z) (sym f) ∙ e in minus_of a (k *ℤ x) g

column_front : (before : List (List ℤ)) (c : List ℤ) (after : List (List ℤ)) →
    (k : ℤ) × (unsigned_abs k ≡ 1) × ((rows : List ℕ) → wedge c rows (λ s. minor (before ++ after) s) ≡ k *ℤ minor (before ++ c ∷ after) rows)
column_front [] c after = (pos 1, refl, λ rows. sym (one_of (wedge c rows (λ s. minor after s))))
column_front (d ∷ ds) c after =
    let r = column_front ds c after in (
      neg_ℤ r.0,
      abs_neg r.0 ∙ r.1,
      λ rows. opposite_times (wedge c rows (λ s. wedge d s (λ t. minor (ds ++ after) t))) (wedge d rows (λ s. wedge c s (λ t. minor (ds ++ after) t))) r.0 (wedge d rows (λ s. minor (ds ++ c ∷ after) s))
          (wedge_swap c d rows (λ t. minor (ds ++ after) t))
          (wedge_same d rows (λ s. wedge c s (λ t. minor (ds ++ after) t)) (λ s. r.0 *ℤ minor (ds ++ c ∷ after) s) (λ s. r.2 s) ∙ wedge_times d rows (λ s. minor (ds ++ c ∷ after) s) r.0)
          ∙ sym (neg-*ℤ r.0 (wedge d rows (λ s. minor (ds ++ c ∷ after) s))),
    )

-- ---- the columns before and after one
before_first : (c : List ℤ) (cs : List (List ℤ)) (i : ℕ) → i < length (c ∷ cs) → i ≢ zero → (l : ℕ) × (l < length cs) × (get_or cs l [] ≡ get_or (c ∷ cs) i [])
before_first c cs zero m ne = absurd (ne refl)
before_first c cs (suc i) m ne = (i, le_of_suc-le-suc m, refl)

after_first : (c : List ℤ) (cs rest : List (List ℤ)) (j : ℕ) → ((i : ℕ) → i < length cs → i ≢ j → (l : ℕ) × (l < length rest) × (get_or rest l [] ≡ get_or cs i [])) →
    (i : ℕ) → i < length (c ∷ cs) → i ≢ suc j → (l : ℕ) × (l < length (c ∷ rest)) × (get_or (c ∷ rest) l [] ≡ get_or (c ∷ cs) i [])
after_first c cs rest j h zero m ne = (0, zero-lt-suc (length rest), refl)
after_first c cs rest j h (suc i) m ne = let p = h i (le_of_suc-le-suc m) (λ e. ne (ap suc e)) in (suc p.0, suc-le-suc p.1, p.2)

split_columns : (cs : List (List ℤ)) (j : ℕ) → j < length cs → (before : List (List ℤ)) × (after : List (List ℤ)) × (cs ≡ before ++ get_or cs j [] ∷ after)
    × ((i : ℕ) → i < length cs → i ≢ j → (l : ℕ) × (l < length (before ++ after)) × (get_or (before ++ after) l [] ≡ get_or cs i []))
split_columns [] j l = absurd (omega arith)
split_columns (c ∷ cs) zero l = ([], cs, refl, λ i m ne. before_first c cs i m ne)
split_columns (c ∷ cs) (suc j) l =
    let p = split_columns cs j (le_of_suc-le-suc l) in
    (c ∷ p.0, p.1, ap (λ t. c ∷ t) p.2, λ i m ne. after_first c cs (p.0 ++ p.1) j p.3 i m ne)

-- ---- the circuit
dot_push : (w : List ℤ) (last : ℤ) (v : List ℤ) (x : ℤ) → length w ≡ length v → dot (w ++ last ∷ []) (v ++ x ∷ []) ≡ dot w v +ℤ last *ℤ x
dot_push [] last [] x l = +ℤ_idr (last *ℤ x) ∙ sym (+ℤ_idl (last *ℤ x))
dot_push [] last (y ∷ ys) x l = absurd (omega arith)
dot_push (w ∷ ws) last [] x l = absurd (omega arith)
dot_push (w ∷ ws) last (y ∷ ys) x l = ap (λ z. w *ℤ y +ℤ z) (dot_push ws last ys x (omega arith)) ∙ sym (+ℤ_assoc (w *ℤ y) (dot ws ys) (last *ℤ x))

rows_below : (q : ℕ) (columns : List (List ℤ)) (used : List ℕ) → IsUsed q columns used → (i : ℕ) → Contains used i → i < q
rows_below q columns used u i h = let P : ℕ → Type 0 = λ x. x < q in subst P (get_or_default used h.0 0 i h.1 ∙ h.2) (u.each h.0 (omega (arith, h.1, u.one_each))).in_force

rows_apart : (q : ℕ) (columns : List (List ℤ)) → AllShort q columns → AreIndependent q columns → (used : List ℕ) → IsUsed q columns used → AreApart used
rows_apart q columns short ind used u =
    let t : HasElimination q columns = elimination_of q columns short ind in
    subst AreApart (used_unique q columns t.order used t.is.used_is u)
    (apart_from t.order (λ i j l n s. t.is.ordered.distinct i j (omega (arith, l, t.is.ordered.one_each)) (omega (arith, n, t.is.ordered.one_each)) s))

le_trans_at : (a b c : ℕ) → a ≤ b → b ≤ c → a ≤ c
le_trans_at a b c h l = omega arith

-- the factors of a relation, one column before the last, in the used rows (Cramer)
module _ (q : ℕ) (columns : List (List ℤ)) (c : List ℤ) (w : List ℤ) (last : ℤ) (rel : IsRelationOn (InForce q) (columns ++ c ∷ []) (w ++ last ∷ [])) (used : List ℕ) (u : IsUsed q columns used) where
  pub lengths : length w ≡ length columns
  lengths = omega (arith, rel.0, length-append w (last ∷ []), length-append columns (c ∷ []))

  module _ (j : ℕ) (l : j < length columns) where
    pub parts : (before : List (List ℤ)) × (after : List (List ℤ)) × (columns ≡ before ++ get_or columns j [] ∷ after)
        × ((i : ℕ) → i < length columns → i ≢ j → (l : ℕ) × (l < length (before ++ after)) × (get_or (before ++ after) l [] ≡ get_or columns i []))
    parts = split_columns columns j l

    abbrev pub at : List ℤ → ℤ
    at d = wedge d used (λ s. minor (parts.0 ++ parts.1) s)

    at_none : at [] ≡ pos 0
    at_none = wedge_off [] used (λ s. minor (parts.0 ++ parts.1) s) (λ x h. refl)

    at_other : (i : ℕ) → i ≢ j → at (get_or columns i []) ≡ pos 0
    at_other i ne =
        elim (cases_lt i (length columns)) [
          | inl b ↦ let t = parts.3 i b ne in ap (λ d. at d) (sym t.2) ∙ column_twice (parts.0 ++ parts.1) t.0 t.1 used
          | inr g ↦ ap (λ d. at d) (get_or_past columns i [] g) ∙ at_none
        ]

    cancels : entry w j *ℤ at (get_or columns j []) +ℤ last *ℤ at c ≡ pos 0
    cancels =
        sym (ap (λ z. z +ℤ last *ℤ at c)
        (dot_single w (map (λ d. at d) columns) j (λ i ne. zero_right (entry w i) (entry (map (λ d. at d) columns) i) (entry-map (λ d. at d) [] at_none columns i ∙ at_other i ne))
        ∙ ap (λ z. entry w j *ℤ z) (entry-map (λ d. at d) [] at_none columns j)))
        ∙ sym (dot_push w last (map (λ d. at d) columns) (at c) (lengths ∙ sym (length-map columns (λ d. at d))))
        ∙ ap (dot (w ++ last ∷ [])) (sym (map_last (λ d. at d) columns c))
        ∙ sym (wedge_combination (w ++ last ∷ []) (columns ++ c ∷ []) used (λ s. minor (parts.0 ++ parts.1) s))
        ∙ wedge_off (combination (w ++ last ∷ []) (columns ++ c ∷ [])) used (λ s. minor (parts.0 ++ parts.1) s) (λ x h. rel.1 x (rows_below q columns used u x h))

    own_size : unsigned_abs (at (get_or columns j [])) ≡ unsigned_abs (minor columns used)
    own_size =
        let k = column_front parts.0 (get_or columns j []) parts.1 in
        let e : 1 * unsigned_abs (minor (parts.0 ++ get_or columns j [] ∷ parts.1) used) ≡ unsigned_abs (minor (parts.0 ++ get_or columns j [] ∷ parts.1) used) = omega arith in
        ap unsigned_abs (k.2 used) ∙ unsigned_abs-mul k.0 (minor (parts.0 ++ get_or columns j [] ∷ parts.1) used)
        ∙ ap (λ z. z * unsigned_abs (minor (parts.0 ++ get_or columns j [] ∷ parts.1) used)) k.1 ∙ e
        ∙ ap (λ (cs : List (List ℤ)). unsigned_abs (minor cs used)) (sym parts.2)

    pub cramer : unsigned_abs (entry w j) * unsigned_abs (minor columns used) ≡ unsigned_abs last * unsigned_abs (at c)
    cramer =
        ap (λ z. unsigned_abs (entry w j) * z) (sym own_size) ∙ sym (unsigned_abs-mul (entry w j) (at (get_or columns j [])))
        ∙ same_abs (entry w j *ℤ at (get_or columns j [])) (last *ℤ at c) cancels ∙ unsigned_abs-mul last (at c)

module _ (m : ℕ → ℕ) (some : (r : ℕ) → 1 ≤ m r) (q : ℕ) (columns : List (List ℤ)) (short : AllShort q columns) (f : AreFrom m columns) (ind : AreIndependent q columns)
    (c : List ℤ) (fc : IsFrom m c) (w : List ℤ) (last : ℤ) (r : IsCircuit q columns c w last) (used : List ℕ) (u : IsUsed q columns used) where
  whole : ℕ
  whole = unsigned_abs (minor columns used)

  whole_some : 0 < whole
  unfolding whole
  whole_some = abs_positive (minor columns used) (used_minor q columns short ind used u)

  whole_within : whole ≤ minor_limit m q
  unfolding whole
  whole_within = minor_within m some q columns f used (rows_apart q columns short ind used u) (rows_below q columns used u)

  width : length w ≡ length columns
  width = lengths q columns c w last r.relation used u

  abbrev beside : (j : ℕ) → j < length columns → ℕ
  beside j l = unsigned_abs (at q columns c w last r.relation used u j l c)

  proportion : (j : ℕ) (l : j < length columns) → unsigned_abs (entry w j) * whole ≡ unsigned_abs last * beside j l
  unfolding whole
  proportion j l = cramer q columns c w last r.relation used u j l

  other_within : (j : ℕ) (l : j < length columns) → beside j l ≤ minor_limit m q
  other_within j l =
      let p = parts q columns c w last r.relation used u j l in
      minor_within m some q (c ∷ (p.0 ++ p.1)) (fc, from_others m p.0 p.1 (get_or columns j []) (subst (AreFrom m) p.2 f)) used
      (rows_apart q columns short ind used u) (rows_below q columns used u)

  last_some : 0 < unsigned_abs last
  last_some = abs_positive last (positive_some last r.positive)

  divides_at : (i : ℕ) → unsigned_abs last ∣ whole * unsigned_abs (entry (w ++ last ∷ []) i)
  divides_at i =
      let P : ℕ → Type 0 = λ x. unsigned_abs last ∣ x in
      elim (cases_lt i (length columns)) [
        | inl l ↦
            let e : unsigned_abs last * beside i l ≡ whole * unsigned_abs (entry w i) = omega (arith, proportion i l) in
            subst P (e ∙ ap (λ z. whole * unsigned_abs z) (sym (get_or_append_left w (last ∷ []) (pos 0) i (omega (arith, l, width))))) (dvd-mul_right (unsigned_abs last) (beside i l))
        | inr g ↦ elim (cases_eq i (length columns)) [
          | inl e ↦ subst P (ap (λ z. whole * unsigned_abs z) (sym (at_last w last (pos 0) i (e ∙ sym width)))) (dvd-mul_left (unsigned_abs last) whole)
          | inr ne ↦ subst P (sym (ap (λ z. whole * unsigned_abs z) (get_or_past (w ++ last ∷ []) i (pos 0) (omega (arith, g, ne, width, length-append w (last ∷ [])))) ∙ times_zero whole)) (dvd-zero (unsigned_abs last))
        ]
      ]

  last_within : unsigned_abs last ≤ whole
  last_within = le_of_dvd whole_some (dvd_of_primitive (unsigned_abs last) whole (λ i. unsigned_abs (entry (w ++ last ∷ []) i)) last_some r.primitive divides_at)

  front_within : (j : ℕ) (l : j < length columns) → unsigned_abs (entry w j) ≤ minor_limit m q
  front_within j l =
      le_trans_at (unsigned_abs (entry w j)) (beside j l) (minor_limit m q)
      (le_of_mul-le-mul_right {k = whole} (omega (arith, proportion j l, mul-le-mul_right (beside j l) last_within)) whole_some) (other_within j l)

  pub circuit_within : Within (minor_limit m q) (w ++ last ∷ [])
  circuit_within =
      Within-from_entries (minor_limit m q) (w ++ last ∷ []) (λ i b. elim (cases_lt i (length columns)) [
        | inl l ↦ let P : ℤ → Type 0 = λ z. unsigned_abs z ≤ minor_limit m q in
            subst P (sym (get_or_append_left w (last ∷ []) (pos 0) i (omega (arith, l, width)))) (front_within i l)
        | inr g ↦ let P : ℤ → Type 0 = λ z. unsigned_abs z ≤ minor_limit m q in
            subst P (sym (at_last w last (pos 0) i (omega (arith, b, g, width, length-append w (last ∷ []))))) (omega (arith, last_within, whole_within))
      ])

pub circuits_within : (m : ℕ → ℕ) → ((r : ℕ) → 1 ≤ m r) → (q : ℕ) (columns : List (List ℤ)) (column : List ℤ) → AreFrom m (cut q columns) → IsFrom m (take q column) →
    AreIndependent q (cut q columns) → (w : List ℤ) (last : ℤ) → IsCircuit q (cut q columns) (take q column) w last → Within (minor_limit m q) (w ++ last ∷ [])
circuits_within m some q columns column f fc ind w last r =
    let t : HasElimination q (cut q columns) = elimination_of q (cut q columns) (cut_short q columns) ind in
    circuit_within m some q (cut q columns) (cut_short q columns) f ind (take q column) fc w last r t.order t.is.used_is

-- ---- denominators
pub denominator_of : (m : ℕ → ℕ) → ((r : ℕ) → 1 ≤ m r) → (q : ℕ) (columns : List (List ℤ)) → AreFrom m (cut q columns) → AreIndependent q (cut q columns) → HasDenominator m q (cut q columns)
denominator_of m some q columns f ind =
    let t : HasElimination q (cut q columns) = elimination_of q (cut q columns) (cut_short q columns) ind in
    let u : IsUsed q (cut q columns) t.order = t.is.used_is in
    record {
      denominator = unsigned_abs (minor (cut q columns) t.order);
      some = abs_positive (minor (cut q columns) t.order) (used_minor q (cut q columns) (cut_short q columns) ind t.order u);
      within = minor_within m some q (cut q columns) f t.order (rows_apart q (cut q columns) (cut_short q columns) ind t.order u) (rows_below q (cut q columns) t.order u);
      clears = λ c w last rel j l.
          (let e : unsigned_abs last * unsigned_abs (at q (cut q columns) c w last rel t.order u j l c) ≡ unsigned_abs (minor (cut q columns) t.order) * unsigned_abs (entry w j) =
          omega (arith, cramer q (cut q columns) c w last rel t.order u j l) in
          let P : ℕ → Type 0 = λ x. unsigned_abs last ∣ x in
          subst P e (dvd-mul_right (unsigned_abs last) (unsigned_abs (at q (cut q columns) c w last rel t.order u j l c))));
    }
