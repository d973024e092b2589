-- Independent columns have a minor other than 0 in their used rows. So the entries of their table are at most minors.
use Rattle.std.proofs.Common.{◌≡◌, ◌≢◌, ℕ, zero, suc, ◌+◌, ◌<◌, ◌≤◌, List, [], ◌∷◌, ◌++◌, ℤ, pos, ◌*ℤ◌, length, take, take_all, get_or, arith, sym, refl, ap, ◌∙◌, subst, inl, inr, le_of_suc-le-suc, suc-le-suc, zero-lt-suc}
use Rattle.std.proofs.{lemmas.Bool.{cases_lt}, lemmas.Int.{ints}, lemmas.List.{append-nil, get_or_past, take_more}}
use Rattle.std.specs.{Int.RustNames.{unsigned_abs}, List.{Contains}}
use Rattle.smp_kernel.proofs.{Ring.{abs_zero, zero_of_product, zero_left, zero_right}, Dot.{dot-nil, unit_same, unit_other}}
use Rattle.smp_kernel.proofs.{Lists.{contains_cases, contains_at, get_or_default}, Columns.{open_apart, open_entry, is_dependent}}
use Rattle.smp_kernel.proofs.{Independence.{front_independent, last_independent}, UsedLists.{next_used, used_none, used_push, used_unique}}
use Rattle.smp_kernel.proofs.Existence.{AllShort, HasElimination, IsFirst, first_or, elimination_of, elimination_to}
use Rattle.smp_kernel.proofs.Minors.{entry_bound, less_zero, meet, meet_one, minor_alternates, minus_zero, repeated, sum_single, to_front, contains_split}
use Rattle.smp_kernel.specs.{Vectors.{entry, dot, unit}, RowReduction.{AreIndependent, IsUsed, IsTableRow}}
use Rattle.smp_kernel.specs.Minors.{wedge, minor, IsOrthogonal}

pub orth_from : (e : List ℤ) (cs : List (List ℤ)) → ((j : ℕ) → dot e (get_or cs j []) ≡ pos 0) → IsOrthogonal e cs
orth_from e [] h = tt
orth_from e (c ∷ cs) h = (h zero, orth_from e cs (λ j. h (suc j)))

-- ---- one column more
module _ (q : ℕ) (columns : List (List ℤ)) (c : List ℤ) (t : HasElimination q columns) (some : minor columns t.order ≢ pos 0) (i : ℕ) (f : IsFirst (λ k. dot (t.rows k) c) t.order q i) where
  short_row : (r : ℕ) → q ≤ r → entry (t.rows i) r ≡ pos 0
  short_row = t.is.short i f.below

  orth_row : IsOrthogonal (t.rows i) columns
  orth_row = orth_from (t.rows i) columns (λ j. open_apart t.is.frame t.is.ordered t.is.short i j f.below f.out)

  factor : (z : ℤ) × (unsigned_abs z ≡ unsigned_abs (dot (t.rows i) c)) × ((rows : List ℕ) → meet q (t.rows i) (λ s. minor (columns ++ c ∷ []) s) rows ≡ z *ℤ minor (columns ++ []) rows)
  factor = meet_one q (t.rows i) short_row columns c [] orth_row tt

  factor_some : factor.0 ≢ pos 0
  factor_some z = f.meets (abs_zero (dot (t.rows i) c) (sym factor.1 ∙ ap unsigned_abs z))

  other : (r : ℕ) → r ≢ i → entry (t.rows i) r *ℤ minor (columns ++ c ∷ []) (r ∷ t.order) ≡ pos 0
  other r ne =
      elim (contains_cases t.order r) [
        | inl h ↦ zero_right (entry (t.rows i) r) (minor (columns ++ c ∷ []) (r ∷ t.order))
            (repeated t.order (λ s. minor (columns ++ c ∷ []) s) (minor_alternates (columns ++ c ∷ [])) r h)
        | inr out ↦ zero_left (entry (t.rows i) r) (minor (columns ++ c ∷ []) (r ∷ t.order))
            (elim (cases_lt r q) [
              | inl l ↦ open_entry t.is.frame t.is.ordered t.is.short i r f.below l out (λ e. ne (sym e))
              | inr m ↦ short_row r m
            ])
      ]

  front_some : minor (columns ++ c ∷ []) (i ∷ t.order) ≢ pos 0
  front_some z =
      let p : factor.0 *ℤ minor (columns ++ []) t.order ≡ pos 0 =
      sym (factor.2 t.order) ∙ sum_single q (λ r. entry (t.rows i) r *ℤ minor (columns ++ c ∷ []) (r ∷ t.order)) i f.below other
      ∙ zero_right (entry (t.rows i) i) (minor (columns ++ c ∷ []) (i ∷ t.order)) z in
      let same : minor (columns ++ []) t.order ≡ minor columns t.order = ap (λ (cs : List (List ℤ)). minor cs t.order) (append-nil columns) in
      some (sym same ∙ zero_of_product factor.0 (minor (columns ++ []) t.order) factor_some p)

  pub next_some : minor (columns ++ c ∷ []) (t.order ++ i ∷ []) ≢ pos 0
  next_some z =
      front_some (abs_zero (minor (columns ++ c ∷ []) (i ∷ t.order))
      (ap (λ (s : List ℕ). unsigned_abs (minor (columns ++ c ∷ []) (i ∷ s))) (sym (append-nil t.order))
      ∙ sym (to_front t.order (λ s. minor (columns ++ c ∷ []) s) (minor_alternates (columns ++ c ∷ [])) i []) ∙ ap unsigned_abs z))

-- ---- independent columns
pub record HasMinor (q : ℕ) (columns : List (List ℤ)) : Type 0 where
  pub used : List ℕ
  pub is : IsUsed q columns used
  pub some : minor columns used ≢ pos 0

one_apart : pos 1 ≡ pos 0 → ⊥
one_apart e = omega (arith, ints)

has_minor_to : (q : ℕ) (columns : List (List ℤ)) → AllShort q columns → (n : ℕ) → n ≤ length columns → AreIndependent q (take n columns) → HasMinor q (take n columns)
has_minor_to q columns short zero l ind = record { used = []; is = used_none q; some = λ e. one_apart e }
has_minor_to q columns short (suc n) l ind =
    let e : n + 1 ≡ suc n = omega arith in
    let c : List ℤ = get_or columns n [] in
    let split : take (suc n) columns ≡ take n columns ++ get_or columns n [] ∷ [] = ap (λ m. take m columns) (sym e) ∙ take_more columns n [] (omega arith) in
    let both : AreIndependent q (take n columns ++ get_or columns n [] ∷ []) = subst (AreIndependent q) split ind in
    let front : AreIndependent q (take n columns) = front_independent q (take n columns) (get_or columns n []) both in
    let h : HasMinor q (take n columns) = has_minor_to q columns short n (omega arith) front in
    let t : HasElimination q (take n columns) = elimination_to q columns short n (omega arith) front in
    let some : minor (take n columns) t.order ≢ pos 0 =
    subst (λ (s : List ℕ). minor (take n columns) s ≢ pos 0) (used_unique q (take n columns) h.used t.order h.is t.is.used_is) h.some in
    subst (HasMinor q) (sym split)
    (elim (first_or (λ k. dot (t.rows k) (get_or columns n [])) t.order q) [
      | inl none ↦ absurd (last_independent q (take n columns) (get_or columns n []) both (is_dependent t.is.frame t.is.ordered t.is.short (get_or columns n []) (short n) none))
      | inr f ↦ record {
        used = t.order ++ f.0 ∷ [];
        is = used_push q (take n columns) t.order (get_or columns n []) f.0 t.is.used_is
            (next_used t.is.frame t.is.ordered t.is.short (get_or columns n []) (short n) f.0 f.1.below f.1.out f.1.meets (λ k l gone. f.1.first k l gone));
        some = next_some q (take n columns) (get_or columns n []) t some f.0 f.1;
      }
    ])

pub used_minor : (q : ℕ) (columns : List (List ℤ)) → AllShort q columns → AreIndependent q columns → (used : List ℕ) → IsUsed q columns used → minor columns used ≢ pos 0
used_minor q columns short ind used u =
    let all : take (length columns) columns ≡ columns = take_all (length columns) columns (omega arith) in
    let h : HasMinor q columns = subst (HasMinor q) all (has_minor_to q columns short (length columns) (omega arith) (subst (AreIndependent q) (sym all) ind)) in
    subst (λ (s : List ℕ). minor columns s ≢ pos 0) (used_unique q columns h.used used h.is u) h.some

-- ---- the rows of a table
-- a column that is 0 in all these rows
pub wedge_off : (c : List ℤ) (rows : List ℕ) (f : List ℕ → ℤ) → ((r : ℕ) → Contains rows r → entry c r ≡ pos 0) → wedge c rows f ≡ pos 0
wedge_off c [] f h = refl
wedge_off c (r ∷ rows) f h =
    minus_zero (entry c r *ℤ f rows) (wedge c rows (λ s. f (r ∷ s))) (zero_left (entry c r) (f rows) (h r (contains_split [] rows r)))
    (wedge_off c rows (λ s. f (r ∷ s)) (λ x m. h x (suc m.0, suc-le-suc m.1, m.2)))

pub below_front : (q k : ℕ) (used : List ℕ) → k < q → ((i : ℕ) → Contains used i → i < q) → (i : ℕ) → Contains (k ∷ used) i → i < q
below_front q k used kq b i (zero, l, e) = let P : ℕ → Type 0 = λ x. x < q in subst P e kq
below_front q k used kq b i (suc n, l, e) = b i (n, le_of_suc-le-suc l, e)

-- the columns before and after one, where a vector has the product 0 with all others
parted : (e : List ℤ) (cs : List (List ℤ)) (j : ℕ) → j < length cs → ((l : ℕ) → l ≢ j → dot e (get_or cs l []) ≡ pos 0) →
    (before : List (List ℤ)) × (c : List ℤ) × (after : List (List ℤ)) × (cs ≡ before ++ c ∷ after) × IsOrthogonal e before × IsOrthogonal e after
parted e [] j l h = absurd (omega arith)
parted e (c ∷ cs) zero l h = ([], c, cs, refl, tt, orth_from e cs (λ j. h (suc j) (λ s. absurd (omega arith))))
parted e (c ∷ cs) (suc j) l h =
    let p = parted e cs j (le_of_suc-le-suc l) (λ i ne. h (suc i) (λ s. ne (omega arith))) in
    (c ∷ p.0, p.1, p.2, ap (λ t. c ∷ t) p.3, (h zero (λ s. absurd (omega arith)), p.4), p.5)

module _ (q : ℕ) (columns : List (List ℤ)) (short : AllShort q columns) (ind : AreIndependent q columns) (used : List ℕ) (u : IsUsed q columns used)
    (k : ℕ) (kq : k < q) (e : List ℤ) (r : IsTableRow q columns used k e) where
  pub used_below : (i : ℕ) → Contains used i → i < q
  used_below i h = let P : ℕ → Type 0 = λ x. x < q in subst P (get_or_default used h.0 0 i h.1 ∙ h.2) (u.each h.0 (omega (arith, h.1, u.one_each))).in_force

  product_at : (j : ℕ) → get_or used j 0 ≢ k → dot e (get_or columns j []) ≡ pos 0
  product_at j ne = elim (cases_lt j (length columns)) [ inl l ↦ r.products j l ne | inr m ↦ ap (dot e) (get_or_past columns j [] m) ∙ dot-nil e ]

  -- the row of an open place
  module _ (out : Contains used k → ⊥) where
    product_open : (j : ℕ) → dot e (get_or columns j []) ≡ pos 0
    product_open j =
        elim (cases_lt j (length columns)) [
          | inl l ↦ r.products j l (λ s. out (contains_at used j k (omega (arith, l, u.one_each)) s))
          | inr m ↦ ap (dot e) (get_or_past columns j [] m) ∙ dot-nil e
        ]

    pub off_open : (i : ℕ) → (Contains (k ∷ used) i → ⊥) → entry e i ≡ pos 0
    off_open i gone =
        elim (cases_lt i q) [
          | inl l ↦ r.open_places i l (λ h. gone (suc h.0, suc-le-suc h.1, h.2)) (λ s. gone (0, zero-lt-suc (length used), sym s))
          | inr m ↦ r.size i m
        ]

    open_some : minor (unit k ∷ columns) (k ∷ used) ≢ pos 0
    open_some z =
        let off : wedge (unit k) used (λ s. minor columns (k ∷ s)) ≡ pos 0 =
        wedge_off (unit k) used (λ s. minor columns (k ∷ s)) (λ x m. unit_other k x (λ s. out (subst (Contains used) (sym s) m))) in
        used_minor q columns short ind used u
        (zero_of_product (entry (unit k) k) (minor columns used) (λ s. one_apart (sym (unit_same k) ∙ s))
        (sym (less_zero (entry (unit k) k *ℤ minor columns used) (wedge (unit k) used (λ s. minor columns (k ∷ s))) off) ∙ z))

    pub open_bound : (xs ys : List ℕ) (x : ℕ) → k ∷ used ≡ xs ++ x ∷ ys → unsigned_abs (entry e x) ≤ unsigned_abs (minor columns (xs ++ ys))
    open_bound xs ys x s =
        entry_bound q [] columns (unit k) e (k ∷ used) r.primitive r.size tt (orth_from e columns product_open) (below_front q k used kq used_below) off_open open_some xs ys x s

  -- and that of a used place
  module _ (h : Contains used k) where
    distinct : (l : ℕ) → l ≢ h.0 → dot e (get_or columns l []) ≡ pos 0
    distinct l ne =
        elim (cases_lt l (length columns)) [
          | inr m ↦ ap (dot e) (get_or_past columns l [] m) ∙ dot-nil e
          | inl b ↦ r.products l b (λ s.
              let t : HasElimination q columns = elimination_of q columns short ind in
              let o : t.order ≡ used = used_unique q columns t.order used t.is.used_is u in
              let D : List ℕ → Type 0 = λ v. (i j : ℕ) → i < length columns → j < length columns → get_or v i 0 ≡ get_or v j 0 → i ≡ j in
              ne (subst D o t.is.ordered.distinct l h.0 b (omega (arith, h.1, u.one_each)) (s ∙ sym (get_or_default used h.0 0 k h.1 ∙ h.2))))
        ]

    pub parts : (before : List (List ℤ)) × (c : List ℤ) × (after : List (List ℤ)) × (columns ≡ before ++ c ∷ after) × IsOrthogonal e before × IsOrthogonal e after
    parts = parted e columns h.0 (omega (arith, h.1, u.one_each)) distinct

    pub off_used : (i : ℕ) → (Contains used i → ⊥) → entry e i ≡ pos 0
    off_used i gone =
        elim (cases_lt i q) [
          | inl l ↦ r.open_places i l gone (λ s. gone (subst (Contains used) (sym s) h))
          | inr m ↦ r.size i m
        ]

    pub used_bound : (xs ys : List ℕ) (x : ℕ) → used ≡ xs ++ x ∷ ys → unsigned_abs (entry e x) ≤ unsigned_abs (minor (parts.0 ++ parts.2) (xs ++ ys))
    used_bound xs ys x s =
        entry_bound q parts.0 parts.2 parts.1 e used r.primitive r.size parts.4 parts.5 used_below off_used
        (subst (λ (cs : List (List ℤ)). minor cs used ≢ pos 0) parts.3 (used_minor q columns short ind used u)) xs ys x s
