-- No entry of a table passes half of the permutations times the product of the bounds of all rows.
use Rattle.std.proofs.Common.{◌≡◌, ℕ, zero, suc, ◌+◌, ◌*◌, ◌<◌, ◌≤◌, List, [], ◌∷◌, ◌++◌, ℤ, length, get_or, arith, sym, refl, ap, ◌∙◌, subst, inl, inr, le_of_suc-le-suc, suc-le-suc, zero-lt-suc, mul-le-mul}
use Rattle.std.proofs.lemmas.Bool.{cases_eq}
use Rattle.std.specs.{Int.RustNames.{unsigned_abs}, List.{Contains}}
use Rattle.smp_kernel.proofs.{Lists.{contains_cases, get_or_default}, Limits.{Within-from_entries}, UsedLists.{used_unique}}
use Rattle.smp_kernel.proofs.{Existence.{AllShort, HasElimination, elimination_of, cut_short}, Minors.{split_rows, contains_split}}
use Rattle.smp_kernel.proofs.MinorSizes.{minor_bound}
use Rattle.smp_kernel.proofs.TableMinors.{open_bound, used_bound, parts, below_front, used_below, off_open, off_used}
use Rattle.smp_kernel.specs.{Vectors.{entry, Within}, RowReduction.{cut, AreIndependent, IsUsed, IsTableRow, TableFits}}
use Rattle.smp_kernel.specs.Minors.{minor, AreFrom, sign_count, row_product, product_below, minor_limit}

-- ---- rows, each once
abbrev pub AreApart : List ℕ → Type 0
AreApart [] = Unit {0}
AreApart (x ∷ xs) = (Contains xs x → ⊥) × AreApart xs

pub apart_from : (xs : List ℕ) → ((i j : ℕ) → i < length xs → j < length xs → get_or xs i 0 ≡ get_or xs j 0 → i ≡ j) → AreApart xs
apart_from [] d = tt
apart_from (x ∷ xs) d = (
  (λ h. absurd (let e : zero ≡ suc h.0 = d zero (suc h.0) (zero-lt-suc (length xs)) (suc-le-suc h.1) (sym (get_or_default xs h.0 0 x h.1 ∙ h.2)) in omega arith)),
  apart_from xs (λ i j l m e. let s : suc i ≡ suc j = d (suc i) (suc j) (suc-le-suc l) (suc-le-suc m) e in omega arith),
)

contains_more : (xs ys : List ℕ) (x i : ℕ) → Contains (xs ++ ys) i → Contains (xs ++ x ∷ ys) i
contains_more [] ys x i (k, l, e) = (suc k, suc-le-suc l, e)
contains_more (y ∷ xs) ys x i (zero, l, e) = (0, zero-lt-suc (length (xs ++ x ∷ ys)), e)
contains_more (y ∷ xs) ys x i (suc k, l, e) = let h = contains_more xs ys x i (k, le_of_suc-le-suc l, e) in (suc h.0, suc-le-suc h.1, h.2)

apart_others : (xs ys : List ℕ) (x : ℕ) → AreApart (xs ++ x ∷ ys) → AreApart (xs ++ ys)
apart_others [] ys x a = a.1
apart_others (y ∷ xs) ys x a = (λ h. a.0 (contains_more xs ys x y h), apart_others xs ys x a.1)

apart_gone : (xs ys : List ℕ) (x : ℕ) → AreApart (xs ++ x ∷ ys) → Contains (xs ++ ys) x → ⊥
apart_gone [] ys x a h = a.0 h
apart_gone (y ∷ xs) ys x a (zero, l, e) = a.0 (let P : ℕ → Type 0 = λ z. Contains (xs ++ x ∷ ys) z in subst P (sym e) (contains_split xs ys x))
apart_gone (y ∷ xs) ys x a (suc k, l, e) = apart_gone xs ys x a.1 (k, le_of_suc-le-suc l, e)

-- ---- products of bounds
product_others : (m : ℕ → ℕ) (xs ys : List ℕ) (x : ℕ) → row_product m (xs ++ x ∷ ys) ≡ m x * row_product m (xs ++ ys)
product_others m [] ys x = refl
product_others m (y ∷ xs) ys x =
    let e : m y * (m x * row_product m (xs ++ ys)) ≡ m x * (m y * row_product m (xs ++ ys)) = omega arith in
    ap (λ z. m y * z) (product_others m xs ys x) ∙ e

length_others : (xs ys : List ℕ) (x : ℕ) → length (xs ++ x ∷ ys) ≡ suc (length (xs ++ ys))
length_others [] ys x = refl
length_others (y ∷ xs) ys x = ap suc (length_others xs ys x)

one_more : (a p q : ℕ) → 1 ≤ a → p ≤ q → p ≤ a * q
one_more a p q h l = let s : 1 * p ≤ a * q = mul-le-mul h l in omega arith

empty_below : (rows : List ℕ) → ((i : ℕ) → Contains rows i → i < 0) → rows ≡ []
empty_below [] b = refl
empty_below (x ∷ rows) b = absurd (let l : x < 0 = b x (0, zero-lt-suc (length rows), refl) in omega arith)

-- rows below q, each once: their product and their number
record AreSmall (m : ℕ → ℕ) (q : ℕ) (rows : List ℕ) : Type 0 where
  product : row_product m rows ≤ product_below m q
  number : length rows ≤ q

are_small : (m : ℕ → ℕ) → ((r : ℕ) → 1 ≤ m r) → (q : ℕ) (rows : List ℕ) → AreApart rows → ((i : ℕ) → Contains rows i → i < q) → AreSmall m q rows
are_small m some zero rows a b =
    subst (AreSmall m 0) (sym (empty_below rows b)) (record { product = omega arith; number = omega arith })
are_small m some (suc n) rows a b =
    elim (contains_cases rows n) [
      | inr out ↦
          let s = are_small m some n rows a (λ i h. elim (cases_eq i n) [
            | inl e ↦ absurd (out (subst (Contains rows) e h))
            | inr ne ↦ (let l : i < suc n = b i h in omega arith)
          ]) in
          record { product = one_more (m n) (row_product m rows) (product_below m n) (some n) s.product; number = omega (arith, s.number) }
      | inl h ↦
          let t = split_rows rows n h in
          let at : AreApart (t.0 ++ n ∷ t.1) = subst AreApart t.2 a in
          let s = are_small m some n (t.0 ++ t.1) (apart_others t.0 t.1 n at)
          (λ i g. elim (cases_eq i n) [
            | inl e ↦ absurd (apart_gone t.0 t.1 n at (subst (Contains (t.0 ++ t.1)) e g))
            | inr ne ↦ (let l : i < suc n = b i (subst (λ (v : List ℕ). Contains v i) (sym t.2) (contains_more t.0 t.1 n i g)) in omega arith)
          ]) in
          let p : m n * row_product m (t.0 ++ t.1) ≤ m n * product_below m n = mul-le-mul (let r : m n ≤ m n = omega arith in r) s.product in
          let P : ℕ → Type 0 = λ z. z ≤ m n * product_below m n in
          record {
            product = subst P (sym (ap (row_product m) t.2 ∙ product_others m t.0 t.1 n)) p;
            number = omega (arith, s.number, ap length t.2, length_others t.0 t.1 n);
          }
    ]

-- ---- half of the permutations, of more places
count_positive : (n : ℕ) → 1 ≤ sign_count n
count_positive zero = omega arith
count_positive (suc zero) = omega arith
count_positive (suc (suc zero)) = omega arith
count_positive (suc (suc (suc n))) = one_more (n + 3) 1 (sign_count (suc (suc n))) (omega arith) (count_positive (suc (suc n)))

count_more : (n : ℕ) → sign_count n ≤ sign_count (suc n)
count_more zero = omega arith
count_more (suc zero) = omega arith
count_more (suc (suc n)) = one_more (n + 3) (sign_count (suc (suc n))) (sign_count (suc (suc n))) (omega arith) (omega arith)

count_upto : (n q : ℕ) → n ≤ q → sign_count n ≤ sign_count q
count_upto n zero l = let e : n ≡ 0 = omega arith in let P : ℕ → Type 0 = λ z. sign_count z ≤ sign_count 0 in subst P (sym e) (omega arith)
count_upto n (suc q) l =
    elim (cases_eq n (suc q)) [
      | inl e ↦ let P : ℕ → Type 0 = λ z. sign_count z ≤ sign_count (suc q) in subst P (sym e) (omega arith)
      | inr ne ↦ omega (arith, count_upto n q (omega arith), count_more q)
    ]

-- ---- so minors in rows below q
pub minor_within : (m : ℕ → ℕ) → ((r : ℕ) → 1 ≤ m r) → (q : ℕ) (cs : List (List ℤ)) → AreFrom m cs → (rows : List ℕ) → AreApart rows → ((i : ℕ) → Contains rows i → i < q) →
    unsigned_abs (minor cs rows) ≤ minor_limit m q
minor_within m some q cs f rows a b =
    let s = are_small m some q rows a b in
    omega (arith, minor_bound m cs f rows, mul-le-mul (count_upto (length rows) q s.number) s.product)

pub from_others : (m : ℕ → ℕ) (before after : List (List ℤ)) (c : List ℤ) → AreFrom m (before ++ c ∷ after) → AreFrom m (before ++ after)
from_others m [] after c f = f.1
from_others m (d ∷ before) after c f = (f.0, from_others m before after c f.1)

module _ (m : ℕ → ℕ) (some : (r : ℕ) → 1 ≤ m r) (q : ℕ) (columns : List (List ℤ)) (short : AllShort q columns) (f : AreFrom m columns) (ind : AreIndependent q columns)
    (used : List ℕ) (u : IsUsed q columns used) (k : ℕ) (kq : k < q) (e : List ℤ) (r : IsTableRow q columns used k e) where
  used_apart : AreApart used
  used_apart =
      let t : HasElimination q columns = elimination_of q columns short ind in
      let o : t.order ≡ used = used_unique q columns t.order used t.is.used_is u in
      subst AreApart o (apart_from t.order (λ i j l n s. t.is.ordered.distinct i j (omega (arith, l, t.is.ordered.one_each)) (omega (arith, n, t.is.ordered.one_each)) s))

  others_below : (rows xs ys : List ℕ) (x : ℕ) → rows ≡ xs ++ x ∷ ys → ((i : ℕ) → Contains rows i → i < q) → (i : ℕ) → Contains (xs ++ ys) i → i < q
  others_below rows xs ys x s b i h = b i (subst (λ (v : List ℕ). Contains v i) (sym s) (contains_more xs ys x i h))

  at_most : (x : ℕ) → unsigned_abs (entry e x) ≤ minor_limit m q
  at_most x =
      elim (contains_cases used k) [
        | inr out ↦ elim (contains_cases (k ∷ used) x) [
          | inr gone ↦ let z : unsigned_abs (entry e x) ≡ 0 = ap unsigned_abs (off_open q columns short ind used u k kq e r out x gone) in omega arith
          | inl h ↦
              let t = split_rows (k ∷ used) x h in
              let a : AreApart (t.0 ++ x ∷ t.1) = subst AreApart t.2 (out, used_apart) in
              omega (
                arith,
                open_bound q columns short ind used u k kq e r out t.0 t.1 x t.2,
                minor_within m some q columns f (t.0 ++ t.1) (apart_others t.0 t.1 x a)
                    (others_below (k ∷ used) t.0 t.1 x t.2 (below_front q k used kq (used_below q columns short ind used u k kq e r))),
              )
        ]
        | inl inside ↦ elim (contains_cases used x) [
          | inr gone ↦ let z : unsigned_abs (entry e x) ≡ 0 = ap unsigned_abs (off_used q columns short ind used u k kq e r inside x gone) in omega arith
          | inl h ↦
              let t = split_rows used x h in
              let a : AreApart (t.0 ++ x ∷ t.1) = subst AreApart t.2 used_apart in
              let p = parts q columns short ind used u k kq e r inside in
              omega (
                arith,
                used_bound q columns short ind used u k kq e r inside t.0 t.1 x t.2,
                minor_within m some q (p.0 ++ p.2) (from_others m p.0 p.2 p.1 (subst (AreFrom m) p.3 f)) (t.0 ++ t.1) (apart_others t.0 t.1 x a)
                    (others_below used t.0 t.1 x t.2 (used_below q columns short ind used u k kq e r)),
              )
        ]
      ]

  pub row_within : Within (minor_limit m q) e
  row_within = Within-from_entries (minor_limit m q) e (λ i l. at_most i)

pub table_fits : (m : ℕ → ℕ) → ((r : ℕ) → 1 ≤ m r) → (q : ℕ) (columns : List (List ℤ)) → AreFrom m (cut q columns) → AreIndependent q (cut q columns) → TableFits (minor_limit m q) q (cut q columns)
table_fits m some q columns f ind used k e u l r = row_within m some q (cut q columns) (cut_short q columns) f ind used u k l e r

-- ---- fewer rows
product_upto : (m : ℕ → ℕ) → ((r : ℕ) → 1 ≤ m r) → (n q : ℕ) → n ≤ q → product_below m n ≤ product_below m q
product_upto m some n zero l = let e : n ≡ 0 = omega arith in let P : ℕ → Type 0 = λ z. product_below m z ≤ product_below m 0 in subst P (sym e) (omega arith)
product_upto m some n (suc q) l =
    elim (cases_eq n (suc q)) [
      | inl e ↦ let P : ℕ → Type 0 = λ z. product_below m z ≤ product_below m (suc q) in subst P (sym e) (omega arith)
      | inr ne ↦ one_more (m q) (product_below m n) (product_below m q) (some q) (product_upto m some n q (omega arith))
    ]

pub limit_upto : (m : ℕ → ℕ) → ((r : ℕ) → 1 ≤ m r) → (n q : ℕ) → n ≤ q → minor_limit m n ≤ minor_limit m q
limit_upto m some n q l = mul-le-mul (count_upto n q l) (product_upto m some n q l)
