-- The distinct ones of some texts: each once, each text among them, and each of them among the texts.
use Rattle.std.proofs.Common.{◌≡◌, ℕ, zero, suc, ◌<◌, Bool, true, false, not, nat_eq, List, [], ◌∷◌, length, filter, get_or, inl, inr, arith, refl, sym, ap, ◌∙◌}
use Rattle.std.specs.{Prelude.{AllPairs}, List.{list_any, range_with_len, position_or_len}, Str.{bytes_eq}}
use Rattle.std.proofs.{lemmas.Bool.{cases_Bool, cases_order, eq-eqb, ne_eqb, not-true, true≢false}, lemmas.List.Kept.{AllPairs-filter}}
use Rattle.std.proofs.{lemmas.List.Elements.{filter_passes, All-get_or}, lemmas.List.Sums.{passes_at_first}}
use Rattle.smp_strata.specs.{Appearances.{distinct}, Kept.Groups.{places_of}}
use Rattle.smp_strata.proofs.{Appearances.{same_text}, Ranges.{filter_range_ext}}
use Rattle.std.proofs.lemmas.Slice.Eq.{bytes_eq-Decides}

pub itself : (text : List ℕ) → bytes_eq text text ≡ true
itself text = (bytes_eq-Decides text text).1 refl

-- two texts are apart
abbrev Differ : List ℕ → List ℕ → Type 0
Differ a b = bytes_eq a b ≡ false

pairs_cons : (t : List ℕ) (ts : List (List ℕ)) → ((k : ℕ) → k < length ts → Differ t (get_or ts k [])) → AllPairs Differ ts → AllPairs Differ (t ∷ ts)
pairs_cons t ts first rest zero zero d l u = absurd (omega (arith, l))
pairs_cons t ts first rest zero (suc j) d l u =
    rw (get_or_default ts j d [] (omega (arith, u))) (first j (omega (arith, u)))
  where
    get_or_default : (xs : List (List ℕ)) (i : ℕ) (d e : List ℕ) → i < length xs → get_or xs i d ≡ get_or xs i e
    get_or_default [] i d e l = absurd (omega (arith, l))
    get_or_default (x ∷ xs) zero d e l = refl
    get_or_default (x ∷ xs) (suc i) d e l = get_or_default xs i d e (omega (arith, l))
pairs_cons t ts first rest (suc i) zero d l u = absurd (omega (arith, l))
pairs_cons t ts first rest (suc i) (suc j) d l u = rest i j d (omega (arith, l)) (omega (arith, u))

distinct_pairs : (ts : List (List ℕ)) → AllPairs Differ (distinct ts)
distinct_pairs [] i j d l u = absurd (omega (arith, u))
distinct_pairs (t ∷ ts) i j d l u =
    pairs_cons t (filter (λ other. not (bytes_eq t other)) (distinct ts))
    (λ k l. not-true _ (All-get_or (λ x. not (bytes_eq t x) ≡ true) _ k [] l (filter_passes (λ other. not (bytes_eq t other)) (distinct ts))))
    (AllPairs-filter Differ (λ other. not (bytes_eq t other)) (distinct ts) (distinct_pairs ts))
    i j d l u

-- each once
pub once : (ts : List (List ℕ)) (j k : ℕ) → j < length (distinct ts) → k < length (distinct ts) → get_or (distinct ts) j [] ≡ get_or (distinct ts) k [] → j ≡ k
once ts j k l u e =
    elim (cases_order j k) [
      | inl same ↦ same
      | inr apart ↦ elim apart [
        | inl less ↦ absurd (true≢false (sym ((bytes_eq-Decides _ _).1 e) ∙ distinct_pairs ts j k [] less u))
        | inr more ↦ absurd (true≢false (sym ((bytes_eq-Decides _ _).1 (sym e)) ∙ distinct_pairs ts k j [] more l))
      ]
    ]

any_filter : (p q : List ℕ → Bool) → ((y : List ℕ) → p y ≡ true → q y ≡ true) → (xs : List (List ℕ)) → list_any p xs ≡ true → list_any p (filter q xs) ≡ true
any_filter p q h [] e = e
any_filter p q h (x ∷ xs) e =
    elim (cases_Bool (p x)) [
      | inl t ↦ rw (h x t) (rw t refl)
      | inr f ↦ (let rest : list_any p (filter q xs) ≡ true = any_filter p q h xs (rw f at e) in
          elim (cases_Bool (q x)) [
            | inl t ↦ rw t (rw f rest)
            | inr g ↦ rw g rest
          ])
    ]

-- each text is among them
among : (ts : List (List ℕ)) (i : ℕ) → i < length ts → list_any (bytes_eq (get_or ts i [])) (distinct ts) ≡ true
among [] i l = absurd (omega (arith, l))
among (t ∷ ts) zero l = rw (itself t) refl
among (t ∷ ts) (suc i) l =
    let x : List ℕ = get_or ts i [] in
    elim (cases_Bool (bytes_eq x t)) [
      | inl e ↦ rw e refl
      | inr f ↦ rw f (any_filter (bytes_eq x) (λ other. not (bytes_eq t other))
          (λ y e. elim (cases_Bool (bytes_eq t y)) [
            | inl g ↦ absurd (true≢false (sym ((bytes_eq-Decides x t).1 (same_text x y e ∙ sym (same_text t y g))) ∙ f))
            | inr g ↦ rw g refl
          ]) (distinct ts) (among ts i (omega (arith, l))))
    ]

pub any_within : {A : Type 0} (p : A → Bool) (xs : List A) → list_any p xs ≡ true → position_or_len p xs < length xs
any_within p [] e = absurd (true≢false (sym e))
any_within p (x ∷ xs) e =
    elim (cases_Bool (p x)) [
      | inl t ↦ rw t (omega arith)
      | inr f ↦ rw f (omega (arith, any_within p xs (rw f at e)))
    ]

pub there : (ts : List (List ℕ)) (i : ℕ) → i < length ts → position_or_len (bytes_eq (get_or ts i [])) (distinct ts) < length (distinct ts)
there ts i l = any_within (bytes_eq (get_or ts i [])) (distinct ts) (among ts i l)

-- each of them is among the texts
any_kept : (p q : List ℕ → Bool) (xs : List (List ℕ)) → list_any p (filter q xs) ≡ true → list_any p xs ≡ true
any_kept p q [] e = e
any_kept p q (x ∷ xs) e =
    elim (cases_Bool (p x)) [
      | inl t ↦ rw t refl
      | inr f ↦ rw f (any_kept p q xs (elim (cases_Bool (q x)) [
        | inl t ↦ rw (t, f) at e
        | inr g ↦ rw g at e
      ]))
    ]

pub any_distinct : (p : List ℕ → Bool) (ts : List (List ℕ)) → list_any p (distinct ts) ≡ true → list_any p ts ≡ true
any_distinct p [] e = e
any_distinct p (t ∷ ts) e =
    elim (cases_Bool (p t)) [
      | inl h ↦ rw h refl
      | inr f ↦ rw f (any_distinct p ts (any_kept p (λ other. not (bytes_eq t other)) (distinct ts) (rw f at e)))
    ]

-- ---- the number of a text

module _ (names : List (List ℕ)) (apart : (j k : ℕ) → j < length names → k < length names → get_or names j [] ≡ get_or names k [] → j ≡ k) where
  -- it is the one place where the text stands
  pub same_test : (x : List ℕ) (k : ℕ) → position_or_len (bytes_eq x) names < length names → k < length names
      → nat_eq (position_or_len (bytes_eq x) names) k ≡ bytes_eq x (get_or names k [])
  same_test x k within here =
      let found : x ≡ get_or names (position_or_len (bytes_eq x) names) [] = same_text x _ (passes_at_first (bytes_eq x) names [] within) in
      elim (cases_Bool (bytes_eq x (get_or names k []))) [
        | inl e ↦ eq-eqb _ k (apart _ k within here (sym found ∙ same_text x _ e)) ∙ sym e
        | inr f ↦ ne_eqb _ k (λ same. true≢false (sym ((bytes_eq-Decides x (get_or names k [])).1 (found ∙ ap (λ j. get_or names j []) same)) ∙ f)) ∙ sym f
      ]

  -- the places of the texts that have each name, by the numbers of the texts
  pub places_by_name : (ts : List (List ℕ)) (numbers : List ℕ) → length numbers ≡ length ts
      → ((i : ℕ) → i < length ts → get_or numbers i 0 ≡ position_or_len (bytes_eq (get_or ts i [])) names)
      → ((i : ℕ) → i < length ts → position_or_len (bytes_eq (get_or ts i [])) names < length names)
      → (k : ℕ) → k < length names → places_of numbers k ≡ filter (λ i. bytes_eq (get_or ts i []) (get_or names k [])) (range_with_len 0 (length ts))
  places_by_name ts numbers paired number within k here =
      rw paired (filter_range_ext (λ i. nat_eq (get_or numbers i 0) k) (λ i. bytes_eq (get_or ts i []) (get_or names k [])) 0 (length ts)
      (λ i l u. ap (λ j. nat_eq j k) (number i (omega (arith, u))) ∙ same_test (get_or ts i []) k (within i (omega (arith, u))) here))
