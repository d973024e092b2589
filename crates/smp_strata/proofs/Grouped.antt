-- One more place is put into its group.
use Rattle.std.proofs.Common.{◌≡◌, ℕ, ◌+◌, ◌<◌, cond, nat_eq, List, [], ◌∷◌, ◌++◌, length, map, filter, get_or, set, Some, inl, inr, arith, refl, sym, ap, ◌∙◌}
use Rattle.std.specs.{Prelude.{slice_get}, List.{range_with_len}}
use Rattle.std.proofs.{lemmas.Bool.{cases_eq, eq-eqb, ne_eqb}, lemmas.List.Elements.{filter-append}}
use Rattle.std.proofs.lemmas.List.{append-nil, ext_get_or, get_or-set_same, get_or-set_other, length-set, get_or_push, get_or_append_left, length-append}
use Rattle.std.proofs.lemmas.List.FromFn.{get_or-map-range_with_len, length-map-range_with_len}
use Rattle.std.proofs.lemmas.Option.{slice_get_within, slice_get-get_or, get_or_from_slice_get}
use Rattle.smp_strata.specs.Kept.Groups.{places_below, AreAmong}
use Rattle.smp_strata.proofs.Ranges.{range_more}

-- one entry of a list of so many is written anew
pub put_by : {X : Type 0} (f g : ℕ → X) (count number : ℕ) (d x : X) (xs : List X) → number < count → xs ≡ map f (range_with_len 0 count)
    → x ≡ g number → ((k : ℕ) → (k ≡ number → ⊥) → f k ≡ g k) → set xs number x ≡ map g (range_with_len 0 count)
put_by f g count number d x xs within are here others =
    let long : length xs ≡ count = ap length are ∙ length-map-range_with_len f 0 count in
    ext_get_or d _ _ (length-set xs number x ∙ long ∙ sym (length-map-range_with_len g 0 count))
    (λ k l. elim (cases_eq k number) [
      | inl e ↦ rw e (get_or-set_same xs number x d (omega (arith, within, long)) ∙ here
          ∙ sym (get_or-map-range_with_len g 0 count number number d within (omega arith)))
      | inr other ↦ (let inside : k < count = omega (arith, l, length-set xs number x, long) in
          get_or-set_other xs number k x d other ∙ ap (λ ys. get_or ys k d) are ∙ get_or-map-range_with_len f 0 count k k d inside (omega arith)
          ∙ others k other ∙ sym (get_or-map-range_with_len g 0 count k k d inside (omega arith)))
    ])

module _ (numbers : List ℕ) where
  pub below_more : (i k : ℕ) → places_below numbers (i + 1) k ≡ places_below numbers i k ++ cond (nat_eq (get_or numbers i 0) k) (i ∷ []) []
  below_more i k =
      ap (filter (λ p. nat_eq (get_or numbers p 0) k)) (range_more i)
      ∙ filter-append (λ p. nat_eq (get_or numbers p 0) k) (range_with_len 0 i) (i ∷ [])

  pub same_group : (i k : ℕ) → get_or numbers i 0 ≡ k → places_below numbers (i + 1) k ≡ places_below numbers i k ++ i ∷ []
  same_group i k e = below_more i k ∙ ap (λ b. places_below numbers i k ++ cond b (i ∷ []) []) (eq-eqb _ k e)

  pub other_group : (i k : ℕ) → (get_or numbers i 0 ≡ k → ⊥) → places_below numbers (i + 1) k ≡ places_below numbers i k
  other_group i k d = below_more i k ∙ ap (λ b. places_below numbers i k ++ cond b (i ∷ []) []) (ne_eqb _ k d) ∙ append-nil (places_below numbers i k)

  pub group_at : (i count k : ℕ) (groups : List (List ℕ)) → k < count → groups ≡ map (places_below numbers i) (range_with_len 0 count) → get_or groups k [] ≡ places_below numbers i k
  group_at i count k groups l groups_are = ap (λ gs. get_or gs k []) groups_are ∙ get_or-map-range_with_len (places_below numbers i) 0 count k k [] l (omega arith)

  pub put : (i count number : ℕ) (groups : List (List ℕ)) → number ≡ get_or numbers i 0 → number < count
      → groups ≡ map (places_below numbers i) (range_with_len 0 count)
      → set groups number (get_or groups number [] ++ i ∷ []) ≡ map (places_below numbers (i + 1)) (range_with_len 0 count)
  put i count number groups is within groups_are =
      put_by (places_below numbers i) (places_below numbers (i + 1)) count number [] _ groups within groups_are
      (ap (λ g. g ++ i ∷ []) (group_at i count number groups within groups_are) ∙ sym (same_group i number (sym is)))
      (λ k d. sym (other_group i k (λ e. d (sym e ∙ sym is))))

  get_front : (xs ys : List ℕ) (i x : ℕ) → slice_get xs i ≡ Some x → slice_get (xs ++ ys) i ≡ Some x
  get_front xs ys i x e =
      let within : i < length xs = slice_get_within xs i x e in
      slice_get-get_or (xs ++ ys) i 0 (omega (arith, within, length-append xs ys))
      ∙ ap Some (get_or_append_left xs ys 0 i within ∙ get_or_from_slice_get xs i x 0 e)

  get_last : (xs : List ℕ) (x : ℕ) → slice_get (xs ++ x ∷ []) (length xs) ≡ Some x
  get_last [] x = refl
  get_last (y ∷ xs) x = get_last xs x

  pub put_among : (i number : ℕ) (among : List ℕ) (last : ℕ) → number ≡ get_or numbers i 0 → AreAmong numbers i among → length among ≡ i
      → last ≡ length (places_below numbers i number) → AreAmong numbers (i + 1) (among ++ last ∷ [])
  put_among i number among last is before paired last_is place l =
      elim (cases_eq place i) [
        | inl e ↦ rw (e, get_or_push among last 0 i paired) (rw (← is, same_group i number (sym is), last_is) (get_last (places_below numbers i number) i))
        | inr d ↦ (let here : place < i = omega (arith, l, d) in
            rw (get_or_append_left among (last ∷ []) 0 place (omega (arith, here, paired)), below_more i (get_or numbers place 0))
            (get_front (places_below numbers i (get_or numbers place 0)) _ _ place (before place here)))
      ]
