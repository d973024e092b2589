-- A row is apart where the first row of its psu is in another stratum, and no earlier row is apart.
use Rattle.std.proofs.Common.{◌≡◌, ℕ, zero, suc, ◌+◌, ◌<◌, ◌≤◌, Bool, true, false, not, ◌&&◌, List, [], length, filter, get_or, Some, None, inl, inr, arith, refl, sym, ap, ◌∙◌}
use Rattle.std.specs.{List.{list_any, range_with_len}, Str.{bytes_eq}}
use Rattle.std.proofs.{lemmas.Bool.{cases_Bool, true≢false, and_from, not_from_false}, lemmas.List.{get_or-map}}
use Rattle.std.proofs.{lemmas.List.Folds.{list_any_at}, lemmas.List.FromFn.{length-range_with_len, get_or-range_with_len}}
use Rattle.std.proofs.{lemmas.List.Sums.{passes_at_first}, lemmas.Slice.Eq.{bytes_eq-Decides}}
use Rattle.smp_design.specs.declared.design.Second as second
use Rattle.smp_frame.specs.declared.frame.Unit as unit
use Rattle.smp_strata.specs.{Clusters.{clusters, in_psu, psu_names, first_row}, Rows.{rows_of, psu_at, stratum_at}}
use Rattle.smp_strata.specs.{Misfits.{first_apart, is_apart, when}, declared.misfit.Misfit.TheVariants.{UnitInTwo}}
use Rattle.smp_strata.proofs.{Founds.{none_at, when_false}, Appearances.{same_text}, ClusterRows.{psu_within, number_at, not_empty}}
use Rattle.smp_strata.specs.Kept.Layouts.{psu_number, homes_of}
use Rattle.smp_strata.proofs.TextPlaces.{itself}

-- the first element of a filtered range
first_passes : (p : ℕ → Bool) (a n row : ℕ) → a ≤ row → row < a + n → p row ≡ true
    → (p (get_or (filter p (range_with_len a n)) 0 0) ≡ true) × (get_or (filter p (range_with_len a n)) 0 0 ≤ row)
first_passes p a zero row l u e = absurd (omega (arith, l, u))
first_passes p a (suc n) row l u e =
    elim (cases_Bool (p a)) [
      | inl t ↦ rw t (t, l)
      | inr f ↦ rw f (first_passes p (a + 1) n row (omega (arith, l, differs f)) (omega (arith, u)) e)
    ]
  where
    differs : p a ≡ false → a ≡ row → ⊥
    differs f same = true≢false (sym e ∙ ap p (sym same) ∙ f)

none_any : (p : ℕ → Bool) (a n : ℕ) → ((k : ℕ) → a ≤ k → k < a + n → p k ≡ false) → list_any p (range_with_len a n) ≡ false
none_any p a zero h = refl
none_any p a (suc n) h = rw (h a (omega arith) (omega arith)) (none_any p (a + 1) n (λ k l u. h k (omega (arith, l)) (omega (arith, u))))

module _ (units : List unit.Unit) where
  -- the first row of the psu of a row
  abbrev pub first_of : ℕ → ℕ
  first_of row = first_row (in_psu units (psu_at units row))

  pub first_is : (row : ℕ) → row < length units → (psu_at units (first_of row) ≡ psu_at units row) × (first_of row ≤ row)
  first_is row l =
      let h = first_passes (λ r. bytes_eq (psu_at units r) (psu_at units row)) 0 (length units) row (omega arith) (omega (arith, l)) (itself (psu_at units row)) in
      (same_text (psu_at units (first_of row)) (psu_at units row) h.0, h.1)

  pub home_is : (second : second.Second) (row : ℕ) (d : List ℕ) → row < length units
      → get_or (clusters (Some second) units) (get_or (homes_of (Some second) units) row 0) d ≡ in_psu units (psu_at units row)
  home_is second row d l =
      let within : psu_number units row < length (psu_names units) = psu_within units row l in
      rw (number_at units (psu_number units) row l)
      (get_or-map (in_psu units) (psu_names units) (psu_number units row) [] d within
      ∙ ap (in_psu units) (sym (same_text (psu_at units row) (get_or (psu_names units) (psu_number units row) []) (passes_at_first (bytes_eq (psu_at units row)) (psu_names units) [] within))))

  -- the first row of the psu of a row, as it is looked up
  pub first_there : (second : second.Second) {clustered : List (List ℕ)} {homes : List ℕ} → clustered ≡ clusters (Some second) units → homes ≡ homes_of (Some second) units
      → (row : ℕ) → row < length units → {first : ℕ} → first ≡ first_row (get_or clustered (get_or homes row 0) []) → first ≡ first_of row
  first_there second rows homes row l is = is ∙ rw (rows, homes, home_is second row [] l) refl

  pub some_in : (row : ℕ) → row < length units → 1 ≤ length (in_psu units (psu_at units row))
  some_in row l =
      let p : ℕ → Bool = λ r. bytes_eq (psu_at units r) (psu_at units row) in
      not_empty p (rows_of units) (list_any_at p (rows_of units) row 0 (omega (arith, l, length-range_with_len 0 (length units)))
      (ap p (get_or-range_with_len 0 (length units) row 0 l ∙ omega arith) ∙ itself (psu_at units row)))

  abbrev apart_from : ℕ → ℕ → Bool
  apart_from row earlier = bytes_eq (psu_at units earlier) (psu_at units row) && not (bytes_eq (stratum_at units earlier) (stratum_at units row))

  -- where its psu began in another stratum, a row is apart
  pub apart_other : (row : ℕ) → row < length units → bytes_eq (stratum_at units (first_of row)) (stratum_at units row) ≡ false → is_apart units row ≡ true
  apart_other row l other =
      let first = first_is row l in
      let before : first_of row < row = omega (arith, first.1, λ (e : first_of row ≡ row). true≢false (sym ((bytes_eq-Decides (stratum_at units (first_of row)) (stratum_at units row)).1 (ap (stratum_at units) e)) ∙ other)) in
      list_any_at (apart_from row) (range_with_len 0 row) (first_of row) 0 (omega (arith, before, length-range_with_len 0 row))
      (ap (apart_from row) (get_or-range_with_len 0 row (first_of row) 0 before ∙ omega arith)
      ∙ and_from _ _ ((bytes_eq-Decides (psu_at units (first_of row)) (psu_at units row)).1 first.0) (not_from_false _ other))

  pub apart_is : (row : ℕ) → row < length units → ((earlier : ℕ) → earlier < row → stratum_at units (first_of earlier) ≡ stratum_at units earlier)
      → is_apart units row ≡ not (bytes_eq (stratum_at units (first_of row)) (stratum_at units row))
  apart_is row l together =
      elim (cases_Bool (bytes_eq (stratum_at units (first_of row)) (stratum_at units row))) [
        | inl same ↦ none_any (apart_from row) 0 row (λ k m u. elim (cases_Bool (bytes_eq (psu_at units k) (psu_at units row))) [
          | inr f ↦ rw f refl
          | inl e ↦ (let psu : psu_at units k ≡ psu_at units row = same_text (psu_at units k) (psu_at units row) e in
              let strata : stratum_at units k ≡ stratum_at units row =
              sym (together k (omega (arith, u))) ∙ ap (λ name. stratum_at units (first_row (in_psu units name))) psu ∙ same_text (stratum_at units (first_of row)) (stratum_at units row) same in
              rw (e, (bytes_eq-Decides (stratum_at units k) (stratum_at units row)).1 strata) refl)
        ]) ∙ rw same refl
        | inr other ↦ apart_other row l other ∙ rw other refl
      ]

  -- where none is, each row is in the stratum in which its psu began
  pub together : first_apart units ≡ None → (row : ℕ) → row < length units → stratum_at units (first_of row) ≡ stratum_at units row
  together none row l =
      elim (cases_Bool (bytes_eq (stratum_at units (first_of row)) (stratum_at units row))) [
        | inl same ↦ same_text (stratum_at units (first_of row)) (stratum_at units row) same
        | inr other ↦ absurd (true≢false (sym (apart_other row l other)
            ∙ when_false (is_apart units row) (UnitInTwo (psu_at units row)) (none_at (λ r. when (is_apart units r) (UnitInTwo (psu_at units r))) (length units) none row l)))
      ]
