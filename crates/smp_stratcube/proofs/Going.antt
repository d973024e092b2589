-- The units of a line are written one by one.
use Rattle.std.proofs.Common.{◌≡◌, ◌≢◌, ℕ, zero, suc, ◌+◌, ◌<◌, ◌≤◌, cond, nat_eq, List, [], ◌∷◌, ℤ, pos, take, length, get_or, set, arith, inl, inr, refl, sym, ap, ◌∙◌, subst, suc-le-suc, le_of_suc-le-suc, length-take, get_or-take}
use Rattle.std.specs.List.{AllPairs}
use Rattle.std.proofs.{lemmas.Bool.{cases_eq, eq-eqb, ne_eqb}, lemmas.List.{get_or-set_same, get_or-set_other}}
use Rattle.smp_kernel.specs.Vectors.{entry}
use Rattle.smp_moves.specs.{declared.reaches.Reach.{Reach}, Moves.{entry_at, entry_of}, Answers.{line_of}}
use Rattle.smp_moves.specs.declared.lines.Line.{Line as LineOfPlaces}
use Rattle.smp_moves.proofs.Entries.{entry_at_place}
use Rattle.smp_stratcube.specs.{declared.values.Value.{Value}, Values.{nothing, value}, Kept.Computed.{moved_value}}

-- the entries of the first units with one more, at another unit
entry_other : (us : List ℕ) (es : List ℤ) (j k : ℕ) → j < length us → j < length es → get_or us j 0 ≢ k → entry_at (take (j + 1) us) (take (j + 1) es) k ≡ entry_at (take j us) (take j es) k
entry_other [] es j k l m ne = absurd (omega arith)
entry_other (u ∷ us) [] j k l m ne = absurd (omega arith)
entry_other (u ∷ us) (e ∷ es) zero k l m ne = rw (ne_eqb u k ne) refl
entry_other (u ∷ us) (e ∷ es) (suc j) k l m ne =
    let s : suc j + 1 ≡ suc (j + 1) = omega arith in
    rw s (ap (λ (z : ℤ). cond (nat_eq u k) e z) (entry_other us es j k (le_of_suc-le-suc l) (le_of_suc-le-suc m) ne))

-- at this one, which isn't met before
entry_here : (us : List ℕ) (es : List ℤ) (j : ℕ) → j < length us → j < length es → ((i : ℕ) → i < j → get_or us i 0 ≢ get_or us j 0) → (entry_at (take j us) (take j es) (get_or us j 0) ≡ pos 0) × (entry_at (take (j + 1) us) (take (j + 1) es) (get_or us j 0) ≡ entry es j)
entry_here [] es j l m far = absurd (omega arith)
entry_here (u ∷ us) [] j l m far = absurd (omega arith)
entry_here (u ∷ us) (e ∷ es) zero l m far = (refl, rw (eq-eqb u u refl) refl)
entry_here (u ∷ us) (e ∷ es) (suc j) l m far =
    let s : suc j + 1 ≡ suc (j + 1) = omega arith in
    let both = entry_here us es j (le_of_suc-le-suc l) (le_of_suc-le-suc m) (λ i k. far (suc i) (suc-le-suc k)) in
    let ne : u ≢ get_or us j 0 = far 0 (omega arith) in
    (rw (ne_eqb u (get_or us j 0) ne) both.0, rw (s, ne_eqb u (get_or us j 0) ne) both.1)

module _ (n : ℕ) (us : List ℕ) (es : List ℤ) (lu : n ≤ length us) (le : n ≤ length es) (apart : AllPairs (λ k l. k ≢ l) (take n us)) (j : ℕ) (l : j < n) (den : ℕ) (r : Reach) (now old : List Value) where
  abbrev unit : ℕ
  unit = get_or us j 0

  here : (entry_at (take j us) (take j es) (get_or us j 0) ≡ pos 0) × (entry_at (take (j + 1) us) (take (j + 1) es) (get_or us j 0) ≡ entry es j)
  here = entry_here us es j (omega (arith, l, lu)) (omega (arith, l, le))
      (λ i k e. apart i j 0 k (omega (arith, l, lu, length-take n us)) (get_or-take n us i 0 (omega (arith, k, l)) ∙ e ∙ sym (get_or-take n us j 0 l)))

  module _ (so_far : (k : ℕ) → k < length old → value now k ≡ moved_value (value old k) den r (entry_at (take j us) (take j es) k)) (inside : get_or us j 0 < length old) where
    -- a unit that isn't written yet is as it was
    pub still_there : value now (get_or us j 0) ≡ value old (get_or us j 0)
    still_there = so_far unit inside ∙ ap (moved_value (value old unit) den r) here.0

    pub gone_further : get_or us j 0 < length now → (k : ℕ) → k < length old →
        value (set now (get_or us j 0) (moved_value (value now (get_or us j 0)) den r (entry es j))) k ≡ moved_value (value old k) den r (entry_at (take (j + 1) us) (take (j + 1) es) k)
    gone_further within k b =
        let written : Value = moved_value (value now unit) den r (entry es j) in
        elim (cases_eq unit k) [
          | inr ne ↦
              get_or-set_other now unit k written nothing (λ e. ne (sym e)) ∙ so_far k b
              ∙ ap (moved_value (value old k) den r) (sym (entry_other us es j k (omega (arith, l, lu)) (omega (arith, l, le)) ne))
          | inl e ↦
              subst (λ (i : ℕ). value (set now unit written) i ≡ moved_value (value old i) den r (entry_at (take (j + 1) us) (take (j + 1) es) i)) e
              (get_or-set_same now unit written nothing within ∙ ap (λ (v : Value). moved_value v den r (entry es j)) still_there
              ∙ ap (moved_value (value old unit) den r) (sym here.1))
        ]

-- the entry at a unit of a line
pub entry_on : (line : LineOfPlaces) → line.number ≤ length line.units → line.number ≤ length line.entries → AllPairs (λ k l. k ≢ l) (take line.number line.units) → (j : ℕ) → j < line.number → entry_of (line_of line) (get_or line.units j 0) ≡ entry line.entries j
entry_on line lu le apart j l =
    let us : List ℕ = take line.number line.units in
    let es : List ℤ = take line.number line.entries in
    ap (entry_at us es) (sym (get_or-take line.number line.units j 0 l))
    ∙ entry_at_place us es j (omega (arith, l, lu, length-take line.number line.units)) (omega (arith, lu, le, length-take line.number line.units, length-take line.number line.entries)) apart
    ∙ get_or-take line.number line.entries j (pos 0) l
