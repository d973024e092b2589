-- Where minors are within the gate, no search is too wide.
use Rattle.std.proofs.Common.{◌≡◌, ℕ, zero, suc, ◌+◌, ◌<◌, ◌≤◌, List, [], ◌∷◌, ◌++◌, ℤ, length, take, get_or, arith, sym, subst, inl, inr, le_of_suc-le-suc}
use Rattle.std.proofs.lemmas.List.{get_or-map, length-map, take-map, take_more}
use Rattle.smp_frac.specs.Limits.{most_entry}
use Rattle.smp_kernel.proofs.{Limits.{entry_within, Within-from_entries}, Independence.{push_independent}, Existence.{has_circuit}}
use Rattle.smp_kernel.proofs.{SearchLaw.{together}, TableSizes.{table_fits}, CircuitSizes.{circuits_within}}
use Rattle.smp_kernel.specs.{Vectors.{Within}, RowReduction.{cut, AreIndependent, IsCircuit, IsDependent, TableFits}, Answers.{Closes}}
use Rattle.smp_kernel.specs.{Searches.{IsFound, IsTooWide}, Minors.{IsFrom, AreFrom, minor_limit}}

more_within : (a b : ℕ) → a ≤ b → (v : List ℤ) → Within a v → Within b v
more_within a b h v w = Within-from_entries b v (λ i l. omega (arith, h, entry_within a v w i))

from_front : (m : ℕ → ℕ) (n : ℕ) (cs : List (List ℤ)) → AreFrom m cs → AreFrom m (take n cs)
from_front m zero cs f = tt
from_front m (suc n) [] f = tt
from_front m (suc n) (c ∷ cs) f = (f.0, from_front m n cs f.1)

from_at : (m : ℕ → ℕ) (cs : List (List ℤ)) (n : ℕ) → n < length cs → AreFrom m cs → IsFrom m (get_or cs n [])
from_at m [] n l f = absurd (omega arith)
from_at m (c ∷ cs) zero l f = f.0
from_at m (c ∷ cs) (suc n) l f = from_at m cs n (le_of_suc-le-suc l) f.1

module _ (m : ℕ → ℕ) (some : (r : ℕ) → 1 ≤ m r) (q : ℕ) (columns : List (List ℤ)) (f : AreFrom m (cut q columns)) (fits : minor_limit m q ≤ most_entry) where
  fronts : (n : ℕ) → take n (cut q columns) ≡ cut q (take n columns)
  fronts n = take-map (take q) n columns

  front_from : (n : ℕ) → AreFrom m (cut q (take n columns))
  front_from n = subst (AreFrom m) (fronts n) (from_front m n (cut q columns) f)

  table_at : (n : ℕ) → AreIndependent q (take n (cut q columns)) → TableFits most_entry q (take n (cut q columns))
  table_at n ind =
      subst (TableFits most_entry q) (sym (fronts n))
      (λ used k e u l r. more_within (minor_limit m q) most_entry fits e
      (table_fits m some q (take n columns) (front_from n) (subst (AreIndependent q) (fronts n) ind) used k e u l r))

  closes_at : (n : ℕ) → n < length columns → AreIndependent q (take n (cut q columns)) → IsDependent q (take n (cut q columns)) (get_or (cut q columns) n []) →
      (w : List ℤ) × (last : ℤ) × Closes q (take n (cut q columns)) (get_or (cut q columns) n []) w last
  closes_at n l ind d =
      let at : get_or (cut q columns) n [] ≡ take q (get_or columns n []) = get_or-map (take q) columns n [] [] l in
      let here : AreIndependent q (cut q (take n columns)) = subst (AreIndependent q) (fronts n) ind in
      let c = has_circuit q (take n columns) (get_or columns n []) here
      (subst (IsDependent q (cut q (take n columns))) at (subst (λ (cs : List (List ℤ)). IsDependent q cs (get_or (cut q columns) n [])) (fronts n) d)) in
      let from : IsFrom m (take q (get_or columns n [])) = subst (IsFrom m) at (from_at m (cut q columns) n (omega (arith, l, length-map columns (take q))) f) in
      let closes : Closes q (cut q (take n columns)) (take q (get_or columns n [])) c.0 c.1 = record {
        circuit = c.2;
        fits = more_within (minor_limit m q) most_entry fits (c.0 ++ c.1 ∷ []) (circuits_within m some q (take n columns) (get_or columns n []) (front_from n) from here c.0 c.1 c.2);
      } in (
        c.0,
        c.1,
        subst (λ (cs : List (List ℤ)). Closes q cs (get_or (cut q columns) n []) c.0 c.1) (sym (fronts n))
            (subst (λ (v : List ℤ). Closes q (cut q (take n columns)) v c.0 c.1) (sym at) closes),
      )

  pub not_too_wide : IsTooWide q (cut q columns) → ⊥
  not_too_wide t =
      let n : ℕ = t.number in
      let within : t.number < length columns = omega (arith, t.more, length-map columns (take q)) in
      let ind : AreIndependent q (take t.number (cut q columns)) = together q (cut q columns) t.number t.enter t.number (omega arith) in
      elim t.passes [
        | inl p ↦
            let more : take (t.number + 1) (cut q columns) ≡ take t.number (cut q columns) ++ get_or (cut q columns) t.number [] ∷ [] = take_more (cut q columns) t.number [] t.more in
            p.1 (subst (TableFits most_entry q) more
            (table_at (t.number + 1) (subst (AreIndependent q) (sym more) (push_independent q (take t.number (cut q columns)) (get_or (cut q columns) t.number []) ind p.0))))
        | inr p ↦ let c = closes_at t.number within ind p.0 in p.1 c.0 c.1 c.2
      ]

  pub found_within : (w : List ℤ) → IsFound q (cut q columns) w → Within (minor_limit m q) w
  found_within w g =
      let at : get_or (cut q columns) g.number [] ≡ take q (get_or columns g.number []) = get_or-map (take q) columns g.number [] [] (omega (arith, g.more, length-map columns (take q))) in
      let ind : AreIndependent q (take g.number (cut q columns)) = together q (cut q columns) g.number g.enter g.number (omega arith) in
      let here : IsCircuit q (cut q (take g.number columns)) (take q (get_or columns g.number [])) g.before g.last =
      subst (λ (v : List ℤ). IsCircuit q (cut q (take g.number columns)) v g.before g.last) at
      (subst (λ (cs : List (List ℤ)). IsCircuit q cs (get_or (cut q columns) g.number []) g.before g.last) (fronts g.number) g.closes.circuit) in
      subst (Within (minor_limit m q)) (sym g.is)
      (circuits_within m some q (take g.number columns) (get_or columns g.number []) (front_from g.number)
      (subst (IsFrom m) at (from_at m (cut q columns) g.number g.more f)) (subst (AreIndependent q) (fronts g.number) ind) g.before g.last here)
