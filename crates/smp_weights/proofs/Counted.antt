-- The units whose terms a total counts, from a place on.
use Rattle.std.proofs.Common.{◌≡◌, ℕ, ◌+◌, ◌<◌, Bool, true, false, List, ◌∷◌, length, drop, filter, get_or, ℤ, pos, refl, arith, inl, inr}
use Rattle.std.proofs.lemmas.Bool.{cases_Bool}
use Rattle.smp_frac.specs.declared.fractions.Frac.{Frac}
use Rattle.smp_weights.specs.{Chosen.{Chosen, chosen_units}, Totals.{has_sign, zero}}
use Rattle.smp_weights.proofs.Chosen.{chosen_units-taken, chosen_units-skipped}

module _ (minus : Bool) (values : List ℤ) (asked : List Frac) (chosen : List Bool) (i : ℕ) (within : i < length values) (same : length asked ≡ length values) (alike : length chosen ≡ length values) where
  abbrev pub value_at : ℤ
  value_at = get_or values i (pos 0)

  abbrev pub counted_from : ℕ → List (Chosen ℤ)
  counted_from j = filter (λ u. has_sign minus u.value) (chosen_units (drop j values) (drop j asked) (drop j chosen))

  pub counted : (p : Frac) → p ≡ get_or asked i p → get_or chosen i false ≡ true → has_sign minus value_at ≡ true → counted_from i ≡ record { value = value_at; asked = p } ∷ counted_from (i + 1)
  counted p prob taken sign =
      rw (chosen_units-taken values asked chosen i (pos 0) p false within (omega arith) (omega arith) taken, sign, ← prob) refl

  pub left_out : (get_or chosen i false ≡ true → has_sign minus value_at ≡ false) → counted_from i ≡ counted_from (i + 1)
  left_out sign =
      elim (cases_Bool (get_or chosen i false)) [
        | inl taken ↦ rw (chosen_units-taken values asked chosen i (pos 0) zero false within (omega arith) (omega arith) taken, sign taken) refl
        | inr skipped ↦ rw (chosen_units-skipped values asked chosen i (pos 0) zero false within (omega arith) (omega arith) skipped) refl
      ]
