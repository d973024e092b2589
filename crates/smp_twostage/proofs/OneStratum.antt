-- A row over one stratum alone is the row of the stratum.
use Rattle.std.proofs.{Common.{◌≡◌, ℕ, zero, suc, ◌+◌, ◌-◌, Bool, false, [], ◌∷◌, arith, ap, sym, subst}, lemmas.Bool.{le-ltb}}
use Rattle.std.specs.Prelude.{if◌then◌else◌, nat_lt}
use Rattle.std.proofs.Math.Path.{fun_ext}
use Rattle.smp_frac.specs.Fractions.{Fraction, Same}
use Rattle.smp_frac.proofs.Arithmetic.{plus-zero, same_refl}
use Rattle.smp_twostage.specs.{Strata.{StratumUnits}, Totals.{over_frame, size_of, variable_of}}

pub alone : (part : ℕ → ℕ → StratumUnits → Fraction) (s : StratumUnits) (row : ℕ) → Same (over_frame part (s ∷ []) row) (part 0 row s)
alone part s zero = same_refl (part 0 0 s)
alone part s (suc column) =
    let behind : nat_lt (suc column) 1 ≡ false = le-ltb (suc column) 1 (omega arith) in
    let place : suc column - 1 ≡ column = omega arith in
    subst (λ (b : Bool). Same (if b then size_of part 0 (suc column) (s ∷ []) else variable_of part 0 (suc column - 1) (s ∷ [])) (part 0 (suc column) s)) (sym behind)
    (subst (λ (j : ℕ). Same (variable_of part 0 j (s ∷ [])) (part 0 (suc column) s)) (sym place) (plus-zero (part 0 (suc column) s)))

-- no unit comes before it
pub from_first : {A : Type 0} (f : ℕ → A) → (λ k. f (0 + k)) ≡ f
from_first f = fun_ext (λ k. ap f (let none : 0 + k ≡ k = omega arith in none))
