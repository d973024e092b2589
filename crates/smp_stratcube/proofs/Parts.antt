-- Whole parts, and values that were read.
use Rattle.std.proofs.Common.{◌≡◌, ℕ, ◌*◌, ◌/◌, ◌<◌, ◌≤◌, List, length, get_or, arith, sym, ap, ◌∙◌}
use Rattle.std.proofs.{lemmas.List.{get_or-map}, Math.Nat.{mul-div-le, mul-le-mul_right}}
use Rattle.smp_stratcube.specs.{declared.values.Value.{Value}, Values.{nothing, over_common, value}}

-- a numerator over a multiple of its denominator
pub over_within : (num d den : ℕ) → num ≤ d → num * (den / d) ≤ den
over_within num d den l = (let m : num * (den / d) ≤ d * (den / d) = mul-le-mul_right (den / d) l in omega (arith, m, mul-div-le den d))

-- the numerator of a value that was read
pub over_read : (values : List Value) (den k : ℕ) → k < length values → (v : Value) → v ≡ value values k → (x : ℕ) → x ≡ v.at.num * (den / v.at.den) → x ≡ get_or (over_common den values).numer k 0
over_read values den k l v same x e =
    e ∙ ap (λ (v : Value). v.at.num * (den / v.at.den)) same ∙ sym (get_or-map (λ (v : Value). v.at.num * (den / v.at.den)) values k nothing 0 l)
