-- The unit at which the cumulated sizes pass a draw.
use Rattle.std.proofs.{Common.{◌≡◌, ℕ, zero, suc, ◌+◌, ◌-◌, ◌<◌, ◌≤◌, List, [], ◌∷◌, get_or, ap, refl, arith}, lemmas.Bool.{lt-ltb, le-ltb}}
use Rattle.smp_places.specs.Amounts.{sum_before}
use Rattle.smp_brewer.specs.Kept.Sizes.{passing}

pub passing_is : (sizes : List ℕ) (draw unit : ℕ) → sum_before sizes unit ≤ draw → draw < sum_before sizes unit + get_or sizes unit 0 → passing sizes draw ≡ unit
passing_is [] draw unit p q = absurd (omega arith)
passing_is (size ∷ sizes) draw zero p q = rw (lt-ltb draw size (omega arith)) refl
passing_is (size ∷ sizes) draw (suc unit) p q = rw (le-ltb draw size (omega arith)) (ap suc (passing_is sizes (draw - size) unit (omega arith) (omega arith)))
