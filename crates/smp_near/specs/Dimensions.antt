-- One of four things, by how many coordinates points have.
use Rattle.smp_near.specs.declared.dimensions.ByDimensions.{ByDimensions}
use Rattle.smp_near.specs.declared.dimensions.ByDimensions.TheVariants as by

-- the one that there is, told apart from that number
abbrev pub in_any : {V : Type 0} → ByDimensions V V V V → V
in_any (by.One v) = v
in_any (by.Two v) = v
in_any (by.Three v) = v
in_any (by.Four v) = v
