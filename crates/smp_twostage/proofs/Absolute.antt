-- The absolute values of the same fraction are the same.
use Rattle.std.proofs.{Common.{◌≡◌, ℕ, ◌*◌, ℤ, pos, ◌*ℤ◌, ap, ◌∙◌, sym}, lemmas.Int.{unsigned_abs-mul}}
use Rattle.std.specs.Int.RustNames.{unsigned_abs}
use Rattle.smp_frac.specs.{Fractions.{Fraction, Same}, Bounds.{absolute}}

abs_times : (z : ℤ) (d : ℕ) → unsigned_abs (z *ℤ pos d) ≡ unsigned_abs z * d
abs_times z d = unsigned_abs-mul z (pos d)

pub absolute_same : (a b : Fraction) → Same a b → Same (absolute a) (absolute b)
absolute_same a b h = record {
  cross =
      let both : unsigned_abs a.num * b.den ≡ unsigned_abs b.num * a.den = sym (abs_times a.num b.den) ∙ ap unsigned_abs h.cross ∙ abs_times b.num a.den in
      ap pos both;
}
