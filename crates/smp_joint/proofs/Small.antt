-- The probabilities of a request in lowest terms are small.
use Rattle.std.proofs.{Common.{◌≡◌, ℕ, ◌*◌, ◌^◌, ◌<◌, ◌≤◌, max, length, arith, refl, sym, subst}, lemmas.Int.{ints}}
use Rattle.std.specs.Prelude.{slice_index}
use Rattle.std.proofs.{Math.Nat.{dvd-mul_left, le_of_mul-le-mul_right, mul-le-mul_left}, lemmas.Nat.Gcd.{IsGcd-swap, le_of_dvd}}
use Prim.Native.Nat.{◌∣◌}
use Rattle.smp_frac.specs.{Fractions.{Same, over, positive_product, times}, declared.fractions.Frac.{Frac}, Exact.{fraction}}
use Rattle.smp_frac.specs.{Laws.Coprime.{dvd_of_coprime}, Laws.Lowest.{coprime_from_lowest}}
use Rattle.smp_prob.specs.{declared.requests.Request.{Request}, declared.inclusions.Inclusion.{Inclusion}, Requests.{IsRequest}}
use Rattle.smp_prob.specs.declared.inclusions.Inclusion.TheVariants.{Certain, Free, Never}
use Rattle.smp_prob.specs.Inclusions.{asked_fraction, fraction_at, inclusion}
use Rattle.smp_split.specs.Laws.Rows.{free_within}

-- a fraction in lowest terms has the smallest numbers
lowest_den : (f : Frac) (n d : ℕ) → 1 ≤ d → f.num * d ≡ n * f.den → f.den ≤ d
lowest_den f n d some cross =
    let P : ℕ → Type 0 = λ x. f.den ∣ x in
    let divides : f.den ∣ f.num * d = subst P (sym cross) (dvd-mul_left f.den n) in
    le_of_dvd (let positive : 0 < d = omega arith in positive) (dvd_of_coprime f.den f.num d (IsGcd-swap f.num f.den 1 (coprime_from_lowest f.num f.den f.lowest)) divides)

lowest_num : (f : Frac) (n d : ℕ) → 1 ≤ d → f.num * d ≡ n * f.den → f.num ≤ n
lowest_num f n d some cross =
    let wider : n * f.den ≤ n * d = mul-le-mul_left n (lowest_den f n d some cross) in
    le_of_mul-le-mul_right (let less : f.num * d ≤ n * d = omega (arith, cross, wider) in less) (let positive : 0 < d = omega arith in positive)

abbrev AreSmall : Frac → Type 0
AreSmall f = (f.num < 2 ^ 49) × (f.den < 2 ^ 49)

small : (f : Frac) (n d : ℕ) → 1 ≤ d → n < 2 ^ 49 → d < 2 ^ 49 → f.num * d ≡ n * f.den → AreSmall f
small f n d some few also cross = (omega (arith, few, lowest_num f n d some cross), omega (arith, also, lowest_den f n d some cross))

module _ (request : Request) (sound : IsRequest request) (f : Frac) where
  by_standing : (stands : Inclusion) → ((u : ℕ) → stands ≡ Free u → u < length request.free) → Same (fraction f) (fraction_at request stands) → AreSmall f
  by_standing Certain within same = small f 1 1 (omega arith) (omega arith) (omega arith) (omega (arith, ints, same.cross))
  by_standing (Free u) within same =
      let here : u < length request.shape = omega (arith, within u refl, sound.paired) in
      let less : slice_index request.shape u * request.r < request.total = sound.below_one u here in
      small f (slice_index request.shape u * request.r) (max 1 request.total) (omega arith) (omega (arith, less, sound.narrow)) (omega (arith, sound.narrow)) (omega (arith, ints, same.cross))
  by_standing Never within same = small f 0 1 (omega arith) (omega arith) (omega arith) (omega (arith, ints, same.cross))

  pub small_asked : (unit : ℕ) → Same (fraction f) (asked_fraction request unit) → (f.num < 2 ^ 49) × (f.den < 2 ^ 49)
  small_asked unit same = by_standing (inclusion request unit) (free_within request unit) same

-- the product of two fractions
pub product_is : (p q f : Frac) → Same (fraction f) (over (p.num * q.num) (p.den * q.den)) → Same (fraction f) (times (fraction p) (fraction q))
product_is p q f same =
    let one : max 1 (p.den * q.den) ≡ p.den * q.den = omega (arith, positive_product p.den q.den p.positive q.positive) in
    record { cross = rw one at same.cross }
