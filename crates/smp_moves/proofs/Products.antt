-- The products of share and factor, and the least common denominator of them.
use Rattle.std.proofs.Common.{◌≡◌, ◌≢◌, ℕ, zero, suc, ◌*◌, ◌/◌, ◌<◌, ◌≤◌, ℤ, pos, negsuc, List, [], ◌∷◌, map, length, get_or, arith, refl, sym, ap, ◌∙◌, inl, inr, le_of_suc-le-suc, mul-pos, eq-zero-or-pos}
use Rattle.std.specs.Int.RustNames.{unsigned_abs}
use Rattle.std.proofs.lemmas.Int.{ints}
use Prim.Native.Nat.{◌∣◌}
use Rattle.smp_frac.specs.Laws.Coprime.{part_positive}
use Rattle.smp_kernel.specs.Vectors.{entry}
use Rattle.smp_kernel.proofs.Ring.{abs_zero}
use Rattle.smp_moves.specs.{declared.lines.Ratio.{Ratio}, Steps.{product, products, scale_of, scaled, signed}}
use Rattle.smp_moves.proofs.{LineEnds.{lowest_is}, Multiples.{AllSome, AllDivide, multiple_some, multiple_each}}

-- ---- a number with the sign of a factor
pub signed_abs : (w : ℤ) (m : ℕ) → unsigned_abs (signed w m) ≡ m
signed_abs (pos n) m = refl
signed_abs (negsuc n) m = omega (arith, ints)

-- ---- the products
module _ (share : ℕ → Ratio) where
  pub length-products : (order : List ℕ) (w : List ℤ) → length order ≡ length w → length (products share order w) ≡ length order
  length-products [] w l = refl
  length-products (k ∷ order) [] l = absurd (omega arith)
  length-products (k ∷ order) (f ∷ w) l = ap suc (length-products order w (omega arith))

  pub length-scaled : (den : ℕ) (order : List ℕ) (w : List ℤ) → length order ≡ length w → length (scaled share den order w) ≡ length order
  length-scaled den [] w l = refl
  length-scaled den (k ∷ order) [] l = absurd (omega arith)
  length-scaled den (k ∷ order) (f ∷ w) l = ap suc (length-scaled den order w (omega arith))

  pub entry-scaled : (den : ℕ) (order : List ℕ) (w : List ℤ) (j : ℕ) → j < length order → j < length w →
      entry (scaled share den order w) j ≡ signed (entry w j) ((product (share (get_or order j 0)) (entry w j)).num * (den / (product (share (get_or order j 0)) (entry w j)).den))
  entry-scaled den [] w j l m = absurd (omega arith)
  entry-scaled den (k ∷ order) [] j l m = absurd (omega arith)
  entry-scaled den (k ∷ order) (f ∷ w) zero l m = refl
  entry-scaled den (k ∷ order) (f ∷ w) (suc j) l m = entry-scaled den order w j (le_of_suc-le-suc l) (le_of_suc-le-suc m)

  -- the denominator of each product is at least 1, and divides their scale
  dens_some : (order : List ℕ) (w : List ℤ) → ((j : ℕ) → j < length order → 1 ≤ (share (get_or order j 0)).den) → AllSome (map (λ (r : Ratio). r.den) (products share order w))
  dens_some [] w h = tt
  dens_some (k ∷ order) [] h = tt
  dens_some (k ∷ order) (f ∷ w) h = ((lowest_is ((share k).num * unsigned_abs f) (share k).den (h 0 (omega arith))).some, dens_some order w (λ j l. h (suc j) (omega (arith, l))))

  dens_divide : (order : List ℕ) (w : List ℤ) (m : ℕ) → AllDivide (map (λ (r : Ratio). r.den) (products share order w)) m → (j : ℕ) → j < length order →
      j < length w → (product (share (get_or order j 0)) (entry w j)).den ∣ m
  dens_divide [] w m all j l k = absurd (omega (arith, l))
  dens_divide (u ∷ order) [] m all j l k = absurd (omega (arith, k))
  dens_divide (u ∷ order) (f ∷ w) m all zero l k = all.0
  dens_divide (u ∷ order) (f ∷ w) m all (suc j) l k = dens_divide order w m all.1 j (le_of_suc-le-suc l) (le_of_suc-le-suc k)

  -- no share of these units is 0
  pub record HasSome (k : ℕ) : Type 0 where
    pub num : 1 ≤ (share k).num
    pub den : 1 ≤ (share k).den

  abbrev pub HaveSome : List ℕ → Type 0
  HaveSome order = (j : ℕ) → j < length order → HasSome (get_or order j 0)

  module _ (order : List ℕ) (w : List ℤ) (some : HaveSome order) where
    pub all_some : AllSome (map (λ (r : Ratio). r.den) (products share order w))
    all_some = dens_some order w (λ j l. (some j l).den)

    pub scale_divides : (j : ℕ) → j < length order → j < length w → (product (share (get_or order j 0)) (entry w j)).den ∣ scale_of share order w
    scale_divides = dens_divide order w (scale_of share order w) (multiple_each (map (λ (r : Ratio). r.den) (products share order w)) all_some)

    -- where a factor isn't 0, neither is its entry
    pub scaled_some : (j : ℕ) → j < length order → j < length w → entry w j ≢ pos 0 → entry (scaled share (scale_of share order w) order w) j ≢ pos 0
    scaled_some j l m ne z =
        let k : ℕ = get_or order j 0 in
        let s = some j l in
        let is = lowest_is ((share k).num * unsigned_abs (entry w j)) (share k).den s.den in
        let p : Ratio = product (share k) (entry w j) in
        let aw : 1 ≤ unsigned_abs (entry w j) = elim (eq-zero-or-pos (unsigned_abs (entry w j))) [ inl zz ↦ absurd (ne (abs_zero (entry w j) zz)) | inr pp ↦ pp ] in
        let num_some : 1 ≤ p.num = elim (eq-zero-or-pos p.num) [
          | inr pp ↦ pp
          | inl zz ↦ absurd (let a : 1 ≤ (share k).num * unsigned_abs (entry w j) = mul-pos s.num aw in
              let b : 1 ≤ (share k).num * unsigned_abs (entry w j) * p.den = mul-pos a is.some in
              let c : p.num * (share k).den ≡ 0 = rw zz (omega arith) in
              omega (arith, b, c, is.same))
        ] in
        let q : 1 ≤ scale_of share order w / p.den = part_positive (scale_of share order w) p.den (multiple_some (map (λ (r : Ratio). r.den) (products share order w)) all_some) (scale_divides j l m) in
        let size : 1 ≤ p.num * (scale_of share order w / p.den) = mul-pos num_some q in
        let e : signed (entry w j) (p.num * (scale_of share order w / p.den)) ≡ pos 0 = sym (entry-scaled (scale_of share order w) order w j l m) ∙ z in
        let zero_abs : p.num * (scale_of share order w / p.den) ≡ 0 = sym (signed_abs (entry w j) (p.num * (scale_of share order w / p.den))) ∙ ap unsigned_abs e in
        omega (arith, size, zero_abs)
