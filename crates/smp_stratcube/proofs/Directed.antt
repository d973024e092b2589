-- A direction by an array.
use Rattle.std.proofs.Common.{◌≡◌, ℕ, zero, suc, le_of_suc-le-suc, map, ◌+◌, ◌*◌, ◌/◌, ◌<◌, ◌≤◌, ◌^◌, nat_le, false, fold, Option, Some, None, List, [], ◌∷◌, ℤ, pos, take, length, get_or, arith, refl, sym, ap, ap₂, ◌∙◌, inl, inr, length-take, get_or-take}
use Rattle.std.specs.Int.RustNames.{unsigned_abs}
use Rattle.std.proofs.lemmas.Bool.{cases_Bool, cases_lt, false_from_ne_true, leb-true}
use Rattle.std.proofs.{lemmas.List.{ext_get_or, length-map, get_or-map}, lemmas.List.Folds.{fold-map}, Math.Nat.{mul-div-le, mul-le-mul_left, mul-le-mul_right}}
use Rattle.smp_kernel.specs.Vectors.{entry}
use Rattle.smp_moves.specs.{declared.lines.Ratio.{Ratio}}
use Rattle.smp_moves.proofs.LineEnds.{lowest_is}
use Rattle.smp_stratcube.specs.{Units.{Units, column, columns_of, share}, Kept.Gates.{gated, held}}
use Rattle.smp_moves.specs.Steps.{product, signed, common_multiple, products, scale_of, scaled}
use Rattle.smp_stratcube.specs.Kept.Lines.{AreParts, IsPart, no_part, over, part}
use Rattle.smp_moves.proofs.{Multiples.{AllSome}, Products.{entry-scaled, length-products, length-scaled}}
use Rattle.smp_stratcube.proofs.Gated.{gate_held}

-- ---- arrays as lists

pub columns_are : (units : Units) (us : List ℕ) (cols : List (List ℤ)) (n : ℕ) → n ≤ length us → n ≤ length cols → ((k : ℕ) → k < n → get_or cols k [] ≡ column units (get_or us k 0)) → take n cols ≡ columns_of units (take n us)
columns_are units us cols n lu lc h =
    ext_get_or [] (take n cols) (columns_of units (take n us)) (omega (arith, length-take n cols, length-take n us, length-map (take n us) (column units), lu, lc))
    (λ k l.
    (let b : k < n = omega (arith, l, length-take n cols) in
    get_or-take n cols k [] b ∙ h k b ∙ ap (column units) (sym (get_or-take n us k 0 b)) ∙ sym (get_or-map (column units) (take n us) k 0 [] (omega (arith, b, lu, length-take n us)))))

get_or-products : (units : Units) (order : List ℕ) (w : List ℤ) (j : ℕ) → j < length order → j < length w →
    part (products (share units) order w) j ≡ product (share units (get_or order j 0)) (entry w j)
get_or-products units [] w j l m = absurd (omega arith)
get_or-products units (k ∷ order) [] j l m = absurd (omega arith)
get_or-products units (k ∷ order) (f ∷ w) zero l m = refl
get_or-products units (k ∷ order) (f ∷ w) (suc j) l m = get_or-products units order w j (le_of_suc-le-suc l) (le_of_suc-le-suc m)

-- the products of units, in an array
pub parts_are : (units : Units) (us : List ℕ) (w : List ℤ) (parts : List Ratio) (n : ℕ) → n ≤ length us → n ≤ length w → n ≤ length parts →
    AreParts units us w n parts → take n parts ≡ products (share units) (take n us) (take n w)
parts_are units us w parts n lu lw lp h =
    let same : length (take n us) ≡ length (take n w) = omega (arith, length-take n us, length-take n w) in
    ext_get_or no_part (take n parts) (products (share units) (take n us) (take n w)) (omega (arith, length-take n parts, length-take n us, length-products (share units) (take n us) (take n w) same))
    (λ k l.
    (let b : k < n = omega (arith, l, length-take n parts) in
    get_or-take n parts k no_part b ∙ h k b
    ∙ sym (ap₂ (λ (u : ℕ) (x : ℤ). product (share units u) x) (get_or-take n us k 0 b) (get_or-take n w k (pos 0) b))
    ∙ sym (get_or-products units (take n us) (take n w) k (omega (arith, b, lu, length-take n us)) (omega (arith, b, lw, length-take n w)))))

pub products_are : (units : Units) (den : ℕ) (us : List ℕ) (w ps : List ℤ) (parts : List Ratio) (n : ℕ) → n ≤ length us → n ≤ length w → n ≤ length ps →
    AreParts units us w n parts →
    ((k : ℕ) → k < n → entry ps k ≡ signed (entry w k) (over (part parts k) den)) →
    take n ps ≡ scaled (share units) den (take n us) (take n w)
products_are units den us w ps parts n lu lw lp are h =
    let same : length (take n us) ≡ length (take n w) = omega (arith, length-take n us, length-take n w) in
    ext_get_or (pos 0) (take n ps) (scaled (share units) den (take n us) (take n w)) (omega (arith, length-take n ps, length-take n us, length-scaled (share units) den (take n us) (take n w) same))
    (λ k l.
    (let b : k < n = omega (arith, l, length-take n ps) in
    get_or-take n ps k (pos 0) b ∙ h k b ∙ ap (λ (r : Ratio). signed (entry w k) (over r den)) (are k b)
    ∙ sym (ap₂ (λ (u : ℕ) (x : ℤ). signed x (over (product (share units u) x) den)) (get_or-take n us k 0 b) (get_or-take n w k (pos 0) b))
    ∙ sym (entry-scaled (share units) den (take n us) (take n w) k (omega (arith, b, lu, length-take n us)) (omega (arith, b, lw, length-take n w)))))

dens_some : (parts : List Ratio) (n : ℕ) → ((j : ℕ) → j < n → IsPart (part parts j)) → AllSome (map (λ (r : Ratio). r.den) (take n parts))
dens_some parts zero each = tt
dens_some [] (suc n) each = tt
dens_some (r ∷ parts) (suc n) each = ((each 0 (omega arith)).some, dens_some parts n (λ j l. each (suc j) (omega (arith, l))))

-- the scale of an array of products
pub scale_is : (units : Units) (us : List ℕ) (w : List ℤ) (parts : List Ratio) (n : ℕ) → n ≤ length us → n ≤ length w → n ≤ length parts →
    AreParts units us w n parts → ((j : ℕ) → j < n → IsPart (part parts j)) →
    fold (λ (m : Option ℕ) (r : Ratio). gated m r.den) (Some 1) (take n parts) ≡ held (scale_of (share units) (take n us) (take n w))
scale_is units us w parts n lu lw lp are each =
    sym (fold-map gated (λ (r : Ratio). r.den) (Some 1) (take n parts))
    ∙ gate_held 1 (map (λ (r : Ratio). r.den) (take n parts)) (omega arith) (dens_some parts n each)
    ∙ ap (λ (rs : List Ratio). held (common_multiple (map (λ (r : Ratio). r.den) rs))) (parts_are units us w parts n lu lw lp are)

-- ---- sizes

-- a product is at most the size of its factor
pub product_most : (r : Ratio) (w : ℤ) → r.num < r.den → (product r w).num ≤ (product r w).den * unsigned_abs w
product_most r w below =
    let p : Ratio = product r w in
    let is = lowest_is (r.num * unsigned_abs w) r.den (omega (arith, below)) in
    elim (cases_lt (p.den * unsigned_abs w) p.num) [
      | inr h ↦ h
      | inl h ↦ absurd (let e : r.num * unsigned_abs w * p.den ≡ p.num * r.den = is.same in
          let a : r.num * (unsigned_abs w * p.den) ≤ r.den * (unsigned_abs w * p.den) = mul-le-mul_right (unsigned_abs w * p.den) (omega (arith, below)) in
          let b : (p.den * unsigned_abs w + 1) * r.den ≤ p.num * r.den = mul-le-mul_right r.den (omega (arith, h)) in
          omega (arith, e, a, b, below))
    ]

pub product_part : (r : Ratio) (w : ℤ) → r.num < r.den → unsigned_abs w ≤ 2 ^ 44 → IsPart (product r w)
product_part r w below small = record {
  some = (lowest_is (r.num * unsigned_abs w) r.den (omega (arith, below))).some;
  most = (let m : (product r w).den * unsigned_abs w ≤ (product r w).den * 2 ^ 44 = mul-le-mul_left (product r w).den small in omega (arith, product_most r w below, m));
}

-- over a scale it is at most the scale times the greatest factor
pub over_most : (r : Ratio) (scale : ℕ) → IsPart r → scale ≤ 2 ^ 80 → over r scale ≤ 2 ^ 124
over_most r scale is narrow =
    let q : ℕ = scale / r.den in
    let a : r.num * q ≤ r.den * 2 ^ 44 * q = mul-le-mul_right q is.most in
    let b : r.den * q ≤ scale = mul-div-le scale r.den in
    omega (arith, a, b, narrow)

-- ---- a scale that is held to the gate

pub held_some : (m k : ℕ) → Some k ≡ held m → (k ≡ m) × (m ≤ 2 ^ 80)
held_some m k e =
    elim (cases_Bool (nat_le m (2 ^ 80))) [
      | inl t ↦ (let same : Some k ≡ Some m = rw t at e in (let h : k ≡ m = cc in h, leb-true m (2 ^ 80) t))
      | inr f ↦ absurd (let no_one : Some k ≡ None = rw f at e in cc)
    ]

pub held_none : (m : ℕ) → None ≡ held m → nat_le m (2 ^ 80) ≡ false
held_none m e = false_from_ne_true (nat_le m (2 ^ 80)) (λ t. (let some : None ≡ Some m = rw t at e in cc))
