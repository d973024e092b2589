-- The columns and the products of some units, by arrays.
use Rattle.std.proofs.Common.{◌≡◌, ℕ, ◌<◌, ◌≤◌, List, [], ◌∷◌, ℤ, pos, ◌*ℤ◌, map, take, length, get_or, arith, refl, sym, ap, ap₂, ◌∙◌, length-take, get_or-take}
use Rattle.std.proofs.lemmas.List.{ext_get_or, length-map, get_or-map, take-take}
use Rattle.smp_kernel.specs.{Vectors.{entry}, RowReduction.{cut}}
use Rattle.smp_moves.specs.Steps.{scale_of, scaled}
use Rattle.smp_moves.proofs.Products.{length-scaled}
use Rattle.smp_flight.specs.{States.{Units, size, column, columns_of}, Moves.{setting_of}, Laws.Entries.{entry_sized}}

pub products_are : (units : Units) (us : List ℕ) (w ps : List ℤ) (n : ℕ) → n ≤ length us → n ≤ length w → n ≤ length ps → ((k : ℕ) → k < n → entry ps k ≡ pos (size units (get_or us k 0)) *ℤ entry w k) →
    take n ps ≡ scaled (setting_of units).share (scale_of (setting_of units).share (take n us) (take n w)) (take n us) (take n w)
products_are units us w ps n lu lw lp h =
    let share = (setting_of units).share in
    let den : ℕ = scale_of share (take n us) (take n w) in
    let same : length (take n us) ≡ length (take n w) = omega (arith, length-take n us, length-take n w) in
    ext_get_or (pos 0) (take n ps) (scaled share den (take n us) (take n w)) (omega (arith, length-take n ps, length-take n us, length-scaled share den (take n us) (take n w) same))
    (λ k l.
    (let b : k < n = omega (arith, l, length-take n ps) in
    get_or-take n ps k (pos 0) b ∙ h k b
    ∙ sym (ap₂ (λ (u : ℕ) (x : ℤ). pos (size units u) *ℤ x) (get_or-take n us k 0 b) (get_or-take n w k (pos 0) b))
    ∙ sym (entry_sized units (take n us) (take n w) k (omega (arith, b, lu, length-take n us)) (omega (arith, b, lw, length-take n w)))))

pub columns_are : (units : Units) (us : List ℕ) (cols : List (List ℤ)) (rows n : ℕ) → n ≤ length us → n ≤ length cols → ((k : ℕ) → k < n → take rows (get_or cols k []) ≡ column units (get_or us k 0)) → map (take rows) (take n cols) ≡ columns_of units (take n us)
columns_are units us cols rows n lu lc h =
    ext_get_or [] (map (take rows) (take n cols)) (columns_of units (take n us)) (length-map (take n cols) (take rows) ∙ omega (arith, length-take n cols, length-take n us) ∙ sym (length-map (take n us) (column units)))
    (λ k l.
    (let b : k < n = omega (arith, l, length-map (take n cols) (take rows), length-take n cols) in
    get_or-map (take rows) (take n cols) k [] [] (omega (arith, b, lc, length-take n cols)) ∙ ap (take rows) (get_or-take n cols k [] b) ∙ h k b
    ∙ ap (column units) (sym (get_or-take n us k 0 b)) ∙ sym (get_or-map (column units) (take n us) k 0 [] (omega (arith, b, lu, length-take n us)))))

-- columns cut to all rows, and then to those in force
pub cut_twice : (q rows : ℕ) → q ≤ rows → (cols : List (List ℤ)) → cut q cols ≡ cut q (map (take rows) cols)
cut_twice q rows l [] = refl
cut_twice q rows l (c ∷ cols) = ap₂ (λ x xs. x ∷ xs) (sym (take-take q rows c l)) (cut_twice q rows l cols)
