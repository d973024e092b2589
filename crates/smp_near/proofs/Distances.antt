-- The squared distance of two points, coordinate by coordinate.
use Rattle.std.proofs.Common.{◌≡◌, ℕ, zero, suc, ◌+◌, ◌*◌, ◌<◌, ◌≤◌, ℤ, pos, List, [], ◌∷◌, length, get_or, drop, refl, inl, inr, arith}
use Rattle.std.specs.Prelude.{◌-ℤ◌, ◌≤ℤ◌, unsigned_abs, int_lt}
use Rattle.std.proofs.{lemmas.Bool.{cases_Bool}, lemmas.Int.{ints}}
use Rattle.smp_near.specs.{Kept.Regions.{IsWithin, region_distance, squared_gap}, Nearest.{squared_distance}}

-- the square at a place, and the distance of what is behind it
pub squared_distance-drop : (xs ys : List ℤ) (place : ℕ) → place < length xs → place < length ys → squared_distance (drop place xs) (drop place ys) ≡ unsigned_abs (get_or xs place (pos 0) -ℤ get_or ys place (pos 0)) * unsigned_abs (get_or xs place (pos 0) -ℤ get_or ys place (pos 0)) + squared_distance (drop (place + 1) xs) (drop (place + 1) ys)
squared_distance-drop [] ys place l m = absurd (omega arith)
squared_distance-drop (x ∷ xs) [] place l m = absurd (omega arith)
squared_distance-drop (x ∷ xs) (y ∷ ys) zero l m = refl
squared_distance-drop (x ∷ xs) (y ∷ ys) (suc place) l m =
    let more : suc place + 1 ≡ suc (place + 1) = omega arith in
    rw more (squared_distance-drop xs ys place (omega arith) (omega arith))

-- the same for a region
pub region_distance-drop : (ls hs xs : List ℤ) (place : ℕ) → place < length ls → place < length hs → place < length xs → region_distance (drop place ls) (drop place hs) (drop place xs) ≡ squared_gap (get_or ls place (pos 0)) (get_or hs place (pos 0)) (get_or xs place (pos 0)) + region_distance (drop (place + 1) ls) (drop (place + 1) hs) (drop (place + 1) xs)
region_distance-drop [] hs xs place l m n = absurd (omega arith)
region_distance-drop (l ∷ ls) [] xs place p m n = absurd (omega arith)
region_distance-drop (l ∷ ls) (h ∷ hs) [] place p m n = absurd (omega arith)
region_distance-drop (l ∷ ls) (h ∷ hs) (x ∷ xs) zero p m n = refl
region_distance-drop (l ∷ ls) (h ∷ hs) (x ∷ xs) (suc place) p m n =
    let more : suc place + 1 ≡ suc (place + 1) = omega arith in
    rw more (region_distance-drop ls hs xs place (omega arith) (omega arith) (omega arith))

-- ---- a point of a region is as far as the region, or farther

smaller_square : (m n : ℕ) → m ≤ n → m * m ≤ n * n
smaller_square m n h = grind arith

gap_within : (l h a x : ℤ) → l ≤ℤ x → x ≤ℤ h → squared_gap l h a ≤ unsigned_abs (a -ℤ x) * unsigned_abs (a -ℤ x)
gap_within l h a x above below =
    elim (cases_Bool (int_lt a l)) [
      | inl e ↦ rw e (let le : unsigned_abs (l -ℤ a) ≤ unsigned_abs (a -ℤ x) = grind (arith, ints) in smaller_square (unsigned_abs (l -ℤ a)) (unsigned_abs (a -ℤ x)) le)
      | inr e ↦
          rw e (elim (cases_Bool (int_lt h a)) [
            | inl f ↦ rw f (let le : unsigned_abs (a -ℤ h) ≤ unsigned_abs (a -ℤ x) = grind (arith, ints) in smaller_square (unsigned_abs (a -ℤ h)) (unsigned_abs (a -ℤ x)) le)
            | inr f ↦ rw f (omega arith)
          ])
    ]

pub region_distance_within : (ls xs hs ys : List ℤ) → IsWithin ls xs hs → region_distance ls hs ys ≤ squared_distance ys xs
region_distance_within [] xs hs ys is = omega arith
region_distance_within (l ∷ ls) xs [] ys is = omega arith
region_distance_within (l ∷ ls) xs (h ∷ hs) [] is = omega arith
region_distance_within (l ∷ ls) [] (h ∷ hs) (y ∷ ys) is = absurd (let long : suc (length ls) ≤ 0 = is.long in omega arith)
region_distance_within (l ∷ ls) (x ∷ xs) (h ∷ hs) (y ∷ ys) is =
    let first = gap_within l h y x (is.above 0 (omega arith)) (is.below 0 (omega arith)) in
    let rest = region_distance_within ls xs hs ys (record {
      long = (let long : suc (length ls) ≤ suc (length xs) = is.long in omega arith);
      above = λ axis here. is.above (suc axis) (omega arith);
      below = λ axis here. is.below (suc axis) (omega arith);
    }) in
    omega (arith, first, rest)
