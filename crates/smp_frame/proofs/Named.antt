-- Ids that are put into their units.
use Rattle.std.proofs.Common.{◌≡◌, ℕ, zero, suc, ◌+◌, ◌<◌, ◌≤◌, List, [], ◌∷◌, ◌++◌, length, get_or, set, refl, ap, arith}
use Rattle.std.proofs.lemmas.List.{length-append}
use Rattle.smp_frame.specs.Kept.Ids.{named, with_id}
use Rattle.smp_frame.specs.declared.frame.Unit as unit

-- one unit and one id more
pub named_more : (units : List unit.Unit) (ids : List (List ℕ)) (u : unit.Unit) (id : List ℕ) → length units ≡ length ids → named (units ++ u ∷ []) (ids ++ id ∷ []) ≡ named units ids ++ with_id id u ∷ []
named_more [] [] u id same = refl
named_more [] (x ∷ ids) u id same = absurd (omega arith)
named_more (v ∷ units) [] u id same = absurd (omega arith)
named_more (v ∷ units) (x ∷ ids) u id same = ap (λ rest. with_id x v ∷ rest) (named_more units ids u id (omega (arith, same)))

pub paired_more : (units : List unit.Unit) (ids : List (List ℕ)) (u : unit.Unit) (id : List ℕ) → length units ≡ length ids → length (units ++ u ∷ []) ≡ length (ids ++ id ∷ [])
paired_more units ids u id same =
    let more : length (units ++ u ∷ []) ≡ length units + 1 = length-append units (u ∷ []) in
    let longer : length (ids ++ id ∷ []) ≡ length ids + 1 = length-append ids (id ∷ []) in
    omega (arith, same, more, longer)

-- units of which the first so many have their ids, and the ids of the others
abbrev pub named_behind : ℕ → List unit.Unit → List (List ℕ) → List unit.Unit
named_behind zero units ids = named units ids
named_behind (suc place) [] ids = []
named_behind (suc place) (u ∷ units) ids = u ∷ named_behind place units ids

behind_next : (place : ℕ) (units : List unit.Unit) (u : unit.Unit) (id : List ℕ) (ids : List (List ℕ)) → place < length units → u ≡ get_or units place u → named_behind (suc place) (set units place (with_id id u)) ids ≡ named_behind place units (id ∷ ids)
behind_next place [] u id ids within is = absurd (omega (arith, within))
behind_next zero (v ∷ units) u id ids within is = ap (λ w. with_id id w ∷ named units ids) is
behind_next (suc place) (v ∷ units) u id ids within is = ap (λ rest. v ∷ rest) (behind_next place units u id ids (omega (arith, within)) is)

-- the unit at a place gets the next id
pub named_next : (place : ℕ) (units : List unit.Unit) (u : unit.Unit) (id : List ℕ) (ids : List (List ℕ)) → place < length units → u ≡ get_or units place u → named_behind (place + 1) (set units place (with_id id u)) ids ≡ named_behind place units (id ∷ ids)
named_next place units u id ids within is =
    let next : place + 1 ≡ suc place = omega arith in
    rw next (behind_next place units u id ids within is)

-- all have their ids
pub named_all : (place : ℕ) (units : List unit.Unit) → length units ≤ place → named_behind place units [] ≡ units
named_all zero [] all = refl
named_all zero (v ∷ units) all = absurd (omega (arith, all))
named_all (suc place) [] all = refl
named_all (suc place) (v ∷ units) all = ap (λ rest. v ∷ rest) (named_all place units (omega (arith, all)))
