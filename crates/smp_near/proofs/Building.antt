-- How a tree is built: its points in another order, and the regions of its roots.
use Rattle.std.proofs.Common.{◌≡◌, ◌≢◌, ℕ, suc, ◌+◌, ◌<◌, ◌≤◌, ℤ, List, [], ◌∷◌, ◌++◌, length, get_or, set, subst, ◌∙◌, arith}
use Rattle.std.specs.List.Sorted.{IsPermutation}
use Rattle.std.proofs.lemmas.List.{append_assoc, get_or-set_same, get_or-set_other, length-append}
use Rattle.std.proofs.lemmas.List.Sorted.{IsPermutation-append_left, IsPermutation-append_right, IsPermutation-trans, length_permutation}
use Rattle.smp_near.specs.{Kept.Regions.{IsIn}, Kept.Trees.{IsEnclosed}, declared.region.Region.{Region}}
use Rattle.smp_places.specs.Trees.{middle, EachRoot}
use Rattle.smp_places.proofs.Roots.{from_parts, each_root_as}

-- what lies behind a root is less than all
pub shorter_behind : (points before : List ℕ) (root : ℕ) (behind : List ℕ) → IsPermutation points (before ++ root ∷ behind) → length behind < length points
shorter_behind points before root behind split =
    let all : length (before ++ root ∷ behind) ≡ length points = length_permutation points (before ++ root ∷ behind) split in
    let parts : length (before ++ root ∷ behind) ≡ length before + suc (length behind) = length-append before (root ∷ behind) in
    omega (arith, all, parts)

-- what lies before a root, the root, and what lies behind it are added one after another
pub added_in_order : (old points before : List ℕ) (root : ℕ) (behind first second : List ℕ) → IsPermutation points (before ++ root ∷ behind) → IsPermutation (old ++ before) first → IsPermutation ((first ++ root ∷ []) ++ behind) second → IsPermutation (old ++ points) second
added_in_order old points before root behind first second split one two =
    IsPermutation-trans (old ++ points) (old ++ (before ++ root ∷ behind)) second (IsPermutation-append_right old points (before ++ root ∷ behind) split)
    (subst (λ zs. IsPermutation zs second) (append_assoc old before (root ∷ behind))
    (IsPermutation-trans ((old ++ before) ++ root ∷ behind) (first ++ root ∷ behind) second (IsPermutation-append_left (root ∷ behind) (old ++ before) first one)
    (subst (λ zs. IsPermutation zs second) (append_assoc first (root ∷ []) behind) two)))

-- the regions of both halves, and that of the root
module _ (K : ℕ) (coords : List (List ℤ)) (order : List ℕ) (once twice : List (Region K)) (region : Region K) (low root high : ℕ) (is_root : root ≡ middle low high) (here : low < high) (within : root < length twice) (same : (place : ℕ) (d : Region K) → place < root + 1 → get_or twice place d ≡ get_or once place d) (all : (place : ℕ) → low ≤ place → place < high → IsIn region (get_or coords (get_or order place 0) []) (get_or order place 0)) where
  pub enclosed_all : EachRoot (IsEnclosed coords order once) low root → EachRoot (IsEnclosed coords order twice) (root + 1) high → EachRoot (IsEnclosed coords order (set twice root region)) low high
  enclosed_all first second =
      from_parts (IsEnclosed coords order (set twice root region)) low high here (record {
        root = rw (← is_root) (λ d place p q. (let at : get_or (set twice root region) root d ≡ region = get_or-set_same twice root region d within in rw at (all place p q)));
        first = rw (← is_root) (each_root_as (IsEnclosed coords order once) (IsEnclosed coords order (set twice root region)) low root
            (λ l m h p q r s is d place from before.
            (let other : m ≢ root = omega arith in
            let at : get_or (set twice root region) m d ≡ get_or once m d = get_or-set_other twice root m region d other ∙ same m d (omega arith) in
            rw at (is d place from before))) first);
        second = rw (← is_root) (each_root_as (IsEnclosed coords order twice) (IsEnclosed coords order (set twice root region)) (root + 1) high
            (λ l m h p q r s is d place from before.
            (let other : m ≢ root = omega arith in
            let at : get_or (set twice root region) m d ≡ get_or twice m d = get_or-set_other twice root m region d other in
            rw at (is d place from before))) second);
      })
