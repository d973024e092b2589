-- What comes after a cut.
use Rattle.std.proofs.Common.{◌≡◌, ℕ, ◌<◌, Bool, true, false, cond, List, [], ◌∷◌, length, Option, Some, None, option_map, subst, arith, ◌==◌}
use Rattle.smp_frac.specs.Cuts.{cut_at}

-- what comes after a cut is shorter than the whole
abbrev IsShorter : List ℕ → Option (List ℕ × List ℕ) → Type 0
IsShorter bytes None = Unit {0}
IsShorter bytes (Some p) = length p.1 < length bytes

shorter_behind : (b : ℕ) (bytes : List ℕ) (cut : Option (List ℕ × List ℕ)) → IsShorter bytes cut → IsShorter (b ∷ bytes) (option_map (λ p. (b ∷ p.0, p.1)) cut)
shorter_behind b bytes None h = tt
shorter_behind b bytes (Some p) h = omega arith

shorter_by_test : (t : Bool) (b : ℕ) (bytes : List ℕ) (cut : Option (List ℕ × List ℕ)) → IsShorter bytes cut → IsShorter (b ∷ bytes) (cond t (Some ([], bytes)) (option_map (λ p. (b ∷ p.0, p.1)) cut))
shorter_by_test true b bytes cut h = omega arith
shorter_by_test false b bytes cut h = shorter_behind b bytes cut h

cut_is_shorter : (c : ℕ) (bytes : List ℕ) → IsShorter bytes (cut_at c bytes)
cut_is_shorter c [] = tt
cut_is_shorter c (b ∷ bytes) = shorter_by_test (b == c) b bytes (cut_at c bytes) (cut_is_shorter c bytes)

pub shorter : (c : ℕ) (bytes line after : List ℕ) → cut_at c bytes ≡ Some (line, after) → length after < length bytes
shorter c bytes line after is = subst (IsShorter bytes) is (cut_is_shorter c bytes)
