-- No byte order mark is left in front.
use Rattle.std.proofs.Common.{◌≡◌, ℕ, Bool, true, false, cond, List, [], ◌∷◌, refl}
use Rattle.csv.specs.Reading.{is_bom, strip_bom}
use Rattle.smp_frame.specs.Records.{without_marks}

pub none_left : (bytes : List ℕ) → strip_bom (without_marks bytes) ≡ without_marks bytes
unfolding strip_bom
none_left [] = refl
none_left (a ∷ []) = refl
none_left (a ∷ b ∷ []) = refl
none_left (a ∷ b ∷ c ∷ rest) = by_mark (is_bom a b c) refl (none_left rest)
  where
    by_mark : (is : Bool) → is_bom a b c ≡ is → strip_bom (without_marks rest) ≡ without_marks rest → strip_bom (cond is (without_marks rest) (a ∷ b ∷ c ∷ rest)) ≡ cond is (without_marks rest) (a ∷ b ∷ c ∷ rest)
    by_mark true is h = h
    by_mark false is h = rw is refl
