-- The tape of the worked draw, by computing: what its bytes say.
use Rattle.std.specs.Prelude.{◌≡◌, [], ◌∷◌, codes, Ok}
use Rattle.std.proofs.Common.{refl}
use Rattle.smp_tape.specs.TapeText.{tape_of}

pub tape_is : tape_of (codes "0\n3\n4\n") ≡ Ok (0 ∷ 3 ∷ 4 ∷ [])
unfolding tape_of
tape_is = refl
