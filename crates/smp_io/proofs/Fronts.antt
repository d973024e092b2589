-- What a put that fails may append.
use Rattle.std.proofs.Common.{◌≡◌, ℕ, List, [], Some, ap, sym, ◌∙◌, append-nil, refl}
use Rattle.smp_io.specs.Sink.{AppendsFront}

-- Nothing is a front.
pub nothing_is_a_front : (bytes before now : List ℕ) → now ≡ before → AppendsFront bytes (Some before) (Some now)
nothing_is_a_front bytes before now same = ([], bytes, refl, ap Some (same ∙ sym (append-nil before)))
