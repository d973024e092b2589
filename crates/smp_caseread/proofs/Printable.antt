-- Characters that can be printed are text.
use Rattle.std.proofs.{Common.{ℕ, ◌<◌, List, [], ◌∷◌, length, get_or, zero, suc, arith}, lemmas.Str.{IsUtf8-from_ascii}}
use Rattle.std.specs.{List.{All}, Str.{IsUtf8, IsAscii}}
use Rattle.std.proofs.lemmas.List.Elements.{All-get_or}
use Rattle.smp_caseread.specs.Escapes.{IsPrintable}

IsAscii-from_bytes : (bs : List ℕ) → ((k : ℕ) → k < length bs → get_or bs k 0 < 128) → IsAscii bs
IsAscii-from_bytes [] below i = omega arith
IsAscii-from_bytes (b ∷ bs) below zero = below zero (omega arith)
IsAscii-from_bytes (b ∷ bs) below (suc i) = IsAscii-from_bytes bs (λ k l. below (suc k) (omega arith)) i

byte_below : (bs : List ℕ) → All IsPrintable bs → (k : ℕ) → k < length bs → get_or bs k 0 < 128
byte_below bs all k l = let p = All-get_or IsPrintable bs k 0 l all in omega (arith, p.1)

pub printable_is_text : (bs : List ℕ) → All IsPrintable bs → IsUtf8 bs
printable_is_text bs all = IsUtf8-from_ascii bs (IsAscii-from_bytes bs (byte_below bs all))
