-- Bytes written as printable text.
use Rattle.std.specs.Prelude.{◌≡◌, ℕ, ◌+◌, ◌*◌, ◌==◌, ◌≤◌, ◌&&◌, nat_lt, if◌then◌else◌}
use Rattle.std.specs.Prelude.{List, [], ◌∷◌, Option, Some, None, option_map}
use Rattle.std.specs.Char.{digit_value}

-- a character that can be printed, or a blank
abbrev pub IsPrintable : ℕ → Type 0
IsPrintable byte = (32 ≤ byte) × (byte ≤ 126)

-- the byte that a letter stands for behind a backslash: `n` a line feed, `r` a carriage return,
-- a backslash a backslash
abbrev pub byte_of_letter : ℕ → Option ℕ
byte_of_letter letter =
    if letter == 110 then Some 10
    else (if letter == 114 then Some 13 else (if letter == 92 then Some 92 else None))

-- the byte of two hexadecimal digits
abbrev pub byte_of_digits : ℕ → ℕ → Option ℕ
byte_of_digits high low =
    if nat_lt (digit_value high) 16 && nat_lt (digit_value low) 16
    then Some (digit_value high * 16 + digit_value low)
    else None

-- the byte that two digits at the head of a text stand for, and the text after them
abbrev pub from_digits : List ℕ → Option (ℕ × List ℕ)
from_digits [] = None
from_digits (high ∷ []) = None
from_digits (high ∷ (low ∷ rest)) = option_map (λ byte. (byte, rest)) (byte_of_digits high low)

-- the byte that an escape stands for, from behind its backslash on, and the text after it; the
-- digits come behind an `x`
abbrev pub from_escape : List ℕ → Option (ℕ × List ℕ)
from_escape [] = None
from_escape (letter ∷ rest) =
    if letter == 120 then from_digits rest
    else option_map (λ byte. (byte, rest)) (byte_of_letter letter)

-- the first byte that a text stands for, and the text after it: none where the text is empty or
-- begins with an escape that isn't one
abbrev pub first_byte : List ℕ → Option (ℕ × List ℕ)
first_byte [] = None
first_byte (byte ∷ rest) = if byte == 92 then from_escape rest else Some (byte, rest)

-- These are the bytes that the text stands for, one after another.
abbrev pub StandsFor : List ℕ → List ℕ → Type 0
StandsFor text [] = text ≡ []
StandsFor text (byte ∷ bytes) =
    (rest : List ℕ) × (first_byte text ≡ Some (byte, rest)) × StandsFor rest bytes

-- The text has an escape that isn't one: it stands for no bytes.
abbrev pub StandsForNothing : List ℕ → Type 0
StandsForNothing text = (bytes : List ℕ) → StandsFor text bytes → ⊥
