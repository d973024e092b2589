-- Which bytes are a tape, and of which values.
use Rattle.std.specs.Prelude.{ℕ, ◌+◌, ◌^◌, ◌==◌, if◌then◌else◌, List, [], ◌∷◌, Option, Some, None, Result, Ok}
use Rattle.std.specs.Prelude.{Err}
use Rattle.std.specs.Io.BufRead.{strip_last}
use Rattle.smp_frac.specs.Decimals.{number_below}
use Rattle.smp_tape.specs.declared.fault.TapeFault.{TapeFault}
use Rattle.smp_tape.specs.declared.fault.TapeFault.TheVariants.{Line}

-- lines with a byte in front of the first one, which it begins where there is none
abbrev pub in_front : ℕ → List (List ℕ) → List (List ℕ)
in_front b [] = (b ∷ []) ∷ []
in_front b (line ∷ lines) = (b ∷ line) ∷ lines

-- the lines of a text: each ends before a line feed, the byte 10, and the last may end with the text
abbrev pub lines_in : List ℕ → List (List ℕ)
lines_in [] = []
lines_in (b ∷ text) = if b == 10 then [] ∷ lines_in text else in_front b (lines_in text)

-- the value of a line of decimal digits, where it is below 2^128; one carriage return, the byte 13, may stand behind them
abbrev pub line_value : List ℕ → Option ℕ
line_value line = number_below (2 ^ 128) (strip_last 13 line)

-- a value and then others; where it is missing, the fault of its line
abbrev pub value_and : ℕ → Option ℕ → Result (List ℕ) TapeFault → Result (List ℕ) TapeFault
value_and number None rest = Err (Line number)
value_and number (Some value) (Err fault) = Err fault
value_and number (Some value) (Ok values) = Ok (value ∷ values)

-- the values of lines, of which the first has this number; or the first line that has none
abbrev pub values_from : ℕ → List (List ℕ) → Result (List ℕ) TapeFault
values_from number [] = Ok []
values_from number (line ∷ lines) = value_and number (line_value line) (values_from (number + 1) lines)

-- the values of a tape, a value a line; or the first line, counted from 1, that has none
-- e.g. of `0⏎3⏎4⏎` they are 0, 3 and 4
unfoldable pub tape_of : List ℕ → Result (List ℕ) TapeFault
tape_of bytes = values_from 1 (lines_in bytes)
