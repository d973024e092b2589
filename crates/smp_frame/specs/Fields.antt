-- What the fields of a row write.
use Rattle.std.specs.Prelude.{ℕ, ℤ, pos, neg_ℤ, Bool, false, ◌&&◌, List, [], ◌∷◌, codes, Option, Some, None, unwrap_or}
use Rattle.std.specs.Prelude.{◌==◌, nat_lt, nat_le, Result, Ok, if◌then◌else◌}
use Rattle.std.specs.Str.Parse.{digits_value}
use Rattle.smp_frac.specs.Cuts.{cut_at}
use Rattle.smp_frac.specs.Decimals.{is_decimal}
use Rattle.smp_frac.specs.declared.fractions.Frac.{Frac}
use Rattle.smp_frac.specs.Fractions.{over}
use Rattle.smp_frac.specs.Limits.{number_limit}
use Rattle.smp_frac.specs.LowestTerms.{lowest_terms}
use Rattle.smp_frac.specs.Faults.{◌>>=◌, guard}
use Rattle.smp_frame.specs.Records.{field}
use Rattle.smp_frame.specs.declared.layout.Column.{Column}
use Rattle.smp_frame.specs.declared.fault.FrameFault.{FrameFault}
use Rattle.smp_frame.specs.declared.fault.FrameFault.TheVariants.{NotNumber, TooLarge, NotFraction, NotProbability}

-- the text in an asked column, or the empty text
abbrev pub text_in : List (List ℕ) → Option Column → List ℕ
text_in row None = []
text_in row (Some column) = field row column.place

-- a size: one or more decimal digits, with a value below the limit
unfoldable pub size_of : ℕ → List ℕ → List ℕ → Result ℕ FrameFault
size_of number name text = do
  _ ← guard (is_decimal text) (NotNumber number name)
  _ ← guard (nat_lt (digits_value 10 text) number_limit) (TooLarge number name)
  Ok (digits_value 10 text)

-- the size in an asked column, or 1
abbrev pub size_in : ℕ → List (List ℕ) → Option Column → Result ℕ FrameFault
size_in number row None = Ok 1
size_in number row (Some column) = size_of number column.name (field row column.place)

-- the texts on both sides of the first slash, the byte 47; a text without a slash stands over 1
abbrev pub sides_of : List ℕ → List ℕ × List ℕ
sides_of text = unwrap_or (cut_at 47 text) (text, codes "1")

-- a probability: decimal digits, which may stand over others, that write a fraction from 0 to 1
unfoldable pub prob_of : ℕ → List ℕ → List ℕ → Result Frac FrameFault
prob_of number name text = do
  let sides = sides_of text
  let num = digits_value 10 sides.0
  let den = digits_value 10 sides.1
  _ ← guard (is_decimal sides.0 && is_decimal sides.1) (NotFraction number name)
  _ ← guard (nat_lt num number_limit && nat_lt den number_limit) (TooLarge number name)
  _ ← guard (nat_lt 0 den && nat_le num den) (NotProbability number name)
  Ok (lowest_terms (over num den))

-- the probability in an asked column, or 1
abbrev pub prob_in : ℕ → List (List ℕ) → Option Column → Result Frac FrameFault
prob_in number row None = Ok (lowest_terms (over 1 1))
prob_in number row (Some column) = prob_of number column.name (field row column.place)

-- whether a minus, the byte 45, stands in front
abbrev pub is_minus : List ℕ → Bool
is_minus [] = false
is_minus (b ∷ digits) = b == 45

-- a text without a minus in front
abbrev pub without_minus : List ℕ → List ℕ
without_minus [] = []
without_minus (b ∷ digits) = if b == 45 then digits else b ∷ digits

-- a value: written as a size is, and one minus may stand in front
abbrev pub field_value : ℕ → List ℕ → List ℕ → Result ℤ FrameFault
field_value number name text = size_of number name (without_minus text) >>= λ size. Ok
    (if is_minus text then neg_ℤ (pos size) else pos size)

-- the values in asked columns
abbrev pub values_in : ℕ → List (List ℕ) → List Column → Result (List ℤ) FrameFault
values_in number row [] = Ok []
values_in number row (column ∷ columns) = do
  value ← field_value number column.name (field row column.place)
  values ← values_in number row columns
  Ok (value ∷ values)
