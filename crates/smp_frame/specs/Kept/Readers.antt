-- A reader of records, by the records that it has left.
use Rattle.std.specs.Prelude.{◌≡◌, ◌+◌, ℕ, Bool, true, false, List, [], ◌∷◌, Option, Some, None, IsSome, length}
use denote.Ref.{Bor}
use Rattle.csv.specs.Machine.{ends_at_end}
use Rattle.csv.specs.Reading.{Ready, default_config, is_flexible, reader_config, reader_state, reader_trim, records_from, source_of}
use Rattle.csv.specs.declared.parser.State.{State}
use Rattle.csv.specs.declared.reader.Reader.{Reader}
use Rattle.csv.specs.declared.reader.Trim.TheVariants as trim

-- the bytes that a reader over a slice has left
abbrev pub bytes_left : Reader (Bor (List ℕ)) → Option (List ℕ)
bytes_left = source_of (λ slice. Some slice.now)

abbrev pub records_in : State → Option (List ℕ) → List (List (List ℕ))
records_in state None = []
records_in state (Some bytes) = records_from default_config (length bytes + 1) state bytes

-- the records that a reader over a slice has left
unfoldable pub rows_left : Reader (Bor (List ℕ)) → List (List (List ℕ))
rows_left reader = records_in (reader_state reader) (bytes_left reader)

-- a reader that stands between two records, and takes them as they are
pub record IsReading (reader : Reader (Bor (List ℕ))) : Type 0 where
  pub trim : reader_trim reader ≡ trim.None
  pub ready : Ready reader
  pub flexible : is_flexible reader ≡ true
  pub config : reader_config reader ≡ default_config
  pub bytes : IsSome (bytes_left reader)
  pub between : ends_at_end (reader_state reader) ≡ false

-- a reading took this record from these, and left those; or there was none
abbrev pub Takes : Bool → List (List ℕ) → List (List (List ℕ)) → List (List (List ℕ)) → Type 0
Takes true taken old new = old ≡ taken ∷ new
Takes false taken old new = old ≡ []
