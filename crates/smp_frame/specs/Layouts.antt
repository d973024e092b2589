-- Where the asked columns stand in a frame.
use Rattle.std.specs.Prelude.{ℕ, ◌+◌, List, [], ◌∷◌, Option, Some, None, length, Result, Ok, Err, if◌then◌else◌}
use Rattle.std.specs.Str.{bytes_eq}
use Rattle.smp_frac.specs.Faults.{◌>>=◌}
use Rattle.smp_frame.specs.declared.columns.Columns.{Columns}
use Rattle.smp_frame.specs.declared.layout.Column.{Column}
use Rattle.smp_frame.specs.declared.layout.Layout.{Layout}
use Rattle.smp_frame.specs.declared.fault.FrameFault.{FrameFault}
use Rattle.smp_frame.specs.declared.fault.FrameFault.TheVariants.{MissingColumn, RepeatedColumn}

-- the places of the fields that are this name, where the first field has this place
abbrev pub places_from : ℕ → List ℕ → List (List ℕ) → List ℕ
places_from place name [] = []
places_from place name (field ∷ fields) =
    if bytes_eq field name then place ∷ places_from (place + 1) name fields else places_from (place + 1) name fields

-- the column of a name with these places, if it has one place
abbrev pub column_at : List ℕ → List ℕ → Result Column FrameFault
column_at name [] = Err (MissingColumn name)
column_at name (place ∷ []) = Ok (record { name = name; place = place })
column_at name (first ∷ second ∷ places) = Err (RepeatedColumn name)

-- an asked column, which stands in the header once
abbrev pub column_in : List (List ℕ) → List ℕ → Result Column FrameFault
column_in header name = column_at name (places_from 0 name header)

-- a column that may be asked for
abbrev pub asked_in : List (List ℕ) → Option (List ℕ) → Result (Option Column) FrameFault
asked_in header None = Ok None
asked_in header (Some name) = column_in header name >>= λ column. Ok (Some column)

-- asked columns in their order
abbrev pub columns_in : List (List ℕ) → List (List ℕ) → Result (List Column) FrameFault
columns_in header [] = Ok []
columns_in header (name ∷ names) = do
  column ← column_in header name
  columns ← columns_in header names
  Ok (column ∷ columns)

-- all asked columns, looked for in this order
unfoldable pub layout_of : Columns → List (List ℕ) → Result Layout FrameFault
layout_of columns header = do
  id ← column_in header columns.id
  stratum ← asked_in header columns.stratum
  psu ← asked_in header columns.psu
  size ← asked_in header columns.size
  second_size ← asked_in header columns.second_size
  prob ← asked_in header columns.prob
  balance ← columns_in header columns.balance
  near ← columns_in header columns.near
  Ok (record {
    width = length header;
    id = id;
    stratum = stratum;
    psu = psu;
    size = size;
    second_size = second_size;
    prob = prob;
    balance = balance;
    near = near;
  })
