-- Which bytes are a frame, and of which units.
use Rattle.std.specs.Prelude.{ℕ, ◌+◌, List, [], ◌∷◌, ◌++◌, ◌==◌, not, nat_lt, nat_le, length, Result, Ok, Err}
use Rattle.std.specs.List.{list_all, list_any}
use Rattle.std.specs.Str.{bytes_eq, is_utf8}
use Rattle.smp_frac.specs.Limits.{most_rows}
use Rattle.smp_frac.specs.Faults.{◌>>=◌, guard}
use Rattle.smp_frame.specs.Records.{records_of, field}
use Rattle.smp_frame.specs.Layouts.{layout_of}
use Rattle.smp_frame.specs.Fields.{text_in, size_in, prob_in, values_in}
use Rattle.smp_frame.specs.declared.columns.Columns.{Columns}
use Rattle.smp_frame.specs.declared.layout.Layout.{Layout}
use Rattle.smp_frame.specs.declared.frame.Unit as unit
use Rattle.smp_frame.specs.declared.fault.FrameFault.{FrameFault}
use Rattle.smp_frame.specs.declared.fault.FrameFault.TheVariants.{NoHeader, NotText, TooManyRows, RowLength, RepeatedId, NoRows}

-- the unit of a row with this number, where earlier rows have these ids
unfoldable pub unit_of : Layout → ℕ → List (List ℕ) → List (List ℕ) → Result unit.Unit FrameFault
unit_of layout number ids row = do
  _ ← guard (length row == layout.width) (RowLength number)
  _ ← guard (list_all is_utf8 row) (NotText number)
  _ ← guard (not (list_any (bytes_eq (field row layout.id.place)) ids)) (RepeatedId number)
  size ← size_in number row layout.size
  second_size ← size_in number row layout.second_size
  prob ← prob_in number row layout.prob
  balance ← values_in number row layout.balance
  point ← values_in number row layout.near
  Ok (record {
    id = field row layout.id.place;
    stratum = text_in row layout.stratum;
    psu = text_in row layout.psu;
    size = size;
    second_size = second_size;
    prob = prob;
    balance = balance;
    point = point;
  })

-- the units of rows, of which the first has this number, where earlier rows have these ids
abbrev pub units_from : Layout → ℕ → List (List ℕ) → List (List (List ℕ)) → Result (List unit.Unit) FrameFault
units_from layout number ids [] = Ok []
units_from layout number ids (row ∷ rows) = do
  _ ← guard (nat_le number most_rows) TooManyRows
  first ← unit_of layout number ids row
  units ← units_from layout (number + 1) (ids ++ first.id ∷ []) rows
  Ok (first ∷ units)

-- the units of records: a header, which is row 0, and then one or more rows
abbrev pub units_of : Columns → List (List (List ℕ)) → Result (List unit.Unit) FrameFault
units_of columns [] = Err NoHeader
units_of columns (header ∷ rows) = do
  _ ← guard (list_all is_utf8 header) (NotText 0)
  layout ← layout_of columns header
  units ← units_from layout 1 [] rows
  _ ← guard (nat_lt 0 (length units)) NoRows
  Ok units

-- the units of a frame, or its first fault
-- e.g. of `id,size⏎a,1⏎b,2⏎c,3⏎d,4⏎` the four rows
unfoldable pub frame_of : Columns → List ℕ → Result (List unit.Unit) FrameFault
frame_of columns bytes = units_of columns (records_of bytes)
