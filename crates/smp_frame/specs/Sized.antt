-- Frames whose rows have an id and a size alone.
use Rattle.std.specs.Prelude.{ℕ, List, [], Some, None, codes}
use Rattle.smp_frac.specs.Fractions.{over}
use Rattle.smp_frac.specs.LowestTerms.{lowest_terms}
use Rattle.smp_frame.specs.declared.columns.Columns.{Columns}
use Rattle.smp_frame.specs.declared.frame.Unit as unit

-- the columns of such a frame: `id` and `size`
abbrev pub sized_columns : Columns
sized_columns = record {
  id = codes "id";
  stratum = None;
  psu = None;
  size = Some (codes "size");
  second_size = None;
  prob = None;
  balance = [];
  near = [];
}

-- the row of such a frame with this id and this size
abbrev pub sized_unit : List ℕ → ℕ → unit.Unit
sized_unit id size = record {
  id = id;
  stratum = [];
  psu = [];
  size = size;
  second_size = 1;
  prob = lowest_terms (over 1 1);
  balance = [];
  point = [];
}
