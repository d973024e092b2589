-- Which bytes are a design, and which fault comes first where they aren't.
use Rattle.std.specs.Prelude.{ℕ, List, [], length, Option, Some, None, option_and_then, unwrap_or, Result, Ok, if◌then◌else◌, codes}
use Rattle.std.specs.Str.{is_utf8}
use Rattle.toml.specs.Data.{Data, Members, get_member, as_str, as_table}
use Rattle.toml.specs.Parse.{parse_document}
use Rattle.smp_prob.specs.declared.orders.Order.TheVariants as the_order
use Rattle.smp_design.specs.declared.design.Design.{Design}
use Rattle.smp_design.specs.declared.reading.UnitColumns.{UnitColumns}
use Rattle.smp_design.specs.declared.reading.SampleSize.{SampleSize}
use Rattle.smp_design.specs.declared.reading.SecondStage.{SecondStage}
use Rattle.smp_design.specs.declared.reading.ValueColumns.{ValueColumns}
use Rattle.smp_design.specs.declared.fault.DesignFault.{DesignFault}
use Rattle.smp_design.specs.declared.fault.DesignFault.TheVariants.{Syntax, Version, UnknownKey, MissingKey, Clash}
use Rattle.smp_design.specs.Keys.{version_of, unknown_key, missing_key, clash}
use Rattle.smp_design.specs.Values.{number, method, second_method, order, names, quotas, optional}
use Rattle.smp_frac.specs.Faults.{◌>>=◌, or_fault}
use Rattle.smp_design.specs.Faults.{none_found, good}

-- the table of UTF-8 bytes that are a TOML document
unfoldable pub document : List ℕ → Result Members DesignFault
document bytes = or_fault Syntax (if is_utf8 bytes then parse_document bytes else None)

-- the columns of the units' ids, strata and sizes
unfoldable pub unit_columns : Members → Result UnitColumns DesignFault
unit_columns t = do
  id ← good (codes "id") (option_and_then as_str (get_member (codes "id") t))
  stratum ← good (codes "stratum") (optional as_str (get_member (codes "stratum") t))
  size ← good (codes "size") (optional as_str (get_member (codes "size") t))
  Ok (record { id = id; stratum = stratum; size = size })

-- how many units are drawn or with which probabilities, and in which order they are taken
unfoldable pub sample_size : Members → Result SampleSize DesignFault
sample_size t = do
  n ← good (codes "n") (optional number (get_member (codes "n") t))
  sizes ← good (codes "sizes") (optional quotas (get_member (codes "sizes") t))
  prob ← good (codes "prob") (optional as_str (get_member (codes "prob") t))
  order ← good (codes "order") (optional order (get_member (codes "order") t))
  Ok (record { n = n; sizes = unwrap_or sizes []; prob = prob; order = unwrap_or order the_order.Frame })

-- the columns of the balancing values, and those of the coordinates
unfoldable pub value_columns : Members → Result ValueColumns DesignFault
value_columns t = do
  balance ← good (codes "balance") (optional (names 15) (get_member (codes "balance") t))
  near ← good (codes "near") (optional (names 4) (get_member (codes "near") t))
  Ok (record { balance = unwrap_or balance []; near = unwrap_or near [] })

-- the second stage of the table `second`, in a design of this version
unfoldable pub second_stage_of : ℕ → Members → Result SecondStage DesignFault
second_stage_of version t = do
  psu ← good (codes "second.psu") (option_and_then as_str (get_member (codes "psu") t))
  method ← good (codes "second.method") (option_and_then (second_method version) (get_member (codes "method") t))
  n ← good (codes "second.n") (option_and_then number (get_member (codes "n") t))
  size ← good (codes "second.size") (optional as_str (get_member (codes "size") t))
  Ok (record { psu = Some psu; size = size; second = Some (record { method = method; n = n }) })

-- the second stage of `second`, if that is there
abbrev pub second_stage : ℕ → Option Data → Result SecondStage DesignFault
second_stage version None = Ok (record { psu = None; size = None; second = None })
second_stage version (Some value) = good (codes "second") (as_table value) >>= second_stage_of version

-- what the values of a design of this version say, or the first bad one
unfoldable pub values : ℕ → Members → Result Design DesignFault
values version t = do
  method ← good (codes "method") (option_and_then (method version) (get_member (codes "method") t))
  unit ← unit_columns t
  sample ← sample_size t
  columns ← value_columns t
  second ← second_stage version (get_member (codes "second") t)
  Ok (record {
    version = version;
    procedure = record {
      method = method;
      order = sample.order;
      balance = length columns.balance;
      near = length columns.near;
    };
    columns = record {
      id = unit.id;
      stratum = unit.stratum;
      psu = second.psu;
      size = unit.size;
      second_size = second.size;
      prob = sample.prob;
      balance = columns.balance;
      near = columns.near;
    };
    n = sample.n;
    sizes = sample.sizes;
    second = second.second;
  })

-- the design of some bytes; or else their first fault, in the order of these lines
unfoldable pub design_of : List ℕ → Result Design DesignFault
design_of bytes = do
  t ← document bytes
  version ← or_fault Version (version_of t)
  _ ← none_found UnknownKey (unknown_key version t)
  _ ← none_found MissingKey (missing_key version t)
  design ← values version t
  _ ← none_found (λ keys. Clash keys.0 keys.1) (clash t design.procedure.method)
  Ok design
