-- What the store and the sink in memory are.
use Rattle.std.specs.Prelude.{Bool, true, false, ℕ, List, [], reverse, Option, Some, None, option_map, find}
use Rattle.std.specs.Str.{bytes_eq}
use Rattle.smp_io.specs.Calls.{Calls, calls_from_first}
use Rattle.smp_io.specs.Store.{Files}

-- a store: its files in the order in which they came, its calls, how many of them failed and how many writes ended for want of memory,
-- and the names of which a read was asked, unless there was no memory for one of them
pub record StoreState : Type 0 where
  pub entries : List (List ℕ × List ℕ)
  pub calls : Calls
  pub failed_reads : ℕ
  pub failed_writes : ℕ
  pub short_writes : ℕ
  pub asked : Option (List (List ℕ))

-- names that are told where they are all there
abbrev pub told_where : Bool → List (List ℕ) → Option (List (List ℕ))
told_where true names = Some names
told_where false names = None

-- the last content of each name, in a list of names and contents
abbrev pub held : List (List ℕ × List ℕ) → Files
held entries = λ name. option_map (λ file. file.1) (find (λ file. bytes_eq file.0 name) (reverse entries))

abbrev pub files_of : StoreState → Files
files_of store = held store.entries

-- a store of these files, before its first call
abbrev pub store_of : List (List ℕ × List ℕ) → List ℕ → StoreState
store_of entries failing = record {
  entries = entries;
  calls = calls_from_first failing;
  failed_reads = 0;
  failed_writes = 0;
  short_writes = 0;
  asked = Some [];
}

-- a sink: what was put into it, its puts, how many of them failed and how many ended for want of memory
pub record SinkState : Type 0 where
  pub written : List ℕ
  pub puts : Calls
  pub failed : ℕ
  pub short : ℕ

-- a sink before its first put
abbrev pub empty_sink : List ℕ → SinkState
empty_sink failing = record { written = []; puts = calls_from_first failing; failed = 0; short = 0 }
