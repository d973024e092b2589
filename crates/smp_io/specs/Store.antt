-- What a store holds.
use Rattle.std.specs.Prelude.{◌≡◌, ◌≢◌, ℕ, List, ◌++◌, Contains, Option, Some, None, option_map, if◌then◌else◌}
use Rattle.std.specs.Str.{bytes_eq}

-- the files: what is held under each name, and nothing under a name that no file has
abbrev pub Files : Type 0
Files = List ℕ → Option (List ℕ)

-- the files with this content under this name, and the others as they were
abbrev pub with_file : List ℕ → List ℕ → Files → Files
with_file name bytes files = λ other. if bytes_eq name other then Some bytes else files other

-- Where the files are told, this is the content under the name.
abbrev pub Holds : Option Files → List ℕ → List ℕ → Type 0
Holds None name bytes = Unit {0}
Holds (Some files) name bytes = files name ≡ Some bytes

-- The files are told where they were told, and each name but this one holds what it held.
abbrev pub OthersStay : List ℕ → Option Files → Option Files → Type 0
OthersStay name None now = now ≡ None
OthersStay name (Some before) now = (after : Files) × (now ≡ Some after)
    × ((other : List ℕ) → other ≢ name → after other ≡ before other)

-- ---- the names that are asked for

-- Where the names are told of which a read was asked, these came after those before.
abbrev pub Asks : List (List ℕ) → Option (List (List ℕ)) → Option (List (List ℕ)) → Type 0
Asks names before None = Unit {0}
Asks names before (Some now) = option_map (λ asked. asked ++ names) before ≡ Some now

-- Where they are told, all that came since then are among these.
pub record AsksOnly (inputs : List (List ℕ)) (before now : Option (List (List ℕ))) : Type 0 where
  pub names : List (List ℕ)
  pub among : (name : List ℕ) → Contains names name → Contains inputs name
  pub came : Asks names before now
