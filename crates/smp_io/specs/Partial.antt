-- The file that is written beside a wanted one.
use Rattle.std.specs.Prelude.{ℕ, List, ◌++◌, codes}
use Rattle.std.specs.Fmt.{decimal}

-- its name: the wanted name, `.partial` and a number, so that it stands in the same folder
abbrev pub partial_name : List ℕ → ℕ → List ℕ
partial_name name number = name ++ (codes ".partial" ++ decimal number)
