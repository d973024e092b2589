-- Units that were read without their ids, which are kept apart.
use Rattle.std.specs.Prelude.{ℕ, List, [], ◌∷◌}
use Rattle.smp_frame.specs.declared.frame.Unit as unit

-- a unit with an id
abbrev pub with_id : List ℕ → unit.Unit → unit.Unit
with_id id u = record u { id = id }

-- units with their ids, in order
abbrev pub named : List unit.Unit → List (List ℕ) → List unit.Unit
named [] ids = []
named (u ∷ units) [] = []
named (u ∷ units) (id ∷ ids) = with_id id u ∷ named units ids
