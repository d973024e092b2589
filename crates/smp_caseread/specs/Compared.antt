-- How the parts of an outcome are compared with what is wanted.
use Rattle.std.specs.Prelude.{◌≡◌, ℕ, ◌+◌, ◌⊎◌}

-- How many parts differ, before and after one more was compared, of which this says that it is as
-- wanted: one more differs exactly where it isn't.
abbrev pub Compares : Type 0 → ℕ → ℕ → Type 0
Compares AsWanted before now =
    (AsWanted × (now ≡ before)) ⊎ ((AsWanted → ⊥) × (now ≡ before + 1))
