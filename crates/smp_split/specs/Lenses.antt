-- A tree inside a tree: a lens puts the states of an inner design into those of an outer one, of which the outer design says
-- while the inner one goes on what the inner one says.
use Rattle.std.specs.Prelude.{◌≡◌, ℕ, ◌<◌, Bool, true, false, cond}
use Rattle.smp_frac.specs.Fractions.{Fraction, Same, whole, times}
use Rattle.smp_split.specs.Parts.{moved}
use Rattle.smp_split.specs.Trees.{Tree}

-- what an outer unit is, seen from the inner design: one of fixed value; one of its units; or a unit whose value is a fixed fraction
-- of one of its units'
pub data OuterUnit : Type 0 where
  fixed : Fraction → OuterUnit
  as_unit : ℕ → OuterUnit
  as_share : Fraction → ℕ → OuterUnit

-- the value of the outer unit, where the inner units have these values
abbrev pub seen : OuterUnit → (ℕ → Fraction) → Fraction
seen (fixed c) value = c
seen (as_unit k) value = value k
seen (as_share a k) value = times a (value k)

-- the inner unit, where there is one, is one of so many
abbrev pub Within : ℕ → OuterUnit → Type 0
Within units (fixed c) = Unit {0}
Within units (as_unit k) = k < units
Within units (as_share a k) = k < units

-- While the inner design goes on, so does the outer one, by the same kind of step, and its parts are the inner ones put in place; the
-- outer rank falls with the inner one; and each outer unit has the value that its view gives it.
pub record Lens {Inner Outer : Type 0} (inner : Tree Inner) (belongs : Inner → Type 0)
    (outer : Tree Outer) (put : Inner → Outer) (view : ℕ → OuterUnit) : Type 0 where
  pub within : (k : ℕ) → k < outer.units → Within inner.units (view k)
  pub going : (i : Inner) → inner.done i ≡ false → outer.done (put i) ≡ false
  pub kind : (i : Inner) → inner.done i ≡ false → outer.kind (put i) ≡ inner.kind i
  pub parts : (i : Inner) → inner.done i ≡ false → outer.parts (put i) ≡ moved put (inner.parts i)
  pub falls : (i j : Inner) → inner.rank j < inner.rank i → outer.rank (put j) < outer.rank (put i)
  pub value : (i : Inner) → belongs i → (k : ℕ) → k < outer.units
      → Same (outer.value (put i) k) (seen (view k) (inner.value i))

-- whether the outer unit is selected, where these inner units are
abbrev pub Shows : OuterUnit → (ℕ → Bool) → Bool → Type 0
Shows (fixed c) selected b = Same c (whole (cond b 1 0))
Shows (as_unit k) selected b = b ≡ selected k
Shows (as_share a k) selected b =
    Same (times a (whole (cond (selected k) 1 0))) (whole (cond b 1 0))

-- The outer design is done where the inner one is, and then selects what the views of its units show.
pub record Closes {Inner Outer : Type 0} (inner : Tree Inner) (outer : Tree Outer)
    (put : Inner → Outer) (view : ℕ → OuterUnit) : Type 0 where
  pub done : (i : Inner) → inner.done i ≡ true → outer.done (put i) ≡ true
  pub selected : (i : Inner) → inner.done i ≡ true → (k : ℕ) → k < outer.units
      → Shows (view k) (inner.selected i) (outer.selected (put i) k)

-- an outer state that is an inner one put in place
pub record Inside {Inner Outer : Type 0} (put : Inner → Outer) (belongs : Inner → Type 0)
    (state : Outer) : Type 0 where
  pub inside : Inner
  pub is : state ≡ put inside
  pub member : belongs inside
