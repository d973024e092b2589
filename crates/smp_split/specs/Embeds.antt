-- The tree of a design whose states are some of those of a larger type: a variant of an enum of designs.
use Rattle.std.specs.Prelude.{true, false, [], Option, Some, None}
use Rattle.smp_frac.specs.Fractions.{whole}
use Rattle.smp_split.specs.Trees.{Tree}
use Rattle.smp_split.specs.Parts.{moved}
use Rattle.smp_split.specs.declared.kind.Kind.TheVariants.{Pivot}

-- Of a state of a larger type, which may be one of a smaller type: what `say` says of that one, and `other` where it is none.
abbrev pub said_of : {Inner Said : Type 0} → Said → (Inner → Said) → Option Inner → Said
said_of other say None = other
said_of other say (Some state) = say state

-- it belongs where it is such a state and that one belongs
abbrev pub belongs_at : {Inner : Type 0} → (Inner → Type 0) → Option Inner → Type 0
belongs_at belongs None = ⊥
belongs_at belongs (Some state) = belongs state

-- `into` makes a state of the larger type, and `out` gives it back; of a state that isn't such nothing is told, and it is done
module _ {Inner Outer : Type 0} (into : Inner → Outer) (out : Outer → Option Inner)
    (inner : Tree Inner) where
  -- the same tree, over the larger type
  abbrev pub embedded : Tree Outer
  embedded = record {
    units = inner.units;
    done = λ state. said_of true inner.done (out state);
    kind = λ state. said_of Pivot inner.kind (out state);
    parts = λ state. said_of [] (λ own. moved into (inner.parts own)) (out state);
    rank = λ state. said_of 0 inner.rank (out state);
    value = λ state unit. said_of (whole 0) (λ own. inner.value own unit) (out state);
    selected = λ state unit. said_of false (λ own. inner.selected own unit) (out state);
  }

  -- the states that are such
  abbrev pub BelongsInside : (Inner → Type 0) → Outer → Type 0
  BelongsInside belongs state = belongs_at belongs (out state)
