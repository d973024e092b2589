-- A step of the flight by its properties is that of a cube whose values stand in lowest terms, each with whether a move has changed it, and
-- whose search goes through the fractional units in order.
use Rattle.std.specs.Prelude.{◌≡◌, ◌≢◌, ℕ, ◌<◌, true, [], List, pos, length}
use Rattle.smp_frac.specs.Fractions.{Same, integer, plus, times}
use Rattle.smp_moves.specs.declared.lines.Ratio.{Ratio}
use Rattle.smp_moves.specs.Moves.{Line, Setting, entry_of, fraction_of}
use Rattle.smp_moves.specs.Steps as steps
use Rattle.smp_stratcube.specs.declared.values.Value.{Value}
use Rattle.smp_stratcube.specs.Units.{Units, column, share}
use Rattle.smp_stratcube.specs.Values.{AreValues, common_of, fractional_units, over_common, value, value_at}
use Rattle.smp_stratcube.specs.States.{IsFlying}

-- the values so far along the line, each in lowest terms, and touched where the line moves it
pub record IsMovedTo (values : List Value) (line : Line) (r : Ratio) (end : List Value) : Type 0 where
  pub are : AreValues (length values) end
  pub at : (k : ℕ) → Same (value_at end k) (plus (value_at values k) (times (fraction_of r) (integer (entry_of line k))))
  pub moved : (k : ℕ) → k < length values → entry_of line k ≢ pos 0 → (value end k).touched ≡ true
  pub kept : (k : ℕ) → entry_of line k ≡ pos 0 → value end k ≡ value values k

-- what a step goes by: the share of a unit is its probability, and the common denominators are of touched units and of those on the line
abbrev pub setting_of : Units → Setting (List Value)
setting_of units = record {
  column = column units;
  share = share units;
  over = λ values prefix. over_common (common_of units values prefix) values;
  common = λ values. common_of units values [];
  IsEnd = IsMovedTo;
}

-- the step of a state of the flight, whose search goes through its fractional units in order, and the values at the end of a line
abbrev pub Stepping : Type 0
Stepping = steps.Stepping setting_of (λ units f order. IsFlying units f × (order ≡ fractional_units f.values))
