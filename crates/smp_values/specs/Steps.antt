-- Sequential pivotal steps (Deville and Tillé 1998) on values that stand in a row. As long as two units are fractional, the first
-- two of them meet in a step; one that is left alone is settled by itself.
use Rattle.std.specs.Prelude.{ℕ, ◌-◌, List, [], ◌∷◌, slice_index}
use Rattle.smp_prob.specs.Shares.{Shares}
use Rattle.smp_split.specs.Trees.{Part, Tree}
use Rattle.smp_split.specs.declared.kind.Kind.{Kind}
use Rattle.smp_split.specs.declared.kind.Kind.TheVariants.{Pivot, Lone}
use Rattle.smp_values.specs.Pairs.{pair_weights, pair_first, pair_second}
use Rattle.smp_values.specs.Values.{fractional_units, with_one, with_pair, values_tree}

-- the parts of a step on the units i and j, by the pair step on their values
-- e.g. of a and b in (1,2,3,4)/5: (3,0,3,4)/5 with 1, (0,3,3,4)/5 with 2
abbrev pub pair_parts : Shares → ℕ → ℕ → List (Part Shares)
pair_parts s i j =
    let a = slice_index s.numer i in
    let b = slice_index s.numer j in
    let weights = pair_weights a b s.den in
    record { weight = weights.first; state = with_pair s i j (pair_first a b s.den) }
    ∷ record { weight = weights.second; state = with_pair s i j (pair_second a b s.den) } ∷ []

-- the parts of a step on unit i alone: with weight a it gets the value 1, else 0
-- = 1 with a, 0 with D - a
abbrev pub lone_parts : Shares → ℕ → List (Part Shares)
lone_parts s i =
    let a = slice_index s.numer i in
    record { weight = a; state = with_one s i s.den }
    ∷ record { weight = s.den - a; state = with_one s i 0 } ∷ []

-- a step on the first two of these units, or on the only one
abbrev pub parts_on : Shares → List ℕ → List (Part Shares)
parts_on s [] = []
parts_on s (i ∷ []) = lone_parts s i
parts_on s (i ∷ j ∷ others) = pair_parts s i j

-- the kind of such a step
abbrev pub kind_on : List ℕ → Kind
kind_on (i ∷ j ∷ others) = Pivot
kind_on others = Lone

-- the parts of the next step, which is on the first two fractional units, or on the only one
abbrev pub pivotal_parts : Shares → List (Part Shares)
pivotal_parts s = parts_on s (fractional_units s)

-- the kind of the next pivotal step
abbrev pub pivotal_kind : Shares → Kind
pivotal_kind s = kind_on (fractional_units s)

-- the draw tree of pivotal steps on the values of so many units
abbrev pub steps_tree : ℕ → Tree Shares
steps_tree units = values_tree units pivotal_kind pivotal_parts (λ fractional. fractional)
