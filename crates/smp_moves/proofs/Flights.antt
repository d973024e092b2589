-- The steps of flight and landing by any cube, in whatever the values are kept: their kinds, and how many units are left where the landing began.
use Rattle.std.proofs.{Common.{◌≡◌, ◌≢◌, ℕ, ◌<◌, ◌≤◌, List, [], ◌∷◌, arith, refl, inl, inr}, lemmas.Bool.{ne_eqb}}
use Rattle.smp_frac.specs.Fractions.{times, whole}
use Rattle.smp_frac.proofs.Arithmetic.{plus-zero}
use Rattle.smp_split.specs.{Parts.{moved}, Trees.{Part, EachPart, LawfulParts, Tree}, declared.kind.Kind.{Kind}}
use Rattle.smp_split.specs.declared.kind.Kind.TheVariants as kind
use Rattle.smp_values.specs.Steps.{kind_on}
use Rattle.smp_moves.specs.{Balances.{Begins}, Moves.{Next, move, independent, wide}}
use Rattle.smp_moves.specs.Cubes.{Balancing, Cube, Flight, flying, pairing, flight_kind, flight_parts, kind_by, landed, left_in, parts_by, values_in}

pub is_independent : (a : Next) → flight_kind a ≡ kind.Drop → a ≡ independent
is_independent independent k = refl
is_independent (move m) k = absurd (cc)
is_independent wide k = absurd (cc)

pub is_wide : (a : Next) → flight_kind a ≡ kind.Wide → a ≡ wide
is_wide wide k = refl
is_wide (move m) k = absurd (cc)
is_wide independent k = absurd (cc)

pub flies_not : (a : Next) → flight_kind a ≢ kind.Choose
flies_not (move m) e = cc
flies_not independent e = cc
flies_not wide e = cc

-- a state of the flight
abbrev pub IsInFlight : {Values Fixed : Type 0} → Balancing Values Fixed → Type 0
IsInFlight (flying f left) = Unit {0}
IsInFlight (pairing values left) = ⊥

-- ---- how many are left

landed_first : (count left : ℕ) → left ≡ 0 → landed count left ≡ count
landed_first count left none = rw none refl

landed_later : (count left n : ℕ) → 1 ≤ n → left ≡ n → landed count left ≡ n
landed_later count left n some e = (let ne : left ≢ 0 = omega arith in rw (ne_eqb left 0 ne) e)

module _ {Values Fixed : Type 0} (cube : Cube Values) (next : Flight Values Fixed → Next) where
  lands_by : (f : Flight Values Fixed) (left : ℕ) → left ≡ 0 → (a : Next) → Begins (flight_kind a) → EachPart (λ p. left_in p.state ≡ cube.fractional_count f.values) (flight_parts cube f left a)
  lands_by f left none (move m) begins = absurd (elim begins [ inl e ↦ (cc) | inr e ↦ (cc) ])
  lands_by f left none independent begins = (landed_first (cube.fractional_count f.values) left none, tt)
  lands_by f left none wide begins = (landed_first (cube.fractional_count f.values) left none, tt)

  later_by : (f : Flight Values Fixed) (left n : ℕ) → 1 ≤ n → left ≡ n → (a : Next) → EachPart (λ p. left_in p.state ≡ n) (flight_parts cube f left a)
  later_by f left n some e (move m) = (e, (e, tt))
  later_by f left n some e independent = (landed_later (cube.fractional_count f.values) left n some e, tt)
  later_by f left n some e wide = (landed_later (cube.fractional_count f.values) left n some e, tt)

  pairs_left : (left n : ℕ) → left ≡ n → (parts : List (Part Values)) → EachPart (λ (p : Part (Balancing Values Fixed)). left_in p.state ≡ n) (moved (λ v. pairing v left) parts)
  pairs_left left n e [] = tt
  pairs_left left n e (p ∷ parts) = (e, pairs_left left n e parts)

  -- the number that is left is that of the fractional units where the landing begins, and stays so
  pub lands_at : (s : Balancing Values Fixed) → IsInFlight s → left_in s ≡ 0 → Begins (kind_by cube next s) →
      EachPart (λ p. left_in p.state ≡ cube.fractional_count (values_in s)) (parts_by cube next s)
  lands_at (flying f left) flies none begins = lands_by f left none (next f) begins
  lands_at (pairing values left) flies none begins = absurd flies

  pub later_at : (n : ℕ) → 1 ≤ n → (s : Balancing Values Fixed) → left_in s ≡ n → EachPart (λ p. left_in p.state ≡ n) (parts_by cube next s)
  later_at n some (flying f left) e = later_by f left n some e (next f)
  later_at n some (pairing values left) e = pairs_left left n e (cube.pair_parts values)

  -- where no pivotal step is one of the flight
  pub flies_at : ((values : Values) → cube.pair_kind values ≢ kind.Flight) → (s : Balancing Values Fixed) → kind_by cube next s ≡ kind.Flight → IsInFlight s
  flies_at not (flying f left) k = tt
  flies_at not (pairing values left) k = absurd (not values k)

-- ---- one part with the same values

pub lone_split : {State : Type 0} (tree : Tree State) (belongs : State → Type 0) (s t : State) → ((k : ℕ) → tree.value t k ≡ tree.value s k) → tree.rank t < tree.rank s → belongs t →
    LawfulParts tree belongs s (record { weight = 1; state = t } ∷ [])
lone_split tree belongs s t same falls member = record {
  some = omega arith;
  narrow = omega arith;
  each = (record { heavy = omega arith; falls = falls; member = member }, tt);
  even = λ k _. rw (same k) (plus-zero (times (whole 1) (tree.value s k)));
}

-- ---- sequential pivotal steps

-- they have two kinds
not_on : (k : Kind) → kind.Pivot ≢ k → kind.Lone ≢ k → (order : List ℕ) → kind_on order ≢ k
not_on k pivot lone [] e = lone e
not_on k pivot lone (i ∷ []) e = lone e
not_on k pivot lone (i ∷ j ∷ order) e = pivot e

-- so none is one of the flight, begins a landing, or chooses
pub no_flight : (order : List ℕ) → kind_on order ≢ kind.Flight
no_flight = not_on kind.Flight (λ e. cc) (λ e. cc)

pub no_choice : (order : List ℕ) → kind_on order ≢ kind.Choose
no_choice = not_on kind.Choose (λ e. cc) (λ e. cc)

pub no_landing : (order : List ℕ) → Begins (kind_on order) → ⊥
no_landing order (inl drops) = not_on kind.Drop (λ e. cc) (λ e. cc) order drops
no_landing order (inr wides) = not_on kind.Wide (λ e. cc) (λ e. cc) order wides
