-- What a method owes of one step for its selections to be balanced on every path.
use Rattle.std.specs.Prelude.{◌≡◌, ◌≢◌, ℕ, ◌<◌, ◌≤◌, Bool, false, cond, List}
use Rattle.smp_frac.specs.Fractions.{Fraction, Same, whole, over, sum_below}
use Rattle.smp_frac.specs.Bounds.{absolute}
use Rattle.smp_split.specs.Trees.{Tree, EachPart, Lawful}
use Rattle.smp_split.specs.Paths.{Entry, Leads}
use Rattle.smp_split.specs.Means.{value_sum, selected_sum}
use Rattle.smp_split.specs.declared.kind.Kind.TheVariants as kind
use Rattle.smp_values.specs.Values.{fractional}
use Rattle.smp_moves.specs.Balances.{Balance, Begins}

-- A selection whose totals are sums over the units of its tree: each unit's value, as a numerator over a denominator, times what the
-- unit counts for in the total of a row. The rest is as in a balance.
pub record Weighed (State : Type 0) : Type 1 where
  pub tree : Tree State
  pub rows : State → ℕ
  pub left : State → ℕ
  pub undecided : State → ℕ
  pub all_rows : ℕ
  pub numer : State → ℕ → ℕ
  pub denom : State → ℕ → ℕ
  pub expanded : ℕ → ℕ → Fraction
  pub known : ℕ → Fraction
  pub independent : State → Type 0
  pub stuck : State → Type 0
  pub narrow : Type 0

module _ {State : Type 0} (w : Weighed State) where
  -- whether a unit is fractional at a state
  abbrev pub is_open : State → ℕ → Bool
  is_open s k = fractional (w.denom s k) (w.numer s k)

  -- the total of a row at a state
  abbrev pub weighed_total : State → ℕ → Fraction
  weighed_total s row = value_sum w.tree (w.expanded row) s

  -- what is estimated of it at a leaf
  abbrev pub weighed_estimate : State → ℕ → Fraction
  weighed_estimate leaf row = selected_sum w.tree (w.expanded row) leaf

  -- the sum of what the fractional units count for in a row, without signs
  abbrev pub weighed_bound : State → ℕ → Fraction
  weighed_bound s row =
      sum_below w.tree.units (λ k. cond (is_open s k) (absolute (w.expanded row k)) (whole 0))

  abbrev pub balance_of : Balance State
  balance_of = record {
    tree = w.tree;
    rows = w.rows;
    left = w.left;
    undecided = w.undecided;
    all_rows = w.all_rows;
    total = weighed_total;
    known = w.known;
    estimate = weighed_estimate;
    bound = weighed_bound;
    independent = w.independent;
    stuck = w.stuck;
    narrow = w.narrow;
  }

  -- where the numbers are narrow, no path from a state has a step that goes over to pivotal steps
  abbrev pub NeverWide : State → Type 0
  NeverWide from = w.narrow → (path : List Entry) (s : State) → Leads w.tree from path s → w.tree.done s ≡ false → w.tree.kind s ≢ kind.Wide

  -- a step before the landing leaves the rows in force and their totals as they were
  pub record HasStayed (flying : State → Type 0) (s to : State) : Type 0 where
    pub flies : flying to
    pub rows : w.rows to ≡ w.rows s
    pub left : w.left to ≡ w.left s
    pub totals : (row : ℕ) → row < w.rows s → Same (weighed_total to row) (weighed_total s row)

  -- a unit whose value is 0 or 1 keeps it
  pub record HasKept (s to : State) (k : ℕ) : Type 0 where
    pub still : is_open to k ≡ false
    pub same : Same (w.tree.value to k) (w.tree.value s k)

  pub record Owes (belongs flying : State → Type 0) : Type 0 where
    pub lawful : Lawful w.tree belongs
    pub value : (s : State) → belongs s → (k : ℕ) → k < w.tree.units
        → Same (w.tree.value s k) (over (w.numer s k) (w.denom s k))
    pub within : (s : State) → belongs s → (k : ℕ)
        → (1 ≤ w.denom s k) × (w.numer s k ≤ w.denom s k)
    pub settled : (s : State) → belongs s → w.tree.done s ≡ false → (k : ℕ)
        → is_open s k ≡ false → EachPart (λ p. HasKept s p.state k) (w.tree.parts s)
    pub some : (s : State) → belongs s → w.tree.done s ≡ false → 1 ≤ w.undecided s
    pub flies : (s : State) → belongs s → w.tree.done s ≡ false → w.tree.kind s ≡ kind.Flight
        → flying s
    pub stays : (s : State) → belongs s → w.tree.done s ≡ false → flying s
        → (Begins (w.tree.kind s) → ⊥) → EachPart (λ p. HasStayed flying s p.state) (w.tree.parts s)
    pub lands : (s : State) → belongs s → w.tree.done s ≡ false → flying s → w.left s ≡ 0
        → Begins (w.tree.kind s) → EachPart (λ p. w.left p.state ≡ w.undecided s) (w.tree.parts s)
    pub later : (n : ℕ) → 1 ≤ n → (s : State) → belongs s → w.tree.done s ≡ false
        → w.left s ≡ n → EachPart (λ p. w.left p.state ≡ n) (w.tree.parts s)
    pub stuck : (s : State) → belongs s → Begins (w.tree.kind s) → w.stuck s
    pub drops : (s : State) → belongs s → w.tree.kind s ≡ kind.Drop → w.independent s
    pub few : (s : State) → belongs s → w.tree.kind s ≡ kind.Drop → w.undecided s ≤ w.rows s

  -- where it starts: flying with all rows in force, and with the totals that should be
  pub record IsStart (belongs flying : State → Type 0) (from : State) : Type 0 where
    pub member : belongs from
    pub flies : flying from
    pub rows : w.rows from ≡ w.all_rows
    pub left : w.left from ≡ 0
    pub totals : (row : ℕ) → row < w.all_rows → Same (weighed_total from row) (w.known row)
