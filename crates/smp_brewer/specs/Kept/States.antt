-- What the code keeps of a state.
use Rattle.std.specs.Prelude.{◌≡◌, ◌≤◌, length}
use Rattle.smp_frac.specs.Limits.{most_rows}
use Rattle.smp_prob.specs.Shares.{Shares}
use Rattle.smp_brewer.specs.Brewer.{Brewing, offering, offered, spent, IsOffers}
use Rattle.smp_brewer.specs.declared.offers.Offers.{Offers}
use Rattle.smp_brewer.specs.declared.design.Phase.{Phase}
use Rattle.smp_brewer.specs.declared.design.Phase.TheVariants.{Offering, Offered, Spent}

-- a state by its phase, its offers, and its pivotal steps
abbrev pub brewing_of : Phase → Offers → Shares → Brewing
brewing_of Offering o s = offering o
brewing_of (Offered j) o s = offered o j
brewing_of Spent o s = spent s

-- as long as offers are made, there is room for the values of the pivotal steps, and the refused offers can be counted
pub record IsReady (o : Offers) (room : Shares) : Type 0 where
  pub fits : length room.numer ≡ length o.sizes
  pub few : length o.sizes ≤ most_rows

abbrev pub IsKept : Phase → Offers → Shares → Type 0
IsKept Offering o room = IsReady o room
IsKept (Offered j) o room = IsReady o room
IsKept Spent o room = Unit {0}

-- a design keeps offers in range
pub record IsStart (o : Offers) : Type 0 where
  pub state : IsOffers (length o.sizes) o
  pub few : length o.sizes ≤ most_rows
