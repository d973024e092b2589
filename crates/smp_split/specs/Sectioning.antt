-- Designs that go through sections, one after the other, and the design of one section alone.
use Rattle.std.specs.Prelude.{◌≡◌, ◌≢◌, ℕ, ◌≤◌, ◌<◌, ◌&&◌, Bool, true, false}
use Rattle.smp_split.specs.Trees.{Tree, EachPart, weight_sum, picked}

-- how many sections there are, and of each state the section whose step comes next, counted from 0
pub record Sectioning (State : Type 0) : Type 0 where
  pub count : ℕ
  pub of : State → ℕ

-- A state that isn't done is in one of the sections, a done state is behind all, and no step leads back.
pub record IsSectioned {State : Type 0} (tree : Tree State) (belongs : State → Type 0)
    (sections : Sectioning State) : Type 0 where
  pub going : (s : State) → belongs s → tree.done s ≡ false → sections.of s < sections.count
  pub done : (s : State) → belongs s → tree.done s ≡ true → sections.of s ≡ sections.count
  pub rises : (s : State) → belongs s → tree.done s ≡ false
      → EachPart (λ p. sections.of s ≤ sections.of p.state) (tree.parts s)

-- The part is the design of section h alone, and `at` tells its state in a state of the whole. In the section both make the same
-- step. Elsewhere the part stays as it is, and behind the section it is done. It selects as the whole does, of its own units alone.
pub record IsPartOf {State Inner : Type 0} (tree : Tree State) (belongs : State → Type 0)
    (sections : Sectioning State) (h : ℕ) (part : Tree Inner) (at : State → Inner)
    (own : ℕ → Bool) : Type 0 where
  pub going : (s : State) → belongs s → sections.of s ≡ h → part.done (at s) ≡ false
  pub kind : (s : State) → belongs s → sections.of s ≡ h → part.kind (at s) ≡ tree.kind s
  pub bound : (s : State) → belongs s → sections.of s ≡ h
      → weight_sum (part.parts (at s)) ≡ weight_sum (tree.parts s)
  pub step : (s : State) (v : ℕ) → belongs s → sections.of s ≡ h → v < weight_sum (tree.parts s)
      → at (picked s (tree.parts s) v) ≡ picked (at s) (part.parts (at s)) v
  pub elsewhere : (s : State) (v : ℕ) → belongs s → tree.done s ≡ false → sections.of s ≢ h
      → v < weight_sum (tree.parts s) → at (picked s (tree.parts s) v) ≡ at s
  pub done : (s : State) → belongs s → h < sections.of s → part.done (at s) ≡ true
  pub selected : (s : State) → belongs s → tree.done s ≡ true → (unit : ℕ) → unit < tree.units
      → part.selected (at s) unit ≡ (own unit && tree.selected s unit)
