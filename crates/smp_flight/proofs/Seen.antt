-- What the steps of flight and landing keep, each selection keeps that goes by such steps.
use Rattle.std.proofs.Common.{◌≡◌, ℕ, List, [], ◌∷◌, refl, sym, subst}
use Rattle.smp_split.specs.{Parts.{moved}, Trees.{Part, EachPart}}
use Rattle.smp_moves.specs.{Owed.{weighed_total}, Cubes.{values_in}}
use Rattle.smp_flight.specs.{Landings.{weighed_of}, Totals.{row_total}}
use Rattle.smp_flight.specs.Selections.{Balancing, GoesOn, IsSelection, IsWholeOrder, Selection, chooses, flies, kind_by, parts_by}

pub each_so : {State : Type 0} (P Q : Part State → Type 0) → ((p : Part State) → P p → Q p) → (ps : List (Part State)) → EachPart P ps → EachPart Q ps
each_so P Q h [] each = tt
each_so P Q h (p ∷ ps) each = (h p each.0, each_so P Q h ps each.1)

pub each_unmoved : {Inner Outer : Type 0} (f : Inner → Outer) (P : Outer → Type 0) (ps : List (Part Inner)) → EachPart (λ p. P p.state) (moved f ps) → EachPart (λ p. P (f p.state)) ps
each_unmoved f P [] each = tt
each_unmoved f P (p ∷ ps) each = (each.0, each_unmoved f P ps each.1)

module _ {State : Type 0} (c : Selection State) where
  -- a step of flight and landing from this state, through some order
  pub record Flies (s : State) (order : List ℕ) : Type 0 where
    pub whole_order : IsWholeOrder (values_in (c.seen s)) order
    pub kind : c.tree.kind s ≡ kind_by c.units order (c.seen s)
    pub parts : moved c.seen (c.tree.parts s) ≡ parts_by c.units order (c.seen s)

  -- a property that holds of a state holds of each part, if it does where the step is one of flight and landing
  pub each_seen : (P : Balancing → Type 0) (s : State) → GoesOn c s → P (c.seen s) → (Flies s (c.order s) → EachPart (λ p. P p.state) (parts_by c.units (c.order s) (c.seen s))) →
      EachPart (λ p. P (c.seen p.state)) (c.tree.parts s)
  each_seen P s (chooses k same) here by =
      each_so (λ p. c.seen p.state ≡ c.seen s) (λ p. P (c.seen p.state)) (λ p e. subst P (sym e) here) (c.tree.parts s) same
  each_seen P s (flies w k parts) here by =
      each_unmoved c.seen P (c.tree.parts s) (subst (EachPart (λ p. P p.state)) (sym parts) (by (record { whole_order = w; kind = k; parts = parts })))

  -- the total of a row at a state is that of its values
  pub total_is : (belongs : State → Type 0) → IsSelection c belongs → (s : State) (row : ℕ) → weighed_total (weighed_of c) s row ≡ row_total c.units (values_in (c.seen s)) row
  total_is belongs is s row = rw (is.units, is.value s) refl
