-- The splits of the rows are lawful where those of the free units are: the rows see the design through a lens.
use Rattle.std.proofs.Common.{◌≡◌, ℕ, ◌<◌, nat_eq, length, Option, Some, None, arith, refl, sym, inl, inr}
use Rattle.std.specs.Prelude.{position, is_some}
use Rattle.std.proofs.lemmas.Bool.{cases_Bool}
use Rattle.std.proofs.lemmas.List.Quantifiers.{position-Some}
use Rattle.smp_prob.specs.declared.requests.Request.{Request}
use Rattle.smp_prob.specs.declared.inclusions.Inclusion.{Inclusion}
use Rattle.smp_prob.specs.declared.inclusions.Inclusion.TheVariants.{Certain, Free, Never}
use Rattle.smp_prob.specs.Inclusions.{inclusion, is_taken, free_or_never}
use Rattle.smp_frac.specs.Fractions.{Same, whole}
use Rattle.smp_split.specs.Lenses.{OuterUnit, fixed, as_unit, seen, Within, Lens, Shows, Closes}
use Rattle.smp_split.specs.Methods.{Method}
use Rattle.smp_split.specs.Trees.{Tree, Lawful}
use Rattle.smp_frac.proofs.Arithmetic.{same_refl}
use Rattle.smp_split.specs.Laws.Lenses.{split_through, end_through}
use Rattle.smp_split.specs.Laws.Parts.{moved-same}
use Rattle.smp_split.specs.Rows.{row_value, rows_tree, BelongsToRows}

at_place : (request : Request) (row place_is : ℕ) (place : Option ℕ) → position (nat_eq row) request.free ≡ place
    → free_or_never place ≡ Free place_is → place_is < length request.free
at_place request row unit (Some place) at is =
    let same : place ≡ unit = cc in rw (← same) (position-Some (nat_eq row) request.free place 0 at).0
at_place request row unit None at is = absurd (cc)

-- a free unit has its place among the free units
pub free_within : (request : Request) (row place_is : ℕ) → inclusion request row ≡ Free place_is → place_is < length request.free
free_within request row unit is =
    elim (cases_Bool (is_some (position (nat_eq row) request.certain))) [
      | inl certain ↦ absurd (let other : Certain ≡ Free unit = rw certain at is in cc)
      | inr open_ ↦ at_place request row unit (position (nat_eq row) request.free) refl (rw open_ at is)
    ]

-- how a row that stands so sees the free units
abbrev pub row_view : Inclusion → OuterUnit
row_view Certain = fixed (whole 1)
row_view (Free k) = as_unit k
row_view Never = fixed (whole 0)

module _ {State : Type 0} (rows : ℕ) (request : Request) (tree : Tree State) (belongs : State → Type 0) where
  view_within : (paired : length request.free ≡ tree.units) (stands : Inclusion)
      → ((k : ℕ) → stands ≡ Free k → k < length request.free) → Within tree.units (row_view stands)
  view_within paired Certain within = tt
  view_within paired (Free k) within = omega (arith, within k refl, paired)
  view_within paired Never within = tt

  view_value : (value : ℕ → _) (stands : Inclusion) → Same (row_value value stands) (seen (row_view stands) value)
  view_value value Certain = same_refl (whole 1)
  view_value value (Free k) = same_refl (value k)
  view_value value Never = same_refl (whole 0)

  view_shows : (selected : ℕ → _) (stands : Inclusion) → Shows (row_view stands) selected (is_taken selected stands)
  view_shows selected Certain = same_refl (whole 1)
  view_shows selected (Free k) = refl
  view_shows selected Never = same_refl (whole 0)

  pub rows_lens : length request.free ≡ tree.units
      → Lens tree belongs (rows_tree rows request tree) (λ s. s) (λ row. row_view (inclusion request row))
  rows_lens paired = record {
    within = λ row _. view_within paired (inclusion request row) (free_within request row);
    going = λ i e. e;
    kind = λ i e. refl;
    parts = λ i e. sym (moved-same (tree.parts i));
    falls = λ i j less. less;
    value = λ i here row _. view_value (tree.value i) (inclusion request row);
  }

  pub rows_close : Closes tree (rows_tree rows request tree) (λ s. s) (λ row. row_view (inclusion request row))
  rows_close = record { done = λ i e. e; selected = λ i e row _. view_shows (tree.selected i) (inclusion request row) }

  pub rows_lawful : Lawful tree belongs → Lawful (rows_tree rows request tree) (BelongsToRows request tree belongs)
  rows_lawful lawful = record {
    split = λ s here going. split_through tree belongs (rows_tree rows request tree) (λ t. t)
        (λ row. row_view (inclusion request row)) (rows_lens here.paired) (BelongsToRows request tree belongs)
        (λ i m. record { member = m; ordered = here.ordered; paired = here.paired }) s here.member going
        (lawful.split s here.member going);
    end = λ s here done. end_through tree belongs (rows_tree rows request tree) (λ t. t)
        (λ row. row_view (inclusion request row)) (rows_lens here.paired) rows_close s here.member done
        (lawful.end s here.member done);
  }

-- the method that draws the rows by one that draws the free units
abbrev pub rows_method : {State : Type 0} → ℕ → Request → Method State → Method State
rows_method rows request method = record {
  tree = rows_tree rows request method.tree;
  belongs = BelongsToRows request method.tree method.belongs;
  lawful = rows_lawful rows request method.tree method.belongs method.lawful;
}
