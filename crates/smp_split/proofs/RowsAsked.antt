-- The rows of a design that serves its request.
use Rattle.std.proofs.Common.{◌≡◌, ℕ, ◌<◌, length, refl, ap, ◌∙◌}
use Rattle.std.specs.List.{count_by, range_with_len}
use Rattle.smp_prob.specs.{declared.requests.Request.{Request}, declared.inclusions.Inclusion.{Inclusion}}
use Rattle.smp_prob.specs.declared.inclusions.Inclusion.TheVariants.{Certain, Free, Never}
use Rattle.smp_prob.specs.Inclusions.{inclusion, fraction_at, asked_fraction}
use Rattle.smp_split.specs.{Counts.{AddsUp, LeavesSelect, selected_count}, Trees.{Tree}, Laws.Lenses.{leaves_through}}
use Rattle.smp_frac.specs.Fractions.{Same, whole}
use Rattle.smp_frac.proofs.Arithmetic.{same_refl}
use Rattle.smp_split.specs.Rows.{row_value, rows_tree, SelectsAsRequested, AddsUpTo}
use Rattle.smp_split.specs.Laws.Rows.{free_within, row_view, rows_lens, rows_close}

module _ {State : Type 0} (rows : ℕ) (request : Request) (tree : Tree State) where
  module _ (state : State) (serves : SelectsAsRequested request tree state) where
    by_inclusion : (stands : Inclusion) → ((unit : ℕ) → stands ≡ Free unit → unit < length request.free) → Same (row_value (tree.value state) stands) (fraction_at request stands)
    by_inclusion Certain within = same_refl (whole 1)
    by_inclusion (Free unit) within = serves.values unit (within unit refl)
    by_inclusion Never within = same_refl (whole 0)

    pub value_is_asked : (row : ℕ) → Same (row_value (tree.value state) (inclusion request row)) (asked_fraction request row)
    value_is_asked row = by_inclusion (inclusion request row) (λ unit is. free_within request row unit is)

    pub rows_select : (belongs : State → Type 0) (n : ℕ) → length request.free ≡ tree.units → AddsUp tree request.r state → AddsUpTo request rows n → LeavesSelect (rows_tree rows request tree) n state
    rows_select belongs n paired adds fills =
        leaves_through tree belongs (rows_tree rows request tree) (λ s. s) (λ row. row_view (inclusion request row)) (rows_lens rows request tree belongs paired) (rows_close rows request tree belongs)
        (λ leaf. selected_count tree leaf ≡ request.r) (λ leaf. selected_count (rows_tree rows request tree) leaf ≡ n)
        (λ leaf done selected. fills (tree.selected leaf) (ap (λ units. count_by (tree.selected leaf) (range_with_len 0 units)) paired ∙ selected))
        state (serves.count request.r adds)
