-- The numbers in which a state keeps its values.
use Rattle.std.proofs.{Common.{◌≡◌, ℕ, ◌*◌, List, length, get_or, sym, ap, ◌∙◌, subst}, lemmas.Bool.{false_from_ne_true}}
use Rattle.std.specs.List.{Contains}
use Rattle.std.proofs.Math.Nat.{mul_assoc, mul_comm}
use Rattle.smp_flight.specs.{States.{Tracked, Units}, Kept.Windows.{Windowed, is_in, shares_in, tracked_of}}
use Rattle.smp_flight.specs.{Laws.Firsts.{contains_in, in_contains}, Laws.Windowed.{length-numerators_over, read_in, read_out}}

module _ (units : Units) (v : Windowed) (rows : ℕ) (numbers : List ℕ) (s : Tracked) (kept : numbers ≡ v.numer) (is : tracked_of units v rows ≡ s) where
  pub cells_size : length numbers ≡ length s.flight.values.numer
  cells_size =
      ap length kept ∙ sym (length-numerators_over v.numer v.times v.window) ∙ ap (λ (t : Tracked). length t.flight.values.numer) is

  -- the numerators of the window are kept as they are
  pub cells_window : (k : ℕ) → Contains s.window k → get_or numbers k 0 ≡ get_or s.flight.values.numer k 0
  cells_window k =
      subst (λ (t : Tracked). Contains t.window k → get_or numbers k 0 ≡ get_or t.flight.values.numer k 0) is
      (λ h. read_in v.numer v.times v.window k (get_or numbers k 0) (contains_in v.window k h) (ap (λ xs. get_or xs k 0) kept))

  -- and all others over the requested denominator
  pub cells_others : v.requested_den ≡ units.requested.den → (k : ℕ) → ¬ (Contains s.window k) → get_or numbers k 0 * s.flight.values.den ≡ get_or s.flight.values.numer k 0 * s.flight.fixed.requested.den
  cells_others first k =
      subst (λ (t : Tracked). ¬ (Contains t.window k) → get_or numbers k 0 * t.flight.values.den ≡ get_or t.flight.values.numer k 0 * t.flight.fixed.requested.den) is
      (λ h.
      ap (λ d. get_or numbers k 0 * d) (mul_comm v.requested_den v.times) ∙ sym (mul_assoc (get_or numbers k 0) v.times v.requested_den)
      ∙ ap (λ a. a * v.requested_den)
      (read_out v.numer v.times v.window k (get_or numbers k 0) (false_from_ne_true (is_in v.window k) (λ t. h (in_contains v.window k t))) (ap (λ xs. get_or xs k 0) kept))
      ∙ ap (λ d. get_or (shares_in v).numer k 0 * d) first)
