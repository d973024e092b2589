-- Sequential pivotal steps are lawful, and keep the sum of the values, but for the last step on one unit alone.
use Rattle.std.proofs.Common.{◌≡◌, ◌≢◌, ℕ, ◌+◌, ◌^◌, ◌<◌, ◌≤◌, true, false, List, length, get_or, arith, refl, sym, subst, inl, inr}
use Rattle.std.proofs.lemmas.Bool.{cases_lt, lt-ltb, le-ltb}
use Rattle.smp_prob.specs.Shares.{Shares}
use Rattle.smp_split.specs.Trees.{Part, EachPart, IsPart, Lawful, LawfulParts, LawfulSplit, weight_sum, picked}
use Rattle.smp_split.proofs.Counts.{KeepsCount}
use Rattle.smp_split.specs.Laws.Steps.{picked_is_part}
use Rattle.smp_values.specs.Kept.Places.{IsGoing, first_of, second_of}
use Rattle.smp_values.specs.Steps.{lone_parts, pair_parts, pivotal_kind, pivotal_parts, steps_tree}
use Rattle.smp_values.specs.Values.{AddTo, IsValues, fractional_count, is_fractional, is_settled}
use Rattle.smp_values.proofs.{Designs.{values_lawful, values_keep}, Fractional.{fractional_is}, Near.{IsNear, lone_near}, Sums.{lone_never}}
use Rattle.smp_values.proofs.LawfulSteps.{lone_lawful, pair_lawful, pair_near, pair_total}
use Rattle.smp_values.proofs.Searches.{at_from, going_on, lone_count, parts_found}

module _ (units : ℕ) (s : Shares) (ok : IsValues units (2 ^ 80) s) (going : is_settled s ≡ false) where
  at : IsGoing s (first_of s) (second_of s)
  at =
      let own : IsValues (length s.numer) (2 ^ 80) s = record { count = refl; positive = ok.positive; narrow = ok.narrow; each = ok.each } in
      going_on s (first_of s) (second_of s) (record { values = own; first_is = refl; second_is = refl }) going

  here : first_of s < length s.numer
  here = omega (arith, at.ordered, at.second_in)

  -- what holds of the parts of a pair step, and of those of a step on a unit that alone is fractional, holds of those of the next step
  module _ (P : List (Part Shares) → Type 0) where
    abbrev OnPair : Type 0
    OnPair =
        first_of s ≢ second_of s → second_of s < length s.numer → is_fractional s (first_of s) ≡ true → is_fractional s (second_of s) ≡ true
        → P (pair_parts s (first_of s) (second_of s))

    abbrev OnLone : Type 0
    OnLone = fractional_count s ≤ 1 → is_fractional s (first_of s) ≡ true → P (lone_parts s (first_of s))

    on_found : OnPair → OnLone → P (pivotal_parts s)
    on_found pair lone =
        subst P (sym (parts_found s (first_of s) (second_of s) at)) (elim (cases_lt (second_of s) (length s.numer)) [
          | inl there ↦ rw (lt-ltb (second_of s) (length s.numer) there) (pair (omega (arith, at.ordered)) there (at_from s 0 here) (at_from s (first_of s + 1) there))
          | inr past ↦ rw (le-ltb (second_of s) (length s.numer) past) (lone (lone_count s (first_of s) (second_of s) refl refl here (omega arith)) (at_from s 0 here))
        ])

  pub steps_split : LawfulSplit (steps_tree units) (IsValues units (2 ^ 80)) s
  steps_split =
      on_found (LawfulParts (steps_tree units) (IsValues units (2 ^ 80)) s)
      (λ ne there first second. pair_lawful units s ok (first_of s) (second_of s) ne here there first second)
      (λ _ first. lone_lawful units s ok (first_of s) here first)

  pub steps_keep : (n : ℕ) → AddTo n s → EachPart (λ p. AddTo n p.state) (pivotal_parts s)
  steps_keep n adds =
      on_found (EachPart (λ p. AddTo n p.state))
      (λ ne there first second. pair_total units s ok (first_of s) (second_of s) ne here there first second n adds)
      (λ few first. absurd (lone_never units (2 ^ 80) n s ok (first_of s) first few adds))

  pub steps_near : (total den : ℕ) → IsNear total den s → EachPart (λ p. IsNear total den p.state) (pivotal_parts s)
  steps_near total den near =
      on_found (EachPart (λ p. IsNear total den p.state))
      (λ ne there first second. pair_near units s ok (first_of s) (second_of s) ne here there first second total den near.den_is (near.going going))
      (λ few first. lone_near total den s near going few (first_of s) here first (fractional_is s.den (get_or s.numer (first_of s) 0) first))

-- a draw leads to values in range
pub step_within : (s : Shares) (draw : ℕ) → IsValues (length s.numer) (2 ^ 80) s → is_settled s ≡ false → draw < weight_sum (pivotal_parts s) → (t : Shares) → t ≡ picked s (pivotal_parts s) draw → IsValues (length t.numer) (2 ^ 80) t
step_within s draw ok going within t is =
    let split = steps_split (length s.numer) s ok going in
    let after : IsValues (length s.numer) (2 ^ 80) (picked s (pivotal_parts s) draw) =
    picked_is_part (IsPart (steps_tree (length s.numer)) (IsValues (length s.numer) (2 ^ 80)) s) (IsValues (length s.numer) (2 ^ 80)) (λ p part. part.member) s (pivotal_parts s) draw split.each within in
    rw is (record { count = refl; positive = after.positive; narrow = after.narrow; each = after.each })

pub steps_lawful : (units : ℕ) → Lawful (steps_tree units) (IsValues units (2 ^ 80))
steps_lawful units = values_lawful units (2 ^ 80) pivotal_kind pivotal_parts (λ k. k) (IsValues units (2 ^ 80)) (λ s ok. ok) (steps_split units)

pub steps_count : (units n : ℕ) → KeepsCount (steps_tree units) (IsValues units (2 ^ 80)) (λ count. count ≡ n) (AddTo n)
steps_count units n = values_keep units (2 ^ 80) pivotal_kind pivotal_parts (λ k. k) (IsValues units (2 ^ 80)) (λ s ok. ok) n (λ s ok going. steps_keep units s ok going n)
