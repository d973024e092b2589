-- The splits of a local pivotal selection are lawful.
use Rattle.std.proofs.Common.{◌≡◌, ◌≢◌, ℕ, ◌<◌, ◌≤◌, true, false, nat_lt, List, Option, Some, None, length}
use Rattle.std.proofs.Common.{get_or, refl, arith, inl, inr}
use Rattle.std.proofs.lemmas.Bool.{cases_Bool, eqb-false, ltb-true}
use Rattle.std.proofs.lemmas.List.Sums.{count_by-le-length}
use Rattle.smp_frac.specs.Limits.{most_denominator}
use Rattle.smp_frac.proofs.Arithmetic.{same_refl}
use Rattle.smp_prob.specs.Shares.{Shares}
use Rattle.smp_split.specs.Lenses.{as_unit}
use Rattle.smp_split.specs.Parts.{equal_parts, moved}
use Rattle.smp_split.specs.Trees.{Part, IsPart, Lawful, LawfulEnd, LawfulParts, weight_sum}
use Rattle.smp_split.specs.Laws.Lenses.{parts_through}
use Rattle.smp_split.specs.Laws.Parts.{weighted-same, weight_sum-equal, each_equal}
use Rattle.smp_values.specs.Steps.{lone_parts, pair_parts, steps_tree}
use Rattle.smp_values.specs.Values.{IsValues, fractional, fractional_at, fractional_count, is_settled, value_at}
use Rattle.smp_values.proofs.Designs.{each_settled}
use Rattle.smp_values.proofs.Fractional.{over_settled}
use Rattle.smp_values.proofs.LawfulSteps.{lone_lawful, pair_lawful}
use Rattle.smp_values.proofs.Units.{fractional_at_is, fractional_within}
use Rattle.smp_localpiv.specs.Local.{Local, IsLocal, IsChosen, choice, choosing, located_values, local_tree, neighbour, parts_from}
use Rattle.smp_localpiv.specs.Laws.Neighbours.{met}

module _ (units : ℕ) (s : Local) (ok : IsLocal units s) where
  -- the parts make a lawful split
  abbrev IsSplit : List (Part Local) → Type 0
  IsSplit parts = LawfulParts (local_tree units) (IsLocal units) s parts

  -- the parts of a step on the values, after which no unit is chosen
  stepped : (parts : List (Part Shares)) → LawfulParts (steps_tree units) (IsValues units most_denominator) s.state parts
      → IsSplit (moved (located_values s.coords) parts)
  stepped =
      parts_through (steps_tree units) (IsValues units most_denominator) (local_tree units) (IsLocal units)
      (located_values s.coords) as_unit s.state s
      (record {
        within = λ k h. h;
        part = λ p is. (let fewer : fractional_count p.state < fractional_count s.state = is.falls in
            record {
              heavy = is.heavy;
              falls = omega arith;
              member = record { values = is.member; few = ok.few; placed = ok.placed; meets = tt };
            });
        value = λ k h. same_refl (value_at s.state k);
        values = λ t here k h. same_refl (value_at t k);
      })

  -- a choice, after which the values are what they were
  choice_split : s.chosen ≡ None → 1 < fractional_count s.state → IsSplit (choice s)
  choice_split none several =
      let to : ℕ → Local = λ place. choosing s (fractional_at s.state place) in
      let total : weight_sum (equal_parts (fractional_count s.state) to) ≡ fractional_count s.state =
      weight_sum-equal to (fractional_count s.state) in
      let most : fractional_count s.state ≤ length s.state.numer = count_by-le-length (fractional s.state.den) s.state.numer in
      record {
        some = omega arith;
        narrow = omega (arith, ok.few, ok.values.count);
        each = each_equal to (IsPart (local_tree units) (IsLocal units) s) (fractional_count s.state)
            (λ place h. record {
              heavy = omega arith;
              falls = rw none (omega arith);
              member = record {
                values = ok.values;
                few = ok.few;
                placed = ok.placed;
                meets = record { open_at = fractional_at_is s.state place h; another = several };
              };
            });
        even = λ k h.
            weighted-same (λ t. value_at t.state k) (value_at s.state k) (choice s)
            (each_equal to (λ p. value_at p.state.state k ≡ value_at s.state k) (fractional_count s.state) (λ place _. refl));
      }

  split_at : (chosen : Option ℕ) → s.chosen ≡ chosen → IsChosen s.state chosen → is_settled s.state ≡ false
      → IsSplit (parts_from s chosen)
  split_at None none meets going =
      let some : fractional_count s.state ≢ 0 = eqb-false (fractional_count s.state) 0 going in
      elim (cases_Bool (nat_lt 1 (fractional_count s.state))) [
        | inl e ↦ rw e (choice_split none (ltb-true 1 (fractional_count s.state) e))
        | inr e ↦
            (let open_at = fractional_at_is s.state 0 (omega arith) in
            rw e
            (stepped (lone_parts s.state (fractional_at s.state 0))
            (lone_lawful units s.state ok.values (fractional_at s.state 0)
            (fractional_within s.state (fractional_at s.state 0) open_at) open_at)))
      ]
  split_at (Some unit) e meets going =
      let at = met s unit meets in
      stepped (pair_parts s.state unit (neighbour s unit))
      (pair_lawful units s.state ok.values unit (neighbour s unit) at.apart at.unit_in at.other_in at.unit_open at.other_open)

  local_end : is_settled s.state ≡ true → LawfulEnd (local_tree units) s
  local_end done k h = over_settled s.state.den (get_or s.state.numer k 0) ok.values.positive
      (each_settled units most_denominator s.state ok.values done k)

pub local_lawful : (units : ℕ) → Lawful (local_tree units) (IsLocal units)
local_lawful units = record {
  split = λ s ok going. split_at units s ok s.chosen refl ok.meets going;
  end = λ s ok done. local_end units s ok done;
}
