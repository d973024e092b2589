-- The request that is made for n of the units with some sizes, and when there is none.
use Rattle.std.proofs.Common.{◌≡◌, ℕ, ◌<◌, ◌≤◌, Bool, true, true≢false, List, length, Result, Ok, Err, is_ok, inl, inr, refl, sym, ap, ◌∙◌}
use Rattle.std.specs.{Prelude.{IsOkUnless, count_by}, List.{range_with_len}}
use Rattle.std.proofs.lemmas.Bool.{cases_lt}
use Rattle.smp_prob.specs.{Inclusions.{AreApart, AreBelow, IsRising, count_taken}, Requested.{positive_units, requested_of}}
use Rattle.smp_prob.specs.{Requests.{IsRequest}, declared.faults.ProbFault.{ProbFault}, declared.requests.Request.{Request}}
use Rattle.smp_prob.specs.declared.faults.ProbFault.TheVariants.{NoMemory, TooMany}
use Rattle.smp_values.specs.Starts.{DrawsWhole}
use Rattle.smp_strata.specs.Kept.Built.{Asks, IsSizedRequest}

module _ (sizes : List ℕ) (n : ℕ) where
  pub sized : (request : Request) → request ≡ requested_of sizes n → IsRequest request → IsRising request → AreApart request → AreBelow (length sizes) request → Asks sizes n request
      → ((drawn : ℕ → Bool) → count_by drawn (range_with_len 0 (length request.free)) ≡ request.r → count_taken request drawn (length sizes) ≡ n)
      → (length request.free ≡ 0 → (request.r ≡ 0) × (request.total ≡ 0)) → IsSizedRequest sizes n request
  sized request value sound rising apart below asks drawn none_free =
      let whole : DrawsWhole request = record { total = rw value refl; none_free = λ none. (none_free none).0 } in
      record {
        value = value;
        over = record {
          over = record { sound = sound; rising = rising; apart = apart; certain = below.certain; free = below.free };
          whole = whole;
        };
        asks = asks;
        draws = record { whole = whole; fills = drawn };
      }

  -- a request is made of enough units
  pub enough : (made : Result Request ProbFault) → is_ok made ≡ true → (positive_units sizes < n → made ≡ Err (TooMany (positive_units sizes))) → n ≤ positive_units sizes
  enough made ok too_many =
      elim (cases_lt (positive_units sizes) n) [
        | inl l ↦ absurd (true≢false (sym ok ∙ ap is_ok (too_many l)))
        | inr g ↦ g
      ]

  -- none is made of too few, and how many they are is told
  pub few : (made : Result Request ProbFault) (positive : ℕ) → made ≡ Err (TooMany positive) → (n ≤ positive_units sizes → IsOkUnless made NoMemory)
      → (positive_units sizes < n → made ≡ Err (TooMany (positive_units sizes))) → (positive_units sizes < n) × (positive ≡ positive_units sizes)
  few made positive is enough too_many =
      elim (cases_lt (positive_units sizes) n) [
        | inl l ↦ (l, ap told (sym is ∙ too_many l))
        | inr g ↦ absurd (not_both (rw is at (enough g)))
      ]
    where
      told : Result Request ProbFault → ℕ
      told (Err (TooMany positive)) = positive
      told (Err NoMemory) = 0
      told (Ok request) = 0

      not_both : TooMany positive ≡ NoMemory → ⊥
      not_both e = cc
