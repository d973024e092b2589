-- What the step of a state says, by its equation alone.
use Rattle.std.proofs.Common.{◌≡◌, ◌+◌, take, sym, ap, ◌∙◌, subst}
use Rattle.smp_values.specs.Values.{fractional_units}
use Rattle.smp_moves.proofs.Entries.{frame_order}
use Rattle.smp_flight.specs.{States.{AreFirst, IsFlight, Tracked, Units}, Moves.{setting_of}, Steps.{next}, Kept.States.{IsFound}}
use Rattle.smp_moves.specs.Steps.{IsNext}
use Rattle.smp_flight.specs.{Answers.{Allows, Answer, IsFirstMove, IsMoveOf, answer_of, IsKeptIn}}
use Rattle.smp_moves.specs.declared.steps.Next.TheVariants as answers
use Rattle.smp_flight.specs.Laws.NextProperties.{next_is, next_on_front}
use Rattle.smp_flight.proofs.Searched.{allowed, allowed_first, front_searched}

pub kept_of : (units : Units) (s : Tracked) (result : Answer) → Allows (IsMoveOf units s) units s result → IsKeptIn units.requested.den s.flight.values result
kept_of units s (answers.Move m) made = made.kept
kept_of units s answers.Independent made = tt
kept_of units s answers.Wide made = tt

module _ (units : Units) (s : Tracked) (is_flight : IsFlight units s.flight) (result : Answer) (found : IsFound s result) where
  pub found_next : answer_of result ≡ next units s.flight
  found_next = found.is ∙ ap (λ (u : Units). next u s.flight) is_flight.fixed_is

  pub found_exact : IsNext (setting_of units) s.flight (fractional_units s.flight.values) (answer_of result)
  found_exact = subst (IsNext (setting_of units) s.flight (fractional_units s.flight.values)) (sym found_next) (next_is units s.flight (fractional_units s.flight.values) is_flight (frame_order s.flight.values))

  pub found_allows : AreFirst s.flight s.window → Allows (IsFirstMove units s) units s result
  found_allows first =
      allowed_first s first units is_flight result found_next
      (allowed units s (take (s.flight.rows + 1) (fractional_units s.flight.values)) (front_searched s first) result (found_next ∙ sym (next_on_front units s.flight (fractional_units s.flight.values)))
      (subst (λ (u : Units). IsKeptIn u.requested.den s.flight.values result) is_flight.fixed_is found.kept))
