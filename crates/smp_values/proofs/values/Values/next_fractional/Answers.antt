use Rattle.std.proofs.{Common.{◌≡◌, ◌<◌, ◌≤◌, length, sym, ap, ◌∙◌, arith, inl, inr}, lemmas.Bool.{cases_lt}}
use Rattle.smp_prob.specs.Shares.{Shares}
use Rattle.smp_values.proofs.Searches.{from_is}
use Rattle.smp_values.proofs.values.Values.next_fractional.Goals as goal

pub returns-then-is_fractional-clause-next : goal.returns-then-is_fractional-clause-next
returns-then-is_fractional-clause-next c =
    let units : length c.self.inside.numer.items ≡ length c.args.self.now.numer = ap (λ (s : Shares). length s.numer) c.self.view_is in
    sym (from_is c.args.self.now c.args.place c.loop-unit.unit (omega arith) (omega arith) c.loop-unit.invariant (λ _. sym c.is_fractional.ensures ∙ c.if-is_fractional.true))

pub returns-clause-next : goal.returns-clause-next
returns-clause-next c =
    let units : length c.self.inside.numer.items ≡ length c.args.self.now.numer = ap (λ (s : Shares). length s.numer) c.self.view_is in
    let all : length c.args.self.now.numer ≤ c.loop-unit.unit = omega arith in
    let end : c.len.result ≡ length c.args.self.now.numer = omega arith in
    elim (cases_lt (length c.args.self.now.numer) c.args.place) [
      | inl past ↦ omega arith
      | inr within ↦
          end ∙ sym (from_is c.args.self.now c.args.place (length c.args.self.now.numer) within (omega arith) (λ k p h. c.loop-unit.invariant k p (omega arith)) (λ h. absurd (let f : length c.args.self.now.numer < length c.args.self.now.numer = h in omega arith)))
    ]
