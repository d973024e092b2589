-- The properties of a step fix it: there is one state at the end of a line, and so one step. Both ways of a move go somewhere.
use Rattle.std.proofs.Common.{◌≡◌, ℕ, ◌+◌, ◌*◌, ◌^◌, ◌<◌, ◌≤◌, List, ℤ, get_or, arith, sym, ap, ap₂}
use Rattle.std.proofs.Common.{◌∙◌, subst, inl, inr, eq-zero-or-pos}
use Rattle.std.proofs.lemmas.List.{ext_get_or}
use Rattle.std.proofs.Math.Nat.{dvd-mul_left}
use Prim.Native.Nat.{◌∣◌}
use Rattle.smp_frac.proofs.Arithmetic.{cancel, same_sym, same_trans}
use Rattle.smp_frac.proofs.Signs.{over_cross}
use Rattle.smp_prob.specs.Shares.{Shares}
use Rattle.smp_moves.specs.Ends.{end_of}
use Rattle.smp_moves.specs.declared.lines.Ratio.{Ratio}
use Rattle.smp_moves.specs.Kept.Ends.{MakesWhole}
use Rattle.smp_moves.specs.Moves.{Line, Move, IsOrder, IsMoved, Next}
use Rattle.smp_moves.proofs.Computed as computed
use Rattle.smp_moves.proofs.OneStep.{Goes, plus_some, minus_some, some_up, some_down}
use Rattle.smp_flight.specs.States.{Units, Flight, IsFlight}
use Rattle.smp_moves.specs.Steps.{IsDirection, IsMove, IsNext}
use Rattle.smp_flight.specs.Moves.{setting_of}
use Rattle.smp_flight.specs.Statements.{GoesBothWays}
use Rattle.smp_flight.specs.Laws.Nexts.{direction_line, flight_over, owes}

-- ---- the values at the end

module _ (first : ℕ) (s : Shares) (line : Line) (r : Ratio) (t v : Shares) (m : IsMoved first s line r t)
    (n : IsMoved first s line r v) where
  same_value : (k : ℕ) → get_or t.numer k 0 * v.den ≡ get_or v.numer k 0 * t.den
  same_value k = over_cross (get_or t.numer k 0) t.den (get_or v.numer k 0) v.den m.positive n.positive
      (same_trans (m.values k) (same_sym (n.values k)))

  makes_whole : MakesWhole (first * n.times) t
  makes_whole k =
      let P : ℕ → Type 0 = λ x. t.den ∣ x in
      subst P (sym (same_value k) ∙ ap (λ d. get_or t.numer k 0 * d) n.multiple) (dvd-mul_left t.den (get_or v.numer k 0))

  some_times : 1 ≤ n.times
  some_times = elim (eq-zero-or-pos n.times) [
    | inr p ↦ p
    | inl z ↦ absurd (let d : v.den ≡ 0 = n.multiple
        ∙ (let e : first * n.times ≡ 0 = rw z (omega arith) in e) in omega (arith, d, n.positive))
  ]

  fewer_times : m.times ≤ n.times
  fewer_times = m.least n.times some_times makes_whole

module _ (first : ℕ) (s : Shares) (line : Line) (r : Ratio) (t v : Shares) (m : IsMoved first s line r t)
    (n : IsMoved first s line r v) where
  same_den : t.den ≡ v.den
  same_den =
      let same_times : m.times ≡ n.times = omega (arith, fewer_times first s line r t v m n, fewer_times first s line r v t n m) in
      m.multiple ∙ ap (λ x. first * x) same_times ∙ sym n.multiple

  same_numer : t.numer ≡ v.numer
  same_numer =
      ext_get_or 0 t.numer v.numer (m.same_length ∙ sym n.same_length)
      (λ k l. cancel (get_or t.numer k 0) (get_or v.numer k 0) v.den n.positive
      (same_value first s line r t v m n k ∙ ap (λ d. get_or v.numer k 0 * d) same_den))

  pub one_end : t ≡ v
  one_end = ap₂ (λ (a : List ℕ) (d : ℕ). record { numer = a; den = d }) same_numer same_den

-- ---- the step

module _ (units : Units) (s : Flight) (order : List ℕ) (is_flight : IsFlight units s) (ok : IsOrder s.values order) where
  goes : (w : List ℤ) (line : Line) → IsDirection (setting_of units).share order w line → Goes s.values line
  goes w line d = record {
    first = units.requested.den;
    over = flight_over units s is_flight;
    ok = direction_line units s.values order ok w line d;
  }

  pub goes_both_ways : (w : List ℤ) (m : Move) (plus minus : Shares)
      → IsMove (setting_of units) s.values order w m plus minus → m.plus_weight + m.minus_weight < 2 ^ 126
      → GoesBothWays m
  goes_both_ways w m plus minus a bound =
      let along = goes w m.direction a.direction in
      record {
        up = some_up (setting_of units) s.values order w m plus minus a along;
        down = some_down (setting_of units) s.values order w m plus minus a along;
        plus_weight = plus_some (setting_of units) s.values order w m plus minus a along;
        minus_weight = minus_some (setting_of units) s.values order w m plus minus a along;
        bound = bound;
      }

  pub one_next : (a b : Next) → IsNext (setting_of units) s order a → IsNext (setting_of units) s order b → a ≡ b
  one_next =
      computed.one_next (setting_of units) (end_of units.requested.den) s order (owes units s order is_flight ok)
      (λ line r p q a b. one_end units.requested.den s.values line r p q a b)
