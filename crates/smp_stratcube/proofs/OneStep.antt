-- The properties of a step fix it: there is one state at the end of a line, and so one step.
use Rattle.std.proofs.{Common.{◌≡◌, ℕ, ◌<◌, Bool, List, length, arith, sym, ap₂, ◌∙◌, inl, inr}, lemmas.List.{ext_get_or}}
use Rattle.smp_frac.specs.Fractions.{Same}
use Rattle.smp_frac.proofs.{Arithmetic.{same_sym, same_trans}, Signs.{over_cross}}
use Rattle.smp_kernel.proofs.Ring.{zero_or}
use Rattle.smp_moves.specs.{declared.lines.Ratio.{Ratio}, Moves.{Line, Next, entry_of, fraction_of}, Steps.{IsNext}}
use Rattle.smp_moves.proofs.Computed as steps
use Rattle.smp_moves.proofs.LowestTerms.{same_coprime}
use Rattle.smp_stratcube.specs.{declared.values.Value.{Value}, Units.{Units}, Values.{IsValue, fractional_units, nothing, value}}
use Rattle.smp_stratcube.specs.{States.{Flight, IsFlying}, Kept.Computed.{moved_values}, Moves.{IsMovedTo, setting_of}, Laws.Nexts.{owes}}

-- ---- the values at the end

-- two values in lowest terms
same_value : (v w : Value) → IsValue v → IsValue w → v.touched ≡ w.touched → Same (fraction_of v.at) (fraction_of w.at) → v ≡ w
same_value v w a b touched same =
    let both = same_coprime v.at.num v.at.den w.at.num w.at.den a.reduced b.reduced a.positive (over_cross v.at.num v.at.den w.at.num w.at.den a.positive b.positive same) in
    ap₂ (λ (r : Ratio) (t : Bool). record { at = r; touched = t }) (ap₂ (λ n d. record { num = n; den = d }) both.0 both.1) touched

one_end : (values : List Value) (line : Line) (r : Ratio) (p q : List Value) → IsMovedTo values line r p → IsMovedTo values line r q → p ≡ q
one_end values line r p q a b =
    ext_get_or nothing p q (a.are.count ∙ sym b.are.count) (λ k l. at k (omega (arith, l, a.are.count)))
  where
    at : (k : ℕ) → k < length values → value p k ≡ value q k
    at k l =
        elim (zero_or (entry_of line k)) [
          | inl still ↦ a.kept k still ∙ sym (b.kept k still)
          | inr some ↦ same_value (value p k) (value q k) (a.are.each k) (b.are.each k) (a.moved k l some ∙ sym (b.moved k l some)) (same_trans (a.at k) (same_sym (b.at k)))
        ]

-- ---- the step

pub one_next : (units : Units) (f : Flight) → IsFlying units f → (a b : Next) → IsNext (setting_of units) f (fractional_units f.values) a → IsNext (setting_of units) f (fractional_units f.values) b → a ≡ b
one_next units f ok = steps.one_next (setting_of units) (moved_values units) f (fractional_units f.values) (owes units f ok) (one_end f.values)
