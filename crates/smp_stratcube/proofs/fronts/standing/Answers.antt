use Rattle.std.proofs.Common.{◌≡◌, get_or, arith, sym, ap, ◌∙◌}
use Rattle.smp_values.specs.Values.{fractional}
use Rattle.smp_moves.proofs.Filtered.{kept_in, kept_out}
use Rattle.smp_stratcube.specs.{declared.values.Value.{Value}, Values.{is_fractional}}
use Rattle.smp_stratcube.proofs.{fronts.standing.Goals.{then-is_fractional, else-is_fractional}}
use Rattle.smp_stratcube.proofs.fronts.standing.Goals as goal

pub loop-place-preserved : goal.loop-place-preserved
loop-place-preserved c =
    let unit = get_or c.args.front.now.units c.loop-place.place 0 in
    let test : c.is_fractional.result ≡ is_fractional c.args.values.now unit = c.is_fractional.ensures ∙ ap (λ (v : Value). fractional v.at.den v.at.num) c.at.ensures in
    elim c.if-is_fractional.branch [
      | then-is_fractional w ↦
          rw w.still-is (record { kept = kept_in (is_fractional c.args.values.now) c.args.front.now.number c.args.front.now.units c.loop-place.place (omega arith) (omega (arith, c.requires.short)) c.loop-place.still.units c.loop-place.still.number c.loop-place.invariant.kept (sym test ∙ w.if-is_fractional.true); place = c.loop-place.invariant.place })
      | else-is_fractional w ↦
          rw w.still-is (record { kept = kept_out (is_fractional c.args.values.now) c.args.front.now.number c.args.front.now.units c.loop-place.place (omega arith) (omega (arith, c.requires.short)) c.loop-place.still.units c.loop-place.still.number c.loop-place.invariant.kept (sym test ∙ w.if-is_fractional.false); place = c.loop-place.invariant.place })
    ]
