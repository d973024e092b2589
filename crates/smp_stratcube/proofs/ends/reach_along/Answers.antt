use Rattle.std.proofs.{Common.{SFits, rules, arith, ◌≡◌, get_or, sym, ap, ◌∙◌}, lemmas.Int.{to_z-of_z}}
use mir.Syntax.{w64}
use Rattle.smp_prob.specs.Shares.{Shares}
use Rattle.smp_kernel.specs.Vectors.{entry}
use Rattle.smp_moves.specs.{declared.reaches.Reach.{Reach}, Ends.{nearer, reach_at}}
use Rattle.smp_moves.proofs.Places.{reach_more}
use Rattle.smp_stratcube.specs.Values.{over_common}
use Rattle.smp_stratcube.proofs.Parts.{over_read}
use Rattle.smp_stratcube.proofs.ends.reach_along.Goals as goal

pub loop-place-preserved : goal.loop-place-preserved
loop-place-preserved c =
    let s : Shares = over_common c.args.den c.args.values.now in
    let j = c.loop-place.place in
    let unit = get_or c.args.line.now.units j 0 in
    let narrow : SFits w64 (entry c.args.line.now.entries j) = search rules in
    let numer : c.over-a.result ≡ get_or (over_common c.args.den c.args.values.now).numer unit 0 = over_read c.args.values.now c.args.den unit (c.requires.line j (omega arith)) c.at.result c.at.ensures c.over-a.result c.over-a.ensures.is in
    let here : c.reach_of.result ≡ reach_at s unit (entry c.args.line.now.entries j) = rw numer at (simp to_z-of_z at c.reach_of.ensures.is) in
    let least_is : c.nearer-least.result ≡ nearer c.loop-place.least (reach_at s unit (entry c.args.line.now.entries j)) = rw here at c.nearer-least.ensures.is in
    record {
      is = least_is ∙ ap (λ (r : Reach). nearer r (reach_at s unit (entry c.args.line.now.entries j))) c.loop-place.invariant.is
          ∙ sym (reach_more s (record { left = 1; size = 0 }) c.args.line.now.units c.args.line.now.entries j (omega (arith, c.requires.padded.places)) (omega (arith, c.requires.padded.short)));
      left = c.nearer-least.ensures.bounds.0;
      size = c.nearer-least.ensures.bounds.1;
    }
