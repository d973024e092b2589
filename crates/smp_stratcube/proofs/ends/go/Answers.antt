use Rattle.std.proofs.Common.{SFits, rules, ◌≡◌, ◌*◌, ◌/◌, ◌<◌, ◌≤◌, ℤ, length, arith, get_or, set, length-set, sym, ap, ◌∙◌, subst}
use Rattle.std.proofs.{lemmas.Int.{to_z-of_z}, lemmas.List.{get_or_read}}
use mir.Syntax.{w64}
use Rattle.smp_kernel.specs.Vectors.{entry}
use Rattle.smp_moves.specs.{Answers.{line_of}, Moves.{entry_of}, Kept.Ends.{CanMove}}
use Rattle.smp_stratcube.specs.{declared.values.Value.{Value}, Values.{IsValue, nothing, value}, Kept.Computed.{moved_value}}
use Rattle.smp_stratcube.proofs.{Ending.{can_move}, Going.{entry_on, gone_further, still_there}}
use Rattle.smp_stratcube.proofs.ends.go.Goals as goal

pub moved-requires-clause-value : goal.moved-requires-clause-value
moved-requires-clause-value c =
    let j = c.loop-place.place in
    let unit = get_or c.args.line.now.units j 0 in
    let inside = c.requires.inside j (omega arith) in
    let is = get_or_read c.loop-place.values.items unit c.index-value.result.now (omega (arith, inside, c.loop-place.invariant.count)) c.index-value.ensures nothing in
    let still = still_there c.args.line.now.number c.args.line.now.units c.args.line.now.entries c.requires.along.padded.places (omega (arith, c.requires.along.padded.short)) c.requires.along.is_line.order.distinct j (omega arith) c.args.den c.args.reach c.loop-place.values.items c.args.values.now.items c.loop-place.invariant.each inside in
    subst IsValue (sym (is ∙ still)) (c.requires.along.are.each unit)

pub moved-requires-clause-can : goal.moved-requires-clause-can
moved-requires-clause-can c =
    let j = c.loop-place.place in
    let line = c.args.line.now in
    let unit = get_or line.units j 0 in
    let inside = c.requires.inside j (omega arith) in
    let is = get_or_read c.loop-place.values.items unit c.index-value.result.now (omega (arith, inside, c.loop-place.invariant.count)) c.index-value.ensures nothing in
    let still = still_there line.number line.units line.entries c.requires.along.padded.places (omega (arith, c.requires.along.padded.short)) c.requires.along.is_line.order.distinct j (omega arith) c.args.den c.args.reach c.loop-place.values.items c.args.values.now.items c.loop-place.invariant.each inside in
    let old : c.index-value.result.now ≡ value c.args.values.now.items unit = is ∙ still in
    let narrow : SFits w64 (entry line.entries j) = search rules in
    let can = can_move (length c.args.values.now.items) c.args.values.now.items line c.args.den c.args.reach c.requires.along unit in
    let at : entry_of (line_of line) unit ≡ entry line.entries j = entry_on line c.requires.along.padded.places (omega (arith, c.requires.along.padded.short)) c.requires.along.is_line.order.distinct j (omega arith) in
    let there = subst (λ (z : ℤ). CanMove ((value c.args.values.now.items unit).at.num * (c.args.den / (value c.args.values.now.items unit).at.den)) c.args.reach z) at can in
    let here = subst (λ (v : Value). CanMove (v.at.num * (c.args.den / v.at.den)) c.args.reach (entry line.entries j)) (sym old) there in
    simp to_z-of_z here

pub loop-place-preserved : goal.loop-place-preserved
loop-place-preserved c =
    let j = c.loop-place.place in
    let line = c.args.line.now in
    let now = c.loop-place.values.items in
    let unit = get_or line.units j 0 in
    let inside = c.requires.inside j (omega arith) in
    let here : unit < length now = omega (arith, inside, c.loop-place.invariant.count) in
    let is : c.index-value.result.now ≡ value now unit = get_or_read now unit c.index-value.result.now here c.index-value.ensures nothing in
    let narrow : SFits w64 (entry line.entries j) = search rules in
    let new : c.moved.result ≡ moved_value (value now unit) c.args.den c.args.reach (entry line.entries j) =
    (simp to_z-of_z at c.moved.ensures) ∙ ap (λ (v : Value). moved_value v c.args.den c.args.reach (entry line.entries j)) is in
    let lu = c.requires.along.padded.places in
    let le : line.number ≤ length line.entries = omega (arith, c.requires.along.padded.short) in
    let distinct = c.requires.along.is_line.order.distinct in
    record {
      count = omega (arith, length-set {A = Value}, c.loop-place.invariant.count);
      each = λ k l.
          ap (λ (v : Value). value (set now unit v) k) new
          ∙ gone_further line.number line.units line.entries lu le distinct j (omega arith) c.args.den c.args.reach now c.args.values.now.items c.loop-place.invariant.each inside here k l;
    }
