use Rattle.std.proofs.Common.{SFits, rules, ◌≡◌, ◌≢◌, [], pos, ℕ, length, get_or, set, take, drop, false, lit<, arith, sym, ap, ◌∙◌, if◌then◌else◌, inl, inr, length-take}
use Rattle.std.proofs.{lemmas.Int.{to_z-of_z}, lemmas.List.{length-map, map-set}, Math.ListN.{drop_of_length-le}}
use mir.Syntax.{w64}
use mir.Val.{of_z, to_z}
use Rattle.smp_kernel.specs.Vectors.{entry}
use Rattle.smp_localcube.proofs.Touch.{still, taken_out, weight_in, weight_out}
use Rattle.smp_localcube.proofs.state.touch.Goals as goal
use Rattle.smp_localcube.proofs.state.touch.Goals.{then-line-place-ne0+then-as_slice-unit-ne0, else-line-place-ne0, else-line-place-ne0-via-then-line-place-ne0+else-as_slice-unit-ne0, else-line-place-ne0-via-else-line-place-ne0}

pub remove-requires : goal.remove-requires
remove-requires g c =
    (lit< tt, weight_in c.loop-place.points.living (get_or c.args.line.now.units c.loop-place.place 0) (λ none. c.if-as_slice-unit-ne0.true (ap (λ ws. get_or ws (get_or c.args.line.now.units c.loop-place.place 0) 0) (c.as_slice.ensures ∙ c.loop-place.invariant.1) ∙ none)))

pub take_out-requires : goal.take_out-requires
take_out-requires g c =
    let i = c.loop-place.invariant in
    omega (arith, c.requires.within c.loop-place.place c.loop-place-test.true, i.0.count, ap length i.1, length-map {B = ℕ} c.loop-place.points.living (λ alive. if alive then 1 else 0))

pub loop-place-preserved : goal.loop-place-preserved
loop-place-preserved g c =
    let i = c.loop-place.invariant in
    let inside = c.requires.within c.loop-place.place c.loop-place-test.true in
    elim c.if-line-place-ne0.branch [
      | then-line-place-ne0+then-as_slice-unit-ne0 w ↦
          (let some : entry c.args.line.now.entries c.loop-place.place ≢ pos 0 = λ e. w.if-line-place-ne0.true (ap (of_z w64) e) in
          rw (w.points-is, w.weights-is, w.remove.ensures, w.take_out.ensures) (
            taken_out c.args.line.now c.requires.padded (omega (arith, c.requires.padded.short)) c.requires.distinct c.loop-place.place c.loop-place-test.true i.0 some (omega (arith, inside, i.0.count)),
            ap (λ ws. set ws (get_or c.args.line.now.units c.loop-place.place 0) 0) i.1 ∙ sym (map-set (λ alive. if alive then 1 else 0) c.loop-place.points.living (get_or c.args.line.now.units c.loop-place.place 0) false),
          ))
      | else-line-place-ne0 w ↦
          rw (w.points-is, w.weights-is) (
            still c.args.line.now c.requires.padded (omega (arith, c.requires.padded.short)) c.requires.distinct c.loop-place.place c.loop-place-test.true i.0 (elim w.else-line-place-ne0.branch [
              | else-line-place-ne0-via-then-line-place-ne0+else-as_slice-unit-ne0 u ↦
                  inr (weight_out c.loop-place.points.living (get_or c.args.line.now.units c.loop-place.place 0) (ap (λ ws. get_or ws (get_or c.args.line.now.units c.loop-place.place 0) 0) (sym (u.as_slice.ensures ∙ i.1)) ∙ u.if-as_slice-unit-ne0.false))
              | else-line-place-ne0-via-else-line-place-ne0 u ↦ (let narrow : SFits w64 (entry c.args.line.now.entries c.loop-place.place) = search rules in
                  inl (sym (to_z-of_z w64 (entry c.args.line.now.entries c.loop-place.place) narrow) ∙ ap (to_z w64) u.if-line-place-ne0.false))
            ]),
            i.1,
          )
    ]

pub returns-clause-touched : goal.returns-clause-touched
returns-clause-touched g c =
    let units : drop c.loop-place.place (take c.args.line.now.number c.args.line.now.units) ≡ [] = drop_of_length-le (take c.args.line.now.number c.args.line.now.units) (omega (arith, length-take c.args.line.now.number c.args.line.now.units)) in
    let entries : drop c.loop-place.place (take c.args.line.now.number c.args.line.now.entries) ≡ [] = drop_of_length-le (take c.args.line.now.number c.args.line.now.entries) (omega (arith, length-take c.args.line.now.number c.args.line.now.entries)) in
    rw (units, entries) at c.loop-place.invariant.0
