use Rattle.std.proofs.Common.{SFits, rules, arith, ◌≡◌, ℕ, ℤ, ◌≤◌, ◌^◌, pos, length-set, inl, inr, ◌∙◌}
use mir.Syntax.{w64, w128}
use Rattle.std.specs.Int.RustNames.{unsigned_abs}
use Rattle.std.proofs.{lemmas.Bool.{cases_lt}, lemmas.Int.{to_z-of_z, ints}, lemmas.List.{get_or-set_other}, lemmas.List.Elements.{All-from_get_or}}
use Rattle.smp_kernel.specs.Vectors.{entry}
use Rattle.smp_kernel.proofs.Lists.{each_more}
use Rattle.smp_moves.specs.Steps.{signed}
use Rattle.smp_moves.proofs.Products.{signed_abs}
use Rattle.smp_stratcube.specs.Kept.Lines.{over, part}
use Rattle.smp_stratcube.proofs.Directed.{over_most}
use Rattle.smp_stratcube.proofs.directions.products.Goals as goal

pub returns-clause-within : goal.returns-clause-within
returns-clause-within c =
    let ws = c.args.factors.now.w in
    All-from_get_or (λ x. unsigned_abs x ≤ 2 ^ 124) c.loop-place.products (pos 0)
    (λ k _. elim (cases_lt k c.args.factors.now.number) [
      | inr past ↦ rw (c.loop-place.invariant.past k (omega (arith, past))) (omega arith)
      | inl l ↦
          (let n : ℕ = over (part c.args.parts.now k) c.args.scale in
          let most = over_most (part c.args.parts.now k) c.args.scale (c.requires.each k l) c.requires.scale in
          rw (c.loop-place.invariant.each k (omega (arith, l))) (omega (arith, signed_abs (entry ws k) n, most)))
    ])

pub overflow_mul-part : goal.overflow_mul-part
overflow_mul-part c = omega (arith, over_most (part c.args.parts.now c.loop-place.place) c.args.scale (c.requires.each c.loop-place.place (omega arith)) c.requires.scale)

pub signed-requires : goal.signed-requires
signed-requires c = record { size = over_most (part c.args.parts.now c.loop-place.place) c.args.scale (c.requires.each c.loop-place.place (omega arith)) c.requires.scale }

pub loop-place-preserved : goal.loop-place-preserved
loop-place-preserved c =
    let ws = c.args.factors.now.w in
    let j = c.loop-place.place in
    let narrow : SFits w64 (entry ws j) = search rules in
    let fits : SFits w128 c.signed.result = omega (arith, ints, c.signed.ensures.bound) in
    let is : c.signed.result ≡ signed (entry ws j) (over (part c.args.parts.now j) c.args.scale) = simp to_z-of_z at c.signed.ensures.is in
    simp to_z-of_z (record {
      long = omega (arith, length-set {A = ℤ}, c.loop-place.invariant.long);
      each = each_more (λ (k : ℕ) (x : ℤ). x ≡ signed (entry ws k) (over (part c.args.parts.now k) c.args.scale))
          c.loop-place.products (pos 0) j c.signed.result (omega (arith, c.loop-place.invariant.long, c.requires.short)) c.loop-place.invariant.each is;
      past = λ k l. get_or-set_other c.loop-place.products j k c.signed.result (pos 0) (omega (arith, l)) ∙ c.loop-place.invariant.past k (omega (arith, l));
    })
