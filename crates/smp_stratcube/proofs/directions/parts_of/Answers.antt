use Rattle.std.proofs.Common.{SFits, rules, ◌≡◌, ◌<◌, ℕ, Option, Some, [], ◌∷◌, fold, take, get_or, length, length-set, arith, sym, ap, ◌∙◌, subst}
use mir.Syntax.{w64}
use Rattle.std.proofs.{lemmas.Int.{to_z-of_z}, lemmas.List.{take_more_set}, lemmas.List.Sums.{fold-append}}
use Rattle.smp_kernel.specs.Vectors.{entry}
use Rattle.smp_kernel.proofs.Lists.{each_more}
use Rattle.smp_moves.specs.{declared.lines.Ratio.{Ratio}, Steps.{product}}
use Rattle.smp_stratcube.specs.{Units.{share}, Kept.Gates.{gated}, Kept.Lines.{IsPart, no_part, part}}
use Rattle.smp_stratcube.proofs.Directed.{product_part, scale_is}
use Rattle.smp_stratcube.proofs.directions.parts_of.Goals as goal

pub loop-place-preserved : goal.loop-place-preserved
loop-place-preserved c =
    let units = c.args.units.now in
    let us = c.args.front.now.units in
    let ws = c.args.factors.now.w in
    let j = c.loop-place.place in
    let i = c.loop-place.invariant in
    let step : Option ℕ → Ratio → Option ℕ = λ m r. gated m r.den in
    let inside : j < length c.loop-place.parts = omega (arith, i.long, c.requires.inside.short, c.requires.fewer) in
    let narrow : SFits w64 (entry ws j) = search rules in
    let is : c.product-part.result ≡ product (share units (get_or us j 0)) (entry ws j) = rw c.share.ensures.is at (simp to_z-of_z at c.product-part.ensures.is) in
    record {
      long = omega (arith, length-set {A = Ratio}, i.long);
      are = each_more (λ (k : ℕ) (r : Ratio). r ≡ product (share units (get_or us k 0)) (entry ws k)) c.loop-place.parts no_part j c.product-part.result inside i.are is;
      scale = c.within_gate-scale.ensures.is ∙ ap (λ m. step m c.product-part.result) i.scale
          ∙ sym (ap (fold step (Some 1)) (take_more_set c.loop-place.parts j c.product-part.result inside) ∙ fold-append step (Some 1) (take j c.loop-place.parts) (c.product-part.result ∷ []));
      some = c.within_gate-scale.ensures.some;
    }

pub returns-clause-each : goal.returns-clause-each
returns-clause-each c j l =
    let unit = get_or c.args.front.now.units j 0 in
    let below = c.requires.are.below_one unit (c.requires.inside.inside j (omega (arith, l, c.requires.fewer))) in
    subst IsPart (sym (c.loop-place.invariant.are j (omega (arith, l)))) (product_part (share c.args.units.now unit) (entry c.args.factors.now.w j) below (c.requires.small j))

pub returns-clause-scale : goal.returns-clause-scale
returns-clause-scale c =
    let i = c.loop-place.invariant in
    let n = c.args.factors.now.number in
    let done : c.loop-place.place ≡ n = omega arith in
    let are : (j : ℕ) → j < n → part c.loop-place.parts j ≡ product (share c.args.units.now (get_or c.args.front.now.units j 0)) (entry c.args.factors.now.w j) = λ j l. i.are j (omega (arith, l, done)) in
    i.scale ∙ ap (λ k. fold (λ (m : Option ℕ) (r : Ratio). gated m r.den) (Some 1) (take k c.loop-place.parts)) done
    ∙ scale_is c.args.units.now c.args.front.now.units c.args.factors.now.w c.loop-place.parts n (omega (arith, c.requires.inside.short, c.requires.fewer)) (omega (arith, c.requires.inside.short, c.requires.fewer)) (omega (arith, i.long, c.requires.inside.short, c.requires.fewer)) are (returns-clause-each c)
